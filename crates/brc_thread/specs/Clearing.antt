-- Clearing the globals: their last entry is taken and released, until a look finds none.
use Rattle.std.specs.Prelude.{◌≡◌, ◌≢◌, ◌<◌, ◌≤◌, ◌+◌, ◌++◌, ◌⊎◌, ℕ, Bool, true, false, [], ◌∷◌, length, Option, Some}
use Rattle.std.specs.Prelude.{None, Result, Ok, Err}
use Rattle.brc_words.specs.declared.fault.Fault.{Fault}
use Rattle.brc_words.specs.declared.fault.Fault.TheVariants as faults
use Rattle.brc_words.specs.declared.limits.TheConstants.{GLOBALS, MOST_ENTRIES}
use Rattle.brc_count.specs.law.declared.world.event.Change.TheVariants.{Keep, Take}
use Rattle.brc_count.specs.law.declared.world.event.Source.TheVariants as sources
use Rattle.brc_count.specs.law.declared.rule.contents.Contents.{Contents}
use Rattle.brc_count.specs.law.rule.Logs.{kind_in, entries_in}
use Rattle.brc_count.specs.Frames.{FrameSeen, HandleSeen, GivenHandle, ReleasedOf, Refused, IsAsBefore}
use Rattle.brc_count.specs.Locking.{Changes}
use Rattle.brc_count.specs.Locking.{Busy, cell_in}
use Rattle.brc_count.specs.Owned.{Keeps, Gains}

module _ {A : Type 0} where
  -- ---- one look at the object in a place

  -- The last entry's reference is the new handle's now; put home was what was found, without that entry.
  pub record TakesLast (old new : FrameSeen A) (k : ℕ) (given : HandleSeen) : Type 0 where
    pub found : Contents
    pub put : Contents
    pub entry : ℕ
    pub last : entries_in found ≡ entries_in put ++ entry ∷ []
    pub kind : kind_in put ≡ kind_in found
    pub changes : Changes old new k found (Take (length (entries_in put)) given.place) put
    pub has : cell_in new given.place ≡ Some entry
    pub others : (j : ℕ) → j ≢ given.place → cell_in new j ≡ cell_in old j

  -- It was looked at and unlocked as it was found: no entry was found, or some.
  pub record FindsNone (old new : FrameSeen A) (k : ℕ) : Type 0 where
    pub found : Contents
    pub looks : Changes old new k found Keep found
    pub none : entries_in found ≡ []

  pub record FindsSome (old new : FrameSeen A) (k : ℕ) : Type 0 where
    pub found : Contents
    pub looks : Changes old new k found Keep found
    pub some : 0 < length (entries_in found)

  -- A take: an entry came out, or none was found; or it is refused, Busy first and a place last.
  abbrev pub TakesGlobal : FrameSeen A → FrameSeen A → ℕ → Result (Option HandleSeen) Fault → Type 0
  TakesGlobal old new k (Ok (Some given)) = TakesLast old new k given
  TakesGlobal old new k (Ok None) = FindsNone old new k
  TakesGlobal old new k (Err faults.Busy) = Busy old new k
  TakesGlobal old new k (Err faults.FrameFull) = FindsSome old new k × Refused old faults.FrameFull
  TakesGlobal old new k (Err faults.OutOfMemory) = FindsSome old new k × Refused old faults.OutOfMemory
  TakesGlobal old new k (Err _) = ⊥

  -- with an entry that came out the frame has a handle more
  abbrev pub HandsSome : FrameSeen A → FrameSeen A → Result (Option HandleSeen) Fault → Type 0
  HandsSome old new (Ok (Some given)) = Gains old new given
  HandsSome old new _ = Keeps old new

  -- a look alone
  abbrev pub Looks : FrameSeen A → FrameSeen A → ℕ → Result Bool Fault → Type 0
  Looks old new k (Ok true) = FindsSome old new k
  Looks old new k (Ok false) = FindsNone old new k
  Looks old new k (Err faults.Busy) = Busy old new k
  Looks old new k (Err _) = ⊥

  -- ---- as many takes as it needs

  -- an entry came out of the object in the place, and was released
  pub record TakesAway (old new : FrameSeen A) (k : ℕ) : Type 0 where
    pub mid : FrameSeen A
    pub given : HandleSeen
    pub takes : TakesLast old mid k given
    pub releases : (c : ℕ) → cell_in mid given.place ≡ Some c → ReleasedOf mid new given.place c

  -- so many, one after the other
  pub data TakesSome (old : FrameSeen A) (k : ℕ) : ℕ → FrameSeen A → Type 0 where
    NoTake : TakesSome old k 0 old
    OneTake : (n : ℕ) (mid new : FrameSeen A) → TakesSome old k n mid → TakesAway mid new k
        → TakesSome old k (n + 1) new

  -- What the last look says after so many takes: Ok where it found no entry. Else it found the object locked, or an
  -- entry for which there was no place, or an entry after as many takes as a container may have entries.
  abbrev pub LooksLast : FrameSeen A → FrameSeen A → ℕ → ℕ → Result (Unit {0}) Fault → Type 0
  LooksLast old new k n (Ok done) = FindsNone old new k
  LooksLast old new k n (Err faults.Busy) = Busy old new k
  LooksLast old new k n (Err faults.FrameFull) = FindsSome old new k × Refused old faults.FrameFull
  LooksLast old new k n (Err faults.OutOfMemory) = FindsSome old new k × Refused old faults.OutOfMemory
  LooksLast old new k n (Err faults.NotIdle) = FindsSome old new k × (n ≡ MOST_ENTRIES)
  LooksLast old new k n (Err _) = ⊥

  -- Some entries of the object in the place were taken and released, and a last look ended it.
  pub record TakesAll (old new : FrameSeen A) (k : ℕ) (result : Result (Unit {0}) Fault) : Type 0 where
    pub takes : ℕ
    pub few : takes ≤ MOST_ENTRIES
    pub taken : FrameSeen A
    pub took : TakesSome old k takes taken
    pub same_cell : cell_in taken k ≡ cell_in old k
    pub last : LooksLast taken new k takes result

  -- The thread had a handle to the globals, took their entries away, and gave the handle back.
  pub record ClearsGlobals (old new : FrameSeen A) (result : Result (Unit {0}) Fault) : Type 0 where
    pub held : FrameSeen A
    pub globals : HandleSeen
    pub given : GivenHandle old held (sources.Immortal GLOBALS) GLOBALS globals
    pub left : FrameSeen A
    pub takes : TakesAll held left globals.place result
    pub gives_back : (c : ℕ) → cell_in left globals.place ≡ Some c → ReleasedOf left new globals.place c

  -- or it had no handle to them, and did nothing
  abbrev pub Clears : FrameSeen A → FrameSeen A → Result (Unit {0}) Fault → Type 0
  Clears old new (Ok done) = ClearsGlobals old new (Ok done)
  Clears old new (Err fault) = (Refused old fault × IsAsBefore old new) ⊎ ClearsGlobals old new (Err fault)
