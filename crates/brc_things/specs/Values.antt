-- Values: what stands in an entry, for a client that notes something there. A scalar is no more than its note. Its entry's
-- reference is None's, which goes in and out without a place of the frame. An object is a reference, with its note.
use Rattle.std.specs.Prelude.{◌≡◌, ◌≢◌, ◌⊎◌, ⊤, ℕ, ◌∷◌, List, length, Option, Some, None, Ok, slice_get}
use Rattle.brc_words.specs.declared.entry.Entry.{Entry}
use Rattle.brc_words.specs.declared.note.Note.{Note}
use Rattle.brc_words.specs.Notes.{noted, note_in}
use Rattle.brc_words.specs.declared.fault.Fault.{Fault}
use Rattle.brc_words.specs.declared.fault.Fault.TheVariants as faults
use Rattle.brc_count.specs.law.declared.world.event.Change.TheVariants.{Keep, Put, Take, Swap}
use Rattle.brc_count.specs.law.declared.world.event.Dropped.TheVariants as drops
use Rattle.brc_count.specs.law.declared.world.event.Source.TheVariants as sources
use Rattle.brc_count.specs.law.declared.world.event.Step.TheVariants.{Lock, Unlock, LocalDown}
use Rattle.brc_count.specs.law.declared.rule.contents.Contents.{Contents}
use Rattle.brc_count.specs.law.declared.rule.told.LogItem.{LogItem}
use Rattle.brc_count.specs.law.declared.rule.told.LogItem.TheVariants.{Stepped}
use Rattle.brc_count.specs.law.declared.rule.told.Moved.TheVariants as moves
use Rattle.brc_count.specs.law.rule.Logs.{noted_in}
use Rattle.brc_count.specs.biased.Up.{RaisedImmortal}
use Rattle.brc_count.specs.Frames.{FrameSeen, HandleSeen, IsUnlocked, GivenHandle, Refused, Owns}
use Rattle.brc_count.specs.Locking.{KeepsThread, Changes, LetsNoneGo, cell_in}
use Rattle.brc_count.specs.Owned.{Keeps, Gains, Loses}
use Rattle.brc_things.specs.declared.value.Pair.{Pair}
use Rattle.brc_things.specs.declared.value.Value.{Value}
use Rattle.brc_things.specs.declared.value.Value.TheVariants.{Scalar, Object}
use Rattle.brc_things.specs.Changing.{PlainCall, KeepsAllPlaces, CallPuts, CallTakes, Swaps, Shares}
use Rattle.brc_things.specs.Changing.{RefusedEntry, RefusedPlace}
use Rattle.brc_things.specs.Plain_Dicts.{plain_key_at, plain_value_at}
use Rattle.brc_things.specs.Plain_Values.{PutCall}
use Rattle.brc_things.specs.Putting.{RefusedNew, RefusedPair}

module _ {A : Type 0} where
  -- ---- which handles the frame has

  abbrev pub OwnsValue : FrameSeen A → Value A → Type 0
  OwnsValue frame (Scalar note) = ⊤
  OwnsValue frame (Object handle note) = Owns frame handle

  -- a value that is no reference in the place
  abbrev pub StandsApart : ℕ → Value A → Type 0
  StandsApart k (Scalar note) = ⊤
  StandsApart k (Object handle note) = handle.place ≢ k

  abbrev pub GainsValue : FrameSeen A → FrameSeen A → Value A → Type 0
  GainsValue old new (Scalar note) = Keeps old new
  GainsValue old new (Object given note) = Gains old new given

  abbrev pub LosesValue : FrameSeen A → FrameSeen A → Value A → Type 0
  LosesValue old new (Scalar note) = Keeps old new
  LosesValue old new (Object gone note) = Loses old new gone

  -- a handle of the frame's to None: what goes in with a scalar
  pub record HasNone (frame : FrameSeen A) (none : HandleSeen) : Type 0 where
    pub owned : Owns frame none
    pub cell : cell_in frame none.place ≡ Some 0

  -- ---- what was done to the object in place k with a scalar; every place of the frame has what it had

  -- The entry that the plain call answers is a scalar with this note. The object was unlocked as it was found.
  pub record LooksAtScalar (old new : FrameSeen A) (k : ℕ) (call : PlainCall Entry) (note : Note) : Type 0 where
    pub found : Contents
    pub entry : Entry
    pub plain : call found ≡ Ok (entry, found)
    pub none : entry.cell ≡ 0
    pub said : note_in entry ≡ note
    pub looks : Changes old new k found Keep found
    pub places : KeepsAllPlaces old new

  -- The entry that the plain call answers was a scalar with this note, and is gone: its reference to None came out into
  -- the next place, and was let go of.
  pub record TakesScalar (old new : FrameSeen A) (k : ℕ) (call : PlainCall Entry) (note : Note) : Type 0 where
    pub found : Contents
    pub put : Contents
    pub index : ℕ
    pub entry : Entry
    pub at_index : slice_get (noted_in found) index ≡ Some entry
    pub plain : call found ≡ Ok (entry, put)
    pub none : entry.cell ≡ 0
    pub said : note_in entry ≡ note
    pub cell : ℕ
    pub of_place : cell_in old k ≡ Some cell
    pub told : ℕ
    pub events : new.seat.log ≡ Stepped (LocalDown (drops.Frame old.next)) told moves.Nothing
        ∷ Stepped (Unlock (Take index old.next)) 0 (moves.Put cell put) ∷ Stepped (Lock k) 0 (moves.Found cell found)
        ∷ old.seat.log
    pub places : KeepsAllPlaces old new
    pub unlocked : IsUnlocked new
    pub keeps : KeepsThread old new

-- ---- a scalar goes in

module _ {A : Type 0} where
  -- A scalar went in where nothing stood, by the plain call: the reference to None of place p, which has another since.
  pub record PutsScalar (old new : FrameSeen A) (k p : ℕ) (call : PlainCall (Option Entry)) : Type 0 where
    pub found : Contents
    pub put : Contents
    pub plain : call found ≡ Ok (None, put)
    pub cell : ℕ
    pub of_place : cell_in old k ≡ Some cell
    pub mid : List LogItem
    pub events : mid ≡ Stepped (Unlock (Put p)) 0 (moves.Put cell put) ∷ Stepped (Lock k) 0 (moves.Found cell found)
        ∷ old.seat.log
    pub again : RaisedImmortal (sources.Immortal 0) p mid new.seat.log
    pub places : KeepsAllPlaces old new
    pub unlocked : IsUnlocked new
    pub keeps : KeepsThread old new

  -- A scalar went into an entry in which one stood with this note, by the plain call, which answers that entry: the
  -- reference to None of place p for another.
  pub record SetsScalar (old new : FrameSeen A) (k p : ℕ) (call : PlainCall (Option Entry)) (note : Note) : Type 0 where
    pub found : Contents
    pub put : Contents
    pub index : ℕ
    pub entry : Entry
    pub at_index : slice_get (noted_in found) index ≡ Some entry
    pub plain : call found ≡ Ok (Some entry, put)
    pub none : entry.cell ≡ 0
    pub said : note_in entry ≡ note
    pub changes : Changes old new k found (Swap index p) put
    pub places : KeepsAllPlaces old new

  -- A scalar went into an entry in which an object stood, by the plain call: the reference of place p, to None, for the
  -- object's. Then the frame got another to None, in the next place.
  pub record SetsFresh (old new : FrameSeen A) (k p : ℕ) (call : ℕ → PlainCall (Option Entry)) (note : Note)
      (none : HandleSeen) : Type 0 where
    pub mid : FrameSeen A
    pub swaps : Swaps old mid k p call Some
    pub object : swaps.entry.cell ≢ 0
    pub said : note_in swaps.entry ≡ note
    pub fresh : GivenHandle mid new (sources.Immortal 0) 0 none

  -- An object went into an entry in which a scalar stood, by the plain call: its place had None then, which was let go of.
  pub record SetsOver (old new : FrameSeen A) (k v : ℕ) (call : ℕ → PlainCall (Option Entry)) (note : Note) : Type 0 where
    pub mid : FrameSeen A
    pub swaps : Swaps old mid k v call Some
    pub none : swaps.entry.cell ≡ 0
    pub said : note_in swaps.entry ≡ note
    pub gone : LetsNoneGo mid new v

-- ---- the calls

module _ {A : Type 0} where
  -- what stands in an entry is looked at: a scalar, or an object, with a handle more
  abbrev pub LooksAtValue : FrameSeen A → FrameSeen A → ℕ → PlainCall Entry → Value A → Type 0
  LooksAtValue old new k call (Scalar note) = LooksAtScalar old new k call note
  LooksAtValue old new k call (Object given note) =
      (shares : Shares old new k call given) × (shares.entry.cell ≢ 0) × (note_in shares.entry ≡ note)

  -- what was found in that look
  abbrev pub found_by : (old new : FrameSeen A) (k : ℕ) (call : PlainCall Entry) (came : Value A)
      → LooksAtValue old new k call came → Contents
  found_by old new k call (Scalar note) looks = looks.found
  found_by old new k call (Object given note) looks = looks.0.found

  -- The pair's value was looked at; its key is that of the pair at the place, and so many pairs there were: all as one
  -- locking found them.
  pub record LooksAtPair (old new : FrameSeen A) (k index : ℕ) (pair : Pair A) : Type 0 where
    pub value : LooksAtValue old new k (plain_value_at A index) pair.value
    pub found : Contents
    pub is_found : found_by old new k (plain_value_at A index) pair.value value ≡ found
    pub key : plain_key_at index found ≡ Ok (pair.key, found)
    pub of : length (noted_in found) ≡ pair.of

  -- Busy comes first, what the plain call says next; then a place for a handle to an object, and memory for that or for
  -- a copy of the key
  abbrev pub RefusedPairAt : FrameSeen A → FrameSeen A → ℕ → ℕ → Fault → Type 0
  RefusedPairAt old new k index faults.FrameFull = RefusedPlace old new k (plain_value_at A index) faults.FrameFull
  RefusedPairAt old new k index fault = RefusedEntry old new k (plain_value_at A index) fault

  -- it comes out
  abbrev pub TakesOutValue : FrameSeen A → FrameSeen A → ℕ → PlainCall Entry → Value A → Type 0
  TakesOutValue old new k call (Scalar note) = TakesScalar old new k call note
  TakesOutValue old new k call (Object given note) =
      (takes : CallTakes old new k call given) × (takes.entry.cell ≢ 0) × (note_in takes.entry ≡ note)

module _ {A : Type 0} where
  -- a value goes in where nothing stood; `none` is the frame's handle to None
  abbrev pub PutsValueIn : FrameSeen A → FrameSeen A → ℕ → HandleSeen → Value A → PutCall → Type 0
  PutsValueIn old new k none (Scalar note) call = PutsScalar old new k none.place (call (noted 0 note))
  PutsValueIn old new k none (Object handle note) call = CallPuts old new k handle.place (λ c. call (noted c note)) None

  -- A value goes into an entry, and what stood there comes out. `none` is the frame's handle to None before, `after` the
  -- one that it has then.
  abbrev pub SwapsValueIn : FrameSeen A → FrameSeen A → ℕ → HandleSeen → HandleSeen → Value A → PutCall → Value A → Type 0
  SwapsValueIn old new k none after (Scalar note) call (Scalar said) =
      (after ≡ none) × SetsScalar old new k none.place (call (noted 0 note)) said
  SwapsValueIn old new k none after (Scalar note) call (Object given said) =
      (given ≡ none) × SetsFresh old new k none.place (λ c. call (noted c note)) said after
  SwapsValueIn old new k none after (Object handle note) call (Scalar said) =
      (after ≡ none) × SetsOver old new k handle.place (λ c. call (noted c note)) said
  SwapsValueIn old new k none after (Object handle note) call (Object given said) =
      (after ≡ none) × (given ≡ handle)
      × ((swaps : Swaps old new k handle.place (λ c. call (noted c note)) Some) × (swaps.entry.cell ≢ 0)
      × (note_in swaps.entry ≡ said))

  -- either, by what came out
  abbrev pub HasPutValue : FrameSeen A → FrameSeen A → ℕ → HandleSeen → HandleSeen → Value A → PutCall → Option (Value A)
      → Type 0
  HasPutValue old new k none after value call None = (after ≡ none) × PutsValueIn old new k none value call
  HasPutValue old new k none after value call (Some came) = SwapsValueIn old new k none after value call came

  -- ---- why it didn't go in

  -- An object would have come out for the scalar, and the frame's next place wasn't to be had. The object in place k was
  -- unlocked as it was found.
  pub record WantsPlace (old new : FrameSeen A) (k : ℕ) (call : PlainCall (Option Entry)) (fault : Fault) : Type 0 where
    pub found : Contents
    pub put : Contents
    pub entry : Entry
    pub looks : Changes old new k found Keep found
    pub plain : call found ≡ Ok (Some entry, put)
    pub object : entry.cell ≢ 0
    pub want : Refused old fault

  -- Busy comes first, what the plain call says next, and want last: of memory where nothing stood, of a place for an
  -- object that would have come out
  abbrev pub RefusedScalar : FrameSeen A → FrameSeen A → ℕ → PlainCall (Option Entry) → Fault → Type 0
  RefusedScalar old new k call faults.FrameFull = WantsPlace old new k call faults.FrameFull
  RefusedScalar old new k call faults.OutOfMemory =
      RefusedNew old new k call ⊎ WantsPlace old new k call faults.OutOfMemory
  RefusedScalar old new k call fault = RefusedPair old new k call fault

  -- of an object by its cell: no place is wanted, since its own is free then
  abbrev pub RefusedPutting : FrameSeen A → FrameSeen A → ℕ → Value A → PutCall → Fault → Type 0
  RefusedPutting old new k (Scalar note) call fault = RefusedScalar old new k (call (noted 0 note)) fault
  RefusedPutting old new k (Object handle note) call fault =
      (c : ℕ) → cell_in old handle.place ≡ Some c → RefusedPair old new k (call (noted c note)) fault

  -- so of the frame's handles: of a scalar that went in for an object the frame has a handle to None more
  abbrev pub OwnsSwapped : FrameSeen A → FrameSeen A → HandleSeen → Value A → Value A → Type 0
  OwnsSwapped old new after (Scalar note) (Scalar said) = Keeps old new
  OwnsSwapped old new after (Scalar note) (Object given said) = Gains old new after
  OwnsSwapped old new after (Object handle note) (Scalar said) = Loses old new handle
  OwnsSwapped old new after (Object handle note) (Object given said) = Keeps old new

  abbrev pub OwnsPutValue : FrameSeen A → FrameSeen A → HandleSeen → Value A → Option (Value A) → Type 0
  OwnsPutValue old new after value None = LosesValue old new value
  OwnsPutValue old new after value (Some came) = OwnsSwapped old new after value came

  -- the same where the value went in, or came back
  abbrev pub LosesNew : FrameSeen A → FrameSeen A → Value A → Option (Value A) → Type 0
  LosesNew old new value None = LosesValue old new value
  LosesNew old new value (Some back) = Keeps old new

  -- What came out of an entry for an object, whose handle has its reference: a scalar's, to None, is let go of.
  abbrev pub CameOut : FrameSeen A → FrameSeen A → HandleSeen → Entry → Value A → Type 0
  CameOut old new handle entry (Scalar note) =
      (entry.cell ≡ 0) × (note_in entry ≡ note) × LetsNoneGo old new handle.place × Loses old new handle
  CameOut old new handle entry (Object given note) =
      (entry.cell ≢ 0) × (note_in entry ≡ note) × (given ≡ handle) × (new ≡ old)
