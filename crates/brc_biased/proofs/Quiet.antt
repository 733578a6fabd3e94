-- By the events of a release, and by those of a popped entry, a thread only lets go.
use Rattle.std.proofs.Common.{◌≡◌, ℕ, ◌-◌, ◌/◌, ◌&&◌, Bool, true, List, ◌∷◌, Option, Some, None, refl, sym, ap, subst}
use Rattle.brc_table.specs.block.declared.payload.Payload.{Payload}
use Rattle.brc_table.specs.law.declared.world.event.Dropped.{Dropped}
use Rattle.brc_table.specs.law.declared.world.event.LastDropped.TheVariants as lasts
use Rattle.brc_table.specs.law.declared.world.event.Step.{Step}
use Rattle.brc_table.specs.law.declared.world.event.Step.TheVariants.{LocalDown, SeeZero, Untie, MergeZero, SharedDown, Ask}
use Rattle.brc_table.specs.law.declared.world.event.Step.TheVariants.{LastDown, Enqueue, MergeAdd, Nudge}
use Rattle.brc_table.specs.law.declared.known.word.Field.TheVariants.{Owner, Shared}
use Rattle.brc_table.specs.law.declared.known.word.Word.TheVariants.{Of}
use Rattle.brc_table.specs.law.declared.rule.told.Moved.TheVariants.{Nothing}
use Rattle.brc_table.specs.law.declared.rule.told.LogItem.{LogItem}
use Rattle.brc_table.specs.law.declared.rule.told.LogItem.TheVariants.{Stepped, Loaded, Lost}
use Rattle.brc_table.specs.law.rule.Seen.{counts_seen}
use Rattle.brc_table.specs.Moving.{found_in}
use Rattle.brc_table.specs.law.living.Quiet.{only_lets_go, is_quiet, Quietly, NoItem, OneMore}
use Rattle.brc_table.proofs.law.living.Quiet_Items.{quietly_joined}
use Rattle.brc_biased.specs.Released.{EndsByStep, EndedOwn, SeenZero, MergedAtZero, Asked}
use Rattle.brc_biased.specs.Released.{AskedNobodys, AskedQueued, AskedShut, Asks, AskedLate, AskTurned, GoesShared}
use Rattle.brc_biased.specs.Released.{SharedRisen, SharedCounted, SharedNoCount, SharedMoved, GoesOwn, OwnCounted}
use Rattle.brc_biased.specs.Released.{OwnEnded, Released, ReleaseImmortal, ReleaseOwn, ReleaseSeen, ReleaseShared}
use Rattle.brc_biased.specs.Released.{Settled, SettledMerged, SettledMerging}

-- one such item
one : (x : LogItem) (before log : List LogItem) → is_quiet x ≡ true → log ≡ x ∷ before → Quietly before log
one x before log quiet is = subst (Quietly before) (sym is) (OneMore x before NoItem quiet)

-- one, and those after it
and_more : (x : LogItem) (before log : List LogItem) → is_quiet x ≡ true → Quietly (x ∷ before) log → Quietly before log
and_more x before log quiet more = quietly_joined before (x ∷ before) log (OneMore x before NoItem quiet) more

module _ {A : Type 0} where
  pub ends_quietly : (s : Step) (c : ℕ) (block : Option (ℕ × Payload A)) (before log : List LogItem)
      → only_lets_go s ≡ true
      → EndsByStep s c block before log → Quietly before log
  ends_quietly s c None before log quiet ends = one (Stepped s ends.number Nothing) before log
      (ap (λ b. b && true) quiet) ends.told
  ends_quietly s c (Some block) before log quiet ends = one (Stepped s ends.number (found_in c (Some block))) before log
      (ap (λ b. b && true) quiet) ends.told

  ended_quietly : (c : ℕ) (block : Option (ℕ × Payload A)) (before log : List LogItem) → EndedOwn c block before log
      → Quietly before log
  ended_quietly c block before log (SeenZero there ends) = ends_quietly (SeeZero c) c block before log refl ends
  ended_quietly c block before log (MergedAtZero seen ends) =
      and_more (Stepped (SeeZero c) seen Nothing) before log refl
      (and_more (Stepped (Untie c) 0 Nothing) (Stepped (SeeZero c) seen Nothing ∷ before) log refl
      (ends_quietly (MergeZero c) c block (Stepped (Untie c) 0 Nothing ∷ Stepped (SeeZero c) seen Nothing ∷ before) log
      refl ends))

  asked_quietly : (c : ℕ) (block : Option (ℕ × Payload A)) (before log : List LogItem) → Asked c block before log
      → Quietly before log
  asked_quietly c block before log (AskedNobodys ends) =
      and_more (Loaded (Of Owner c) 0) before log refl
      (ends_quietly (LastDown lasts.Hand) c block (Loaded (Of Owner c) 0 ∷ before) log refl ends)
  asked_quietly c block before log (AskedQueued owner queue notify some open_word none is) =
      let first : List LogItem = Loaded (Of Owner c) owner ∷ before in
      and_more (Loaded (Of Owner c) owner) before log refl (and_more (Stepped (Enqueue c) queue Nothing) first log refl
      (one (Stepped (Nudge owner (c / 32)) notify Nothing) (Stepped (Enqueue c) queue Nothing ∷ first) log refl is))
  asked_quietly c block before log (AskedShut owner queue some shut ends) =
      let first : List LogItem = Loaded (Of Owner c) owner ∷ before in
      and_more (Loaded (Of Owner c) owner) before log refl (and_more (Stepped (Enqueue c) queue Nothing) first log refl
      (ends_quietly (LastDown lasts.Hand) c block (Stepped (Enqueue c) queue Nothing ∷ first) log refl ends))

  asks_quietly : (drop : Dropped) (c : ℕ) (block : Option (ℕ × Payload A)) (before log : List LogItem)
      → Asks drop c block before log → Quietly before log
  asks_quietly drop c block before log (AskedLate found risen ends) =
      and_more (Stepped (Ask drop) found Nothing) before log refl
      (ends_quietly (LastDown (lasts.Dropped drop)) c block (Stepped (Ask drop) found Nothing ∷ before) log refl ends)
  asks_quietly drop c block before log (AskTurned found default asked) =
      and_more (Stepped (Ask drop) found Nothing) before log refl
      (asked_quietly c block (Stepped (Ask drop) found Nothing ∷ before) log asked)

  shared_quietly : (drop : Dropped) (c : ℕ) (block : Option (ℕ × Payload A)) (before log : List LogItem)
      → GoesShared drop c block before log → Quietly before log
  shared_quietly drop c block before log (SharedRisen word risen ends) =
      and_more (Loaded (Of Shared c) word) before log refl
      (ends_quietly (LastDown (lasts.Dropped drop)) c block (Loaded (Of Shared c) word ∷ before) log refl ends)
  shared_quietly drop c block before log (SharedCounted word default none is) =
      and_more (Loaded (Of Shared c) word) before log refl
      (one (Stepped (SharedDown drop) word Nothing) (Loaded (Of Shared c) word ∷ before) log refl is)
  shared_quietly drop c block before log (SharedNoCount word default low asks) =
      and_more (Loaded (Of Shared c) word) before log refl
      (asks_quietly drop c block (Loaded (Of Shared c) word ∷ before) log asks)
  shared_quietly drop c block before log (SharedMoved word found default some moved asks) =
      and_more (Loaded (Of Shared c) word) before log refl
      (and_more (Lost (Of Shared c) found) (Loaded (Of Shared c) word ∷ before) log refl
      (asks_quietly drop c block (Lost (Of Shared c) found ∷ Loaded (Of Shared c) word ∷ before) log asks))

  own_quietly : (n : ℕ) (drop : Dropped) (c : ℕ) (block : Option (ℕ × Payload A)) (before log : List LogItem)
      → GoesOwn n drop c block before log → Quietly before log
  own_quietly n drop c block before log (OwnCounted more none is) =
      one (Stepped (LocalDown drop) (counts_seen n before c - 1) Nothing) before log refl is
  own_quietly n drop c block before log (OwnEnded one_left ended) =
      and_more (Stepped (LocalDown drop) 0 Nothing) before log refl
      (ended_quietly c block (Stepped (LocalDown drop) 0 Nothing ∷ before) log ended)

  -- a release
  pub released_quietly : (n : ℕ) (drop : Dropped) (c : ℕ) (seen : Bool) (block : Option (ℕ × Payload A))
      (before log : List LogItem) → Released n drop c seen block before log → Quietly before log
  released_quietly n drop c seen block before log (ReleaseImmortal found low none is) =
      one (Stepped (LocalDown drop) found Nothing) before log refl is
  released_quietly n drop c seen block before log (ReleaseOwn mortal some goes) =
      own_quietly n drop c block before log goes
  released_quietly n drop c seen block before log (ReleaseSeen mortal none is ends) =
      ends_quietly (LastDown (lasts.Dropped drop)) c block before log refl ends
  released_quietly n drop c seen block before log (ReleaseShared mortal none is goes) =
      shared_quietly drop c block before log goes

  -- a popped entry that is dealt with
  pub settled_quietly : (c : ℕ) (block : Option (ℕ × Payload A)) (before log : List LogItem)
      → Settled c block before log
      → Quietly before log
  settled_quietly c block before log (SettledMerged word merged ends) =
      and_more (Loaded (Of Shared c) word) before log refl
      (ends_quietly (LastDown (lasts.Popped c)) c block (Loaded (Of Shared c) word ∷ before) log refl ends)
  settled_quietly c block before log (SettledMerging word other merges) =
      let first : List LogItem = Loaded (Of Shared c) word ∷ before in
      let second : List LogItem = Stepped (Untie c) 0 Nothing ∷ first in
      and_more (Loaded (Of Shared c) word) before log refl
      (and_more (Stepped (Untie c) 0 Nothing) first log refl
      (and_more (Stepped (MergeAdd c) merges.shared Nothing) second log refl
      (ends_quietly (LastDown (lasts.Popped c)) c block (Stepped (MergeAdd c) merges.shared Nothing ∷ second) log refl
      merges.ends)))
