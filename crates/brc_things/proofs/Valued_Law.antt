-- What unlockings with scalars come to, as calls from the frame that the locking began from.
use Rattle.std.proofs.Common.{◌≡◌, ◌≢◌, ℕ, List, ◌∷◌, Option, Some, None, Ok, inr, sym, ◌∙◌, ap, refl, subst, slice_get}
use Rattle.brc_words.specs.declared.entry.Entry.{Entry}
use Rattle.brc_words.specs.declared.note.Note.{Note}
use Rattle.brc_words.specs.Notes.{noted, note_in}
use Rattle.brc_words.specs.declared.fault.Fault.{Fault}
use Rattle.brc_words.specs.declared.fault.Fault.TheVariants as faults
use Rattle.brc_count.specs.block.declared.payload.Payload.{Payload}
use Rattle.brc_count.specs.block.Payload.{noted_of}
use Rattle.brc_count.specs.law.declared.world.event.Change.TheVariants.{Keep, Put, Take, Swap}
use Rattle.brc_count.specs.law.declared.world.event.Dropped.TheVariants as drops
use Rattle.brc_count.specs.law.declared.world.event.Step.TheVariants.{Lock, Unlock, LocalDown}
use Rattle.brc_count.specs.law.declared.rule.contents.Contents.{Contents}
use Rattle.brc_count.specs.law.declared.rule.told.LogItem.{LogItem}
use Rattle.brc_count.specs.law.declared.rule.told.LogItem.TheVariants.{Stepped}
use Rattle.brc_count.specs.law.declared.rule.told.Moved.TheVariants as moves
use Rattle.brc_count.specs.table.Shown.{contents_of}
use Rattle.brc_count.specs.Frames.{FrameSeen, HandleSeen, Refused}
use Rattle.brc_count.specs.Locking.{KeepsFrame, UnlockedBy, PutsNone, TakesNone, LetsNoneGo}
use Rattle.brc_count.proofs.Refusing.{refused_alike}
use Rattle.brc_count.proofs.Kept.{thread_kept_on}
use Rattle.brc_things.specs.Changing.{PlainCall, Swaps}
use Rattle.brc_things.specs.Plain_Values.{PutCall}
use Rattle.brc_things.specs.Values.{PutsScalar, TakesScalar, SetsScalar, SwapsValueIn, CameOut, WantsPlace, RefusedScalar}
use Rattle.brc_things.specs.declared.value.Value.{Value}
use Rattle.brc_things.specs.declared.value.Value.TheVariants.{Scalar, Object}
use Rattle.brc_things.proofs.Locked.{Stood, changes_since}
use Rattle.brc_things.proofs.Shown.{noted_shown}

module _ {A : Type 0} where
  pub puts_scalar : (before now new : FrameSeen A) (k p : ℕ) (block : ℕ × Payload A) (left : Payload A)
      (call : PlainCall (Option Entry))
      → Stood before now k block → PutsNone now new p (block.0, left) → KeepsFrame now new
      → call (contents_of block.1) ≡ Ok (None, contents_of left)
      → PutsScalar before new k p call
  puts_scalar before now new k p block left call was ended frame plain = record {
    found = contents_of block.1;
    put = contents_of left;
    plain = plain;
    cell = block.0;
    of_place = was.began.cell;
    mid = ended.mid;
    events = ended.ended ∙ ap (λ (log : List LogItem). Stepped (Unlock (Put p)) 0 (moves.Put block.0 (contents_of left))
        ∷ log) was.began.event;
    again = ended.again;
    places = record {
      places = λ j. frame.places j ∙ was.places.places j;
      len = frame.len ∙ was.places.len;
      next = frame.next ∙ was.places.next;
    };
    unlocked = ended.unlocked;
    keeps = thread_kept_on was.keeps ended.keeps;
  }

  pub takes_scalar : (before now new : FrameSeen A) (k : ℕ) (block : ℕ × Payload A) (left : Payload A)
      (call : PlainCall Entry) (index : ℕ) (entry : Entry) (note : Note)
      → Stood before now k block → TakesNone now new index (block.0, left) → KeepsFrame now new
      → slice_get (noted_of block.1) index ≡ Some entry → call (contents_of block.1) ≡ Ok (entry, contents_of left)
      → entry.cell ≡ 0 → note_in entry ≡ note → TakesScalar before new k call note
  takes_scalar before now new k block left call index entry note was ended frame there plain none said = record {
    found = contents_of block.1;
    put = contents_of left;
    index = index;
    entry = entry;
    at_index = ap (λ es. slice_get es index) (noted_shown block.1) ∙ there;
    plain = plain;
    none = none;
    said = said;
    cell = block.0;
    of_place = was.began.cell;
    told = ended.found;
    events = subst (λ (p : ℕ). new.seat.log ≡ Stepped (LocalDown (drops.Frame p)) ended.found moves.Nothing
        ∷ Stepped (Unlock (Take index p)) 0 (moves.Put block.0 (contents_of left))
        ∷ Stepped (Lock k) 0 (moves.Found block.0 (contents_of block.1)) ∷ before.seat.log) was.places.next
        (ended.gone ∙ ap (λ (log : List LogItem). Stepped (LocalDown (drops.Frame now.next)) ended.found moves.Nothing
        ∷ log) (ended.ended ∙ ap (λ (log : List LogItem). Stepped (Unlock (Take index now.next)) 0
        (moves.Put block.0 (contents_of left)) ∷ log) was.began.event));
    places = record {
      places = λ j. frame.places j ∙ was.places.places j;
      len = frame.len ∙ was.places.len;
      next = frame.next ∙ was.places.next;
    };
    unlocked = ended.unlocked;
    keeps = thread_kept_on was.keeps ended.keeps;
  }

module _ {A : Type 0} where
  -- an object went in for what stood there, which came out
  pub swaps_came : (before mid new : FrameSeen A) (k : ℕ) (none handle old : HandleSeen) (note : Note)
      (call : PutCall) (came : Value A)
      → (swaps : Swaps before mid k handle.place (λ c. call (noted c note)) Some) → old ≡ handle
      → CameOut mid new old swaps.entry came
      → SwapsValueIn before new k none none (Object handle note) call came
  swaps_came before mid new k none handle old note call (Scalar said) swaps same came = (
    refl,
    record {
      mid = mid;
      swaps = swaps;
      none = came.0;
      said = came.1;
      gone = subst (λ (h : HandleSeen). LetsNoneGo mid new h.place) same came.2;
    },
  )
  swaps_came before mid new k none handle old note call (Object given said) swaps same came = (
    refl,
    came.2 ∙ same,
    subst (λ (f : FrameSeen A). (s : Swaps before f k handle.place (λ c. call (noted c note)) Some)
        × (s.entry.cell ≢ 0) × (note_in s.entry ≡ said)) (sym came.3) (swaps, came.0, came.1),
  )

  -- a scalar went in for one
  pub sets_scalar : (before now new : FrameSeen A) (k p : ℕ) (block : ℕ × Payload A) (left : Payload A)
      (call : PlainCall (Option Entry)) (index : ℕ) (entry : Entry) (note : Note)
      → Stood before now k block → UnlockedBy now new (Swap index p) (block.0, left) → KeepsFrame now new
      → slice_get (noted_of block.1) index ≡ Some entry → call (contents_of block.1) ≡ Ok (Some entry, contents_of left)
      → entry.cell ≡ 0 → note_in entry ≡ note → SetsScalar before new k p call note
  sets_scalar before now new k p block left call index entry note was ended frame there plain none said = record {
    found = contents_of block.1;
    put = contents_of left;
    index = index;
    entry = entry;
    at_index = ap (λ es. slice_get es index) (noted_shown block.1) ∙ there;
    plain = plain;
    none = none;
    said = said;
    changes = changes_since before now new k block left (Swap index p) was ended;
    places = record {
      places = λ j. frame.places j ∙ was.places.places j;
      len = frame.len ∙ was.places.len;
      next = frame.next ∙ was.places.next;
    };
  }

  -- a place was refused for the object that would have come out for a scalar
  wants_place : (before now mid new : FrameSeen A) (k : ℕ) (block : ℕ × Payload A) (call : PlainCall (Option Entry))
      (fault : Fault) (entry : Entry) (left : Contents)
      → Stood before mid k block → UnlockedBy mid new Keep block → call (contents_of block.1) ≡ Ok (Some entry, left)
      → entry.cell ≢ 0 → Refused before fault → WantsPlace before new k call fault
  wants_place before now mid new k block call fault entry left was ended plain object want = record {
    found = contents_of block.1;
    put = left;
    entry = entry;
    looks = changes_since before mid new k block block.1 Keep was ended;
    plain = plain;
    object = object;
    want = want;
  }

  pub refused_scalar : (before now mid new : FrameSeen A) (k : ℕ) (block : ℕ × Payload A) (call : PlainCall (Option Entry))
      (fault : Fault) (entry : Entry) (left : Contents)
      → Stood before mid k block → UnlockedBy mid new Keep block → call (contents_of block.1) ≡ Ok (Some entry, left)
      → entry.cell ≢ 0 → now.len ≡ before.len → Refused now fault → RefusedScalar before new k call fault
  refused_scalar before now mid new k block call faults.FrameFull entry left was ended plain object len why =
      wants_place before now mid new k block call faults.FrameFull entry left was ended plain object
      (refused_alike before now faults.FrameFull len why)
  refused_scalar before now mid new k block call faults.OutOfMemory entry left was ended plain object len why =
      inr (wants_place before now mid new k block call faults.OutOfMemory entry left was ended plain object
      (refused_alike before now faults.OutOfMemory len why))
  refused_scalar before now mid new k block call _ entry left was ended plain object len none = absurd none
