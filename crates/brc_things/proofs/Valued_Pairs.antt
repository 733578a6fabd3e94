-- A pair by value, of what one look at its entry found.
use Rattle.std.proofs.Common.{◌≡◌, ℕ, Ok, Err, Result, sym, ◌∙◌, ap, length}
use Rattle.brc_words.specs.declared.entry.Entry.{Entry}
use Rattle.brc_words.specs.declared.fault.Fault.{Fault}
use Rattle.brc_words.specs.declared.fault.Fault.TheVariants as faults
use Rattle.brc_words.specs.declared.key.Key.{Key}
use Rattle.brc_count.specs.block.declared.payload.Payload.{Payload}
use Rattle.brc_count.specs.block.Payload.{noted_of}
use Rattle.brc_count.specs.law.declared.world.event.Change.TheVariants.{Keep}
use Rattle.brc_count.specs.law.declared.rule.contents.Contents.{Contents}
use Rattle.brc_count.specs.table.Shown.{contents_of}
use Rattle.brc_count.specs.Frames.{FrameSeen}
use Rattle.brc_count.specs.Locking.{UnlockedBy}
use Rattle.brc_things.specs.declared.value.Value.{Value}
use Rattle.brc_things.specs.declared.value.Value.TheVariants.{Scalar, Object}
use Rattle.brc_things.specs.Changing.{PlainCall, RefusedPlace}
use Rattle.brc_things.specs.Indexing.{IsAt, NoPair}
use Rattle.brc_things.specs.Plain_Dicts.{plain_value_at}
use Rattle.brc_things.specs.Values.{LooksAtValue, LooksAtPair, RefusedPairAt, found_by}
use Rattle.brc_things.proofs.Indexed.{key_there, value_there, value_wrong, value_past}
use Rattle.brc_things.proofs.Locked.{Stood, refused_plainly}
use Rattle.brc_things.proofs.Shown.{noted_shown}

abbrev answered : Entry → Contents → Result (Entry × Contents) Fault
answered entry left = Ok (entry, left)

-- what is left of an answer
left_of : Contents → Result (Entry × Contents) Fault → Contents
left_of otherwise (Ok done) = done.1
left_of otherwise (Err fault) = otherwise

left_is : {a b : Entry} {c d : Contents} → answered a c ≡ answered b d → c ≡ d
unfolding left_of
left_is {c = c} same = ap (left_of c) same

module _ {A : Type 0} where
  -- a look that found these contents, by any plain call that finds the entry in them
  looks_again : (old new : FrameSeen A) (k : ℕ) (left : Contents) (entry : Entry) (call : PlainCall Entry) (came : Value A)
      → LooksAtValue old new k (λ found. Ok (entry, left)) came → call left ≡ Ok (entry, left)
      → (looks : LooksAtValue old new k call came) × (found_by old new k call came looks ≡ left)
  looks_again old new k left entry call (Scalar note) looks finds =
      let same = left_is looks.plain in (
        record {
          found = looks.found;
          entry = looks.entry;
          plain = ap call (sym same) ∙ finds ∙ looks.plain;
          none = looks.none;
          said = looks.said;
          looks = looks.looks;
          places = looks.places;
        },
        sym same,
      )
  looks_again old new k left entry call (Object given note) looks finds =
      let shares = looks.0 in
      let same = left_is shares.plain in (
        (
          record {
            found = shares.found;
            index = shares.index;
            entry = shares.entry;
            at_index = shares.at_index;
            plain = ap call (sym same) ∙ finds ∙ shares.plain;
            cell = shares.cell;
            of_place = shares.of_place;
            locked = shares.locked;
            shared = shares.shared;
            same_heap = shares.same_heap;
            shared_heap = shares.shared_heap;
            locks = shares.locks;
            gives = shares.gives;
            unlocks = shares.unlocks;
            before = shares.before;
            after = shares.after;
            unlocked = shares.unlocked;
            keeps = shares.keeps;
          },
          looks.1,
          looks.2,
        ),
        sym same,
      )

  pub looks_at_pair : (old new : FrameSeen A) (k index : ℕ) (block : Payload A) (key : Key A) (entry : Entry) (of : ℕ)
      (came : Value A)
      → IsAt block index key entry → length (noted_of block) ≡ of
      → LooksAtValue old new k (λ found. Ok (entry, contents_of block)) came
      → LooksAtPair old new k index (record { key = key; value = came; of = of })
  looks_at_pair old new k index block key entry of came there long looks =
      let again = looks_again old new k (contents_of block) entry (plain_value_at A index) came looks
      (value_there block index key entry there) in
      record {
        value = again.0;
        found = contents_of block;
        is_found = again.1;
        key = key_there block index key entry there;
        of = ap length (noted_shown block) ∙ long;
      }

  -- there is no such pair
  pub pair_unfound : (before now new : FrameSeen A) (k : ℕ) (block : ℕ × Payload A) (index : ℕ) (fault : Fault)
      → Stood before now k block → UnlockedBy now new Keep block → NoPair block.1 index fault
      → RefusedPairAt before new k index fault
  pair_unfound before now new k block index faults.WrongKind was ended other =
      refused_plainly before now new k block (plain_value_at A index) faults.WrongKind was ended
      (value_wrong block.1 index other)
  pair_unfound before now new k block index faults.NoSuchPlace was ended past =
      refused_plainly before now new k block (plain_value_at A index) faults.NoSuchPlace was ended
      (value_past block.1 index past)
  pair_unfound before now new k block index _ was ended none = absurd none

  -- a place was refused for a pair that is there
  pub pair_unplaced : (before new : FrameSeen A) (k index : ℕ) (fault : Fault)
      → RefusedPlace before new k (plain_value_at A index) fault → RefusedPairAt before new k index fault
  pair_unplaced before new k index faults.Busy why = why
  pair_unplaced before new k index faults.FrameFull why = why
  pair_unplaced before new k index faults.OutOfMemory why = why.0
  pair_unplaced before new k index _ why = why
