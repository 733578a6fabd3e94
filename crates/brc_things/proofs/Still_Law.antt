-- A put that is made only where what stands there is still the expected entry.
use Rattle.std.proofs.Common.{◌≡◌, ◌+◌, ℕ, Bool, true, false, Option, None, Result, Ok, Err, ◌∙◌, ap, refl, if◌then◌else◌}
use Rattle.brc_words.specs.declared.entry.Entry.{Entry}
use Rattle.brc_words.specs.declared.fault.Fault.{Fault}
use Rattle.brc_words.specs.declared.kind.Kind.TheVariants as kinds
use Rattle.brc_count.specs.block.declared.payload.Payload.{Payload}
use Rattle.brc_count.specs.block.Payload.{kind_of, noted_of}
use Rattle.brc_count.specs.law.declared.world.event.Change.TheVariants.{Keep}
use Rattle.brc_count.specs.law.declared.rule.contents.Contents.{Contents}
use Rattle.brc_count.specs.table.Shown.{contents_of}
use Rattle.std.specs.Result.{IfOk}
use Rattle.brc_count.specs.declared.handed.HandedBack.{HandedBack}
use Rattle.brc_count.specs.Frames.{FrameSeen, HandleSeen}
use Rattle.brc_count.specs.Locking.{KeepsThread, KeepsFrame, UnlockedBy}
use Rattle.brc_count.specs.Owned.{Keeps, Gains, Loses}
use Rattle.brc_count.proofs.Owning.{keeps_on, frame_keeps}
use Rattle.brc_things.specs.declared.value.SwapIf.{SwapIf}
use Rattle.brc_things.specs.declared.value.SwapIf.TheVariants.{Swapped, Differs}
use Rattle.brc_things.specs.declared.value.Value.{Value}
use Rattle.brc_things.specs.declared.value.Value.TheVariants.{Scalar, Object}
use Rattle.brc_things.specs.Changing.{PlainCall}
use Rattle.brc_things.specs.Plain_Lists.{plain_get, plain_set}
use Rattle.brc_things.specs.Plain_Values.{PutCall, SetsAt, FindsAt, at_old}
use Rattle.brc_things.specs.Rows.{NoEntry}
use Rattle.brc_things.specs.Still.{is_still, if_still, only_if, FindsOther, OwnsIfSwapped}
use Rattle.brc_things.specs.Values.{RefusedPutting}
use Rattle.brc_things.proofs.Locked.{Stood, changes_since, refused_plainly}
use Rattle.brc_things.proofs.Valued_Refusals.{putting_plainly, says, said_entry, no_entry}

-- by what the look found
found_so : (expected entry : Entry) (found : Contents) (looked : Result (Entry × Contents) Fault)
    (outcome : Result (Option Entry × Contents) Fault) (is : Bool) → looked ≡ Ok (entry, found) → is_still expected entry ≡ is
    → if_still expected looked found outcome ≡ (if is then outcome else Ok (None, found))
found_so expected entry found looked outcome is finds still =
    ap (λ l. if_still expected l found outcome) finds
    ∙ ap (λ b. if b then outcome else Ok (None, found)) still

-- the look was refused
pub refused_so : (expected entry : Entry) (look : PlainCall Entry) (call : PutCall) (found : Contents) (fault : Fault)
    → look found ≡ Err fault → only_if expected look call entry found ≡ Err fault
refused_so expected entry look call found fault fails = ap (λ l. if_still expected l found (call entry found)) fails

module _ {A : Type 0} where
  -- the expected one stands there: it is the call
  pub still_sets : (old : Payload A) (index : ℕ) (expected entry : Entry) (look : PlainCall Entry) (call : PutCall)
      → is_still expected entry ≡ true → FindsAt old entry look → SetsAt old index entry call
      → SetsAt old index entry (only_if expected look call)
  still_sets old index expected entry look call still finds sets = record {
    may = λ put. (
      (sets.may put).0,
      found_so expected entry (contents_of old) (look (contents_of old)) (call put (contents_of old)) true finds still
          ∙ (sets.may put).1,
    );
    sets = λ put left kind keys noted.
        found_so expected entry (contents_of old) (look (contents_of old)) (call put (contents_of old)) true finds still
        ∙ sets.sets put left kind keys noted;
  }

  -- another stands there: nothing changes
  pub finds_other : (before now new : FrameSeen A) (k : ℕ) (block : ℕ × Payload A) (expected entry : Entry)
      (look : PlainCall Entry) (call : PutCall) → is_still expected entry ≡ false → FindsAt block.1 entry look
      → Stood before now k block → UnlockedBy now new Keep block → FindsOther before new k (only_if expected look call)
  finds_other before now new k block expected entry look call other finds was ended = record {
    found = contents_of block.1;
    looks = changes_since before now new k block block.1 Keep was ended;
    plain = λ put. found_so expected entry (contents_of block.1) (look (contents_of block.1)) (call put (contents_of block.1))
        false finds other;
  }

  -- the look was refused: so is the put
  pub swap_refused : (before now new : FrameSeen A) (k : ℕ) (block : ℕ × Payload A) (value : Value A) (expected : Entry)
      (look : PlainCall Entry) (call : PutCall) (fault : Fault) → says fault ≡ true → look (contents_of block.1) ≡ Err fault
      → Stood before now k block → UnlockedBy now new Keep block
      → RefusedPutting before new k value (only_if expected look call) fault
  swap_refused before now new k block value expected look call fault said fails was ended =
      putting_plainly before new k value (only_if expected look call) fault said
      (λ entry. refused_plainly before now new k block (only_if expected look call entry) fault was ended
      (refused_so expected entry look call (contents_of block.1) fault fails))

  -- a list has no such entry
  pub swap_unfound : (before now new : FrameSeen A) (k : ℕ) (block : ℕ × Payload A) (index : ℕ) (value : Value A)
      (expected : Entry) (fault : Fault)
      → NoEntry kinds.«List» index (kind_of block.1) (noted_of block.1) fault
      → Stood before now k block → UnlockedBy now new Keep block
      → RefusedPutting before new k value (only_if expected (plain_get index) (at_old (plain_set index))) fault
  swap_unfound before now new k block index value expected fault why was ended =
      swap_refused before now new k block value expected (plain_get index) (at_old (plain_set index)) fault
      (said_entry kinds.«List» index block.1 fault why)
      (no_entry kinds.«List» index (λ es. es) block.1 fault refl why) was ended

  -- ---- the frame's handles, since before the locking

  gains_since : {old mid new : FrameSeen A} (given : HandleSeen) → Keeps old mid → Gains mid new given → Gains old new given
  gains_since given keeps gains = record {
    heap = gains.heap ∙ keeps.heap;
    len = gains.len ∙ ap (λ n. n + 1) keeps.len;
    owns = λ h owns. gains.owns h (keeps.owns h owns);
    owned = gains.owned;
    room = gains.room;
    apart = λ h owns. gains.apart h (keeps.owns h owns);
  }

  loses_since : {old mid new : FrameSeen A} (gone : HandleSeen) → Keeps old mid → Loses mid new gone → Loses old new gone
  loses_since gone keeps loses = record {
    heap = loses.heap ∙ keeps.heap;
    len = loses.len ∙ keeps.len;
    owns = λ h owns. loses.owns h (keeps.owns h owns);
  }

  swapped_since : (old mid new : FrameSeen A) (after : HandleSeen) (value : Value A) (did : SwapIf A) → Keeps old mid
      → OwnsIfSwapped mid new after value did → OwnsIfSwapped old new after value did
  swapped_since old mid new after (Scalar note) (Swapped (Scalar said)) keeps owns = keeps_on keeps owns
  swapped_since old mid new after (Scalar note) (Swapped (Object given said)) keeps owns = gains_since after keeps owns
  swapped_since old mid new after (Object handle note) (Swapped (Scalar said)) keeps owns = loses_since handle keeps owns
  swapped_since old mid new after (Object handle note) (Swapped (Object given said)) keeps owns = keeps_on keeps owns
  swapped_since old mid new after value (Differs back) keeps owns = keeps_on keeps owns

  pub owned_since : (old mid new : FrameSeen A) (after : HandleSeen) (value : Value A)
      (result : Result (SwapIf A) (HandedBack (Value A))) → KeepsThread old mid → KeepsFrame old mid
      → IfOk result (OwnsIfSwapped mid new after value) → IfOk result (OwnsIfSwapped old new after value)
  owned_since old mid new after value (Ok did) thread frame owns =
      swapped_since old mid new after value did (frame_keeps old mid thread frame) owns
  owned_since old mid new after value (Err handed) thread frame owns = tt
