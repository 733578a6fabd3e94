-- A value that goes into an entry only if that is still what was expected. Of several threads that expect the same, the first
-- whose lock it is swaps: the others find its value in their turn.
use Rattle.std.specs.Prelude.{◌≡◌, ◌==◌, ◌&&◌, ◌||◌, not, Bool, ℕ, Option, None, Result, Ok, Err, if◌then◌else◌}
use Rattle.brc_words.specs.declared.entry.Entry.{Entry}
use Rattle.brc_words.specs.declared.fault.Fault.{Fault}
use Rattle.brc_words.specs.declared.key.Key.{Key}
use Rattle.brc_count.specs.law.declared.world.event.Change.TheVariants.{Keep}
use Rattle.brc_count.specs.law.declared.rule.contents.Contents.{Contents}
use Rattle.brc_count.specs.declared.handed.HandedBack.{HandedBack}
use Rattle.brc_count.specs.Frames.{FrameSeen, HandleSeen}
use Rattle.brc_count.specs.Locking.{Changes}
use Rattle.brc_count.specs.Owned.{Keeps}
use Rattle.brc_things.specs.declared.value.SwapIf.{SwapIf}
use Rattle.brc_things.specs.declared.value.SwapIf.TheVariants.{Swapped, Differs}
use Rattle.brc_things.specs.declared.value.Value.{Value}
use Rattle.brc_things.specs.Called.{TakesInPlaced}
use Rattle.brc_things.specs.Changing.{PlainCall}
use Rattle.brc_things.specs.Plain_Dicts.{plain_find, plain_put}
use Rattle.brc_things.specs.Plain_Lists.{plain_get, plain_set}
use Rattle.brc_things.specs.Plain_Values.{PutCall, at_old}
use Rattle.brc_things.specs.Values.{SwapsValueIn, OwnsSwapped, RefusedPutting}

-- An entry is still the expected one: the same object, whatever is noted beside it; or the same scalar, label and bits.
abbrev pub is_still : Entry → Entry → Bool
is_still expected entry =
    (entry.cell == expected.cell)
    && (not (expected.cell == 0) || ((entry.label == expected.label) && (entry.bits == expected.bits)))

-- by what a look found: the call's outcome; or None, and all is as it was
abbrev pub if_still : Entry → Result (Entry × Contents) Fault → Contents → Result (Option Entry × Contents) Fault
    → Result (Option Entry × Contents) Fault
if_still expected (Ok there) found outcome = if is_still expected there.0 then outcome else Ok (None, found)
if_still expected (Err fault) found outcome = Err fault

-- A call that puts an entry, made only where the look finds the expected one. The answer is the entry that it stands for;
-- None says that something else stands there.
abbrev pub only_if : Entry → PlainCall Entry → PutCall → PutCall
only_if expected look call entry found = if_still expected (look found) found (call entry found)

module _ {A : Type 0} where
  -- The object was looked at, and unlocked as it was found: something else stands there, whatever entry were to go in.
  pub record FindsOther (old new : FrameSeen A) (k : ℕ) (call : PutCall) : Type 0 where
    pub found : Contents
    pub looks : Changes old new k found Keep found
    pub plain : (entry : Entry) → call entry found ≡ Ok (None, found)

  -- The value went in, and what was expected came out; or something else stands there, and the value came back.
  abbrev pub SwapsIfStill : FrameSeen A → FrameSeen A → ℕ → HandleSeen → HandleSeen → Value A → PutCall → SwapIf A → Type 0
  SwapsIfStill old new k none after value call (Swapped came) = SwapsValueIn old new k none after value call came
  SwapsIfStill old new k none after value call (Differs back) =
      (after ≡ none) × (back ≡ value) × FindsOther old new k call

  -- so of the frame's handles
  abbrev pub OwnsIfSwapped : FrameSeen A → FrameSeen A → HandleSeen → Value A → SwapIf A → Type 0
  OwnsIfSwapped old new after value (Swapped came) = OwnsSwapped old new after value came
  OwnsIfSwapped old new after value (Differs back) = Keeps old new

  -- the value goes where the plain call puts it, if that is still as expected
  abbrev pub SwapsInPlaceIf : FrameSeen A → FrameSeen A → ℕ → HandleSeen → HandleSeen → Value A → PutCall
      → Result (SwapIf A) (HandedBack (Value A)) → Type 0
  SwapsInPlaceIf old new k none after value call result =
      TakesInPlaced old new (SwapsIfStill old new k none after value call) (RefusedPutting old new k value call) result

  -- into the entry of a list at the index
  abbrev pub ListSwapIf : FrameSeen A → FrameSeen A → ℕ → ℕ → Entry → HandleSeen → HandleSeen → Value A
      → Result (SwapIf A) (HandedBack (Value A)) → Type 0
  ListSwapIf old new k index expected none after value result =
      SwapsInPlaceIf old new k none after value (only_if expected (plain_get index) (at_old (plain_set index))) result

  -- beside the key of a dictionary
  abbrev pub DictSwapIf : FrameSeen A → FrameSeen A → ℕ → Key A → Entry → HandleSeen → HandleSeen → Value A
      → Result (SwapIf A) (HandedBack (Value A)) → Type 0
  DictSwapIf old new k key expected none after value result =
      SwapsInPlaceIf old new k none after value (only_if expected (plain_find key) (plain_put key)) result
