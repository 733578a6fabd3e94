-- What a step that may take a block tells its seat.
use Rattle.std.specs.Prelude.{◌≡◌, ℕ, ◌<◌, ◌≤◌, ◌+◌, ◌*◌, ◌/◌, Bool, true, false, List, ◌∷◌, length, Option, Some}
use Rattle.std.specs.Prelude.{None, slice_get}
use Rattle.std.specs.Int.{bit_at}
use Rattle.atomic_table.specs.Table.{Me}
use Rattle.brc_words.specs.declared.limits.TheConstants.{MOST_ENTRIES}
use Rattle.brc_words.specs.declared.look.TheConstants.{ONE_COUNT}
use Rattle.law.specs.declared.world.event.Step.{Step}
use Rattle.law.specs.declared.world.event.Step.TheVariants.{Claim, Lock}
use Rattle.law.specs.known.Items.{RAISED_BY}
use Rattle.law.specs.known.Taken.{listed_at}
use Rattle.law.specs.declared.known.word.Field.TheVariants.{Mutex}
use Rattle.law.specs.declared.known.word.Word.TheVariants.{Of, FreeWord}
use Rattle.law.specs.declared.rule.contents.Contents.{Contents}
use Rattle.law.specs.declared.rule.told.Moved.TheVariants as moves
use Rattle.law.specs.declared.rule.told.LogItem.TheVariants.{Stepped, Lost}
use Rattle.law.specs.declared.rule.view.View.{View}
use Rattle.law.specs.rule.Logs.{entries_in}
use Rattle.law.specs.rule.Rule.{with_told}
use Rattle.law.specs.rule.Seen.{taken_seen}
use Rattle.law.specs.payloads.Payloads.{FindsOwn}

-- each of the entries is one of so many cells
abbrev pub AreCells : ℕ → List ℕ → Type 0
AreCells n entries = (i c : ℕ) → slice_get entries i ≡ Some c → c < n

-- Each bit that was found in this queue word is one of its 32 cells, and that is a cell of the heap: a bit is a
-- reference.
abbrev pub AreQueued : ℕ → ℕ → ℕ → Type 0
AreQueued n k bits = (i : ℕ) → bit_at bits i ≡ 1 → (i < 32) × (k * 32 + i < n)

-- the number of a shared word of which the count is above 0
abbrev pub CountsSome : ℕ → Type 0
CountsSome number = RAISED_BY < number / ONE_COUNT

-- The seat has the cell's block now, and its log the contents that were found in it. It was none of the dead blocks
-- that the seat had, and its entries are cells of the heap, not too many.
pub record TookBlock {B : Type 0} (shows : B → ℕ × Contents) (n : ℕ) (v : View) (slots : List (ℕ × Option B)) (s : Step)
    (c number : ℕ) (me : Me (Option B) View) : Type 0 where
  pub block : B
  pub of_cell : (shows block).0 ≡ c
  pub fresh : listed_at (taken_seen n v.log) c ≡ None
  pub entries : AreCells n (entries_in (shows block).1)
  pub few : length (entries_in (shows block).1) ≤ MOST_ENTRIES
  pub after_is : me ≡ (with_told (Stepped s number (moves.Found c (shows block).1)) v, (c, Some block) ∷ slots)

abbrev pub EndedObject : {B : Type 0} → (B → ℕ × Contents) → ℕ → View → List (ℕ × Option B) → Step → ℕ → ℕ → Bool
    → Me (Option B) View → Type 0
EndedObject shows n v slots s c number false me = me ≡ (with_told (Stepped s number moves.Nothing) v, slots)
EndedObject shows n v slots s c number true me = TookBlock shows n v slots s c number me

-- The seat has the cell's empty slot now, and its log the free word as it was. The cell was none of the dead blocks
-- that the seat had.
pub record TookSlot {B : Type 0} (n : ℕ) (v : View) (slots : List (ℕ × Option B)) (c number : ℕ)
    (me : Me (Option B) View) : Type 0 where
  pub fresh : listed_at (taken_seen n v.log) c ≡ None
  pub after_is : me ≡ (with_told (Stepped (Claim c) number moves.Nothing) v, (c, None) ∷ slots)

-- The cell is the thread's to make an object in, and its empty slot is out with the seat; or it wasn't free, and the
-- step is a note.
abbrev pub Claimed : {B : Type 0} → ℕ → View → List (ℕ × Option B) → ℕ → ℕ → Bool → Me (Option B) View → Type 0
Claimed n v slots c number true me = TookSlot n v slots c number me
Claimed n v slots c number false me = me ≡ (with_told (Lost (FreeWord (c / 64)) number) v, slots)

-- The object is locked, and the seat has its block with the contents found: of a cell that was private to the seat's
-- thread the payload that it put home there last, and of one below the globals what the heap was opened with.
pub record TookLocked {B : Type 0} (shows : B → ℕ × Contents) (n : ℕ) (v : View) (slots : List (ℕ × Option B))
    (k c number : ℕ) (me : Me (Option B) View) : Type 0 where
  pub took : TookBlock shows n v slots (Lock k) c number me
  pub own : FindsOwn n v.log c (shows took.block).1

-- The object is locked; or its mutex wasn't 0.
abbrev pub LockedOrBusy : {B : Type 0} → (B → ℕ × Contents) → ℕ → View → List (ℕ × Option B) → ℕ → ℕ → ℕ → Bool
    → Me (Option B) View → Type 0
LockedOrBusy shows n v slots k c number true me = TookLocked shows n v slots k c 0 me
LockedOrBusy shows n v slots k c number false me = me ≡ (with_told (Lost (Of Mutex c) number) v, slots)
