-- What contracts see of a table and of its seats.
use Rattle.std.specs.Prelude.{◌≡◌, ◌≤◌, ℕ, true, List, [], Option}
use Rattle.atomic_table.specs.Seated.{TableId}
use Rattle.brc_block.specs.declared.payload.Payload.{Payload}
use Rattle.brc_words.specs.declared.limits.TheConstants.{FEWEST_CELLS, MOST_CELLS, MOST_LOCAL}
use Rattle.law.specs.rule.Layout.{extent}
use Rattle.brc_table.specs.declared.rule.Sizes.{Sizes}
use Rattle.law.specs.declared.rule.told.LogItem.{LogItem}
use Rattle.law.specs.declared.rule.view.View.{View}

-- which table it is, of how many cells, and how far an owner counts on its own
pub record TableSeen : Type 0 where
  pub table : TableId
  pub cells : ℕ
  pub local_limit : ℕ

-- a table's rule is at its sizes, and it has the words and slots that they ask for
pub record Sized (key : Sizes) (table : TableId) (cells local_limit : ℕ) : Type 0 where
  pub same_cells : key.cells ≡ cells
  pub same_limit : key.local_limit ≡ local_limit
  pub words : table.words ≡ extent cells
  pub slots : table.slots ≡ cells
  pub enough_cells : FEWEST_CELLS ≤ cells
  pub few_cells : cells ≤ MOST_CELLS
  pub low_limit : local_limit ≤ MOST_LOCAL

-- what they see of a thread's seat
pub record SeatSeen (A : Type 0) : Type 0 where
  pub table : TableId
  pub id : ℕ
  pub thread : ℕ
  pub log : List LogItem
  pub slots : List (ℕ × Option (ℕ × Payload A))

-- what they see of the root's
pub record RootSeen : Type 0 where
  pub table : TableId
  pub id : ℕ
  pub view : View

module _ {A : Type 0} where
  -- the same thread's seat at the same table
  abbrev pub Continues : SeatSeen A → SeatSeen A → Type 0
  Continues old new = (new.table ≡ old.table) × (new.thread ≡ old.thread)

  -- the same seat; its log is another matter
  abbrev pub IsSameSeat : SeatSeen A → SeatSeen A → Type 0
  IsSameSeat old new = (new.table ≡ old.table) × (new.thread ≡ old.thread) × (new.slots ≡ old.slots)

  -- its view, as the root takes it in
  abbrev pub view_of : SeatSeen A → View
  view_of s = record { active = true; thread = s.thread; log = s.log; gathered = [] }
