-- The local counts of a thread's own objects, as its own items tell them: an owner counts without a look.
use Rattle.std.specs.Prelude.{ℕ, ◌==◌, if◌then◌else◌, List, [], ◌∷◌, Option, Some, None}
use Rattle.law.specs.declared.world.cell.Cell.{Cell}
use Rattle.law.specs.declared.world.event.Step.{Step}
use Rattle.law.specs.declared.world.event.Step.TheVariants.{Birth, LocalUp, LocalDown, Untie, Close}
use Rattle.law.specs.declared.world.row.Stage.{Stage}
use Rattle.law.specs.world.Steps.{is_mine}
use Rattle.law.specs.known.Items.{Item, Stepped, Loaded, Lost, Part, part_of, meant}

-- what the thread counts on the cell's local word: its count where the thread owns the cell and is active, else nothing
abbrev pub own_count : ℕ → Stage → Cell → ℕ
own_count t stage x = if is_mine t stage x then x.local else 0

-- the count of the cell that a step means, by the number that the step was told
abbrev pub counted_by : Step → ℕ → ℕ → ℕ
counted_by (Birth d kind k) number before = 1
counted_by (LocalUp source k) number before = number
counted_by (LocalDown drop) number before = number
counted_by (Untie d) number before = 0
counted_by _ number before = before

-- a thread that begins to leave counts as a stranger from then on
abbrev pub counted_apart : Step → ℕ → ℕ
counted_apart (Close k) before = 0
counted_apart _ before = before

abbrev pub counts_by : Step → ℕ → Option ℕ → (ℕ → ℕ) → ℕ → ℕ
counts_by s number None counts d = counted_apart s (counts d)
counts_by s number (Some c) counts d = if d == c then counted_by s number (counts d) else counts d

abbrev pub counts_after : Part → (ℕ → ℕ) → Item → ℕ → ℕ
counts_after part counts (Stepped s number entries) = counts_by s number (meant part s) counts
counts_after part counts (Loaded word number) = counts
counts_after part counts (Lost word number) = counts

-- the local counts of mortal cells, from the own items alone; 0 where the thread owns nothing
abbrev pub counts_of : ℕ → List Item → ℕ → ℕ
counts_of cells [] = λ d. 0
counts_of cells (x ∷ items) = counts_after (part_of cells items) (counts_of cells items) x
