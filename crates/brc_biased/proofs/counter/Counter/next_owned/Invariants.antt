use Rattle.std.proofs.Common.{◌≡◌, ◌-◌, ◌<◌, ◌≤◌, ℕ}
use Rattle.brc_words.specs.declared.limits.TheConstants.{FIRST_MORTAL}
use Rattle.brc_table.specs.law.rule.Seen.{counts_seen}
use Rattle.brc_biased.proofs.counter.Counter.next_owned.Given as goal

abbrev pub invariant-loop-cell : goal.invariant-loop-cell
invariant-loop-cell g l = (l.fn.from ≤ l.cell) × ((c : ℕ) → l.fn.from ≤ c → c < l.cell → FIRST_MORTAL ≤ c
    → c < l.fn.self.heap.cells
    → counts_seen l.fn.self.heap.cells l.fn.self.seat.log c ≡ 0)

abbrev pub decreases-loop-cell : goal.decreases-loop-cell
decreases-loop-cell g l = l.fn.self.heap.cells - l.cell
