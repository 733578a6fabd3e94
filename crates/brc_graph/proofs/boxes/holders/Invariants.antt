use Rattle.std.proofs.Common.{◌≡◌, ℕ, ◌≤◌, length, drop}
use Rattle.std.specs.Prelude.{nat_eq}
use Rattle.std.specs.HashMap as hash
use Rattle.brc_graph.specs.Boxes.{holder_in}
use Rattle.brc_graph.proofs.boxes.holders.Given as goal

abbrev pub invariant-loop-left : goal.invariant-loop-left
invariant-loop-left g l =
    (l.left ≤ length l.lines) × ((q : ℕ) → hash.get nat_eq l.holders q ≡ holder_in (drop l.left l.lines) q)

abbrev pub decreases-loop-left : goal.decreases-loop-left
decreases-loop-left g l = l.left
