use Rattle.std.proofs.Common.{◌≡◌, ◌+◌, ◌≤◌, length, vec_capacity, vec_len}
use Rattle.std.specs.Prelude.{vec_items}
use Rattle.std.specs.Vec.Iter.{into_iter_items, into_iter_len}
use Rattle.brc_run.specs.Runs.{InOrder, IsBegun, CameBack}
use Rattle.brc_run.proofs.Ordered.{Underway}
use Rattle.brc_run.proofs.joining.join_each.Given as goal

abbrev pub invariant-loop-one : goal.invariant-loop-one
invariant-loop-one g l =
    ((heap : _) (gate : _) (sections : _) → InOrder (IsBegun heap gate (g.G.Gate.may_refuse gate)) 1 sections
    (vec_items l.fn.begun)
    → Underway (IsBegun heap gate (g.G.Gate.may_refuse gate)) (CameBack heap (g.G.Gate.may_refuse gate)) sections
    (into_iter_items l.one-iterator) (vec_items l.done))
    × (vec_len l.done + length (into_iter_items l.one-iterator) ≤ vec_capacity l.done)
    × (length (into_iter_items l.one-iterator) ≡ into_iter_len l.one-iterator)
