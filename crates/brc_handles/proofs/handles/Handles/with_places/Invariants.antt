use Rattle.std.proofs.Common.{◌≡◌, ◌≤◌, None, replicate}
use Rattle.std.specs.Vec.{vec_capacity}
use Rattle.brc_handles.proofs.handles.Handles.with_places.Given as goal

abbrev pub invariant-loop-place : goal.invariant-loop-place
invariant-loop-place g l = record {
  empty : l.slots.items ≡ replicate l._place None;
  room : l.count ≤ vec_capacity l.slots;
}
