use Rattle.std.proofs.Common.{◌≡◌, ◌+◌}
use Rattle.brc_count.specs.Frames.{HandleSeen, IsUnlocked, Owns}
use Rattle.brc_handles.specs.Handles.{filled, IsApart, OwnsEach}
use Rattle.brc_loops.specs.Turns.{LoopTurns, Fills}
use Rattle.brc_loops.proofs.filling.fill.Given as goal

abbrev pub invariant-loop-before : goal.invariant-loop-before
invariant-loop-before g l = record {
  gives : LoopTurns (Fills (g.S.Source.gives l.source)) l.before (l.fn.frame, l.fn.handles) (l.frame, l.handles);
  each : OwnsEach l.frame l.handles;
  count : l.frame.len + filled l.fn.handles ≡ l.fn.frame.len + filled l.handles;
  more : filled l.handles ≡ filled l.fn.handles + l.before;
  heap : l.frame.heap ≡ l.fn.frame.heap;
  unlocked : IsUnlocked l.frame;
  owns : (h : HandleSeen) → Owns l.fn.frame h → Owns l.frame h;
  apart : (h : HandleSeen) → Owns l.fn.frame h → IsApart h l.fn.handles → IsApart h l.handles;
}
