use Rattle.std.proofs.Common.{◌≡◌, ◌+◌, ◌<◌, ◌⊎◌, ℕ, None, length}
use Rattle.brc_count.specs.law.living.Quiet.{Quietly}
use Rattle.brc_count.specs.Frames.{HandleSeen, IsUnlocked, Owns}
use Rattle.brc_handles.specs.Handles.{slot, filled, IsApart, OwnsEach}
use Rattle.brc_handles.proofs.handles.Handles.release_all.Given as goal

abbrev pub invariant-loop-index : goal.invariant-loop-index
invariant-loop-index g l = record {
  each : OwnsEach l.frame l.handles;
  count : l.frame.len + filled l.fn.self ≡ l.fn.frame.len + filled l.handles;
  heap : l.frame.heap ≡ l.fn.frame.heap;
  unlocked : IsUnlocked l.frame;
  len : length l.handles ≡ length l.fn.self;
  empty : (k : ℕ) → k < l.index → slot l.handles k ≡ None;
  places : (k : ℕ) → (slot l.handles k ≡ slot l.fn.self k) ⊎ (slot l.handles k ≡ None);
  owns : (h : HandleSeen) → Owns l.fn.frame h → IsApart h l.fn.self → Owns l.frame h;
  quiet : Quietly l.fn.frame.seat.log l.frame.seat.log;
}
