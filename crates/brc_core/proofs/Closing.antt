-- In every reached world a thread that closes its words has seen to its objects.
use Rattle.std.proofs.Common.{refl}
use Rattle.law.specs.world.Heap.{Heap}
use Rattle.law.specs.world.Runs.{IsReached}
use Rattle.law.proofs.world.Leaving.{closing_leaves}
use Rattle.law.proofs.world.Reached.{reached_sound}
use Rattle.brc_state.specs.Closers.{ClosersHaveLeft}

pub reached_closers : (h : Heap) → IsReached h → ClosersHaveLeft h
reached_closers h reached =
    record { seen_to = λ t n closing. closing_leaves h.edition h t n (reached_sound h reached) refl closing }
