use Rattle.std.proofs.Common.{◌≡◌, take}
use Rattle.brc_count.specs.block.Payload.{entries_of}
use Rattle.brc_heap.proofs.collecting.content_of.Given as goal

abbrev pub invariant-loop-index : goal.invariant-loop-index
invariant-loop-index g l = l.entries.items ≡ take l.index (entries_of l.payload)
