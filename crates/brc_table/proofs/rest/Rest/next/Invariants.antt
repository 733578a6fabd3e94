use Rattle.std.proofs.Common.{◌≡◌, ℕ, ◌-◌, ◌<◌, ◌≤◌, false, drop, slice_index_or}
use Rattle.std.specs.Mem.Slots.{slots_items, slots_filled, slots_len}
use Rattle.std.specs.Mem.Slots.Ownership.{Filled}
use Rattle.brc_table.specs.Rest.{from_block}
use Rattle.brc_table.proofs.rest.Rest.next.Given as goal

abbrev pub invariant-loop-at : goal.invariant-loop-at
invariant-loop-at g l = (l.at ≤ slots_len l.closed.slots) × Filled (slots_filled l.closed.slots) l.at
    (slots_len l.closed.slots)
    × ((k : ℕ) → k < l.at → slice_index_or (slots_filled l.closed.slots) k false ≡ false)
    × (from_block l.fn.self ≡ from_block (drop l.at (slots_items l.closed.slots)))

abbrev pub decreases-loop-at : goal.decreases-loop-at
decreases-loop-at g l = slots_len l.closed.slots - l.at
