use Rattle.std.proofs.Common.{◌≡◌, ◌<◌, ℕ, nat_lt, if◌then◌else◌, length, slice_index}
use Rattle.brc_words.specs.declared.limits.TheConstants.{IMMORTAL_LOCAL}
use Rattle.brc_biased.proofs.counter.first_counts.Given as goal

abbrev pub invariant-loop-cell : goal.invariant-loop-cell
invariant-loop-cell g l = (length l.counts.items ≡ l.cells) × ((c : ℕ) → c < l.cells
    → slice_index l.counts.items c ≡ (if nat_lt c l.cell then IMMORTAL_LOCAL else 0))
