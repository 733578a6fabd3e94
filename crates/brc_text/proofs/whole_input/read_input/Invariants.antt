use Rattle.std.proofs.Common.{◌≡◌, ◌≤◌, ◌+◌, ◌-◌, length, ℕ, List, Option}
use Rattle.std.specs.Io.KnownBytes.{Consumes}
use Rattle.brc_words.specs.declared.limits.TheConstants.{MOST_INPUT}
use Rattle.brc_text.proofs.whole_input.read_input.Given as goal

pub record SoFar (old new : Option (List ℕ)) (bytes chunk : List ℕ) : Type 0 where
  pub read : Consumes old new bytes
  pub room : length chunk ≡ 16384
  pub bound : length bytes ≤ MOST_INPUT + 1

abbrev pub invariant-loop-chunk : goal.invariant-loop-chunk
invariant-loop-chunk g l = SoFar (g.R.Read.remaining l.fn.reader) (g.R.Read.remaining l.reader) l.bytes.items l.chunk

abbrev pub decreases-loop-chunk : goal.decreases-loop-chunk
decreases-loop-chunk g l = MOST_INPUT + 1 - length l.bytes.items
