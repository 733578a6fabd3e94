-- Which numbers of threads nobody has, as bits.
use Rattle.std.specs.Prelude.{◌≡◌, ℕ, ◌+◌, ◌==◌, ◌<◌, ◌≤◌, nat_lt, ◌&&◌, not, Bool, false, List, length, slice_index_or}
use Rattle.std.specs.Int.{bit_at}
use Rattle.brc_words.specs.declared.limits.TheConstants.{MOST_THREADS}

-- the number was used, and its thread isn't gathered
abbrev pub in_use : List Bool → ℕ → Bool
in_use marks u = nat_lt u (length marks) && not (slice_index_or marks u false)

-- bit i says that number i + 1 isn't in use; number 0 is the root's
pub record AreFree (bits : ℕ) (marks : List Bool) : Type 0 where
  pub root : slice_index_or marks 0 false ≡ false
  pub some : 0 < length marks
  pub few : length marks ≤ MOST_THREADS + 1
  pub each : (i : ℕ) → i < 64 → (bit_at bits i == 1) ≡ not (in_use marks (i + 1))

-- the place of the lowest set bit, or 64 where none is set
pub record IsLowest (bits place : ℕ) : Type 0 where
  pub few : place ≤ 64
  pub set : place < 64 → bit_at bits place ≡ 1
  pub below : (i : ℕ) → i < place → bit_at bits i ≡ 0
