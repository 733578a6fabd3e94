-- All births of a heap, those of numbers that were used again, too, are fewer than 64 bits count.
use Rattle.std.proofs.Common.{ℕ, zero, suc, ◌+◌, ◌*◌, ◌<◌, ◌≤◌, List, [], ◌∷◌, length, get_or, arith}
use Rattle.std.specs.Prelude.{sum_by}
use Rattle.std.proofs.lemmas.List.Sums.{sum_by-cons}
use Rattle.brc_words.specs.declared.limits.TheConstants.{MOST_BIRTHS, MOST_THREADS}
use Rattle.brc_count.specs.law.declared.world.row.Row.{Row}
use Rattle.brc_count.specs.law.world.Heap.{Heap, no_row}
use Rattle.brc_count.specs.law.world.Runs.{IsReached}
use Rattle.brc_count.proofs.law.world.Reached.{reached_sound}

sum_few : {X : Type 0} (f : X → ℕ) (d : X) (most many : ℕ) (xs : List X) → length xs ≤ many
    → ((k : ℕ) → f (get_or xs k d) ≤ most) → sum_by f xs ≤ many * most
sum_few f d most many [] few small = omega arith
sum_few f d most zero (x ∷ xs) few small = absurd (omega arith)
sum_few f d most (suc many) (x ∷ xs) few small =
    rw sum_by-cons (omega (arith, small 0, sum_few f d most many xs (omega arith) (λ k. small (suc k))))

pub few_births : (h : Heap) → IsReached h
    → h.past_allocs + sum_by (λ (row : Row). row.allocs) h.rows < 18446744073709551616
few_births h reached =
    let sound = reached_sound h reached in
    omega (
      arith,
      sound.past.0,
      sound.past.1,
      sum_few (λ (row : Row). row.allocs) no_row MOST_BIRTHS (MOST_THREADS + 1) h.rows sound.shaped.threads
          (λ t. (sound.threads t).births),
    )
