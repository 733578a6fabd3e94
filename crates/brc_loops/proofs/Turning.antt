-- No turn, and one turn more.
use Rattle.std.proofs.Common.{◌+◌, ℕ, suc, refl, sym, subst, add-one}
use Rattle.brc_loops.specs.Turns.{LoopTurns}

module _ {S : Type 0} (Turn : ℕ → S → S → Type 0) where
  pub no_turn : (first : S) → LoopTurns Turn 0 first first
  unfolding LoopTurns
  no_turn first = refl

  next_turn : (before : ℕ) (first from last : S) → LoopTurns Turn before first from → Turn before from last
      → LoopTurns Turn (suc before) first last
  unfolding LoopTurns
  next_turn before first from last turns turn = (from, turns, turn)

  pub one_more : (before : ℕ) (first from last : S) → LoopTurns Turn before first from → Turn before from last
      → LoopTurns Turn (before + 1) first last
  one_more before first from last turns turn =
      subst (λ (n : ℕ). LoopTurns Turn n first last) (sym (add-one before))
      (next_turn before first from last turns turn)
