-- No turn, and one turn more.
use Rattle.std.proofs.Common.{◌+◌, ◌⊎◌, ℕ, suc, refl, sym, subst, add-one}
use Rattle.brc_places.specs.declared.stack_turns.Turn.{Turn}
use Rattle.brc_places.specs.declared.stack_turns.Turn.TheVariants as turns
use Rattle.brc_places.specs.Stack_Turns.{TurnState, TurnsOn}

module _ {S A : Type 0} (Turns : Turn → TurnState S A → TurnState S A → Type 0) where
  pub no_turn : (first : TurnState S A) → TurnsOn Turns 0 first first
  unfolding TurnsOn
  no_turn first = refl

  next_turn : (before : ℕ) (first from last : TurnState S A) → TurnsOn Turns before first from
      → Turns turns.GoesOn from last ⊎ Turns turns.Waits from last → TurnsOn Turns (suc before) first last
  unfolding TurnsOn
  next_turn before first from last made turn = (from, made, turn)

  pub one_more : (before : ℕ) (first from last : TurnState S A) → TurnsOn Turns before first from
      → Turns turns.GoesOn from last ⊎ Turns turns.Waits from last → TurnsOn Turns (before + 1) first last
  one_more before first from last made turn =
      subst (λ (n : ℕ). TurnsOn Turns n first last) (sym (add-one before))
      (next_turn before first from last made turn)
