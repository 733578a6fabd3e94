-- Turns over a frame and a stack, one after another, until one is the last.
use Rattle.std.specs.Prelude.{◌≡◌, ◌⊎◌, ℕ, zero, suc, List, Option}
use Rattle.brc_count.specs.Frames.{FrameSeen, HandleSeen}
use Rattle.brc_places.specs.declared.stack_turns.Turn.{Turn}
use Rattle.brc_places.specs.declared.stack_turns.Turn.TheVariants as turns

-- what a turn finds and what it leaves: the step with what is its own, the frame, and the stack
pub record TurnState (S A : Type 0) : Type 0 where
  pub step : S
  pub frame : FrameSeen A
  pub stack : List (Option HandleSeen)

module _ {S A : Type 0} (Turns : Turn → TurnState S A → TurnState S A → Type 0) where
  -- so many turns lead from here to there, each from where the one before led, and another follows each
  unfoldable pub TurnsOn : ℕ → TurnState S A → TurnState S A → Type 0
  TurnsOn zero first last = last ≡ first
  TurnsOn (suc before) first last =
      (from : TurnState S A) × TurnsOn before first from × (Turns turns.GoesOn from last ⊎ Turns turns.Waits from last)

  -- some turns lead to where the last one is made
  pub record TurnsToEnd (first last : TurnState S A) : Type 0 where
    pub count : ℕ
    pub from : TurnState S A
    pub before : TurnsOn count first from
    pub ends : Turns turns.Ends from last
