-- Turns one after another, each from where the one before it led.
use Rattle.std.specs.Prelude.{◌≡◌, ◌⊎◌, ◌<◌, ℕ, zero, suc, List, [], ◌∷◌, ◌++◌, Option, Some}
use Rattle.brc_count.specs.Frames.{FrameSeen, HandleSeen}
use Rattle.brc_count.specs.Owned.{Loses}

module _ {S : Type 0} (Turn : ℕ → S → S → Type 0) where
  -- so many turns lead from here to there; each is the one after so many
  unfoldable pub LoopTurns : ℕ → S → S → Type 0
  LoopTurns zero first last = last ≡ first
  LoopTurns (suc before) first last = (from : S) × LoopTurns before first from × Turn before from last

  -- fewer than so many were made, and the next one fails
  pub record FailsIn (Fails : ℕ → S → S → Type 0) (most : ℕ) (first last : S) : Type 0 where
    pub made : ℕ
    pub fewer : made < most
    pub from : S
    pub turns : LoopTurns made first from
    pub fails : Fails made from last

module _ {S : Type 0} (Looks : S → S → Type 0) where
  -- some looks lead to where the last one is made
  pub record LooksUntil (Last : S → S → Type 0) (first last : S) : Type 0 where
    pub count : ℕ
    pub from : S
    pub looks : LoopTurns (λ _. Looks) count first from
    pub ends : Last from last

-- with a handle that goes from turn to turn

module _ {P S : Type 0} (Passing : ℕ → P → S → P → S → Type 0) where
  -- one turn, of what has the handle and of the frame
  abbrev pub Passes : ℕ → P × S → P × S → Type 0
  Passes before from to = Passing before from.0 from.1 to.0 to.1

  -- fewer than so many were made, and the next one fails; no handle is left
  pub record FailsPassing (Fails : ℕ → P → S → S → Type 0) (most : ℕ) (first : P × S) (last : S) : Type 0 where
    pub made : ℕ
    pub fewer : made < most
    pub from : P × S
    pub turns : LoopTurns Passes made first from
    pub fails : Fails made from.0 from.1 last

-- with handles that are had one after the other

module _ {A : Type 0} (Gives : ℕ → FrameSeen A → FrameSeen A → HandleSeen → Type 0) where
  -- one turn, of the frame and of the handles: one is given, and stands behind the others
  abbrev pub Fills : ℕ → FrameSeen A × List (Option HandleSeen) → FrameSeen A × List (Option HandleSeen) → Type 0
  Fills before from to =
      (handle : HandleSeen) × Gives before from.0 to.0 handle × (to.1 ≡ from.1 ++ Some handle ∷ [])

  -- one is given, and is released, since a place for it can't be had
  pub record GivesInVain (before : ℕ) (from last : FrameSeen A) : Type 0 where
    pub handle : HandleSeen
    pub given : FrameSeen A
    pub gives : Gives before from given handle
    pub loses : Loses given last handle

  -- fewer than so many were had, and the next one isn't there, or there is no place for it
  pub record LacksIn (Lacks : ℕ → FrameSeen A → FrameSeen A → Type 0) (most : ℕ)
      (first last : FrameSeen A × List (Option HandleSeen)) : Type 0 where
    pub made : ℕ
    pub fewer : made < most
    pub from : FrameSeen A
    pub turns : LoopTurns Fills made first (from, last.1)
    pub lacks : Lacks made from last.0 ⊎ GivesInVain made from last.0
