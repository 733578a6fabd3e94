-- Jobs that are done, each on a thread of the machine.
use Rattle.std.specs.Prelude.{◌≡◌, ◌+◌, ◌<◌, ℕ, List, length, get_or, Some, IsSome}
use Rattle.std.specs.Fn.{FnReturns, Shared}
use Rattle.brc_loops.specs.declared.errands.Errand.{Errand}

-- It is so of the first of one list and the last of the other, and so on.
pub record InReverse {S T : Type 0} (Is : S → T → Type 0) (ones : List S) (others : List T) : Type 0 where
  pub len : length others ≡ length ones
  pub each : (i j : ℕ) (one : S) (other : T) → i + j + 1 ≡ length ones → Is (get_or ones i one) (get_or others j other)

module _ {J X : Type 0} where
  -- each is done
  abbrev pub AreDone : List (Errand J X) → Type 0
  AreDone errands = (place : ℕ) (errand : Errand J X) → place < length errands
      → IsSome (get_or errands place errand).answer

module _ {F J X : Type 0} (g : Shared F (J × Unit {0}) X) (f : F) where
  -- the errand has what a call at the job answered
  pub record Answers (job : J) (errand : Errand J X) : Type 0 where
    pub answer : X
    pub is : errand.answer ≡ Some answer
    pub call : FnReturns g f (job, tt) answer
