-- What is said of an instruction that was done, or refused, and of what was read.
use Rattle.std.specs.Prelude.{◌≡◌, ℕ, List, Option, Result}
use Rattle.brc_words.specs.declared.fault.Fault.{Fault}
use Rattle.brc_count.specs.Frames.{FrameSeen, HandleSeen}
use Rattle.brc_meaning.specs.declared.state.State.{State}
use Rattle.brc_count.specs.law.living.Living.{OwnLog}
use Rattle.law_isolation.specs.Means.{Means}

-- of the frame before and after it, of the registers before and after it, and of its answer
abbrev pub Telling : Type 0 → Type 1
Telling A = FrameSeen A → FrameSeen A → List (Option HandleSeen) → List (Option HandleSeen) → Result (Unit {0}) Fault
    → Type 0

-- of the frame before and after a refusal, and of its fault
abbrev pub Refusing : Type 0 → Type 1
Refusing A = FrameSeen A → FrameSeen A → Fault → Type 0

-- of the frame before and after it, of the registers, and of what was read
abbrev pub Reading : Type 0 → Type 0 → Type 1
Reading T A = FrameSeen A → FrameSeen A → List (Option HandleSeen) → Result T Fault → Type 0

module _ {T A : Type 0} where
  -- from any state that frame and registers meant it read what is meant, and they mean that state still
  abbrev pub ReadsAs : (State A → Result T Fault) → Reading T A
  ReadsAs meant old new registers result = (base : ℕ) (s : State A) → OwnLog new.heap.cells new.seat.log
      → Means base old registers s → Means base new registers s × (meant s ≡ result)
