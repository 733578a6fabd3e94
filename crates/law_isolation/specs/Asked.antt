-- What an instruction's call comes to by the plain meaning, its register's emptiness looked at too; and so the
-- instruction.
use Rattle.std.specs.Prelude.{◌≡◌, ℕ, ℤ, false, List, Option, Some, None, Result, Ok, Err, MatchResult, MatchOption}
use Rattle.brc_words.specs.declared.fault.Fault.{Fault}
use Rattle.brc_count.specs.declared.handed.HandedBack.{HandedBack}
use Rattle.brc_count.specs.Frames.{FrameSeen, HandleSeen}
use Rattle.brc_script.specs.declared.instruction.Instruction.{Instruction}
use Rattle.brc_meaning.specs.declared.reference.Reference.{Reference}
use Rattle.brc_meaning.specs.declared.object.Object.{Object}
use Rattle.brc_meaning.specs.declared.state.State.{State}
use Rattle.brc_meaning.specs.Outcomes.{◌>>=◌}
use Rattle.brc_meaning.specs.Objects.{number_in}
use Rattle.brc_meaning.specs.States.{held, asked, calling}
use Rattle.brc_meaning.specs.Steps.{after, integer_sum}
use Rattle.brc_count.specs.law.living.Living.{OwnLog}
use Rattle.law_isolation.specs.Means.{Means, MeansBesides}
use Rattle.law_isolation.specs.Goes.{is_want, LedAsMeant}
use Rattle.law_isolation.specs.Calls.{with_objects}

module _ {A : Type 0} where
  -- the call on what the register refers to: an empty one is no place
  abbrev pub asking : (Object A → Result (Option Reference × Object A) Fault) → ℕ → State A
      → Result (Option Reference × List (Object A)) Fault
  asking call container s = held container s.registers >>= λ reference. calling call reference s.objects

  module _ (call : Object A → Result (Option Reference × Object A) Fault) (container base : ℕ) (new : FrameSeen A)
      (registers : List (Option HandleSeen)) (s : State A) where
    -- the call has no answer for a register
    pub record AsksNone : Type 0 where
      pub made : List (Object A)
      pub comes : asking call container s ≡ Ok (None, made)
      pub means : Means base new registers (with_objects made s)

    -- the handle has what the call answers
    pub record AsksOne (given : HandleSeen) : Type 0 where
      pub reference : Reference
      pub made : List (Object A)
      pub comes : asking call container s ≡ Ok (Some reference, made)
      pub means : MeansBesides base new registers (with_objects made s) given reference

    -- a refusal, other than for want, is the plain one, and the value's handle has it still
    abbrev pub HandsBack : {V : Type 0} → HandleSeen → Reference → HandedBack V → Type 0
    HandsBack value reference handed =
        is_want handed.fault ≡ false → (asking call container s ≡ Err handed.fault) × MeansBesides base new registers s
        value reference

    abbrev pub TakesAsked : {V : Type 0} → HandleSeen → Reference → Result (Unit {0}) (HandedBack V) → Type 0
    TakesAsked value reference result = MatchResult result (λ _. AsksNone) (HandsBack value reference)

    abbrev pub SwapsAsked : {V : Type 0} → HandleSeen → Reference → Result HandleSeen (HandedBack V) → Type 0
    SwapsAsked value reference result = MatchResult result AsksOne (HandsBack value reference)

    abbrev pub PutsAsked : {V : Type 0} → HandleSeen → Reference → Result (Option HandleSeen) (HandedBack V) → Type 0
    PutsAsked value reference result =
        MatchResult result (λ answer. MatchOption answer AsksNone AsksOne) (HandsBack value reference)

  -- what is read off the object that the register refers to
  abbrev pub read : {X : Type 0} → (Object A → Result X Fault) → ℕ → State A → Result X Fault
  read ask container s = held container s.registers >>= λ reference. asked ask reference s.objects

  -- the sum of two integers; both registers are looked at before either kind is
  abbrev pub summed : ℕ → ℕ → State A → Result ℤ Fault
  summed first second s = do
    one ← held first s.registers
    other ← held second s.registers
    number ← asked number_in one s.objects
    more ← asked number_in other s.objects
    integer_sum number more

  -- From any state that frame and registers meant, the instruction leads as it is meant to. What its calls found is
  -- told by the log after it, at the thread's next poll.
  abbrev pub Follows : FrameSeen A → FrameSeen A → List (Option HandleSeen) → List (Option HandleSeen) → Instruction A
      → Result (Unit {0}) Fault → Type 0
  Follows old new before now instruction answer =
      (base : ℕ) (s : State A) → OwnLog new.heap.cells new.seat.log → Means base old before s
      → LedAsMeant base new now s (after instruction s) answer
