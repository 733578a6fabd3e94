-- An instruction is done by the function of its kind.
use Rattle.std.proofs.Common.{◌≡◌, ◌≢◌, ◌∙◌, ℕ, Bool, true, false, not, ◌&&◌, ◌||◌, List, [], ◌∷◌, Option, Result, Ok, Err}
use Rattle.std.proofs.Common.{IfErr, ap, subst, sym}
use Rattle.std.proofs.lemmas.Bool.{eq-eqb, true≢false}
use Rattle.brc_words.specs.declared.fault.Fault.{Fault}
use Rattle.brc_words.specs.declared.fault.Fault.TheVariants as faults
use Rattle.brc_script.specs.declared.instruction.Instruction.{Instruction}
use Rattle.brc_script.specs.Instructions.{is_shared, registers_of, registers_differ, all_differ}
use Rattle.brc_count.specs.Frames.{FrameSeen, HandleSeen}
use Rattle.brc_count.specs.law.living.Later.{IsLater}
use Rattle.law_isolation.specs.Asked.{Follows}
use Rattle.brc_instructions.specs.Causes.{Caused}
use Rattle.brc_instructions.specs.Registers.{OwnsRegisters}
use Rattle.brc_section.specs.Lines.{Led}
use Rattle.brc_section.specs.Stepping.{WantsOfOwn}

module _ {A : Type 0} where
  -- the two registers of an instruction are not the same
  pub two_apart : (instruction : Instruction A) (a b : ℕ) → registers_of instruction ≡ a ∷ b ∷ []
      → registers_differ instruction ≡ true → a ≢ b
  unfolding registers_differ
  two_apart instruction a b names differ equal =
      let two : all_differ (a ∷ b ∷ []) ≡ true
      = subst (λ (registers : List ℕ). all_differ registers ≡ true) names differ
      in absurd (true≢false (sym two ∙ ap (λ (t : Bool). not (t || false) && (not false && true)) (eq-eqb a b equal)))

  -- the cause of a want is told, whatever is shared
  of_own : (instruction : Instruction A) (old new : FrameSeen A) (answer : Result (Unit {0}) Fault)
      → IfErr answer (Caused old new) → IfErr answer (WantsOfOwn instruction old new)
  of_own instruction old new (Ok done) why = tt
  of_own instruction old new (Err fault) why = λ own. why

  -- of one that shares, nothing is told
  of_shared : (instruction : Instruction A) (old new : FrameSeen A) (answer : Result (Unit {0}) Fault)
      → is_shared instruction ≡ true → IfErr answer (WantsOfOwn instruction old new)
  of_shared instruction old new (Ok done) shared = tt
  of_shared instruction old new (Err fault) shared = λ own. absurd (true≢false (sym shared ∙ own))

  module _ {old new : FrameSeen A} {before now : List (Option HandleSeen)} {instruction : Instruction A}
      {answer : Result (Unit {0}) Fault} where
    -- one that shares nothing leads on as is meant
    pub led : OwnsRegisters new now → new.heap ≡ old.heap → IfErr answer (λ fault. fault ≢ faults.Busy)
        → IsLater old.seat.log new.seat.log → IfErr answer (Caused old new)
        → (registers_differ instruction ≡ true → Follows old new before now instruction answer)
        → Led old new before now instruction answer
    led stands heap waits later why follows = record {
      stands = stands;
      heap = heap;
      waits = waits;
      later = later;
      why = of_own instruction old new answer why;
      follows = λ own differ silent. follows differ;
    }

    -- where one leads that shares, no plain meaning tells
    pub led_shared : OwnsRegisters new now → new.heap ≡ old.heap → IfErr answer (λ fault. fault ≢ faults.Busy)
        → IsLater old.seat.log new.seat.log → is_shared instruction ≡ true
        → Led old new before now instruction answer
    led_shared stands heap waits later shared = record {
      stands = stands;
      heap = heap;
      waits = waits;
      later = later;
      why = of_shared instruction old new answer shared;
      follows = λ own. absurd (true≢false (sym shared ∙ own));
    }

    -- the others were told of it
    pub led_stirred : {told : Result (Unit {0}) Fault} → answer ≡ told → Led old new before now instruction told
        → Led old new before now instruction answer
    led_stirred same line = subst (Led old new before now instruction) (sym same) line
