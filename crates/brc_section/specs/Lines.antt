-- What the function of each kind of line ensures.
use Rattle.std.specs.Prelude.{◌≡◌, ◌≢◌, List, Option, Result, IfErr}
use Rattle.brc_words.specs.declared.fault.Fault.{Fault}
use Rattle.brc_words.specs.declared.fault.Fault.TheVariants as faults
use Rattle.brc_script.specs.declared.instruction.Instruction.{Instruction}
use Rattle.brc_count.specs.Frames.{FrameSeen, HandleSeen}
use Rattle.brc_count.specs.law.living.Later.{IsLater}
use Rattle.brc_instructions.specs.Registers.{OwnsRegisters}
use Rattle.brc_section.specs.Stepping.{FollowsOwn, WantsOfOwn}

module _ {A : Type 0} where
  -- A line with this instruction was done, or refused. The parts are the clauses of `Execute`.
  pub record Led (old new : FrameSeen A) (before now : List (Option HandleSeen)) (instruction : Instruction A)
      (result : Result (Unit {0}) Fault) : Type 0 where
    pub stands : OwnsRegisters new now
    pub heap : new.heap ≡ old.heap
    pub waits : IfErr result (λ fault. fault ≢ faults.Busy)
    pub later : IsLater old.seat.log new.seat.log
    pub why : IfErr result (WantsOfOwn instruction old new)
    pub follows : FollowsOwn instruction old new before now result
