-- What an instruction comes to, with what it prints, by its plain meaning.
use Rattle.std.specs.Prelude.{◌≡◌, Bool, true, false}
use Rattle.brc_script.specs.declared.instruction.Instruction.{Instruction}
use Rattle.brc_script.specs.declared.instruction.Instruction.TheVariants as instructions
use Rattle.brc_script.specs.Instructions.{is_shared, registers_differ}
use Rattle.brc_instructions.specs.Causes.{Caused}
use Rattle.brc_instructions.specs.Doing.{Refusing, Telling}
use Rattle.law_isolation.specs.Asked.{Follows}

module _ {A : Type 0} where
  -- it prints, and does nothing else
  abbrev pub is_print : Instruction A → Bool
  is_print (instructions.Print from) = true
  is_print _ = false

  -- An instruction that shares nothing, names no register twice and prints nothing leads on as is meant.
  abbrev pub FollowsOwn : Instruction A → Telling A
  FollowsOwn instruction old new before now result = is_shared instruction ≡ false
      → registers_differ instruction ≡ true → is_print instruction ≡ false
      → Follows old new before now instruction result

  -- where one that shares nothing wants room, that has its cause
  abbrev pub WantsOfOwn : Instruction A → Refusing A
  WantsOfOwn instruction old new fault = is_shared instruction ≡ false → Caused old new fault
