-- What a section waits for, and tries that found nothing.
use Rattle.std.specs.Prelude.{◌≡◌, ◌⊎◌, ℕ, Result, Err}
use Rattle.brc_words.specs.declared.fault.Fault.{Fault}
use Rattle.brc_words.specs.declared.fault.Fault.TheVariants as faults
use Rattle.brc_script.specs.declared.instruction.Instruction.TheVariants as instructions
use Rattle.law_isolation.specs.Asked.{Follows}
use Rattle.brc_instructions.specs.Causes.{Caused}
use Rattle.brc_instructions.specs.Doing.{Refusing, Telling}
use Rattle.brc_section.specs.declared.waiting.AwaitedHere.{AwaitedHere}
use Rattle.brc_section.specs.declared.waiting.AwaitedHere.TheVariants as awaits

-- nothing has the name, or no letter is there
abbrev pub FoundNothing : Result (Unit {0}) Fault → Type 0
FoundNothing tried = (tried ≡ Err faults.NoSuchKey) ⊎ (tried ≡ Err faults.NoSuchPlace)

module _ {A : Type 0} where
  -- Where a letter is awaited, it leads on as `recv` does. Of a name no plain meaning tells.
  abbrev pub FollowsLetter : AwaitedHere A → ℕ → Telling A
  FollowsLetter awaited to old new before now result = (mailbox : ℕ) → awaited ≡ awaits.Letter mailbox
      → Follows old new before now (instructions.Receive to mailbox) result

  -- and a want of room has its cause
  abbrev pub WantsForLetter : AwaitedHere A → Refusing A
  WantsForLetter awaited old new fault = (mailbox : ℕ) → awaited ≡ awaits.Letter mailbox → Caused old new fault
