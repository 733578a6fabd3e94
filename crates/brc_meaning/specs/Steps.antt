-- What each instruction does. Registers are read before all else, so an empty one is told first; a result replaces what
-- its register held.
use Rattle.std.specs.Prelude.{ℤ, pos, ◌+ℤ◌, [], if◌then◌else◌, Some, None, Result, Ok, Err}
use Rattle.brc_words.specs.declared.fault.Fault.{Fault}
use Rattle.brc_words.specs.declared.fault.Fault.TheVariants as faults
use Rattle.brc_script.specs.declared.instruction.Instruction.{Instruction}
use Rattle.brc_script.specs.declared.instruction.Instruction.TheVariants as instructions
use Rattle.brc_script.specs.Instructions.{is_integer}
use Rattle.brc_meaning.specs.declared.call.Call.TheVariants as calls
use Rattle.brc_meaning.specs.declared.call.KeyedCall.TheVariants as keyed
use Rattle.brc_meaning.specs.declared.object.Object.TheVariants as objects
use Rattle.brc_meaning.specs.declared.state.State.{State}
use Rattle.brc_meaning.specs.Objects.{object_call, keyed_call, entries_in, number_in}
use Rattle.brc_meaning.specs.States.{held, asked, printing, with_register, with_object, with_integer, called}
use Rattle.brc_meaning.specs.Outcomes.{◌>>=◌}

-- the sum of two integers, where it is an i64
abbrev pub integer_sum : ℤ → ℤ → Result ℤ Fault
integer_sum first second =
    if is_integer (first +ℤ second) then Ok (first +ℤ second) else Err faults.Overflow

module _ {A : Type 0} where
  -- the state after an instruction, or the fault by which it is refused
  abbrev pub after : Instruction A → State A → Result (State A) Fault
  after (instructions.Int to number) s = Ok (with_integer number to s)
  after (instructions.Text to text) s = Ok (with_object (objects.Text text) to s)
  after (instructions.List to) s = Ok (with_object (objects.List []) to s)
  after (instructions.Dict to) s = Ok (with_object (objects.Dict []) to s)
  after (instructions.Mailbox to) s = Ok (with_object (objects.Mailbox []) to s)
  after (instructions.Copy to from) s = do
    reference ← held from s.registers
    Ok (with_register to (Some reference) s)
  after (instructions.Drop from) s = do
    reference ← held from s.registers
    Ok (with_register from None s)
  -- what is moved into a container leaves its register
  after (instructions.Push list value) s = do
    given ← held value s.registers
    called (object_call (calls.Push given)) list value s
  after (instructions.Pop to list) s = called (object_call calls.Pop) list to s
  after (instructions.Get to list index) s = called (object_call (calls.Get index)) list to s
  after (instructions.Set list index value) s = do
    given ← held value s.registers
    called (object_call (calls.Set index given)) list value s
  after (instructions.Len to container) s = do
    reference ← held container s.registers
    entries ← asked entries_in reference s.objects
    Ok (with_integer (pos entries) to s)
  after (instructions.Put dict key value) s = do
    given ← held value s.registers
    called (keyed_call key (keyed.Put given)) dict value s
  after (instructions.Find to dict key) s = called (keyed_call key keyed.Find) dict to s
  after (instructions.Delete to dict key) s = called (keyed_call key keyed.Delete) dict to s
  -- no other section can send, so a mailbox without entries is no place to receive from
  after (instructions.Send mailbox value) s = do
    given ← held value s.registers
    called (object_call (calls.Send given)) mailbox value s
  after (instructions.Receive to mailbox) s = called (object_call calls.Receive) mailbox to s
  after (instructions.Add to first second) s = do
    one ← held first s.registers
    other ← held second s.registers
    number ← asked number_in one s.objects
    more ← asked number_in other s.objects
    sum ← integer_sum number more
    Ok (with_integer sum to s)
  after (instructions.Print from) s = do
    reference ← held from s.registers
    printed ← printing reference s.objects s.printed
    Ok (record { registers = s.registers; objects = s.objects; printed = printed })
  -- these don't stand in a private section
  after (instructions.Share name value) s = Ok s
  after (instructions.Fetch to name) s = Ok s
  after (instructions.Unshare to name) s = Ok s
