-- Which plain call, and which instruction, each call on a container stands for.
use Rattle.std.specs.Prelude.{ℕ, [], Option, Result}
use Rattle.brc_words.specs.declared.fault.Fault.{Fault}
use Rattle.brc_script.specs.declared.instruction.Instruction.{Instruction}
use Rattle.brc_script.specs.declared.instruction.Instruction.TheVariants as instructions
use Rattle.brc_count.specs.law.declared.rule.contents.Contents.{Contents}
use Rattle.brc_count.specs.law.declared.rule.contents.Contents.TheVariants as contents
use Rattle.brc_meaning.specs.declared.call.Call.TheVariants as calls
use Rattle.brc_meaning.specs.declared.call.KeyedCall.TheVariants as keyed
use Rattle.brc_meaning.specs.declared.object.Object.{Object}
use Rattle.brc_meaning.specs.declared.reference.Reference.{Reference}
use Rattle.brc_meaning.specs.Objects.{object_call, keyed_call}
use Rattle.brc_instructions.specs.declared.making.Empty.{Empty}
use Rattle.brc_instructions.specs.declared.making.Empty.TheVariants as empties
use Rattle.brc_instructions.specs.declared.taking_out.TakingOut.{TakingOut}
use Rattle.brc_instructions.specs.declared.taking_out.TakingOut.TheVariants as givings
use Rattle.brc_instructions.specs.declared.putting_in.Putting.{Putting}
use Rattle.brc_instructions.specs.declared.putting_in.Putting.TheVariants as takings

-- what an empty container holds
abbrev pub contents_of : Empty → Contents
contents_of empties.List = contents.«List» []
contents_of empties.Dict = contents.Dict []
contents_of empties.Mailbox = contents.Mailbox []

module _ {A : Type 0} where
  abbrev pub makes : Empty → ℕ → Instruction A
  makes empties.List to = instructions.List to
  makes empties.Dict to = instructions.Dict to
  makes empties.Mailbox to = instructions.Mailbox to

  -- what the object that gives comes to
  abbrev pub given_by : TakingOut A → Object A → Result (Option Reference × Object A) Fault
  given_by givings.Pop = object_call calls.Pop
  given_by (givings.Get index) = object_call (calls.Get index)
  given_by givings.Receive = object_call calls.Receive
  given_by (givings.Find key) = keyed_call key.now keyed.Find
  given_by (givings.Delete key) = keyed_call key.now keyed.Delete

  abbrev pub gives : TakingOut A → ℕ → ℕ → Instruction A
  gives givings.Pop to container = instructions.Pop to container
  gives (givings.Get index) to container = instructions.Get to container index
  gives givings.Receive to container = instructions.Receive to container
  gives (givings.Find key) to container = instructions.Find to container key.now
  gives (givings.Delete key) to container = instructions.Delete to container key.now

  -- what the object that takes comes to
  abbrev pub taken_by : Putting A → Reference → Object A → Result (Option Reference × Object A) Fault
  taken_by takings.Push reference = object_call (calls.Push reference)
  taken_by (takings.Set index) reference = object_call (calls.Set index reference)
  taken_by takings.Send reference = object_call (calls.Send reference)
  taken_by (takings.Put key) reference = keyed_call key.now (keyed.Put reference)

  abbrev pub takes : Putting A → ℕ → ℕ → Instruction A
  takes takings.Push container value = instructions.Push container value
  takes (takings.Set index) container value = instructions.Set container index value
  takes takings.Send container value = instructions.Send container value
  takes (takings.Put key) container value = instructions.Put container key.now value
