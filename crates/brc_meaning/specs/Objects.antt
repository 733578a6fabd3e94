-- Objects, and what the calls on them answer and leave, by the definitions of the plain containers. An object of
-- another kind than the call asks for is the wrong kind.
use Rattle.std.specs.Prelude.{ℕ, ℤ, pos, negsuc, int_le, Bool, ◌&&◌, List, ◌++◌, length, codes, decimal, Option, Some}
use Rattle.std.specs.Prelude.{None, Result, Ok, Err}
use Rattle.std.specs.Fmt.{signed_decimal}
use Rattle.brc_words.specs.declared.fault.Fault.{Fault}
use Rattle.brc_words.specs.declared.fault.Fault.TheVariants as faults
use Rattle.brc_words.specs.declared.key.Key.{Key}
use Rattle.brc_plain.specs.Lists as lists
use Rattle.brc_plain.specs.Queues as queues
use Rattle.brc_plain.specs.Dicts as dicts
use Rattle.brc_meaning.specs.declared.reference.Reference.{Reference}
use Rattle.brc_meaning.specs.declared.call.Call.{Call}
use Rattle.brc_meaning.specs.declared.call.Call.TheVariants as calls
use Rattle.brc_meaning.specs.declared.call.KeyedCall.{KeyedCall}
use Rattle.brc_meaning.specs.declared.call.KeyedCall.TheVariants as keyed
use Rattle.brc_meaning.specs.declared.object.Object.{Object}
use Rattle.brc_meaning.specs.declared.object.Object.TheVariants as objects
use Rattle.brc_meaning.specs.Outcomes.{◌>>=◌}

-- the integers from -5 to 256 are there always, and are no objects that a section makes
abbrev pub is_small : ℤ → Bool
is_small number = int_le (negsuc 4) number && int_le number (pos 256)

-- ---- calls on containers; the answer is for a register, which is emptied where it is nothing

abbrev pub list_call : Call → List Reference → Result (Option Reference × List Reference) Fault
list_call (calls.Push value) entries = lists.push entries value >>= λ done. Ok (None, done.1)
list_call calls.Pop entries = lists.pop entries >>= λ done. Ok (Some done.0, done.1)
list_call (calls.Get index) entries = lists.get entries index >>= λ entry. Ok (Some entry, entries)
list_call (calls.Set index value) entries = lists.set entries index value >>= λ done. Ok (Some done.0, done.1)
list_call _ entries = Err faults.WrongKind

abbrev pub queue_call : Call → List Reference → Result (Option Reference × List Reference) Fault
queue_call (calls.Send value) entries = queues.send entries value >>= λ done. Ok (None, done.1)
queue_call calls.Receive entries = queues.receive entries >>= λ done. Ok (Some done.0, done.1)
queue_call _ entries = Err faults.WrongKind

module _ {A : Type 0} where
  -- the answer of a put is the old value, if there was one
  abbrev pub dict_call : Key A → KeyedCall → List (Key A × Reference)
      → Result (Option Reference × List (Key A × Reference)) Fault
  dict_call key (keyed.Put value) pairs = dicts.put pairs key value
  dict_call key keyed.Find pairs = dicts.find pairs key >>= λ value. Ok (Some value, pairs)
  dict_call key keyed.Delete pairs = dicts.delete pairs key >>= λ done. Ok (Some done.0, done.1)

  abbrev pub object_call : Call → Object A → Result (Option Reference × Object A) Fault
  object_call call (objects.List entries) = list_call call entries >>= λ done. Ok (done.0, objects.List done.1)
  object_call call (objects.Mailbox entries) = queue_call call entries >>= λ done. Ok (done.0, objects.Mailbox done.1)
  object_call call _ = Err faults.WrongKind

  abbrev pub keyed_call : Key A → KeyedCall → Object A → Result (Option Reference × Object A) Fault
  keyed_call key call (objects.Dict pairs) = dict_call key call pairs >>= λ done. Ok (done.0, objects.Dict done.1)
  keyed_call key call _ = Err faults.WrongKind

  -- ---- what is read off an object

  -- the number of entries of a container
  abbrev pub entries_in : Object A → Result ℕ Fault
  entries_in (objects.List entries) = Ok (length entries)
  entries_in (objects.Dict pairs) = Ok (length pairs)
  entries_in (objects.Mailbox entries) = Ok (length entries)
  entries_in _ = Err faults.WrongKind

  abbrev pub number_in : Object A → Result ℤ Fault
  number_in (objects.Int number) = Ok number
  number_in _ = Err faults.WrongKind

  -- as it is printed
  abbrev pub text_in : Object A → List ℕ
  text_in (objects.Int number) = signed_decimal number
  text_in (objects.Text bytes) = bytes
  text_in (objects.List entries) = codes "list " ++ decimal (length entries)
  text_in (objects.Dict pairs) = codes "dict " ++ decimal (length pairs)
  text_in (objects.Mailbox entries) = codes "mailbox " ++ decimal (length entries)
