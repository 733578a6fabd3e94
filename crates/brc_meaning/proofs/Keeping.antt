-- What each instruction keeps, whatever that is: the one dispatch over all instructions. A state owes it that what
-- holds of its references holds of what the parts of an instruction make.
use Rattle.std.proofs.Common.{Bool, true, false, cond, ℕ, ℤ, pos, List, [], ◌∷◌, ◌++◌, Option, Some, None, Result, Ok}
use Rattle.std.proofs.Common.{Err, IfOk, IfSome}
use Rattle.std.proofs.lemmas.List.Elements.{All-nil}
use Rattle.brc_words.specs.declared.fault.Fault.{Fault}
use Rattle.brc_script.specs.declared.instruction.Instruction.{Instruction}
use Rattle.brc_script.specs.declared.instruction.Instruction.TheVariants as instructions
use Rattle.brc_meaning.specs.declared.reference.Reference.{Reference}
use Rattle.brc_meaning.specs.declared.reference.Reference.TheVariants as references
use Rattle.brc_meaning.specs.declared.call.Call.TheVariants as calls
use Rattle.brc_meaning.specs.declared.call.KeyedCall.TheVariants as keyed
use Rattle.brc_meaning.specs.declared.object.Object.{Object}
use Rattle.brc_meaning.specs.declared.object.Object.TheVariants as objects
use Rattle.brc_meaning.specs.declared.state.State.{State}
use Rattle.brc_meaning.specs.Outcomes.{◌>>=◌}
use Rattle.brc_meaning.specs.Objects.{is_small, object_call, keyed_call, entries_in, number_in, text_in}
use Rattle.brc_meaning.specs.States.{held, asked, printing, with_register, with_object, with_integer, called}
use Rattle.brc_meaning.specs.Steps.{after, integer_sum}
use Rattle.brc_meaning.specs.Wholes.{Each}
use Rattle.brc_meaning.proofs.Oks.{ok_then}
use Rattle.brc_meaning.proofs.WholeCalls.{IsKept, object_kept, keyed_kept}

module _ {A : Type 0} where
  -- P is so of what the registers hold, and Q of each state that the parts of an instruction make of this one
  pub record Owes (s : State A) (P : Reference → Type 0) (Q : State A → Type 0) : Type 0 where
    pub held : (register : ℕ) → IfOk (held register s.registers) P
    pub small : (number : ℤ) → P (references.Small number)
    pub same : Q s
    pub register : (to : ℕ) (reference : Option Reference) → IfSome reference P → Q (with_register to reference s)
    pub object : (to : ℕ) (object : Object A) → Each P object → Q (with_object object to s)
    pub call : (call : Object A → Result (Option Reference × Object A) Fault) (container to : ℕ)
        → ((object : Object A) → Each P object → IfOk (call object) (IsKept P (Each P)))
        → IfOk (called call container to s) Q
    pub print : (more : List ℕ)
        → Q (record { registers = s.registers; objects = s.objects; printed = s.printed ++ more })

  module _ (s : State A) (P : Reference → Type 0) (Q : State A → Type 0) (owes : Owes s P Q) where
    either : (b : Bool) (one other : State A) → Q one → Q other → Q (cond b one other)
    either true one other h k = h
    either false one other h k = k

    kept_integer : (to : ℕ) (number : ℤ) → Q (with_integer number to s)
    kept_integer to number =
        either (is_small number) (with_register to (Some (references.Small number)) s)
        (with_object (objects.Int number) to s)
        (owes.register to (Some (references.Small number)) (owes.small number)) (owes.object to (objects.Int number) tt)

    -- with what a register holds, if it holds something
    with_held : (register : ℕ) (next : Reference → Result (State A) Fault)
        → ((reference : Reference) → P reference → IfOk (next reference) Q)
        → IfOk (held register s.registers >>= next) Q
    with_held register next later = ok_then (held register s.registers) next P Q (owes.held register) later

    -- with any answer that is no reference
    with_any : {X : Type 0} (r : Result X Fault) (next : X → Result (State A) Fault) → ((x : X) → IfOk (next x) Q)
        → IfOk (r >>= next) Q
    with_any (Ok x) next later = later x
    with_any (Err fault) next later = tt

    -- a call with a value that goes in
    giving : (container value : ℕ) (call : Reference → Object A → Result (Option Reference × Object A) Fault)
        → ((given : Reference) (object : Object A) → P given → Each P object
        → IfOk (call given object) (IsKept P (Each P)))
        → IfOk (held value s.registers >>= λ given. called (call given) container value s) Q
    giving container value call keeps =
        with_held value (λ given. called (call given) container value s)
        (λ given here. owes.call (call given) container value (λ object each. keeps given object here each))

    kept_sum : (to first second : ℕ) → IfOk (after (instructions.Add to first second) s) Q
    kept_sum to first second =
        let summed : ℤ → Result (State A) Fault = λ sum. Ok (with_integer sum to s) in
        let added : ℤ → ℤ → Result (State A) Fault = λ one other. integer_sum one other >>= summed in
        let second_asked : ℤ → Reference → Result (State A) Fault =
        λ one other. asked number_in other s.objects >>= added one in
        let first_asked : Reference → Reference → Result (State A) Fault =
        λ one other. asked number_in one s.objects >>= λ number. second_asked number other in
        with_any (held first s.registers) (λ one. held second s.registers >>= first_asked one)
        (λ one. with_any (held second s.registers) (first_asked one)
        (λ other. with_any (asked number_in one s.objects) (λ number. second_asked number other)
        (λ number. with_any (asked number_in other s.objects) (added number)
        (λ more. with_any (integer_sum number more) summed (λ sum. kept_integer to sum)))))

    kept_print : (from : ℕ) → IfOk (after (instructions.Print from) s) Q
    kept_print from =
        let next : List ℕ → Result (State A) Fault =
        λ printed. Ok (record { registers = s.registers; objects = s.objects; printed = printed }) in
        with_any (held from s.registers) (λ reference. printing reference s.objects s.printed >>= next)
        (λ reference. printed (asked (λ object. Ok (text_in object)) reference s.objects))
      where
        printed : (text : Result (List ℕ) Fault)
            → IfOk ((text >>= λ text. Ok (s.printed ++ (text ++ 10 ∷ []))) >>= λ printed. Ok
            (record { registers = s.registers; objects = s.objects; printed = printed })) Q
        printed (Ok text) = owes.print (text ++ 10 ∷ [])
        printed (Err fault) = tt

    -- each instruction keeps it
    pub kept_after : (instruction : Instruction A) → IfOk (after instruction s) Q
    kept_after (instructions.Int to number) = kept_integer to number
    kept_after (instructions.Text to text) = owes.object to (objects.Text text) tt
    kept_after (instructions.List to) = owes.object to (objects.List []) (All-nil P)
    kept_after (instructions.Dict to) = owes.object to (objects.Dict []) (All-nil (λ pair. P pair.1))
    kept_after (instructions.Mailbox to) = owes.object to (objects.Mailbox []) (All-nil P)
    kept_after (instructions.Copy to from) =
        with_held from (λ reference. Ok (with_register to (Some reference) s))
        (λ reference here. owes.register to (Some reference) here)
    kept_after (instructions.Drop from) =
        with_held from (λ reference. Ok (with_register from None s)) (λ reference here. owes.register from None tt)
    kept_after (instructions.Push list value) =
        giving list value (λ given. object_call (calls.Push given))
        (λ given object here each. object_kept P (calls.Push given) object here each)
    kept_after (instructions.Pop to list) =
        owes.call (object_call calls.Pop) list to (λ object each. object_kept P calls.Pop object tt each)
    kept_after (instructions.Get to list index) =
        owes.call (object_call (calls.Get index)) list to
        (λ object each. object_kept P (calls.Get index) object tt each)
    kept_after (instructions.Set list index value) =
        giving list value (λ given. object_call (calls.Set index given))
        (λ given object here each. object_kept P (calls.Set index given) object here each)
    kept_after (instructions.Len to container) =
        with_any (held container s.registers)
        (λ reference. asked entries_in reference s.objects >>= λ entries. Ok (with_integer (pos entries) to s))
        (λ reference. with_any (asked entries_in reference s.objects) (λ entries. Ok (with_integer (pos entries) to s))
        (λ entries. kept_integer to (pos entries)))
    kept_after (instructions.Put dict key value) =
        giving dict value (λ given. keyed_call key (keyed.Put given))
        (λ given object here each. keyed_kept P key (keyed.Put given) object here each)
    kept_after (instructions.Find to dict key) =
        owes.call (keyed_call key keyed.Find) dict to (λ object each. keyed_kept P key keyed.Find object tt each)
    kept_after (instructions.Delete to dict key) =
        owes.call (keyed_call key keyed.Delete) dict to (λ object each. keyed_kept P key keyed.Delete object tt each)
    kept_after (instructions.Send mailbox value) =
        giving mailbox value (λ given. object_call (calls.Send given))
        (λ given object here each. object_kept P (calls.Send given) object here each)
    kept_after (instructions.Receive to mailbox) =
        owes.call (object_call calls.Receive) mailbox to (λ object each. object_kept P calls.Receive object tt each)
    kept_after (instructions.Add to first second) = kept_sum to first second
    kept_after (instructions.Print from) = kept_print from
    kept_after (instructions.Share name value) = owes.same
    kept_after (instructions.Fetch to name) = owes.same
    kept_after (instructions.Unshare to name) = owes.same
