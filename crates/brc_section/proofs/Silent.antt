-- An instruction that doesn't print leaves what was printed as it is.
use Rattle.std.proofs.Common.{◌≡◌, ℕ, ℤ, pos, Bool, true, false, if◌then◌else◌, Option, Some, Result, Ok, Err}
use Rattle.std.proofs.Common.{IfOk, refl, true≢false}
use Rattle.brc_words.specs.declared.fault.Fault.{Fault}
use Rattle.brc_script.specs.declared.instruction.Instruction.{Instruction}
use Rattle.brc_script.specs.declared.instruction.Instruction.TheVariants as instructions
use Rattle.brc_meaning.specs.declared.reference.Reference.{Reference}
use Rattle.brc_meaning.specs.declared.reference.Reference.TheVariants as references
use Rattle.brc_meaning.specs.declared.call.Call.TheVariants as calls
use Rattle.brc_meaning.specs.declared.call.KeyedCall.TheVariants as keyed
use Rattle.brc_meaning.specs.declared.object.Object.{Object}
use Rattle.brc_meaning.specs.declared.object.Object.TheVariants as objects
use Rattle.brc_meaning.specs.declared.state.State.{State}
use Rattle.brc_meaning.specs.Objects.{is_small, object_call, keyed_call, entries_in, number_in}
use Rattle.brc_meaning.specs.Outcomes.{◌>>=◌}
use Rattle.brc_meaning.specs.States.{held, asked, calling, called, with_integer, with_object, with_register}
use Rattle.brc_meaning.specs.Steps.{after, integer_sum}
use Rattle.brc_section.specs.Stepping.{is_print}

module _ {A : Type 0} where
  through : {X : Type 0} (P : State A → Type 0) (r : Result X Fault) (f : X → Result (State A) Fault)
      → ((x : X) → IfOk (f x) P) → IfOk (r >>= f) P
  through P (Ok x) f all = all x
  through P (Err fault) f all = tt

  -- what was printed is as it was
  abbrev Same : State A → State A → Type 0
  Same s next = next.printed ≡ s.printed

  integer_same : (number : ℤ) (to : ℕ) (s : State A) → Same s (with_integer number to s)
  integer_same number to s = by_size (is_small number)
    where
      by_size : (small : Bool)
          → Same s (if small then with_register to (Some (references.Small number)) s else with_object
          (objects.Int number) to s)
      by_size true = refl
      by_size false = refl

  called_same : (call : Object A → Result (Option Reference × Object A) Fault) (container to : ℕ) (s : State A)
      → IfOk (called call container to s) (Same s)
  called_same call container to s =
      through (Same s) (held container s.registers) _
      (λ reference. through (Same s) (calling call reference s.objects) _ (λ done. refl))

  pub prints_nothing : (instruction : Instruction A) (s : State A) → is_print instruction ≡ false
      → IfOk (after instruction s) (Same s)
  prints_nothing (instructions.Int to number) s silent = integer_same number to s
  prints_nothing (instructions.Text to text) s silent = refl
  prints_nothing (instructions.List to) s silent = refl
  prints_nothing (instructions.Dict to) s silent = refl
  prints_nothing (instructions.Mailbox to) s silent = refl
  prints_nothing (instructions.Copy to from) s silent = through (Same s) (held from s.registers) _ (λ reference. refl)
  prints_nothing (instructions.Drop from) s silent = through (Same s) (held from s.registers) _ (λ reference. refl)
  prints_nothing (instructions.Push list value) s silent =
      through (Same s) (held value s.registers) _ (λ given. called_same (object_call (calls.Push given)) list value s)
  prints_nothing (instructions.Pop to list) s silent = called_same (object_call calls.Pop) list to s
  prints_nothing (instructions.Get to list index) s silent = called_same (object_call (calls.Get index)) list to s
  prints_nothing (instructions.Set list index value) s silent =
      through (Same s) (held value s.registers) _
      (λ given. called_same (object_call (calls.Set index given)) list value s)
  prints_nothing (instructions.Len to container) s silent =
      through (Same s) (held container s.registers) _
      (λ reference. through (Same s) (asked entries_in reference s.objects) _
      (λ entries. integer_same (pos entries) to s))
  prints_nothing (instructions.Put dict key value) s silent =
      through (Same s) (held value s.registers) _ (λ given. called_same (keyed_call key (keyed.Put given)) dict value s)
  prints_nothing (instructions.Find to dict key) s silent = called_same (keyed_call key keyed.Find) dict to s
  prints_nothing (instructions.Delete to dict key) s silent = called_same (keyed_call key keyed.Delete) dict to s
  prints_nothing (instructions.Send mailbox value) s silent =
      through (Same s) (held value s.registers) _
      (λ given. called_same (object_call (calls.Send given)) mailbox value s)
  prints_nothing (instructions.Receive to mailbox) s silent = called_same (object_call calls.Receive) mailbox to s
  prints_nothing (instructions.Add to first second) s silent =
      through (Same s) (held first s.registers) _ (λ one. through (Same s) (held second s.registers) _ (λ other.
      through (Same s) (asked number_in one s.objects) _
      (λ number. through (Same s) (asked number_in other s.objects) _ (λ more.
      through (Same s) (integer_sum number more) _ (λ sum. integer_same sum to s)))))
  prints_nothing (instructions.Print from) s silent = absurd (true≢false silent)
  prints_nothing (instructions.Share name value) s silent = refl
  prints_nothing (instructions.Fetch to name) s silent = refl
  prints_nothing (instructions.Unshare to name) s silent = refl

  -- one that isn't `print`
  pub silent_of : (instruction : Instruction A) → ((from : ℕ) → instruction ≡ instructions.Print from → ⊥)
      → is_print instruction ≡ false
  silent_of (instructions.Int to number) other = refl
  silent_of (instructions.Text to text) other = refl
  silent_of (instructions.List to) other = refl
  silent_of (instructions.Dict to) other = refl
  silent_of (instructions.Mailbox to) other = refl
  silent_of (instructions.Copy to from) other = refl
  silent_of (instructions.Drop from) other = refl
  silent_of (instructions.Push list value) other = refl
  silent_of (instructions.Pop to list) other = refl
  silent_of (instructions.Get to list index) other = refl
  silent_of (instructions.Set list index value) other = refl
  silent_of (instructions.Len to container) other = refl
  silent_of (instructions.Put dict key value) other = refl
  silent_of (instructions.Find to dict key) other = refl
  silent_of (instructions.Delete to dict key) other = refl
  silent_of (instructions.Send mailbox value) other = refl
  silent_of (instructions.Receive to mailbox) other = refl
  silent_of (instructions.Add to first second) other = refl
  silent_of (instructions.Print from) other = absurd (other from refl)
  silent_of (instructions.Share name value) other = refl
  silent_of (instructions.Fetch to name) other = refl
  silent_of (instructions.Unshare to name) other = refl
