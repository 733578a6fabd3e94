-- What is read off the objects of registers, and the sum of two integers.
use Rattle.std.proofs.Common.{◌≡◌, ◌∙◌, ℕ, ℤ, pos, Bool, true, false, not, Option, Some, None, is_some, option_copied}
use Rattle.std.proofs.Common.{Bor, Result, Ok, Err, slice_index_or, refl, sym, ap}
use Rattle.brc_words.specs.declared.fault.Fault.{Fault}
use Rattle.brc_words.specs.declared.fault.Fault.TheVariants as faults
use Rattle.brc_plain.specs.Outcomes.{or_fault}
use Rattle.brc_script.specs.declared.instruction.Instruction.TheVariants as instructions
use Rattle.brc_meaning.specs.declared.reference.Reference.{Reference}
use Rattle.brc_meaning.specs.declared.object.Object.{Object}
use Rattle.brc_meaning.specs.declared.state.State.{State}
use Rattle.brc_meaning.specs.Outcomes.{◌>>=◌}
use Rattle.brc_meaning.specs.Objects.{number_in, entries_in}
use Rattle.brc_meaning.specs.States.{asked, with_integer}
use Rattle.brc_meaning.specs.Steps.{after, integer_sum}
use Rattle.law_isolation.specs.Calls.{Finds}
use Rattle.law_isolation.specs.Asked.{read, summed}

module _ {A X : Type 0} (ask : Object A → Result X Fault) (container : ℕ) (s : State A) where
  -- what its object tells
  pub found_read : (result : Result X Fault) → Finds container s (λ object. ask object ≡ result)
      → read ask container s ≡ result
  found_read result finds =
      ap (λ (r : Result Reference Fault). r >>= λ reference. asked ask reference s.objects) finds.refers
      ∙ ap (λ (o : Option (Object A)). or_fault faults.WrongKind o >>= ask) finds.stands
      ∙ finds.is

  -- an empty register tells nothing
  pub nothing_read : slice_index_or s.registers container None ≡ None → read ask container s ≡ Err faults.NoSuchPlace
  nothing_read none =
      ap (λ (o : Option Reference). or_fault faults.NoSuchPlace o >>= λ reference. asked ask reference s.objects) none

-- ---- two registers

-- what was looked at, and isn't nothing
pub filled_of : {X : Type 0} (found : Option (Bor X)) (register : Option X) (empty : Bool)
    → option_copied found ≡ register → is_some found ≡ not empty → empty ≡ false
    → (x : X) × (register ≡ Some x)
filled_of None register empty copied is filled = absurd (let bad : false ≡ true = is ∙ ap not filled in cc)
filled_of (Some at) register empty copied is filled = (at.now, sym copied)

module _ {A : Type 0} (s : State A) where
  -- their sum, by what each has
  abbrev Summed : Option Reference → Option Reference → Result ℤ Fault
  Summed first second = do
    one ← or_fault faults.NoSuchPlace first
    other ← or_fault faults.NoSuchPlace second
    number ← asked number_in one s.objects
    more ← asked number_in other s.objects
    integer_sum number more

  abbrev Read : Option Reference → Result ℤ Fault
  Read register = or_fault faults.NoSuchPlace register >>= λ reference. asked number_in reference s.objects

  by_numbers : (first second : Option Reference) (number more : ℤ) → Read first ≡ Ok number → Read second ≡ Ok more
      → Summed first second ≡ integer_sum number more
  by_numbers None second number more one other = absurd (let bad : Err faults.NoSuchPlace ≡ Ok number = one in cc)
  by_numbers (Some a) None number more one other = absurd (let bad : Err faults.NoSuchPlace ≡ Ok more = other in cc)
  by_numbers (Some a) (Some b) number more one other =
      ap (λ (r : Result ℤ Fault). r >>= λ n. asked number_in b s.objects >>= λ m. integer_sum n m) one
      ∙ ap (λ (r : Result ℤ Fault). r >>= λ m. integer_sum number m) other

  by_first : (first second : Option Reference) (fault : Fault) (b : Reference) → Read first ≡ Err fault
      → second ≡ Some b → Summed first second ≡ Err fault
  by_first None second fault b one other = one
  by_first (Some a) None fault b one other = absurd (let bad : None ≡ Some b = other in cc)
  by_first (Some a) (Some c) fault b one other =
      ap (λ (r : Result ℤ Fault). r >>= λ n. asked number_in c s.objects >>= λ m. integer_sum n m) one

  by_second : (first second : Option Reference) (number : ℤ) (fault : Fault) → Read first ≡ Ok number
      → Read second ≡ Err fault → Summed first second ≡ Err fault
  by_second None second number fault one other = absurd (let bad : Err faults.NoSuchPlace ≡ Ok number = one in cc)
  by_second (Some a) None number fault one other = other
  by_second (Some a) (Some b) number fault one other =
      ap (λ (r : Result ℤ Fault). r >>= λ n. asked number_in b s.objects >>= λ m. integer_sum n m) one
      ∙ ap (λ (r : Result ℤ Fault). r >>= λ m. integer_sum number m) other

  one_empty : (first second : Option Reference) → first ≡ None → Summed first second ≡ Err faults.NoSuchPlace
  one_empty None second none = refl
  one_empty (Some a) second none = absurd (let bad : Some a ≡ None = none in cc)

  other_empty : (first second : Option Reference) → second ≡ None → Summed first second ≡ Err faults.NoSuchPlace
  other_empty None second none = refl
  other_empty (Some a) None none = refl
  other_empty (Some a) (Some b) none = absurd (let bad : Some b ≡ None = none in cc)

  module _ (first second : ℕ) where
    abbrev One : Option Reference
    One = slice_index_or s.registers first None

    abbrev Other : Option Reference
    Other = slice_index_or s.registers second None

    pub numbers_summed : (number more : ℤ) → read number_in first s ≡ Ok number → read number_in second s ≡ Ok more
        → summed first second s ≡ integer_sum number more
    numbers_summed number more = by_numbers One Other number more

    pub first_refused : (fault : Fault) (b : Reference) → read number_in first s ≡ Err fault
        → slice_index_or s.registers second None ≡ Some b → summed first second s ≡ Err fault
    first_refused fault b = by_first One Other fault b

    pub second_refused : (number : ℤ) (fault : Fault) → read number_in first s ≡ Ok number
        → read number_in second s ≡ Err fault → summed first second s ≡ Err fault
    second_refused number fault = by_second One Other number fault

    pub first_empty : slice_index_or s.registers first None ≡ None → summed first second s ≡ Err faults.NoSuchPlace
    first_empty = one_empty One Other

    pub second_empty : slice_index_or s.registers second None ≡ None → summed first second s ≡ Err faults.NoSuchPlace
    second_empty = other_empty One Other

  -- ---- the instructions

  -- the same steps, one after another
  joined : (first second : Option Reference) (to : ℕ)
      → (or_fault faults.NoSuchPlace first >>= λ one. or_fault faults.NoSuchPlace second >>= λ other. asked number_in
      one s.objects >>= λ number.
      asked number_in other s.objects >>= λ more. integer_sum number more >>= λ sum. Ok (with_integer sum to s))
      ≡ (Summed first second >>= λ sum. Ok (with_integer sum to s))
  joined None second to = refl
  joined (Some a) None to = refl
  joined (Some a) (Some b) to = by (asked number_in a s.objects) (asked number_in b s.objects)
    where
      by : (one other : Result ℤ Fault)
          → (one >>= λ number. other >>= λ more. integer_sum number more >>= λ sum. Ok (with_integer sum to s))
          ≡ ((one >>= λ number. other >>= λ more. integer_sum number more) >>= λ sum. Ok (with_integer sum to s))
      by (Err fault) other = refl
      by (Ok number) (Err fault) = refl
      by (Ok number) (Ok more) = refl

  pub adds : (to first second : ℕ) (outcome : Result ℤ Fault) → summed first second s ≡ outcome
      → after (instructions.Add to first second) s ≡ (outcome >>= λ sum. Ok (with_integer sum to s))
  adds to first second outcome is =
      joined (slice_index_or s.registers first None) (slice_index_or s.registers second None) to
      ∙ ap (λ (r : Result ℤ Fault). r >>= λ sum. Ok (with_integer sum to s)) is

  counted : (register : Option Reference) (to : ℕ)
      → (or_fault faults.NoSuchPlace register >>= λ reference. asked entries_in reference s.objects >>= λ entries. Ok
      (with_integer (pos entries) to s))
      ≡ ((or_fault faults.NoSuchPlace register >>= λ reference. asked entries_in reference s.objects) >>= λ entries. Ok
      (with_integer (pos entries) to s))
  counted None to = refl
  counted (Some a) to = refl

  pub counts : (to container : ℕ) (outcome : Result ℕ Fault) → read entries_in container s ≡ outcome
      → after (instructions.Len to container) s ≡ (outcome >>= λ entries. Ok (with_integer (pos entries) to s))
  counts to container outcome is =
      counted (slice_index_or s.registers container None) to
      ∙ ap (λ (r : Result ℕ Fault). r >>= λ entries. Ok (with_integer (pos entries) to s)) is
