-- The registers, the objects and the printed bytes, and how instructions change them.
use Rattle.std.specs.Prelude.{ℕ, ℤ, List, ◌++◌, [], ◌∷◌, length, if◌then◌else◌, Option, Some, None, Result, Ok}
use Rattle.std.specs.Prelude.{slice_get, slice_set, slice_index_or, replicate}
use Rattle.brc_words.specs.declared.fault.Fault.{Fault}
use Rattle.brc_words.specs.declared.fault.Fault.TheVariants as faults
use Rattle.brc_plain.specs.Outcomes.{or_fault}
use Rattle.brc_meaning.specs.declared.reference.Reference.{Reference}
use Rattle.brc_meaning.specs.declared.reference.Reference.TheVariants as references
use Rattle.brc_meaning.specs.declared.object.Object.{Object}
use Rattle.brc_meaning.specs.declared.object.Object.TheVariants as objects
use Rattle.brc_meaning.specs.declared.state.State.{State}
use Rattle.brc_meaning.specs.Objects.{is_small, text_in}
use Rattle.brc_meaning.specs.Outcomes.{◌>>=◌}

-- ---- registers

-- r0 to r15, all empty
abbrev pub no_registers : List (Option Reference)
no_registers = replicate 16 None

-- the reference that a register holds; an empty one is no place to read from
abbrev pub held : ℕ → List (Option Reference) → Result Reference Fault
held register registers = or_fault faults.NoSuchPlace (slice_index_or registers register None)

-- the register holds this, and no more what it held
abbrev pub holding : ℕ → Option Reference → List (Option Reference) → List (Option Reference)
holding register reference registers = slice_set registers register reference

module _ {A : Type 0} where
  -- ---- objects

  -- the object that a reference means; there always is one (`references_mean_objects`)
  abbrev pub meant : Reference → List (Object A) → Option (Object A)
  meant (references.Small number) made = Some (objects.Int number)
  meant (references.Object place) made = slice_get made place

  -- what the object that is meant is asked for
  abbrev pub asked : {X : Type 0} → (Object A → Result X Fault) → Reference → List (Object A) → Result X Fault
  asked ask reference made = or_fault faults.WrongKind (meant reference made) >>= ask

  -- another object in its place
  abbrev pub changed : Reference → Object A → List (Object A) → List (Object A)
  changed (references.Small number) object made = made
  changed (references.Object place) object made = slice_set made place object

  -- a call on the object that is meant: its answer, and all objects after it
  abbrev pub calling : (Object A → Result (Option Reference × Object A) Fault) → Reference → List (Object A)
      → Result (Option Reference × List (Object A)) Fault
  calling call reference made =
      asked call reference made >>= λ done. Ok (done.0, changed reference done.1 made)

  -- its line is printed
  abbrev pub printing : Reference → List (Object A) → List ℕ → Result (List ℕ) Fault
  printing reference made printed =
      asked (λ object. Ok (text_in object)) reference made >>= λ text. Ok (printed ++ (text ++ 10 ∷ []))

  -- ---- states

  -- as a section starts
  abbrev pub start : State A
  start = record { registers = no_registers; objects = []; printed = [] }

  abbrev pub with_register : ℕ → Option Reference → State A → State A
  with_register to reference s =
      record { registers = holding to reference s.registers; objects = s.objects; printed = s.printed }

  -- a new object comes last, and the register holds it
  abbrev pub with_object : Object A → ℕ → State A → State A
  with_object object to s = record {
    registers = holding to (Some (references.Object (length s.objects))) s.registers;
    objects = s.objects ++ object ∷ [];
    printed = s.printed;
  }

  -- the register holds an integer: one that is there always, or a new object
  abbrev pub with_integer : ℤ → ℕ → State A → State A
  with_integer number to s =
      if is_small number then with_register to (Some (references.Small number)) s
      else with_object (objects.Int number) to s

  -- a call on what one register holds; the answer goes to another
  abbrev pub called : (Object A → Result (Option Reference × Object A) Fault) → ℕ → ℕ → State A → Result (State A) Fault
  called call container to s = do
    reference ← held container s.registers
    done ← calling call reference s.objects
    Ok (record { registers = holding to done.0 s.registers; objects = done.1; printed = s.printed })
