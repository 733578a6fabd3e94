-- Each instruction leads from a whole state to a whole state.
use Rattle.std.proofs.Common.{◌≡◌, ℕ, zero, suc, ◌<◌, ◌≤◌, ◌+◌, List, [], ◌∷◌, ◌++◌, length, set, Option, Some, None}
use Rattle.std.proofs.Common.{Result, Ok, Err, IfOk, slice_get, slice_index_or, length-append, length-set, arith, refl}
use Rattle.std.proofs.Common.{sym, subst}
use Rattle.std.specs.List.{All}
use Rattle.std.proofs.lemmas.List.Elements.{All-head, All-tail, All-nil, All-set, All-push, All-weaker, All-replicate}
use Rattle.brc_words.specs.declared.fault.Fault.{Fault}
use Rattle.brc_words.specs.declared.fault.Fault.TheVariants as faults
use Rattle.brc_plain.specs.Outcomes.{or_fault}
use Rattle.brc_script.specs.declared.instruction.Instruction.{Instruction}
use Rattle.brc_script.specs.Instructions.{NumberedLine}
use Rattle.brc_meaning.specs.declared.reference.Reference.{Reference}
use Rattle.brc_meaning.specs.declared.reference.Reference.TheVariants as references
use Rattle.brc_meaning.specs.declared.object.Object.{Object}
use Rattle.brc_meaning.specs.declared.state.State.{State}
use Rattle.brc_meaning.specs.Outcomes.{◌>>=◌}
use Rattle.brc_meaning.specs.States.{held, holding, meant, asked, changed, calling, start, with_register, with_object}
use Rattle.brc_meaning.specs.States.{called}
use Rattle.brc_meaning.specs.Steps.{after}
use Rattle.brc_meaning.specs.Sections.{SectionStop, line_after, lines_after}
use Rattle.brc_meaning.specs.Wholes.{RefersWithin, RegisterIsWhole, ObjectIsWhole, IsWhole, ended}
use Rattle.brc_meaning.proofs.Oks.{ok_then, ok_found, some_at}
use Rattle.brc_meaning.proofs.WholeCalls.{IsKept, each_weaker}
use Rattle.brc_meaning.proofs.Keeping.{kept_after}

-- ---- more objects

more_there : (made more : ℕ) → made ≤ more → (reference : Reference) → RefersWithin made reference
    → RefersWithin more reference
more_there made more less (references.Small number) here = tt
more_there made more less (references.Object place) here = omega arith

more_held : (made more : ℕ) → made ≤ more → (held : Option Reference) → RegisterIsWhole made held
    → RegisterIsWhole more held
more_held made more less (Some reference) here = more_there made more less reference here
more_held made more less None here = tt

-- ---- the parts of a step

or_none : (made register : ℕ) (registers : List (Option Reference)) → All (RegisterIsWhole made) registers
    → RegisterIsWhole made (slice_index_or registers register None)
or_none made register [] all = tt
or_none made zero (held ∷ registers) all = All-head (RegisterIsWhole made) held registers all
or_none made (suc register) (held ∷ registers) all =
    or_none made register registers (All-tail (RegisterIsWhole made) held registers all)

held_there : (made register : ℕ) (registers : List (Option Reference)) → All (RegisterIsWhole made) registers
    → IfOk (held register registers) (RefersWithin made)
held_there made register registers all =
    ok_found (slice_index_or registers register None) faults.NoSuchPlace (RefersWithin made)
    (or_none made register registers all)

module _ {A : Type 0} where
  whole_register : (s : State A) (to : ℕ) (reference : Option Reference) → IsWhole s
      → RegisterIsWhole (length s.objects) reference → IsWhole (with_register to reference s)
  whole_register s to reference whole here = record {
    held = All-set (RegisterIsWhole (length s.objects)) s.registers to reference here whole.held;
    sound = whole.sound;
  }

  whole_object : (s : State A) (to : ℕ) (object : Object A) → IsWhole s → ObjectIsWhole (length s.objects) object
      → IsWhole (with_object object to s)
  whole_object s to object whole sound =
      let made = length s.objects in
      let more = length (s.objects ++ object ∷ []) in
      let one_more : more ≡ made + 1 = length-append s.objects (object ∷ []) in
      let less : made ≤ more = omega arith in
      let last : made < more = omega arith in
      record {
        held =
            All-set (RegisterIsWhole more) s.registers to (Some (references.Object made)) last
            (All-weaker (RegisterIsWhole made) (RegisterIsWhole more)
            (more_held made more less) s.registers whole.held);
        sound =
            All-push (ObjectIsWhole more) s.objects object
            (All-weaker (ObjectIsWhole made) (ObjectIsWhole more)
            (each_weaker (RefersWithin made) (RefersWithin more) (more_there made more less)) s.objects whole.sound)
            (each_weaker (RefersWithin made) (RefersWithin more) (more_there made more less) object sound);
      }

  meant_sound : (reference : Reference) (made : List (Object A)) → All (ObjectIsWhole (length made)) made
      → IfOk (or_fault faults.WrongKind (meant reference made)) (ObjectIsWhole (length made))
  meant_sound (references.Small number) made all = tt
  meant_sound (references.Object place) made all =
      ok_found (slice_get made place) faults.WrongKind (ObjectIsWhole (length made))
      (some_at made place (ObjectIsWhole (length made)) all)

  -- what a call answered is there, and the objects after it are as many, each sound
  abbrev IsCalled : List (Object A) → Option Reference × List (Object A) → Type 0
  IsCalled made done =
      RegisterIsWhole (length made) done.0 × All (ObjectIsWhole (length made)) done.1 × (length done.1 ≡ length made)

  changed_whole : (reference : Reference) (made : List (Object A)) (answer : Option Reference) (object : Object A)
      → All (ObjectIsWhole (length made)) made → RegisterIsWhole (length made) answer
      → ObjectIsWhole (length made) object
      → IsCalled made (answer, changed reference object made)
  changed_whole (references.Small number) made answer object all here sound = (here, all, refl)
  changed_whole (references.Object place) made answer object all here sound =
      (here, All-set (ObjectIsWhole (length made)) made place object sound all, length-set made place object)

  calling_whole : (call : Object A → Result (Option Reference × Object A) Fault) (reference : Reference)
      (made : List (Object A))
      → ((object : Object A) → ObjectIsWhole (length made) object
      → IfOk (call object) (IsKept (RefersWithin (length made)) (ObjectIsWhole (length made))))
      → All (ObjectIsWhole (length made)) made → IfOk (calling call reference made) (IsCalled made)
  calling_whole call reference made keeps all =
      ok_then (asked call reference made) (λ done. Ok (done.0, changed reference done.1 made))
      (IsKept (RefersWithin (length made)) (ObjectIsWhole (length made))) (IsCalled made)
      (ok_then (or_fault faults.WrongKind (meant reference made)) call (ObjectIsWhole (length made))
      (IsKept (RefersWithin (length made)) (ObjectIsWhole (length made))) (meant_sound reference made all) keeps)
      (λ done kept. changed_whole reference made done.0 done.1 all kept.0 kept.1)

  called_whole : (call : Object A → Result (Option Reference × Object A) Fault) (container to : ℕ) (s : State A)
      → ((object : Object A) → ObjectIsWhole (length s.objects) object
      → IfOk (call object) (IsKept (RefersWithin (length s.objects)) (ObjectIsWhole (length s.objects))))
      → IsWhole s → IfOk (called call container to s) IsWhole
  called_whole call container to s keeps whole =
      let made = length s.objects in
      ok_then (held container s.registers)
      (λ reference. calling call reference s.objects >>= λ done.
      Ok (record { registers = holding to done.0 s.registers; objects = done.1; printed = s.printed }))
      (RefersWithin made) IsWhole (held_there made container s.registers whole.held)
      (λ reference here.
      ok_then (calling call reference s.objects)
      (λ done. Ok (record { registers = holding to done.0 s.registers; objects = done.1; printed = s.printed }))
      (IsCalled s.objects) IsWhole (calling_whole call reference s.objects keeps whole.sound)
      (λ done so. record {
        held =
            subst (λ (n : ℕ). All (RegisterIsWhole n) (set s.registers to done.0)) (sym so.2)
            (All-set (RegisterIsWhole made) s.registers to done.0 so.0 whole.held);
        sound = subst (λ (n : ℕ). All (ObjectIsWhole n) done.1) (sym so.2) so.1;
      }))

  -- ---- instructions

  pub whole_after : (instruction : Instruction A) (s : State A) → IsWhole s → IfOk (after instruction s) IsWhole
  whole_after instruction s whole = kept_after s (RefersWithin (length s.objects)) IsWhole (record {
    held = λ register. held_there (length s.objects) register s.registers whole.held;
    small = λ number. tt;
    same = whole;
    register = λ to reference here. whole_register s to reference whole here;
    object = λ to object sound. whole_object s to object whole sound;
    call = λ call container to keeps. called_whole call container to s keeps whole;
    print = λ more. record { held = whole.held; sound = whole.sound };
  }) instruction

  -- ---- lines

  whole_line : (r : Result (State A) Fault) (s : State A) (line : ℕ) → IsWhole s → IfOk r IsWhole
      → IsWhole (ended (elim r [
        | Ok next ↦ Ok next
        | Err fault ↦ Err (record { state = s; fault = fault; line = line })
      ]))
  whole_line (Ok next) s line whole h = h
  whole_line (Err fault) s line whole h = whole

  whole_later : (r : Result (State A) (SectionStop A)) (next : State A → Result (State A) (SectionStop A))
      → IsWhole (ended r)
      → ((s : State A) → IsWhole s → IsWhole (ended (next s))) → IsWhole (ended (r >>= next))
  whole_later (Ok s) next whole later = later s whole
  whole_later (Err stop) next whole later = whole

  whole_lines : (lines : List (NumberedLine A)) (s : State A) → IsWhole s → IsWhole (ended (lines_after lines s))
  whole_lines [] s whole = whole
  whole_lines (line ∷ lines) s whole =
      whole_later (line_after line s) (λ next. lines_after lines next)
      (whole_line (after line.instruction s) s line.number whole (whole_after line.instruction s whole))
      (λ next so. whole_lines lines next so)

  whole_start : IsWhole (start {A = A})
  whole_start = record {
    held = All-replicate (RegisterIsWhole 0) 16 None tt;
    sound = All-nil (ObjectIsWhole 0);
  }

  pub whole_from_start : (lines : List (NumberedLine A)) → IsWhole (ended (lines_after lines start))
  whole_from_start lines = whole_lines lines start whole_start
