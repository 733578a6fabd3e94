-- No instruction leads out of a part that registers and objects refer into, but to what it makes.
use Rattle.std.proofs.Common.{◌≡◌, nat_le, Bool, true, ℕ, zero, suc, ◌≤◌, List, [], ◌∷◌, ◌++◌, length, set, Option}
use Rattle.std.proofs.Common.{Some, None, Result, Ok, Err, IfOk, slice_get, slice_index_or, length-set, arith, refl}
use Rattle.std.proofs.Common.{subst, inl, inr, ◌⊎◌}
use Rattle.std.specs.List.{All}
use Rattle.std.proofs.lemmas.List.Elements.{All-head, All-tail, All-set, All-weaker, All-replicate}
use Rattle.std.proofs.lemmas.Bool.{or_cases, or_left, or_right, leb-true, le-leb}
use Rattle.std.proofs.lemmas.Option.{slice_get_within}
use Rattle.brc_words.specs.declared.fault.Fault.{Fault}
use Rattle.brc_words.specs.declared.fault.Fault.TheVariants as faults
use Rattle.brc_plain.specs.Outcomes.{or_fault}
use Rattle.brc_script.specs.declared.instruction.Instruction.{Instruction}
use Rattle.brc_script.specs.Instructions.{NumberedLine}
use Rattle.brc_meaning.specs.declared.reference.Reference.{Reference}
use Rattle.brc_meaning.specs.declared.reference.Reference.TheVariants as references
use Rattle.brc_meaning.specs.declared.object.Object.{Object}
use Rattle.brc_meaning.specs.declared.state.State.{State}
use Rattle.brc_meaning.specs.Outcomes.{◌>>=◌}
use Rattle.brc_meaning.specs.States.{held, holding, meant, asked, changed, calling, start, with_register, with_object}
use Rattle.brc_meaning.specs.States.{called}
use Rattle.brc_meaning.specs.Steps.{after}
use Rattle.brc_meaning.specs.Sections.{SectionStop, line_after, lines_after}
use Rattle.brc_meaning.specs.Wholes.{Each, ended}
use Rattle.brc_meaning.proofs.Oks.{ok_then, ok_found}
use Rattle.brc_meaning.proofs.WholeCalls.{IsKept, each_weaker}
use Rattle.brc_meaning.proofs.Keeping.{kept_after}
use Rattle.law_means.specs.Within.{In, HoldsIn, IsWithin, joined}
use Rattle.law_means.proofs.Fronts_Law.{adds_line}

-- ---- one list

-- what stands in a list with one more at its end
in_push : {X : Type 0} (xs : List X) (x y : X) (i : ℕ) → slice_get (xs ++ x ∷ []) i ≡ Some y
    → (slice_get xs i ≡ Some y) ⊎ (x ≡ y)
in_push [] x y zero at = inr (cc)
in_push [] x y (suc i) at = absurd (let none : None ≡ Some y = at in cc)
in_push (z ∷ xs) x y zero at = inl at
in_push (z ∷ xs) x y (suc i) at = in_push xs x y i at

-- or with one exchanged
in_set : {X : Type 0} (xs : List X) (j : ℕ) (x y : X) (i : ℕ) → slice_get (set xs j x) i ≡ Some y
    → (slice_get xs i ≡ Some y) ⊎ (x ≡ y)
in_set [] j x y i at = inl at
in_set (z ∷ xs) zero x y zero at = inr (cc)
in_set (z ∷ xs) zero x y (suc i) at = inl at
in_set (z ∷ xs) (suc j) x y zero at = inl at
in_set (z ∷ xs) (suc j) x y (suc i) at = in_set xs j x y i at

-- ---- a larger part

in_more : (part more : ℕ → Bool) → ((place : ℕ) → part place ≡ true → more place ≡ true) → (reference : Reference)
    → In part reference → In more reference
in_more part more less (references.Small number) here = tt
in_more part more less (references.Object place) here = less place here

holds_more : (part more : ℕ → Bool) → ((place : ℕ) → part place ≡ true → more place ≡ true) → (held : Option Reference)
    → HoldsIn part held → HoldsIn more held
holds_more part more less (Some reference) here = in_more part more less reference here
holds_more part more less None here = tt

-- ---- what registers hold

or_none : (part : ℕ → Bool) (register : ℕ) (registers : List (Option Reference)) → All (HoldsIn part) registers
    → HoldsIn part (slice_index_or registers register None)
or_none part register [] all = tt
or_none part zero (held ∷ registers) all = All-head (HoldsIn part) held registers all
or_none part (suc register) (held ∷ registers) all = or_none part register registers
    (All-tail (HoldsIn part) held registers all)

module _ {A : Type 0} (part : ℕ → Bool) (s : State A) (within : IsWithin part s) where
  -- the part, with what is made from now on
  abbrev pub now : ℕ → Bool
  now = joined (length s.objects) part

  each_now : (object : Object A) → Each (In part) object → Each (In now) object
  each_now object each = each_weaker (In part) (In now)
      (in_more part now (λ place here. or_left (part place) (nat_le (length s.objects) place) here)) object each

  registers_now : All (HoldsIn now) s.registers
  registers_now = All-weaker (HoldsIn part) (HoldsIn now)
      (holds_more part now (λ place here. or_left (part place) (nat_le (length s.objects) place) here)) s.registers
      within.registers

  -- objects that were there before refer into the part
  objects_now : (made : List (Object A)) → length made ≡ length s.objects
      → ((place : ℕ) (object : Object A) → part place ≡ true → slice_get made place ≡ Some object
      → Each (In part) object)
      → (place : ℕ) (object : Object A) → now place ≡ true → slice_get made place ≡ Some object → Each (In now) object
  objects_now made same closed place object inside at =
      elim (or_cases (part place) (nat_le (length s.objects) place) inside) [
        | inl here ↦ each_now object (closed place object here at)
        | inr late ↦ absurd (omega (
          arith,
          leb-true (length s.objects) place late,
          same,
          slice_get_within made place object at,
        ))
      ]

  within_same : IsWithin now s
  within_same = record { registers = registers_now; objects = objects_now s.objects refl within.objects }

  within_register : (to : ℕ) (reference : Option Reference) → HoldsIn part reference
      → IsWithin now (with_register to reference s)
  within_register to reference here = record {
    registers = All-set (HoldsIn now) s.registers to reference
        (holds_more part now (λ place here. or_left (part place) (nat_le (length s.objects) place) here) reference here)
        registers_now;
    objects = objects_now s.objects refl within.objects;
  }

  within_object : (to : ℕ) (object : Object A) → Each (In part) object → IsWithin now (with_object object to s)
  within_object to object each = record {
    registers = All-set (HoldsIn now) s.registers to (Some (references.Object (length s.objects)))
        (or_right (part (length s.objects)) (nat_le (length s.objects) (length s.objects))
        (le-leb (length s.objects) (length s.objects) (omega arith))) registers_now;
    objects = λ place other inside at. elim (in_push s.objects object other place at) [
      | inl was ↦ objects_now s.objects refl within.objects place other inside was
      | inr new ↦ subst (Each (In now)) new (each_now object each)
    ];
  }

  -- ---- calls

  meant_within : (reference : Reference) → In part reference
      → IfOk (or_fault faults.WrongKind (meant reference s.objects)) (Each (In part))
  meant_within (references.Small number) here = tt
  meant_within (references.Object place) here = by_found (slice_get s.objects place)
      (λ object at. within.objects place object here at)
    where
      by_found : (o : Option (Object A)) → ((object : Object A) → o ≡ Some object → Each (In part) object)
          → IfOk (or_fault faults.WrongKind o) (Each (In part))
      by_found (Some object) each = each object refl
      by_found None each = tt

  -- what a call answered is in the part, and so is what its objects refer to, which are as many as before
  record IsCalled (done : Option Reference × List (Object A)) : Type 0 where
    answer : HoldsIn part done.0
    objects : (place : ℕ) (object : Object A) → part place ≡ true → slice_get done.1 place ≡ Some object
        → Each (In part) object
    many : length done.1 ≡ length s.objects

  changed_within : (reference : Reference) (answer : Option Reference) (object : Object A) → HoldsIn part answer
      → Each (In part) object → IsCalled (answer, changed reference object s.objects)
  changed_within (references.Small number) answer object here each =
      record { answer = here; objects = within.objects; many = refl }
  changed_within (references.Object changed_place) answer object here each = record {
    answer = here;
    objects = λ place other inside at. elim (in_set s.objects changed_place object other place at) [
      | inl was ↦ within.objects place other inside was
      | inr new ↦ subst (Each (In part)) new each
    ];
    many = length-set s.objects changed_place object;
  }

  within_call : (call : Object A → Result (Option Reference × Object A) Fault) (container to : ℕ)
      → ((object : Object A) → Each (In part) object → IfOk (call object) (IsKept (In part) (Each (In part))))
      → IfOk (called call container to s) (IsWithin now)
  within_call call container to keeps =
      ok_then (held container s.registers)
      (λ reference. calling call reference s.objects >>= λ done. Ok
      (record { registers = holding to done.0 s.registers; objects = done.1; printed = s.printed }))
      (In part) (IsWithin now) (ok_found (slice_index_or s.registers container None) faults.NoSuchPlace (In part)
      (or_none part container s.registers within.registers))
      (λ reference here.
      ok_then (calling call reference s.objects)
      (λ done. Ok (record { registers = holding to done.0 s.registers; objects = done.1; printed = s.printed }))
      IsCalled (IsWithin now)
      (ok_then (asked call reference s.objects) (λ done. Ok (done.0, changed reference done.1 s.objects))
      (IsKept (In part) (Each (In part))) IsCalled
      (ok_then (or_fault faults.WrongKind (meant reference s.objects)) call (Each (In part))
      (IsKept (In part) (Each (In part))) (meant_within reference here) keeps)
      (λ done kept. changed_within reference done.0 done.1 kept.0 kept.1))
      (λ done is. record {
        registers = All-set (HoldsIn now) s.registers to done.0
            (holds_more part now (λ place here. or_left (part place) (nat_le (length s.objects) place) here) done.0
            is.answer) registers_now;
        objects = objects_now done.1 is.many is.objects;
      }))

  -- ---- instructions

  pub within_after : (instruction : Instruction A) → IfOk (after instruction s) (IsWithin now)
  within_after instruction = kept_after s (In part) (IsWithin now) (record {
    held = λ register. ok_found (slice_index_or s.registers register None) faults.NoSuchPlace (In part)
        (or_none part register s.registers within.registers);
    small = λ number. tt;
    same = within_same;
    register = within_register;
    object = within_object;
    call = within_call;
    print = λ more. record { registers = within_same.registers; objects = within_same.objects };
  }) instruction

-- ---- lines

module _ {A : Type 0} where
  -- what is made later is made since
  since : (part : ℕ → Bool) (made more : ℕ) (s : State A) → made ≤ more → IsWithin (joined more (joined made part)) s
      → IsWithin (joined made part) s
  since part made more s less within =
      let old : ℕ → Bool = joined more (joined made part) in
      let new : ℕ → Bool = joined made part in
      let back : (place : ℕ) → old place ≡ true
      → new place ≡ true = λ place inside. elim (or_cases (new place) (nat_le more place) inside) [
        | inl here ↦ here
        | inr late ↦ or_right (part place) (nat_le made place)
            (le-leb made place (omega (arith, leb-true more place late, less)))
      ] in
      record {
        registers = All-weaker (HoldsIn old) (HoldsIn new) (holds_more old new back) s.registers within.registers;
        objects = λ place object inside at. each_weaker (In old) (In new) (in_more old new back) object
            (within.objects place object (or_left (new place) (nat_le more place) inside) at);
      }

  within_line : (part : ℕ → Bool) (r : Result (State A) Fault) (s : State A) (line : ℕ) → IsWithin part s
      → IfOk r (IsWithin (joined (length s.objects) part))
      → IsWithin (joined (length s.objects) part) (ended (elim r [
        | Ok next ↦ Ok next
        | Err fault ↦ Err (record { state = s; fault = fault; line = line })
      ]))
  within_line part (Ok next) s line within there = there
  within_line part (Err fault) s line within there = within_same part s within

  within_later : (part : ℕ → Bool) (s : State A) (r : Result (State A) (SectionStop A)) (next : State A
      → Result (State A) (SectionStop A)) → length s.objects ≤ length (ended r).objects
      → IsWithin (joined (length s.objects) part) (ended r)
      → ((z : State A) → length s.objects ≤ length z.objects → IsWithin (joined (length s.objects) part) z
      → IsWithin (joined (length s.objects) part) (ended (next z)))
      → IsWithin (joined (length s.objects) part) (ended (r >>= next))
  within_later part s (Ok z) next less within later = later z less within
  within_later part s (Err stop) next less within later = within

  pub within_lines : (part : ℕ → Bool) (lines : List (NumberedLine A)) (s : State A) → IsWithin part s
      → IsWithin (joined (length s.objects) part) (ended (lines_after lines s))
  within_lines part [] s within = within_same part s within
  within_lines part (line ∷ lines) s within =
      within_later part s (line_after line s) (λ next. lines_after lines next) (adds_line line s).objects
      (within_line part (after line.instruction s) s line.number within (within_after part s within line.instruction))
      (λ z less inside. since part (length s.objects) (length z.objects) (ended (lines_after lines z)) less
      (within_lines (joined (length s.objects) part) lines z inside))

  pub within_start : (part : ℕ → Bool) → IsWithin {A = A} part start
  within_start part = record {
    registers = All-replicate (HoldsIn part) 16 None tt;
    objects = λ place object inside at. absurd (none_there place object at);
  }
    where
      none_there : (place : ℕ) (object : Object A) → slice_get [] place ≡ Some object → ⊥
      none_there zero object at = let none : None ≡ Some object = at in cc
      none_there (suc place) object at = let none : None ≡ Some object = at in cc
