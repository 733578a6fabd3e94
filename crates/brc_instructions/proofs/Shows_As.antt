-- What is shown of an object is its text by the plain meaning.
use Rattle.std.proofs.Common.{◌≡◌, ◌≢◌, ◌∙◌, ℕ, ℤ, Bool, true, false, List, [], ◌∷◌, ◌++◌, Option, Some, Result, Ok}
use Rattle.std.proofs.Common.{Err, FitsSigned, w64, to_z, of_z, ◌⊎◌, inl, inr, codes, decimal, refl, sym, ap, subst}
use Rattle.std.specs.Fmt.{signed_decimal}
use Rattle.std.proofs.lemmas.Int.{to_z-of_z}
use Rattle.brc_words.specs.declared.fault.Fault.{Fault}
use Rattle.brc_words.specs.declared.fault.Fault.TheVariants as faults
use Rattle.brc_words.specs.declared.kind.Kind.{Kind}
use Rattle.brc_words.specs.declared.kind.Kind.TheVariants as kinds
use Rattle.brc_plain.specs.Outcomes.{or_fault}
use Rattle.brc_count.specs.Frames.{FrameSeen, HandleSeen}
use Rattle.brc_meaning.specs.declared.reference.Reference.{Reference}
use Rattle.brc_meaning.specs.declared.object.Object.{Object}
use Rattle.brc_meaning.specs.declared.object.Object.TheVariants as objects
use Rattle.brc_meaning.specs.declared.state.State.{State}
use Rattle.brc_meaning.specs.Outcomes.{◌>>=◌}
use Rattle.brc_meaning.specs.Objects.{number_in, entries_in, text_in}
use Rattle.brc_meaning.specs.States.{meant, printing}
use Rattle.law_isolation.specs.Means.{Means}
use Rattle.law_isolation.specs.Goes.{is_want}
use Rattle.law_isolation.specs.Calls.{kind_meant, Finds}
use Rattle.brc_instructions.specs.declared.shown.Shown.{Shown}
use Rattle.brc_instructions.specs.declared.shown.Shown.TheVariants as shown
use Rattle.brc_instructions.specs.Printing.{with_line, ShownAs, PrintsAs}

-- ---- kinds

-- the text of a container, by its kind and the number of its entries
abbrev container_text : Kind → ℕ → List ℕ
container_text kinds.List entries = codes "list " ++ decimal entries
container_text kinds.Dict entries = codes "dict " ++ decimal entries
container_text kinds.Mailbox entries = codes "mailbox " ++ decimal entries
container_text _ entries = []

-- a container
abbrev pub has_entries : Kind → Bool
has_entries kinds.List = true
has_entries kinds.Dict = true
has_entries kinds.Mailbox = true
has_entries _ = false

-- a kind that a section's objects have
abbrev pub is_made : Kind → Bool
is_made kinds.Nothing = false
is_made kinds.False = false
is_made kinds.True = false
is_made _ = true

pub none_made : (kind : Kind) → (kind ≡ kinds.Nothing) ⊎ ((kind ≡ kinds.False) ⊎ (kind ≡ kinds.True))
    → is_made kind ≡ false
none_made kind (inl is) = ap is_made is
none_made kind (inr (inl is)) = ap is_made is
none_made kind (inr (inr is)) = ap is_made is

module _ {A : Type 0} where
  -- ---- one object

  number_text : (object : Object A) (number : ℤ) → number_in object ≡ Ok number → text_in object ≡ signed_decimal number
  number_text (objects.Int other) number is = ap signed_decimal (let both : Ok other ≡ Ok number = is in cc)
  number_text (objects.Text bytes) number is = absurd (let bad : Err faults.WrongKind ≡ Ok number = is in cc)
  number_text (objects.List entries) number is = absurd (let bad : Err faults.WrongKind ≡ Ok number = is in cc)
  number_text (objects.Dict pairs) number is = absurd (let bad : Err faults.WrongKind ≡ Ok number = is in cc)
  number_text (objects.Mailbox entries) number is = absurd (let bad : Err faults.WrongKind ≡ Ok number = is in cc)

  number_there : (object : Object A) (fault : Fault) → kind_meant object ≡ kinds.Int → number_in object ≡ Err fault → ⊥
  number_there (objects.Int number) fault kind is = let bad : Ok number ≡ Err fault = is in cc
  number_there (objects.Text bytes) fault kind is = let bad : kinds.Text ≡ kinds.Int = kind in cc
  number_there (objects.List entries) fault kind is = let bad : kinds.List ≡ kinds.Int = kind in cc
  number_there (objects.Dict pairs) fault kind is = let bad : kinds.Dict ≡ kinds.Int = kind in cc
  number_there (objects.Mailbox entries) fault kind is = let bad : kinds.Mailbox ≡ kinds.Int = kind in cc

  entries_text : (object : Object A) (entries : ℕ) → entries_in object ≡ Ok entries
      → text_in object ≡ container_text (kind_meant object) entries
  entries_text (objects.Int number) entries is = absurd (let bad : Err faults.WrongKind ≡ Ok entries = is in cc)
  entries_text (objects.Text bytes) entries is = absurd (let bad : Err faults.WrongKind ≡ Ok entries = is in cc)
  entries_text (objects.List all) entries is = ap (container_text kinds.List) (let both : Ok _ ≡ Ok entries = is in cc)
  entries_text (objects.Dict pairs) entries is = ap (container_text kinds.Dict)
      (let both : Ok _ ≡ Ok entries = is in cc)
  entries_text (objects.Mailbox all) entries is = ap (container_text kinds.Mailbox)
      (let both : Ok _ ≡ Ok entries = is in cc)

  entries_there : (object : Object A) (fault : Fault) → has_entries (kind_meant object) ≡ true
      → entries_in object ≡ Err fault → ⊥
  entries_there (objects.Int number) fault kind is = let bad : false ≡ true = kind in cc
  entries_there (objects.Text bytes) fault kind is = let bad : false ≡ true = kind in cc
  entries_there (objects.List all) fault kind is = let bad : Ok _ ≡ Err fault = is in cc
  entries_there (objects.Dict pairs) fault kind is = let bad : Ok _ ≡ Err fault = is in cc
  entries_there (objects.Mailbox all) fault kind is = let bad : Ok _ ≡ Err fault = is in cc

  kind_made : (object : Object A) → is_made (kind_meant object) ≡ true
  kind_made (objects.Int number) = refl
  kind_made (objects.Text bytes) = refl
  kind_made (objects.List entries) = refl
  kind_made (objects.Dict pairs) = refl
  kind_made (objects.Mailbox entries) = refl

  -- ---- the object of a register

  module _ (r : ℕ) (s : State A) where
    found_as : (P Q : Object A → Type 0) → ((object : Object A) → P object → Q object) → Finds r s P → Finds r s Q
    found_as P Q step finds = record {
      reference = finds.reference;
      refers = finds.refers;
      object = finds.object;
      stands = finds.stands;
      is = step finds.object finds.is;
    }

    -- both times it was the same object
    found_both : (P Q : Object A → Type 0) → Finds r s P → Finds r s Q → Finds r s (λ object. P object × Q object)
    found_both P Q one other =
        let both : Ok one.reference ≡ Ok other.reference = sym one.refers ∙ other.refers in
        let reference : one.reference ≡ other.reference = cc in
        let there : Some other.object ≡ Some one.object = sym other.stands ∙ ap (λ (at : Reference). meant at s.objects)
        (sym reference) ∙ one.stands in
        let object : other.object ≡ one.object = cc in
        record {
          reference = one.reference;
          refers = one.refers;
          object = one.object;
          stands = one.stands;
          is = (one.is, subst Q object other.is);
        }

    abbrev OfKind : Kind → Type 0
    OfKind kind = Finds r s (λ object. kind_meant object ≡ kind)

    shows_number : (number : ℤ) → Finds r s (λ object. number_in object ≡ Ok number)
        → ShownAs r s (Ok (shown.Integer number))
    shows_number number finds = found_as (λ object. number_in object ≡ Ok number)
        (λ object. text_in object ≡ signed_decimal number) (λ object. number_text object number) finds

    -- as the processor holds it
    pub shows_held_number : (number : ℤ) → FitsSigned w64 number → Finds r s (λ object. number_in object ≡ Ok number)
        → ShownAs r s (Ok (shown.Integer (to_z w64 (of_z w64 number))))
    shows_held_number number fits finds =
        shows_number (to_z w64 (of_z w64 number)) (subst (λ (z : ℤ). Finds r s (λ object. number_in object ≡ Ok z))
        (sym (to_z-of_z w64 number fits)) finds)

    pub shows_text : (text : List ℕ) → Finds r s (λ object. object ≡ objects.Text text)
        → ShownAs r s (Ok (shown.Text text))
    shows_text text finds = found_as (λ object. object ≡ objects.Text text) (λ object. text_in object ≡ text)
        (λ object is. ap text_in is) finds

    counted_text : (kind : Kind) (entries : ℕ) → OfKind kind → Finds r s (λ object. entries_in object ≡ Ok entries)
        → Finds r s (λ object. text_in object ≡ container_text kind entries)
    counted_text kind entries of_kind finds =
        found_as (λ object. (kind_meant object ≡ kind) × (entries_in object ≡ Ok entries))
        (λ object. text_in object ≡ container_text kind entries)
        (λ object both. entries_text object entries both.1 ∙ ap (λ (k : Kind). container_text k entries) both.0)
        (found_both (λ object. kind_meant object ≡ kind) (λ object. entries_in object ≡ Ok entries) of_kind finds)

    pub shows_list : (kind : Kind) → kind ≡ kinds.List → OfKind kind → (entries : ℕ)
        → Finds r s (λ object. entries_in object ≡ Ok entries) → ShownAs r s (Ok (shown.List entries))
    shows_list kind is of_kind entries finds = counted_text kinds.List entries (subst OfKind is of_kind) finds

    pub shows_dict : (kind : Kind) → kind ≡ kinds.Dict → OfKind kind → (entries : ℕ)
        → Finds r s (λ object. entries_in object ≡ Ok entries) → ShownAs r s (Ok (shown.Dict entries))
    shows_dict kind is of_kind entries finds = counted_text kinds.Dict entries (subst OfKind is of_kind) finds

    pub shows_mailbox : (kind : Kind) → kind ≡ kinds.Mailbox → OfKind kind → (entries : ℕ)
        → Finds r s (λ object. entries_in object ≡ Ok entries) → ShownAs r s (Ok (shown.Mailbox entries))
    shows_mailbox kind is of_kind entries finds = counted_text kinds.Mailbox entries (subst OfKind is of_kind) finds

    -- ---- refusals

    pub refuses_number : (kind : Kind) → kind ≡ kinds.Int → OfKind kind → (fault : Fault)
        → Finds r s (λ object. number_in object ≡ Err fault) → ShownAs r s (Err fault)
    refuses_number kind is of_kind fault finds =
        let both = found_both (λ object. kind_meant object ≡ kind) (λ object. number_in object ≡ Err fault)
        of_kind finds in
        absurd (number_there both.object fault (both.is.0 ∙ is) both.is.1)

    pub refuses_entries : (kind : Kind) → has_entries kind ≡ true → OfKind kind → (fault : Fault)
        → Finds r s (λ object. entries_in object ≡ Err fault) → ShownAs r s (Err fault)
    refuses_entries kind has of_kind fault finds =
        let both = found_both (λ object. kind_meant object ≡ kind) (λ object. entries_in object ≡ Err fault)
        of_kind finds in
        absurd (entries_there both.object fault (ap has_entries both.is.0 ∙ has) both.is.1)

    -- memory for a copy may be wanting
    pub refuses_text : (kind : Kind) → kind ≡ kinds.Text → OfKind kind → (fault : Fault)
        → Finds r s (λ object. fault ≢ faults.OutOfMemory
        → (fault ≡ faults.WrongKind) × (kind_meant object ≢ kinds.Text)) → ShownAs r s (Err fault)
    refuses_text kind is of_kind fault finds = by (is_want fault) refl
      where
        both : Finds r s (λ object. (kind_meant object ≡ kind) × (fault ≢ faults.OutOfMemory
            → (fault ≡ faults.WrongKind) × (kind_meant object ≢ kinds.Text)))
        both = found_both (λ object. kind_meant object ≡ kind) (λ object. fault ≢ faults.OutOfMemory
            → (fault ≡ faults.WrongKind) × (kind_meant object ≢ kinds.Text)) of_kind finds

        by : (want : Bool) → is_want fault ≡ want → is_want fault ≡ true
        by true want = want
        by false want = absurd ((both.is.1 (λ same. let bad : true ≡ false = ap is_want (sym same) ∙ want in cc)).1
            (both.is.0 ∙ is))

    pub shows_none : (kind : Kind) → is_made kind ≡ false → OfKind kind → (fault : Fault) → ShownAs r s (Err fault)
    shows_none kind none of_kind fault = absurd (let bad : true ≡ false = sym (kind_made of_kind.object)
        ∙ ap is_made of_kind.is ∙ none in cc)

  -- ---- the instruction

  pub prints : (base : ℕ) (frame : FrameSeen A) (registers : List (Option HandleSeen)) (r : ℕ) (s : State A)
      (result : Result (Shown A) Fault)
      → Means base frame registers s × ShownAs r s result → PrintsAs base frame registers r s result
  prints base frame registers r s (Ok shows) told = (
    ap (λ (found : Result Reference Fault). found >>= λ reference. printing reference s.objects s.printed >>= λ printed.
        Ok (record { registers = s.registers; objects = s.objects; printed = printed })) told.1.refers
        ∙ ap (λ (found : Option (Object A)). or_fault faults.WrongKind found >>=
        (λ (object : Object A). Ok (text_in object)) >>= (λ text. Ok (s.printed ++ (text ++ 10 ∷ []))) >>= λ printed. Ok
        (record { registers = s.registers; objects = s.objects; printed = printed })) told.1.stands
        ∙ ap (λ (text : List ℕ). Ok (with_line text s)) told.1.is,
    told.0,
  )
  prints base frame registers r s (Err fault) told = λ own. absurd (let bad : true ≡ false = sym told.1 ∙ own in cc)
