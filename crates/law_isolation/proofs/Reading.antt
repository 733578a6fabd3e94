-- What calls that look at the object of a register tell of the object that the register refers to.
use Rattle.std.proofs.Common.{◌≡◌, ◌≢◌, ◌∙◌, refl, sym, ap, subst, ℕ, ℤ, true, false, List, length, map, Option, Some}
use Rattle.std.proofs.Common.{Result, Ok, Err, IfErr}
use Rattle.std.specs.Prelude.{MatchResult}
use Rattle.std.proofs.lemmas.List.{length-map}
use Rattle.brc_words.specs.declared.fault.Fault.{Fault}
use Rattle.brc_words.specs.declared.fault.Fault.TheVariants as faults
use Rattle.brc_words.specs.declared.entry.Entry.{Entry}
use Rattle.brc_words.proofs.Cells.{cells_long}
use Rattle.brc_words.specs.declared.key.Key.{Key}
use Rattle.brc_words.specs.declared.kind.Kind.{Kind}
use Rattle.brc_words.specs.declared.kind.Kind.TheVariants as kinds
use Rattle.brc_count.specs.law.declared.rule.contents.PlainKey.{PlainKey}
use Rattle.brc_count.specs.law.declared.rule.contents.Contents.{Contents}
use Rattle.brc_count.specs.law.declared.rule.contents.Contents.TheVariants as contents
use Rattle.brc_count.specs.law.rule.Logs.{kind_in}
use Rattle.brc_count.specs.law.rule.Logs as logs
use Rattle.brc_count.specs.table.Shown.{plain_key}
use Rattle.brc_count.specs.Frames.{FrameSeen, HandleSeen}
use Rattle.brc_count.specs.Locking.{KeepsThread, KeepsFrame}
use Rattle.brc_handles.specs.Handles.{slot}
use Rattle.brc_things.specs.Waiting.{Waits}
use Rattle.brc_things.proofs.Waited.{waits_frame}
use Rattle.brc_things.specs.Looking.{IsInt, HoldsBytes, HoldsContainer, LooksAt, RefusedLook, RefusedCopy, LenOf, IntOf}
use Rattle.brc_things.specs.Looking.{BytesOf, KindOf}
use Rattle.brc_things.specs.Called.{Late}
use Rattle.brc_meaning.specs.declared.reference.Reference.{Reference}
use Rattle.brc_meaning.specs.declared.object.Object.{Object}
use Rattle.brc_meaning.specs.declared.object.Object.TheVariants as objects
use Rattle.brc_meaning.specs.declared.state.State.{State}
use Rattle.brc_meaning.specs.Objects.{entries_in, number_in}
use Rattle.brc_count.specs.law.living.Living.{OwnLog}
use Rattle.law_isolation.specs.Means.{entry_meant, contents_meant, ShowsState, Means}
use Rattle.law_isolation.specs.Calls.{kind_meant, Finds}
use Rattle.law_isolation.proofs.Left_Alone.{waits_leave}
use Rattle.law_isolation.proofs.Found_There.{FoundAs, found_as}
use Rattle.law_isolation.proofs.Showing.{shows_left}
use Rattle.law_isolation.proofs.Turning.{LooksOn, look_looks}
use Rattle.law_isolation.proofs.Joining.{all_places}

-- ---- of what stands in a cell, and of the object

module _ {A : Type 0} (cells : ℕ → ℕ) where
  kind_shown : (object : Object A) → kind_in (contents_meant cells object) ≡ kind_meant object
  kind_shown (objects.Int number) = refl
  kind_shown (objects.Text bytes) = refl
  kind_shown (objects.List entries) = refl
  kind_shown (objects.Dict pairs) = refl
  kind_shown (objects.Mailbox entries) = refl

  len_shown : (object : Object A) → HoldsContainer (contents_meant cells object)
      → entries_in object ≡ Ok (length (logs.entries_in (contents_meant cells object)))
  len_shown (objects.Int number) fits = absurd (let bad : false ≡ true = fits in cc)
  len_shown (objects.Text bytes) fits = absurd (let bad : false ≡ true = fits in cc)
  len_shown (objects.List entries) fits = ap Ok (sym (cells_long (map (entry_meant cells) entries)
      ∙ length-map entries (entry_meant cells)))
  len_shown (objects.Dict pairs) fits =
      let shown : List (PlainKey × Entry) =
      map (λ (pair : Key A × Reference). (plain_key pair.0, entry_meant cells pair.1)) pairs in
      ap Ok (sym (cells_long (map (λ (pair : PlainKey × Entry). pair.1) shown)
      ∙ length-map shown (λ (pair : PlainKey × Entry). pair.1)
      ∙ length-map pairs (λ (pair : Key A × Reference). (plain_key pair.0, entry_meant cells pair.1))))
  len_shown (objects.Mailbox entries) fits = ap Ok (sym (cells_long (map (entry_meant cells) entries)
      ∙ length-map entries (entry_meant cells)))

  len_none : (object : Object A) → (HoldsContainer (contents_meant cells object) → ⊥)
      → entries_in object ≡ Err faults.WrongKind
  len_none (objects.Int number) misfits = refl
  len_none (objects.Text bytes) misfits = refl
  len_none (objects.List entries) misfits = absurd (misfits refl)
  len_none (objects.Dict pairs) misfits = absurd (misfits refl)
  len_none (objects.Mailbox entries) misfits = absurd (misfits refl)

  number_shown : (object : Object A) (number : ℤ) → contents.Int number ≡ contents_meant cells object
      → number_in object ≡ Ok number
  number_shown (objects.Int other) number is = ap Ok (let back : contents.Int other ≡ contents.Int number =
      sym is in cc)
  number_shown (objects.Text bytes) number is = absurd (let bad : contents.Int number ≡ contents.Text bytes = is in cc)
  number_shown (objects.List entries) number is =
      absurd (let bad : contents.Int number ≡ contents.«List» (map (entry_meant cells) entries) = is in cc)
  number_shown (objects.Dict pairs) number is =
      absurd (let bad : contents.Int number ≡ contents.Dict
      (map (λ (pair : Key A × Reference). (plain_key pair.0, entry_meant cells pair.1)) pairs) = is in cc)
  number_shown (objects.Mailbox entries) number is =
      absurd (let bad : contents.Int number ≡ contents.Mailbox (map (entry_meant cells) entries) = is in cc)

  number_none : (object : Object A) → (IsInt (contents_meant cells object) → ⊥)
      → number_in object ≡ Err faults.WrongKind
  number_none (objects.Int number) misfits = absurd (misfits refl)
  number_none (objects.Text bytes) misfits = refl
  number_none (objects.List entries) misfits = refl
  number_none (objects.Dict pairs) misfits = refl
  number_none (objects.Mailbox entries) misfits = refl

  text_shown : (object : Object A) (text : List ℕ) → contents.Text text ≡ contents_meant cells object
      → object ≡ objects.Text text
  text_shown (objects.Int number) text is = absurd (let bad : contents.Text text ≡ contents.Int number = is in cc)
  text_shown (objects.Text bytes) text is = ap objects.Text (let back : contents.Text bytes ≡ contents.Text text =
      sym is in cc)
  text_shown (objects.List entries) text is =
      absurd (let bad : contents.Text text ≡ contents.«List» (map (entry_meant cells) entries) = is in cc)
  text_shown (objects.Dict pairs) text is =
      absurd (let bad : contents.Text text ≡ contents.Dict
      (map (λ (pair : Key A × Reference). (plain_key pair.0, entry_meant cells pair.1)) pairs) = is in cc)
  text_shown (objects.Mailbox entries) text is =
      absurd (let bad : contents.Text text ≡ contents.Mailbox (map (entry_meant cells) entries) = is in cc)

-- ---- refusals

module _ {A : Type 0} (old new : FrameSeen A) (k : ℕ) (fits : Contents → Type 0) where
  -- what was found is of another kind
  abbrev Misfits : Type 0
  Misfits = (found : Contents) × LooksAt old new k found × (fits found → ⊥)

  misfit : (fault : Fault) → fault ≢ faults.Busy → RefusedLook old new k fits fault
      → (fault ≡ faults.WrongKind) × Misfits
  misfit faults.Busy busy why = absurd (busy refl)
  misfit faults.WrongKind busy why = (refl, why)
  misfit fault busy why = absurd why

  -- memory for a copy was missing, or what was found is of another kind
  copy_misfit : (fault : Fault) → fault ≢ faults.Busy → RefusedCopy old new k fits fault
      → (found : Contents) × LooksAt old new k found × (fault ≢ faults.OutOfMemory
      → (fault ≡ faults.WrongKind) × (fits found → ⊥))
  copy_misfit faults.Busy busy why = absurd (busy refl)
  copy_misfit faults.OutOfMemory busy why = (why.0, why.1, λ other. absurd (other refl))
  copy_misfit faults.WrongKind busy why = (why.0, why.1, λ other. (refl, why.2))
  copy_misfit fault busy why = absurd why

-- ---- the calls

module _ {A : Type 0} (base : ℕ) (old new : FrameSeen A) (registers : List (Option HandleSeen)) (s : State A)
    (own : OwnLog new.heap.cells new.seat.log)
    (container : ℕ) (h : HandleSeen) (in_register : slot registers container ≡ Some h)
    (means : Means base old registers s) where
  -- a look, after lost tries: the object is what was found, and all means what it did
  looked : (mid : FrameSeen A) → Waits old h.place mid → KeepsThread mid new → KeepsFrame mid new → (found : Contents)
      → LooksAt mid new h.place found
      → (P : Object A → Type 0) → ((object : Object A) → found ≡ contents_meant means.cells object → P object)
      → Means base new registers s × Finds container s P
  looked mid waits keeps_thread keeps_frame found looks P tells =
      let shows : ShowsState base means.cells means.part mid registers s =
      shows_left base means.cells means.part old mid registers s means.shows (waits_leave waits)
      (all_places old mid registers (waits_frame waits).places) in
      let on : LooksOn mid new h.place found = look_looks mid new h.place found own keeps_thread.heap looks in
      let there : FoundAs means.cells means.part s container on.cell found =
      found_as base means.cells means.part mid registers s shows container h in_register on.cell found on.of_place
      on.finds in (
        record {
          cells = means.cells;
          part = means.part;
          shows = shows_left base means.cells means.part mid new registers s shows on.leaves
              (all_places mid new registers keeps_frame.places);
        },
        record {
          reference = there.reference;
          refers = there.refers;
          object = there.object;
          stands = there.stands;
          is = tells there.object there.found_is;
        },
      )

  pub kind_read : (kind : Kind) → Late old h.place (λ mid. KindOf mid new h.place (Ok kind))
      → Means base new registers s × Finds container s (λ object. kind_meant object ≡ kind)
  kind_read kind late =
      let told = late.2.found in
      looked late.0 late.1 late.2.thread late.2.frame told.0 told.1 (λ object. kind_meant object ≡ kind)
      (λ object is. sym (kind_shown means.cells object) ∙ ap kind_in (sym is) ∙ told.2)

  pub len_read : (result : Result ℕ Fault) → Late old h.place (λ mid. LenOf mid new h.place result)
      → IfErr result (λ fault. fault ≢ faults.Busy)
      → Means base new registers s × Finds container s (λ object. entries_in object ≡ result)
  len_read (Ok len) late busy =
      let told = late.2.found in
      looked late.0 late.1 late.2.thread late.2.frame told.0 told.1 (λ object. entries_in object ≡ Ok len)
      (λ object is. len_shown means.cells object (subst HoldsContainer is told.2)
      ∙ ap (λ (found : Contents). Ok (length (logs.entries_in found))) (sym is) ∙ ap Ok told.3)
  len_read (Err fault) late busy =
      let why = misfit late.0 new h.place HoldsContainer fault busy late.2.refused in
      looked late.0 late.1 late.2.thread late.2.frame why.1.0 why.1.1 (λ object. entries_in object ≡ Err fault)
      (λ object is. len_none means.cells object (λ fits. why.1.2 (subst HoldsContainer (sym is) fits))
      ∙ ap Err (sym why.0))

  pub int_read : (result : Result ℤ Fault) → Late old h.place (λ mid. IntOf mid new h.place result)
      → IfErr result (λ fault. fault ≢ faults.Busy)
      → Means base new registers s × Finds container s (λ object. number_in object ≡ result)
  int_read (Ok number) late busy =
      looked late.0 late.1 late.2.thread late.2.frame (contents.Int number) late.2.found
      (λ object. number_in object ≡ Ok number)
      (λ object is. number_shown means.cells object number is)
  int_read (Err fault) late busy =
      let why = misfit late.0 new h.place IsInt fault busy late.2.refused in
      looked late.0 late.1 late.2.thread late.2.frame why.1.0 why.1.1 (λ object. number_in object ≡ Err fault)
      (λ object is. number_none means.cells object (λ fits. why.1.2 (subst IsInt (sym is) fits)) ∙ ap Err (sym why.0))

  pub text_read : (result : Result (List ℕ) Fault) → Late old h.place (λ mid. BytesOf mid new h.place result)
      → IfErr result (λ fault. fault ≢ faults.Busy)
      → Means base new registers s × Finds container s (λ object. MatchResult result
      (λ text. object ≡ objects.Text text)
      (λ fault. fault ≢ faults.OutOfMemory → (fault ≡ faults.WrongKind) × (kind_meant object ≢ kinds.Text)))
  text_read (Ok text) late busy =
      looked late.0 late.1 late.2.thread late.2.frame (contents.Text text) late.2.found
      (λ object. object ≡ objects.Text text)
      (λ object is. text_shown means.cells object text is)
  text_read (Err fault) late busy =
      let why = copy_misfit late.0 new h.place HoldsBytes fault busy late.2.refused in
      looked late.0 late.1 late.2.thread late.2.frame why.0 why.1 (λ object. fault ≢ faults.OutOfMemory
      → (fault ≡ faults.WrongKind) × (kind_meant object ≢ kinds.Text))
      (λ object is other. (
        (why.2 other).0,
        λ kind. (why.2 other).1 (ap kind_in is
            ∙ kind_shown means.cells object ∙ kind),
      ))
