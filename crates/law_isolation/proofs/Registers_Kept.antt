-- What registers show once one of them is given another handle, or its handle is taken out.
use Rattle.std.proofs.Common.{◌≡◌, ℕ, ◌<◌, Bool, true, false, List, length, Option, Some, None, Ok, Err, get_or}
use Rattle.std.proofs.Common.{slice_index_or, slice_set, refl, sym, ◌∙◌, ap, subst, inl, inr, arith}
use Rattle.std.proofs.lemmas.Bool.{cases_eq, cases_lt}
use Rattle.std.proofs.lemmas.List.{get_or_past, get_or-set_same, get_or-set_other, get_or-replicate, length-set}
use Rattle.brc_words.specs.declared.fault.Fault.TheVariants as faults
use Rattle.brc_plain.specs.Outcomes.{or_fault}
use Rattle.brc_count.specs.law.declared.rule.told.LogItem.{LogItem}
use Rattle.brc_count.specs.Frames.{FrameSeen, HandleSeen, ledger_seen}
use Rattle.brc_handles.specs.Handles.{slot, IsBare}
use Rattle.brc_meaning.specs.declared.reference.Reference.{Reference}
use Rattle.brc_meaning.specs.declared.state.State.{State}
use Rattle.brc_meaning.specs.States.{held, holding, start, no_registers}
use Rattle.law_isolation.specs.Means.{HasAt, HeldAs, ShowsState, Means, MeansBesides, SIXTEEN}

-- ---- one list

-- a register that refers to something holds it
pub held_is : (registers : List (Option Reference)) (r : ℕ) (reference : Reference)
    → slice_index_or registers r None ≡ Some reference → held r registers ≡ Ok reference
held_is registers r reference is = ap (or_fault faults.NoSuchPlace) is

pub held_empty : (registers : List (Option Reference)) (r : ℕ) → slice_index_or registers r None ≡ None
    → held r registers ≡ Err faults.NoSuchPlace
held_empty registers r is = ap (or_fault faults.NoSuchPlace) is

-- past the end there is nothing
pub some_inside : {X : Type 0} (xs : List (Option X)) (r : ℕ) (x : X) → get_or xs r None ≡ Some x → r < length xs
some_inside xs r x is = elim (cases_lt r (length xs)) [
  | inl inside ↦ inside
  | inr past ↦ absurd (let none : None ≡ Some x = sym (get_or_past xs r None past) ∙ is in cc)
]

module _ (n : ℕ) (log : List LogItem) (cells : ℕ → ℕ) (part : ℕ → Bool) where
  -- what a register that has a handle shows
  pub named : (register : Option HandleSeen) (plain : Option Reference) (h : HandleSeen) → register ≡ Some h
      → HeldAs n log cells part register plain
      → (reference : Reference) × (plain ≡ Some reference) × HasAt n log cells part h.place reference
  named register plain h is held = by plain (subst (λ x. HeldAs n log cells part x plain) is held)
    where
      by : (o : Option Reference) → HeldAs n log cells part (Some h) o → (reference : Reference) × (o ≡ Some reference)
          × HasAt n log cells part h.place reference
      by None held = absurd held
      by (Some reference) held = (reference, refl, held)

  -- one register has another handle, and the plain one another reference
  pub held_set : (registers : List (Option HandleSeen)) (plain : List (Option Reference)) (to : ℕ)
      (register : Option HandleSeen) (reference : Option Reference)
      → to < length registers → to < length plain
      → ((r : ℕ) → HeldAs n log cells part (slot registers r) (slice_index_or plain r None))
      → HeldAs n log cells part register reference
      → (r : ℕ) → HeldAs n log cells part (slot (slice_set registers to register) r)
      (slice_index_or (slice_set plain to reference) r None)
  held_set registers plain to register reference inside inside_plain each held r = elim (cases_eq r to) [
    | inl same ↦
        let one : slot (slice_set registers to register) r ≡ register = ap (slot (slice_set registers to register)) same
        ∙ get_or-set_same registers to register None inside in
        let two : slice_index_or (slice_set plain to reference) r None ≡ reference =
        ap (λ k. slice_index_or (slice_set plain to reference) k None) same
        ∙ get_or-set_same plain to reference None inside_plain in
        subst (λ x. HeldAs n log cells part x (slice_index_or (slice_set plain to reference) r None)) (sym one)
        (subst (HeldAs n log cells part register) (sym two) held)
    | inr other ↦
        let one : slot (slice_set registers to register) r ≡ slot registers r =
        get_or-set_other registers to r register None other in
        let two : slice_index_or (slice_set plain to reference) r None ≡ slice_index_or plain r None =
        get_or-set_other plain to r reference None other in
        subst (λ x. HeldAs n log cells part x (slice_index_or (slice_set plain to reference) r None)) (sym one)
        (subst (HeldAs n log cells part (slot registers r)) (sym two) (each r))
  ]

module _ {A : Type 0} where
  -- ---- one way of showing

  pub shown_in : (base : ℕ) (cells : ℕ → ℕ) (part : ℕ → Bool) (frame : FrameSeen A)
      (registers : List (Option HandleSeen)) (s : State A) (r : ℕ) (h : HandleSeen)
      → ShowsState base cells part frame registers s → slot registers r ≡ Some h
      → (reference : Reference) × (slice_index_or s.registers r None ≡ Some reference) × HasAt frame.heap.cells
      frame.seat.log cells part h.place reference
  shown_in base cells part frame registers s r h shows is =
      named frame.heap.cells frame.seat.log cells part (slot registers r) (slice_index_or s.registers r None) h is
      (shows.held r)

  pub shows_set : (base : ℕ) (cells : ℕ → ℕ) (part : ℕ → Bool) (frame : FrameSeen A)
      (registers : List (Option HandleSeen)) (s : State A) (to : ℕ) (register : Option HandleSeen)
      (reference : Option Reference)
      → ShowsState base cells part frame registers s → to < SIXTEEN
      → HeldAs frame.heap.cells frame.seat.log cells part register reference
      → ShowsState base cells part frame (slice_set registers to register)
      (record s { registers = holding to reference s.registers })
  shows_set base cells part frame registers s to register reference shows below held = record {
    lives = shows.lives;
    held = held_set frame.heap.cells frame.seat.log cells part registers s.registers to register reference
        (omega (arith, below, shows.same_size)) (omega (arith, below, shows.size)) shows.held held;
    size = length-set s.registers to reference ∙ shows.size;
    same_size = length-set registers to register ∙ shows.same_size;
    made = shows.made;
  }

  -- ---- what is meant

  -- the loose handle may be forgotten
  pub besides_means : (base : ℕ) (frame : FrameSeen A) (registers : List (Option HandleSeen)) (s : State A)
      (loose : HandleSeen) (reference : Reference)
      → MeansBesides base frame registers s loose reference → Means base frame registers s
  besides_means base frame registers s loose reference means =
      record { cells = means.cells; part = means.part; shows = means.shows }

  -- the register holds it now, and no more what it held
  pub means_held : (base : ℕ) (frame : FrameSeen A) (registers : List (Option HandleSeen)) (s : State A) (to : ℕ)
      (handle : HandleSeen) (reference : Reference)
      → MeansBesides base frame registers s handle reference → to < SIXTEEN
      → Means base frame (slice_set registers to (Some handle))
      (record s { registers = holding to (Some reference) s.registers })
  means_held base frame registers s to handle reference means below = record {
    cells = means.cells;
    part = means.part;
    shows = shows_set base means.cells means.part frame registers s to (Some handle) (Some reference) means.shows below
        means.has;
  }

  -- what it held is loose
  pub besides_held : (base : ℕ) (frame : FrameSeen A) (registers : List (Option HandleSeen)) (s : State A) (to : ℕ)
      (handle gone : HandleSeen) (reference : Reference)
      → MeansBesides base frame registers s handle reference → slot registers to ≡ Some gone
      → (was : Reference) × (slice_index_or s.registers to None ≡ Some was)
      × MeansBesides base frame (slice_set registers to (Some handle))
      (record s { registers = holding to (Some reference) s.registers }) gone was
  besides_held base frame registers s to handle gone reference means is =
      let shown : (was : Reference) × (slice_index_or s.registers to None ≡ Some was) × HasAt frame.heap.cells
      frame.seat.log means.cells means.part gone.place was = shown_in base means.cells means.part frame registers s to
      gone means.shows is in
      let below : to < SIXTEEN = omega (arith, some_inside registers to gone is, means.shows.same_size) in (
        shown.0,
        shown.1,
        record {
          cells = means.cells;
          part = means.part;
          shows = shows_set base means.cells means.part frame registers s to (Some handle) (Some reference) means.shows
              below means.has;
          has = shown.2;
        },
      )

  -- its handle is taken out of a register
  pub means_taken : (base : ℕ) (frame : FrameSeen A) (registers : List (Option HandleSeen)) (s : State A) (from : ℕ)
      (h : HandleSeen)
      → Means base frame registers s → slot registers from ≡ Some h
      → (reference : Reference) × (slice_index_or s.registers from None ≡ Some reference)
      × MeansBesides base frame (slice_set registers from None) (record s { registers = holding from None s.registers })
      h reference
  means_taken base frame registers s from h means is =
      let shown : (reference : Reference) × (slice_index_or s.registers from None ≡ Some reference)
      × HasAt frame.heap.cells frame.seat.log means.cells means.part h.place reference =
      shown_in base means.cells means.part frame registers s from h means.shows is in
      let below : from < SIXTEEN = omega (arith, some_inside registers from h is, means.shows.same_size) in (
        shown.0,
        shown.1,
        record {
          cells = means.cells;
          part = means.part;
          shows = shows_set base means.cells means.part frame registers s from None None means.shows below tt;
          has = shown.2;
        },
      )

  -- a handle is put back into the register that it was taken from
  pub means_register : (base : ℕ) (frame : FrameSeen A) (registers : List (Option HandleSeen)) (s : State A) (r : ℕ)
      (h : HandleSeen)
      → Means base frame registers s → slot registers r ≡ Some h
      → (reference : Reference) × (slice_index_or s.registers r None ≡ Some reference) × MeansBesides base frame
      registers s h reference
  means_register base frame registers s r h means is =
      let shown : (reference : Reference) × (slice_index_or s.registers r None ≡ Some reference)
      × HasAt frame.heap.cells frame.seat.log means.cells means.part h.place reference =
      shown_in base means.cells means.part frame registers s r h means.shows is in
      (shown.0, shown.1, record { cells = means.cells; part = means.part; shows = means.shows; has = shown.2 })

  -- an empty register is an empty one
  pub means_empty : (base : ℕ) (frame : FrameSeen A) (registers : List (Option HandleSeen)) (s : State A) (r : ℕ)
      → Means base frame registers s → slot registers r ≡ None → slice_index_or s.registers r None ≡ None
  means_empty base frame registers s r means is =
      by (slice_index_or s.registers r None)
      (subst (λ x. HeldAs frame.heap.cells frame.seat.log means.cells means.part x (slice_index_or s.registers r None))
      is (means.shows.held r))
    where
      by : (o : Option Reference) → HeldAs frame.heap.cells frame.seat.log means.cells means.part None o → o ≡ None
      by None held = refl
      by (Some reference) held = absurd held

  -- ---- as a section begins

  pub means_begins : (frame : FrameSeen A) (registers : List (Option HandleSeen)) → IsBare registers
      → length registers ≡ SIXTEEN → Means (ledger_seen frame).allocs frame registers start
  means_begins frame registers bare size = record {
    cells = λ place. place;
    part = λ place. false;
    shows = record {
      lives = record {
        there = λ place of. absurd (let bad : false ≡ true = of in cc);
        apart = λ p q of. absurd (let bad : false ≡ true = of in cc);
      };
      held = λ r. subst (λ x. HeldAs frame.heap.cells frame.seat.log (λ place. place) (λ place. false) x
          (slice_index_or no_registers r None)) (sym (bare.places r))
          (subst (HeldAs frame.heap.cells frame.seat.log (λ place. place) (λ place. false) None)
          (sym (none_held r)) tt);
      size = refl;
      same_size = size;
      made = omega arith;
    };
  }
    where
      none_held : (r : ℕ) → slice_index_or no_registers r None ≡ None
      none_held r = elim (cases_lt r 16) [
        | inl inside ↦ get_or-replicate 16 r None None inside
        | inr past ↦ get_or_past no_registers r None past
      ]
