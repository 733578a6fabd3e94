-- What a frame and its registers mean once an object is made: one object more, in a cell that was no private one.
use Rattle.std.proofs.Common.{◌≡◌, ◌≢◌, ℕ, ◌+◌, ◌==◌, ◌^◌, ◌&&◌, Bool, true, false, if◌then◌else◌, List, [], ◌∷◌, ◌++◌}
use Rattle.std.proofs.Common.{length, zero, suc, Option, Some, None, slice_get, slice_index_or, length-append, refl}
use Rattle.std.proofs.Common.{sym, ◌∙◌, ap, subst, inl, inr, arith}
use Rattle.std.proofs.lemmas.Bool.{cases_eq, eq-eqb, ne_eqb, true≢false}
use Rattle.std.proofs.lemmas.Option.{slice_get_within}
use Rattle.brc_words.specs.declared.kind.Kind.{Kind}
use Rattle.brc_count.specs.law.declared.world.event.Step.TheVariants.{Birth, Claim, InitLocal, InitShared}
use Rattle.brc_count.proofs.law.known.Kept_Law.{places_kept}
use Rattle.brc_count.specs.law.declared.rule.contents.Contents.{Contents}
use Rattle.brc_count.specs.law.declared.rule.told.Moved.TheVariants as moves
use Rattle.brc_count.specs.law.declared.rule.told.LogItem.{LogItem}
use Rattle.brc_count.specs.law.declared.rule.told.LogItem.TheVariants.{Stepped, Loaded, Lost}
use Rattle.brc_count.specs.law.rule.Logs.{kind_in, log_items}
use Rattle.brc_count.specs.law.rule.Seen.{part_seen}
use Rattle.brc_count.specs.table.Seated.{TableSeen}
use Rattle.brc_count.specs.biased.Seeking.{ClaimsAround, are_free_looks, is_free_look}
use Rattle.brc_count.specs.Frames.{FrameSeen, HandleSeen, place_seen}
use Rattle.brc_count.specs.Making.{Made}
use Rattle.brc_handles.specs.Handles.{slot}
use Rattle.brc_meaning.specs.declared.reference.Reference.{Reference}
use Rattle.brc_meaning.specs.declared.reference.Reference.TheVariants as references
use Rattle.brc_meaning.specs.declared.object.Object.{Object}
use Rattle.brc_meaning.specs.declared.state.State.{State}
use Rattle.brc_meaning.specs.Wholes.{Each}
use Rattle.brc_meaning.proofs.WholeCalls.{each_weaker}
use Rattle.brc_count.specs.law.payloads.Payloads.{private_seen, payloads_of, last_put}
use Rattle.brc_count.proofs.law.payloads.Going_On.{born}
use Rattle.brc_count.specs.law.living.Living.{OwnLog, is_dead}
use Rattle.brc_count.specs.law.living.Quiet.{Quietly, NoItem, OneMore}
use Rattle.brc_count.proofs.law.living.Quiet_Items.{quiet_places}
use Rattle.law_isolation.specs.Means.{Lives, LivesAt, HeldAs, IsMeant, ShowsState, Means, MeansBesides, cell_meant}
use Rattle.law_isolation.specs.Means.{contents_meant, left}
use Rattle.law_isolation.proofs.Meant_Contents.{meant_same, contents_agree}
use Rattle.law_isolation.proofs.Quiet_Lives.{living, lives_quietly, held_quietly, allocs_quietly}

-- ---- a list with one more at its end

got_before : {X : Type 0} (xs : List X) (x y : X) (i : ℕ) → slice_get xs i ≡ Some y
    → slice_get (xs ++ x ∷ []) i ≡ Some y
got_before [] x y i at = absurd (let none : None ≡ Some y = at in cc)
got_before (z ∷ xs) x y zero at = at
got_before (z ∷ xs) x y (suc i) at = got_before xs x y i at

got_last : {X : Type 0} (xs : List X) (x : X) → slice_get (xs ++ x ∷ []) (length xs) ≡ Some x
got_last [] x = refl
got_last (z ∷ xs) x = got_last xs x

-- ---- claiming is quiet

looks_quietly : (looks before : List LogItem) → are_free_looks looks ≡ true → Quietly before (looks ++ before)
looks_quietly [] before only = NoItem
looks_quietly (Loaded word number ∷ looks) before only = OneMore (Loaded word number) (looks ++ before)
    (looks_quietly looks before (rest (is_free_look (Loaded word number)) (are_free_looks looks) only)) refl
  where
    rest : (a b : Bool) → (a && b) ≡ true → b ≡ true
    rest true b is = is
    rest false b is = absurd (true≢false (sym is))
looks_quietly (Lost word number ∷ looks) before only = OneMore (Lost word number) (looks ++ before)
    (looks_quietly looks before (rest (is_free_look (Lost word number)) (are_free_looks looks) only)) refl
  where
    rest : (a b : Bool) → (a && b) ≡ true → b ≡ true
    rest true b is = is
    rest false b is = absurd (true≢false (sym is))
looks_quietly (Stepped s number moved ∷ looks) before only = absurd (true≢false (sym only))

claims_quietly : (n start c : ℕ) (before log : List LogItem) → ClaimsAround n start c before log → Quietly before log
claims_quietly n start c before log claims =
    let looked : Quietly before claims.mid = subst (Quietly before) (sym claims.passed.above)
    (looks_quietly claims.passed.looks before claims.passed.only) in
    subst (Quietly before) (sym claims.told)
    (OneMore (Stepped (Claim c) claims.number moves.Nothing) claims.mid looked refl)

-- ---- a birth

-- with the new object's cell, and with the new object in the part
abbrev pub cells_with : (ℕ → ℕ) → ℕ → ℕ → ℕ → ℕ
cells_with cells made d place = if place == made then d else cells place

abbrev pub part_with : (ℕ → Bool) → ℕ → ℕ → Bool
part_with part made place = if place == made then true else part place

cell_else : (cells : ℕ → ℕ) (made d place : ℕ) → place ≢ made → cells_with cells made d place ≡ cells place
cell_else cells made d place other = ap (λ b. if b then d else cells place) (ne_eqb place made other)

cell_here : (cells : ℕ → ℕ) (made d : ℕ) → cells_with cells made d made ≡ d
cell_here cells made d = ap (λ b. if b then d else cells made) (eq-eqb made made refl)

part_else : (part : ℕ → Bool) (made place : ℕ) → place ≢ made → part_with part made place ≡ part place
part_else part made place other = ap (λ b. if b then true else part place) (ne_eqb place made other)

part_here : (part : ℕ → Bool) (made : ℕ) → part_with part made made ≡ true
part_here part made = ap (λ b. if b then true else part made) (eq-eqb made made refl)

-- what is of the part is of it still
meant_more : (part : ℕ → Bool) (made : ℕ) (reference : Reference) → IsMeant part reference
    → IsMeant (part_with part made) reference
meant_more part made (references.Small number) meant = meant
meant_more part made (references.Object place) meant = more (place == made) (part place) meant
  where
    more : (a b : Bool) → b ≡ true → (if a then true else b) ≡ true
    more true b is = refl
    more false b is = is

no_payload : (b : Bool) (put : Contents) → b ≡ false → (if b then Some put else None) ≡ None
no_payload b put is = ap (λ a. if a then Some put else None) is

module _ {A : Type 0} (n : ℕ) (log : List LogItem) (cells : ℕ → ℕ) (part : ℕ → Bool) (made : List (Object A)) (d : ℕ)
    (kind : Kind) (k number : ℕ) (object : Object A)
    (alone : Each (IsMeant part) object)
    (own : OwnLog n (Stepped (Birth d kind k) number (moves.Put d (contents_meant cells object)) ∷ log))
    (placed : place_seen n
    (Stepped (Birth d kind k) number (moves.Put d (contents_meant cells object)) ∷ log) k ≡ Some d)
    (lives : Lives n log cells part made) where
  -- an object of the part comes before the new one
  pub comes_before : (place : ℕ) → part place ≡ true → place ≢ length made
  comes_before place of same =
      let at : LivesAt n log cells part made place = lives.there place of in
      absurd (omega (arith, same, slice_get_within made place at.object at.stands))

  same_cell : (place : ℕ) → part place ≡ true → cells_with cells (length made) d place ≡ cells place
  same_cell place of = cell_else cells (length made) d place (comes_before place of)

  -- so each reference means what it meant
  pub means_what_it_meant : (reference : Reference) → IsMeant part reference
      → cell_meant (cells_with cells (length made) d) reference ≡ cell_meant cells reference
  means_what_it_meant = meant_same cells (cells_with cells (length made) d) part same_cell

  -- the cell wasn't private, and so none of theirs
  another_cell : (place : ℕ) → part place ≡ true → d ≢ cells place
  another_cell place of same =
      let at : LivesAt n log cells part made place = lives.there place of in
      absurd (let none : None ≡ Some (contents_meant cells at.object) =
      sym (no_payload (private_seen n log d) (last_put log d) own.1) ∙ ap (payloads_of n log) same ∙ at.payload in cc)

  old_one : (place : ℕ) → part place ≡ true
      → LivesAt n (Stepped (Birth d kind k) number (moves.Put d (contents_meant cells object)) ∷ log)
      (cells_with cells (length made) d) (part_with part (length made)) (made ++ object ∷ []) place
  old_one place of =
      let at : LivesAt n log cells part made place = lives.there place of in
      let there : cells_with cells (length made) d place ≡ cells place = same_cell place of in
      let after : List LogItem = Stepped (Birth d kind k) number (moves.Put d (contents_meant cells object)) ∷ log in
      record {
        object = at.object;
        stands = got_before made object at.object place at.stands;
        payload = ap (payloads_of n after) there ∙ born n log d kind k number (contents_meant cells object)
            (cells place)
            ∙ ap (λ b. if b then Some (contents_meant cells object) else payloads_of n log (cells place))
            (ne_eqb d (cells place) (another_cell place of))
            ∙ at.payload
            ∙ ap Some (sym (contents_agree cells (cells_with cells (length made) d) (IsMeant part) at.object
            means_what_it_meant at.leads));
        alive = ap (is_dead n after) there ∙ at.alive;
        leads = each_weaker (IsMeant part) (IsMeant (part_with part (length made))) (meant_more part (length made))
            at.object at.leads;
      }

  new_one : LivesAt n (Stepped (Birth d kind k) number (moves.Put d (contents_meant cells object)) ∷ log)
      (cells_with cells (length made) d) (part_with part (length made)) (made ++ object ∷ []) (length made)
  new_one =
      let after : List LogItem = Stepped (Birth d kind k) number (moves.Put d (contents_meant cells object)) ∷ log in
      let there : cells_with cells (length made) d (length made) ≡ d = cell_here cells (length made) d in
      record {
        object = object;
        stands = got_last made object;
        payload = ap (payloads_of n after) there ∙ born n log d kind k number (contents_meant cells object) d
            ∙ ap (λ b. if b then Some (contents_meant cells object) else payloads_of n log d) (eq-eqb d d refl)
            ∙ ap Some (sym (contents_agree cells (cells_with cells (length made) d)
            (IsMeant part) object means_what_it_meant alone));
        alive = ap (is_dead n after) there ∙ (living n after own).placed k d placed;
        leads = each_weaker (IsMeant part) (IsMeant (part_with part (length made))) (meant_more part (length made))
            object alone;
      }

  of_part : (place : ℕ) → place ≢ length made → part_with part (length made) place ≡ true → part place ≡ true
  of_part place other of = sym (part_else part (length made) place other) ∙ of

  pub lives_born : Lives n (Stepped (Birth d kind k) number (moves.Put d (contents_meant cells object)) ∷ log)
      (cells_with cells (length made) d) (part_with part (length made)) (made ++ object ∷ [])
  lives_born = record {
    there = λ place of. elim (cases_eq place (length made)) [
      | inl same ↦ subst (LivesAt n (Stepped (Birth d kind k) number (moves.Put d (contents_meant cells object)) ∷ log)
          (cells_with cells (length made) d) (part_with part (length made)) (made ++ object ∷ [])) (sym same) new_one
      | inr other ↦ old_one place (of_part place other of)
    ];
    apart = λ p q one two same. elim (cases_eq p (length made)) [
      | inl here ↦ elim (cases_eq q (length made)) [
        | inl too ↦ here ∙ sym too
        | inr other ↦
            let of : part q ≡ true = of_part q other two in
            absurd (another_cell q of (sym (cell_here cells (length made) d)
            ∙ ap (cells_with cells (length made) d) (sym here) ∙ same ∙ same_cell q of))
      ]
      | inr there ↦
          let of : part p ≡ true = of_part p there one in
          elim (cases_eq q (length made)) [
            | inl too ↦ absurd (another_cell p of (sym (cell_here cells (length made) d)
                ∙ ap (cells_with cells (length made) d) (sym too) ∙ sym same ∙ same_cell p of))
            | inr other ↦
                let too : part q ≡ true = of_part q other two in
                lives.apart p q of too (sym (same_cell p of) ∙ same ∙ same_cell q too)
          ]
    ];
  }

  -- a register whose place has what it had holds what it held
  pub held_born : (register : Option HandleSeen) (reference : Option Reference)
      → HeldAs n log cells part register reference
      → ((j c : ℕ) → place_seen n log j ≡ Some c
      → place_seen n (Stepped (Birth d kind k) number (moves.Put d (contents_meant cells object)) ∷ log) j ≡ Some c)
      → HeldAs n (Stepped (Birth d kind k) number (moves.Put d (contents_meant cells object)) ∷ log)
      (cells_with cells (length made) d) (part_with part (length made)) register reference
  held_born None None held keeps = held
  held_born None (Some reference) held keeps = held
  held_born (Some handle) None held keeps = held
  held_born (Some handle) (Some reference) held keeps = record {
    cell = keeps handle.place (cell_meant cells reference) held.cell
        ∙ ap Some (sym (means_what_it_meant reference held.meant));
    meant = meant_more part (length made) reference held.meant;
  }

-- ---- frames

-- what a place has after quiet items it had before
places_quietly : (n : ℕ) (before log : List LogItem) (k c : ℕ) → Quietly before log → place_seen n log k ≡ Some c
    → place_seen n before k ≡ Some c
places_quietly n before log k c NoItem at = at
places_quietly n before log k c (OneMore x older goes quiet) at = places_quietly n before older k c goes
    (quiet_places n x older k c quiet at)

born_allocs : (n : ℕ) (log : List LogItem) (d : ℕ) (kind : Kind) (k number : ℕ) (put : Contents)
    → (part_seen n (Stepped (Birth d kind k) number (moves.Put d put) ∷ log)).row.allocs ≡ (part_seen n log).row.allocs
    + 1
born_allocs n log d kind k number put = refl

module _ {A : Type 0} (base : ℕ) (old new : FrameSeen A) (registers : List (Option HandleSeen)) (s : State A)
    (object : Object A) (given : HandleSeen)
    (alone : Each (λ reference. ⊥) object) (means : Means base old registers s) (same : new.heap ≡ old.heap)
    (made : Made old new (contents_meant (λ place. place) object) given)
    (own : OwnLog new.heap.cells new.seat.log) where
  -- before the birth: the cell is claimed, and its words are set
  abbrev claimed_log : List LogItem
  claimed_log = Stepped (InitShared made.cell) (2 ^ 42) moves.Nothing ∷ Stepped
      (InitLocal made.cell) 1 moves.Nothing ∷ made.mid

  abbrev born_log : List LogItem
  born_log = Stepped (Birth made.cell (kind_in (contents_meant (λ place. place) object)) given.place) old.seat.thread
      (moves.Put made.cell (contents_meant means.cells object)) ∷ claimed_log

  abbrev kept : ℕ → Bool
  kept = left new.heap.cells claimed_log means.cells means.part

  goes : Quietly old.seat.log claimed_log
  goes = OneMore (Stepped (InitShared made.cell) (2 ^ 42) moves.Nothing)
      (Stepped (InitLocal made.cell) 1 moves.Nothing ∷ made.mid)
      (OneMore (Stepped (InitLocal made.cell) 1 moves.Nothing) made.mid
      (claims_quietly old.heap.cells made.start made.cell old.seat.log made.mid made.claimed) refl) refl

  born_told : new.seat.log ≡ born_log
  born_told = made.told
      ∙ ap (λ put. Stepped (Birth made.cell (kind_in (contents_meant (λ place. place) object)) given.place)
      old.seat.thread
      (moves.Put made.cell put) ∷ claimed_log)
      (contents_agree means.cells (λ place. place) (λ reference. ⊥) object (λ reference none. absurd none) alone)

  own_after : OwnLog new.heap.cells born_log
  own_after = subst (OwnLog new.heap.cells) born_told own

  shown : ShowsState base means.cells means.part (record old { heap = new.heap }) registers s
  shown = subst (λ h. ShowsState base means.cells means.part (record old { heap = h }) registers s)
      (sym same) means.shows

  lives_claimed : Lives new.heap.cells claimed_log means.cells kept s.objects
  lives_claimed = lives_quietly new.heap.cells old.seat.log claimed_log means.cells means.part s.objects own_after.0
      goes shown.lives

  alone_claimed : Each (IsMeant kept) object
  alone_claimed = each_weaker (λ reference. ⊥) (IsMeant kept) (λ reference none. absurd none) object alone

  placed : place_seen new.heap.cells born_log given.place ≡ Some made.cell
  placed = ap (λ log. place_seen new.heap.cells log given.place) (sym born_told) ∙ made.has

  vacant : place_seen new.heap.cells old.seat.log given.place ≡ None
  vacant = ap (λ (h : TableSeen). place_seen h.cells old.seat.log given.place) same ∙ made.vacant

  -- every other place is as it was
  untouched : (j : ℕ) → j ≢ given.place → place_seen new.heap.cells born_log j ≡ place_seen new.heap.cells claimed_log j
  untouched j other =
      places_kept new.heap.cells (log_items claimed_log)
      (Birth made.cell (kind_in (contents_meant (λ place. place) object)) given.place) made.cell
      old.seat.thread [] j refl
      (λ is. other (let there : Some given.place ≡ Some j = is in cc))

  claimed_places : (j : ℕ) → j ≢ given.place → place_seen new.heap.cells claimed_log j ≡ place_seen new.heap.cells
      old.seat.log j
  claimed_places j other =
      sym (untouched j other) ∙ ap (λ log. place_seen new.heap.cells log j) (sym born_told) ∙ made.others j other
      ∙ sym (ap (λ (h : TableSeen). place_seen h.cells old.seat.log j) same)

  keeps : (j c : ℕ) → place_seen new.heap.cells claimed_log j ≡ Some c → place_seen new.heap.cells born_log j ≡ Some c
  keeps j c at = elim (cases_eq j given.place) [
    | inr other ↦ untouched j other ∙ at
    | inl here ↦ absurd (let none : None ≡ Some c = sym vacant ∙ ap (place_seen new.heap.cells old.seat.log) (sym here)
        ∙ places_quietly new.heap.cells old.seat.log claimed_log j c goes at in cc)
  ]

  held_claimed : (register : Option HandleSeen) (reference : Option Reference)
      → HeldAs new.heap.cells old.seat.log means.cells means.part register reference
      → HeldAs new.heap.cells claimed_log means.cells kept register reference
  held_claimed None None held = held
  held_claimed None (Some reference) held = held
  held_claimed (Some handle) None held = held
  held_claimed (Some handle) (Some reference) held =
      held_quietly new.heap.cells old.seat.log claimed_log means.cells means.part s.objects handle.place reference
      own_after.0 goes shown.lives held
      (claimed_places handle.place
      (λ here. absurd (let none : None ≡ Some (cell_meant means.cells reference) = sym vacant
      ∙ ap (place_seen new.heap.cells old.seat.log) (sym here) ∙ held.cell in cc)) ∙ held.cell)

  shows_born : ShowsState base (cells_with means.cells (length s.objects) made.cell)
      (part_with kept (length s.objects)) new
      registers (record s { objects = s.objects ++ object ∷ [] })
  shows_born =
      let kind : Kind = kind_in (contents_meant (λ place. place) object) in
      record {
        lives = subst (λ log. Lives new.heap.cells log (cells_with means.cells (length s.objects) made.cell)
            (part_with kept (length s.objects)) (s.objects ++ object ∷ [])) (sym born_told)
            (lives_born new.heap.cells claimed_log means.cells kept s.objects made.cell kind given.place old.seat.thread
            object alone_claimed own_after placed lives_claimed);
        held = λ r. subst (λ log. HeldAs new.heap.cells log (cells_with means.cells (length s.objects) made.cell)
            (part_with kept (length s.objects)) (slot registers r) (slice_index_or s.registers r None)) (sym born_told)
            (held_born new.heap.cells claimed_log means.cells kept s.objects made.cell kind given.place old.seat.thread
            object alone_claimed own_after placed lives_claimed (slot registers r) (slice_index_or s.registers r None)
            (held_claimed (slot registers r) (slice_index_or s.registers r None) (shown.held r)) keeps);
        size = shown.size;
        same_size = shown.same_size;
        made =
            let more : (part_seen new.heap.cells new.seat.log).row.allocs
            ≡ (part_seen new.heap.cells claimed_log).row.allocs + 1 =
            ap (λ log. (part_seen new.heap.cells log).row.allocs) born_told
            ∙ born_allocs new.heap.cells claimed_log made.cell kind given.place old.seat.thread
            (contents_meant means.cells object) in
            let before : (part_seen new.heap.cells claimed_log).row.allocs ≡ base + length s.objects =
            allocs_quietly new.heap.cells old.seat.log claimed_log goes ∙ shown.made in
            omega (arith, more, before, length-append s.objects (object ∷ []));
      }

  -- an object that refers to nothing is made
  pub means_made : MeansBesides base new registers (record s { objects = s.objects ++ object ∷ [] }) given
      (references.Object (length s.objects))
  means_made = record {
    cells = cells_with means.cells (length s.objects) made.cell;
    part = part_with kept (length s.objects);
    shows = shows_born;
    has = record {
      cell = made.has ∙ ap Some (sym (cell_here means.cells (length s.objects) made.cell));
      meant = part_here kept (length s.objects);
    };
  }
