-- What the frame and the registers show stays where payloads and dead cells do, and follows a payload that is another
-- one's now.
use Rattle.std.proofs.Common.{◌≡◌, ◌∙◌, sym, ap, subst, ℕ, ◌+◌, ◌<◌, Bool, true, eqb, List, length, set, get_or, Option}
use Rattle.std.proofs.Common.{Some, None, IfSome, slice_get, ◌⊎◌, inl, inr}
use Rattle.std.proofs.lemmas.Bool.{cases_eq, eq-eqb, ne_eqb, cond-true, cond-false}
use Rattle.std.proofs.lemmas.List.{length-set, get_or-set_same, get_or-set_other}
use Rattle.std.proofs.lemmas.Option.{slice_get-get_or, slice_get_within, get_or_from_slice_get}
use Rattle.brc_count.specs.law.declared.rule.told.LogItem.{LogItem}
use Rattle.brc_count.specs.Frames.{FrameSeen, HandleSeen}
use Rattle.brc_count.specs.Locking.{cell_in}
use Rattle.brc_handles.specs.Handles.{slot}
use Rattle.brc_meaning.specs.declared.reference.Reference.{Reference}
use Rattle.brc_meaning.specs.declared.object.Object.{Object}
use Rattle.brc_meaning.specs.declared.state.State.{State}
use Rattle.brc_meaning.specs.Wholes.{Each}
use Rattle.law_isolation.specs.Means.{cell_meant, contents_meant, IsMeant, HasAt, HeldAs, LivesAt, Lives, ShowsState}
use Rattle.law_isolation.specs.Calls.{with_objects}
use Rattle.law_isolation.proofs.Left_Alone.{Leaves, Replaces, LeavesAll, ReplacesIn}

-- ---- an object in the place of another

module _ {X : Type 0} where
  set_there : (xs : List X) (i : ℕ) (x was : X) → slice_get xs i ≡ Some was → slice_get (set xs i x) i ≡ Some x
  set_there xs i x was is =
      let within : i < length xs = slice_get_within xs i was is in
      slice_get-get_or (set xs i x) i x (subst (λ len. i < len) (sym (length-set xs i x)) within)
      ∙ ap Some (get_or-set_same xs i x x within)

  set_elsewhere : (xs : List X) (i j : ℕ) (x other : X) → (j ≡ i → ⊥) → slice_get xs j ≡ Some other
      → slice_get (set xs i x) j ≡ Some other
  set_elsewhere xs i j x other off is =
      let within : j < length xs = slice_get_within xs j other is in
      slice_get-get_or (set xs i x) j other (subst (λ len. j < len) (sym (length-set xs i x)) within)
      ∙ ap Some (get_or-set_other xs i j x other off) ∙ ap Some (get_or_from_slice_get xs j other other is)

module _ {A : Type 0} where
  pub lives_left : {n m : ℕ} {before log : List LogItem} (cells : ℕ → ℕ) (part : ℕ → Bool) (made : List (Object A))
      → Leaves n before m log → Lives n before cells part made → Lives m log cells part made
  lives_left cells part made leaves lives = record {
    there = λ place is. (let at = lives.there place is in record {
      object = at.object;
      stands = at.stands;
      payload = leaves.payloads (cells place) ∙ at.payload;
      alive = leaves.dead (cells place) ∙ at.alive;
      leads = at.leads;
    });
    apart = lives.apart;
  }

  module _ (n m : ℕ) (before log : List LogItem) (cells : ℕ → ℕ) (part : ℕ → Bool) (made : List (Object A))
      (lives : Lives n before cells part made)
      (place : ℕ) (object : Object A) (in_part : part place ≡ true) (leads : Each (IsMeant part) object)
      (replaces : Replaces n before m log (cells place) (contents_meant cells object)) where
    there_now : (p : ℕ) → part p ≡ true → (p ≡ place) ⊎ (p ≡ place → ⊥)
        → LivesAt m log cells part (set made place object) p
    there_now p is (inl on) =
        let at = lives.there place in_part in
        record {
          object = object;
          stands = subst (λ q. slice_get (set made place object) q ≡ Some object) (sym on)
              (set_there made place object at.object at.stands);
          payload = replaces.payloads (cells p) ∙ cond-true (eqb (cells place) (cells p)) _ _
              (eq-eqb (cells place) (cells p) (ap cells (sym on)));
          alive = replaces.dead (cells p) ∙ (lives.there p is).alive;
          leads = leads;
        }
    there_now p is (inr off) =
        let at = lives.there p is in
        record {
          object = at.object;
          stands = set_elsewhere made place p object at.object off at.stands;
          payload = replaces.payloads (cells p) ∙ cond-false (eqb (cells place) (cells p)) _ _
              (ne_eqb (cells place) (cells p) (λ same. off (lives.apart p place is in_part (sym same)))) ∙ at.payload;
          alive = replaces.dead (cells p) ∙ at.alive;
          leads = at.leads;
        }

    -- the object's payload is another object's now
    pub lives_replaced : Lives m log cells part (set made place object)
    lives_replaced = record { there = λ p is. there_now p is (cases_eq p place); apart = lives.apart }

  -- ---- registers

  -- each register's place has what it had
  abbrev pub KeepsPlacesOf : FrameSeen A → FrameSeen A → List (Option HandleSeen) → Type 0
  KeepsPlacesOf old new registers = (r : ℕ) → IfSome (slot registers r) (λ h. cell_in new h.place ≡ cell_in old h.place)

  module _ (old new : FrameSeen A) (cells : ℕ → ℕ) (part : ℕ → Bool) where
    pub has_kept : (k : ℕ) (reference : Reference) → cell_in new k ≡ cell_in old k
        → HasAt old.heap.cells old.seat.log cells part k reference
        → HasAt new.heap.cells new.seat.log cells part k reference
    has_kept k reference same has = record { cell = same ∙ has.cell; meant = has.meant }

    held_kept : (o : Option HandleSeen) (q : Option Reference)
        → IfSome o (λ h. cell_in new h.place ≡ cell_in old h.place)
        → HeldAs old.heap.cells old.seat.log cells part o q → HeldAs new.heap.cells new.seat.log cells part o q
    held_kept None None same has = tt
    held_kept (Some h) (Some reference) same has = has_kept h.place reference same has
    held_kept None (Some reference) same has = absurd has
    held_kept (Some h) None same has = absurd has

    -- a place that was vacant is no register's
    places_kept : (o : Option HandleSeen) (q : Option Reference) (k : ℕ) → cell_in old k ≡ None
        → ((j : ℕ) → (j ≡ k → ⊥) → cell_in new j ≡ cell_in old j)
        → HeldAs old.heap.cells old.seat.log cells part o q → IfSome o (λ h. cell_in new h.place ≡ cell_in old h.place)
    places_kept None q k vacant others has = tt
    places_kept (Some h) None k vacant others has = absurd has
    places_kept (Some h) (Some reference) k vacant others has =
        others h.place (λ same. let bad : None ≡ Some (cell_meant cells reference) = sym vacant
        ∙ ap (cell_in old) (sym same) ∙ has.cell in absurd (cc))

  module _ (base : ℕ) (cells : ℕ → ℕ) (part : ℕ → Bool) (old new : FrameSeen A) (registers : List (Option HandleSeen))
      (s : State A) (shows : ShowsState base cells part old registers s) where
    pub shows_left : LeavesAll old new → KeepsPlacesOf old new registers → ShowsState base cells part new registers s
    shows_left leaves places = record {
      lives = lives_left cells part s.objects leaves shows.lives;
      held = λ r. held_kept old new cells part (slot registers r) (get_or s.registers r None) (places r) (shows.held r);
      size = shows.size;
      same_size = shows.same_size;
      made = leaves.allocs ∙ shows.made;
    }

    pub shows_replaced : (place : ℕ) (object : Object A) → part place ≡ true → Each (IsMeant part) object
        → ReplacesIn old new (cells place) (contents_meant cells object) → KeepsPlacesOf old new registers
        → ShowsState base cells part new registers (with_objects (set s.objects place object) s)
    shows_replaced place object in_part leads replaces places = record {
      lives = lives_replaced old.heap.cells new.heap.cells old.seat.log new.seat.log cells part s.objects shows.lives
          place object in_part leads replaces;
      held = λ r. held_kept old new cells part (slot registers r) (get_or s.registers r None) (places r) (shows.held r);
      size = shows.size;
      same_size = shows.same_size;
      made = replaces.allocs ∙ shows.made ∙ ap (λ len. base + len) (sym (length-set s.objects place object));
    }

    pub vacant_apart : (k : ℕ) → cell_in old k ≡ None → ((j : ℕ) → (j ≡ k → ⊥) → cell_in new j ≡ cell_in old j)
        → KeepsPlacesOf old new registers
    vacant_apart k vacant others r =
        places_kept old new cells part (slot registers r) (get_or s.registers r None) k vacant others (shows.held r)
