-- What a frame and its registers mean once one place more has a reference: to what a register holds, or to an integer
-- that is there always.
use Rattle.std.proofs.Common.{◌≡◌, ℕ, ◌+◌, ◌-◌, ◌&&◌, nat_le, if◌then◌else◌, Bool, true, false, List, [], ◌∷◌, Option}
use Rattle.std.proofs.Common.{Some, None, slice_index_or, ℤ, pos, negsuc, refl, sym, ◌∙◌, ap, subst, inl, inr, arith}
use Rattle.std.proofs.lemmas.Bool.{cases_eq, cases_lt, true≢false}
use Rattle.brc_words.specs.declared.limits.TheConstants.{FIRST_MORTAL}
use Rattle.brc_count.specs.law.declared.world.event.Source.{Source}
use Rattle.brc_count.specs.law.declared.world.event.Source.TheVariants as sources
use Rattle.brc_count.specs.law.declared.world.event.Step.{Step}
use Rattle.brc_count.specs.law.declared.world.event.Step.TheVariants.{LocalUp, SharedUp}
use Rattle.brc_count.specs.law.world.Lists.{is_marked}
use Rattle.brc_count.specs.law.known.Items.{Part, meant, part_by}
use Rattle.brc_count.specs.law.declared.rule.told.Moved.TheVariants.{Nothing}
use Rattle.brc_count.specs.law.declared.rule.told.LogItem.{LogItem}
use Rattle.brc_count.specs.law.declared.rule.told.LogItem.TheVariants.{Stepped}
use Rattle.brc_count.specs.law.rule.Seen.{part_seen, counts_seen}
use Rattle.brc_count.specs.table.Seated.{TableSeen}
use Rattle.brc_count.specs.biased.Up.{CountsHere}
use Rattle.brc_count.specs.Frames.{FrameSeen, HandleSeen, CountsUp, GivenHandle, place_seen}
use Rattle.brc_things.specs.Makers.{small_cell}
use Rattle.brc_handles.specs.Handles.{slot}
use Rattle.brc_meaning.specs.declared.reference.Reference.{Reference}
use Rattle.brc_meaning.specs.declared.reference.Reference.TheVariants as references
use Rattle.brc_meaning.specs.declared.object.Object.{Object}
use Rattle.brc_meaning.specs.declared.state.State.{State}
use Rattle.brc_meaning.specs.Objects.{is_small}
use Rattle.brc_count.specs.law.payloads.Payloads.{payloads_of}
use Rattle.brc_count.proofs.law.payloads.Going_On.{plain}
use Rattle.brc_count.specs.law.living.Living.{is_dead}
use Rattle.law_isolation.specs.Means.{Lives, LivesAt, HasAt, HeldAs, ShowsState, Means, MeansBesides, cell_meant}
use Rattle.law_isolation.specs.Means.{cell_of_small}
use Rattle.law_isolation.proofs.Registers_Kept.{shown_in}

-- ---- one item that fills a place

-- the step counts up
abbrev pub counts_up : Step → Bool
counts_up (LocalUp source k) = true
counts_up (SharedUp source k) = true
counts_up _ = false

module _ (n : ℕ) (log : List LogItem) where
  up_payloads : (s : Step) (number c : ℕ) → counts_up s ≡ true → payloads_of n (Stepped s number Nothing ∷ log) c
      ≡ payloads_of n log c
  up_payloads (LocalUp source k) number c up = plain n log (LocalUp source k) number c refl
  up_payloads (SharedUp source k) number c up = plain n log (SharedUp source k) number c refl
  up_payloads _ number c up = absurd (true≢false (sym up))

  part_marks : (part : Part) (s : Step) (number : ℕ) (o : Option ℕ) → counts_up s ≡ true
      → (part_by n part s number [] o).worklist ≡ part.worklist
  part_marks part (LocalUp source k) number None up = refl
  part_marks part (LocalUp source k) number (Some d) up = refl
  part_marks part (SharedUp source k) number None up = refl
  part_marks part (SharedUp source k) number (Some d) up = refl
  part_marks part _ number o up = absurd (true≢false (sym up))

  part_allocs : (part : Part) (s : Step) (number : ℕ) (o : Option ℕ) → counts_up s ≡ true
      → (part_by n part s number [] o).row.allocs ≡ part.row.allocs
  part_allocs part (LocalUp source k) number None up = refl
  part_allocs part (LocalUp source k) number (Some d) up = refl
  part_allocs part (SharedUp source k) number None up = refl
  part_allocs part (SharedUp source k) number (Some d) up = refl
  part_allocs part _ number o up = absurd (true≢false (sym up))

  up_dead : (s : Step) (number c : ℕ) → counts_up s ≡ true
      → is_dead n (Stepped s number Nothing ∷ log) c ≡ is_dead n log c
  up_dead s number c up = ap (λ marks. is_marked marks c)
      (part_marks (part_seen n log) s number (meant (part_seen n log) s) up)

  pub up_allocs : (s : Step) (number : ℕ) → counts_up s ≡ true
      → (part_seen n (Stepped s number Nothing ∷ log)).row.allocs
      ≡ (part_seen n log).row.allocs
  up_allocs s number up = part_allocs (part_seen n log) s number (meant (part_seen n log) s) up

  -- objects live as they lived
  pub lives_up : {A : Type 0} (cells : ℕ → ℕ) (part : ℕ → Bool) (made : List (Object A)) (s : Step) (number : ℕ)
      → counts_up s ≡ true
      → Lives n log cells part made → Lives n (Stepped s number Nothing ∷ log) cells part made
  lives_up cells part made s number up lives = record {
    there = λ place of.
        let at : LivesAt n log cells part made place = lives.there place of in
        record {
          object = at.object;
          stands = at.stands;
          payload = up_payloads s number (cells place) up ∙ at.payload;
          alive = up_dead s number (cells place) up ∙ at.alive;
          leads = at.leads;
        };
    apart = lives.apart;
  }

-- a register whose place has what it had holds what it held
pub held_still : (n : ℕ) (before log : List LogItem) (cells : ℕ → ℕ) (part : ℕ → Bool) (register : Option HandleSeen)
    (reference : Option Reference)
    → ((k c : ℕ) → place_seen n before k ≡ Some c → place_seen n log k ≡ Some c)
    → HeldAs n before cells part register reference → HeldAs n log cells part register reference
held_still n before log cells part None None keeps held = held
held_still n before log cells part None (Some reference) keeps held = held
held_still n before log cells part (Some handle) None keeps held = held
held_still n before log cells part (Some handle) (Some reference) keeps held =
    record { cell = keeps handle.place (cell_meant cells reference) held.cell; meant = held.meant }

-- ---- integers that are there always

in_if : (b : Bool) (a c : ℕ) → (if b then Some a else None) ≡ Some c → (b ≡ true) × (c ≡ a)
in_if true a c is = (refl, let same : Some a ≡ Some c = is in cc)
in_if false a c is = absurd (let none : None ≡ Some c = is in cc)

not_if : (b : Bool) (a : ℕ) → (if b then Some a else None) ≡ None → b ≡ false
not_if true a is = absurd (let some : Some a ≡ None = is in cc)
not_if false a is = refl

both_so : (a b : Bool) → a ≡ true → b ≡ true → (a && b) ≡ true
both_so true b one other = other
both_so false b one other = one

-- which cells they have
pub small_is : (number : ℤ) (c : ℕ) → small_cell number ≡ Some c → (c ≡ cell_of_small number) × (is_small number ≡ true)
small_is (pos n) c is = let found : (nat_le n 256 ≡ true) × (c ≡ n + 8) = in_if (nat_le n 256) (n + 8) c is in
    (found.1, found.0)
small_is (negsuc n) c is = let found : (nat_le n 4 ≡ true) × (c ≡ 7 - n) = in_if (nat_le n 4) (7 - n) c is in
    (found.1, both_so (nat_le n 4) true found.0 refl)

-- and no other integer is one of them
pub small_none : (number : ℤ) → small_cell number ≡ None → is_small number ≡ false
small_none (pos n) is = not_if (nat_le n 256) (n + 8) is
small_none (negsuc n) is = ap (λ b. b && true) (not_if (nat_le n 4) (7 - n) is)

module _ {A : Type 0} where
  -- ---- frames

  -- the one item by which a place was filled
  record Raised (old new : FrameSeen A) : Type 0 where
    step : Step
    number : ℕ
    up : counts_up step ≡ true
    is : new.seat.log ≡ Stepped step number Nothing ∷ old.seat.log

  raised : (old new : FrameSeen A) (source : Source) (k c : ℕ) → CountsUp old new source k c → Raised old new
  raised old new source k c counted = elim (cases_lt c FIRST_MORTAL) [
    | inl low ↦ record {
      step = LocalUp source k;
      number = (counted.immortal low).found;
      up = refl;
      is = (counted.immortal low).told;
    }
    | inr mortal ↦ elim (cases_lt 0 (counts_seen old.heap.cells old.seat.log c)) [
      | inl some_count ↦ elim (cases_lt (counts_seen old.heap.cells old.seat.log c) old.heap.local_limit) [
        | inl below ↦ record {
          step = LocalUp source k;
          number = counts_seen old.heap.cells old.seat.log c + 1;
          up = refl;
          is = counted.own mortal (record { some_count = some_count; below = below });
        }
        | inr past ↦
            let none : ¬ CountsHere old.heap.cells old.heap.local_limit old.seat.log c =
            λ here. absurd (omega (arith, here.below, past)) in
            record {
              step = SharedUp source k;
              number = (counted.shared mortal none).found;
              up = refl;
              is = (counted.shared mortal none).told;
            }
      ]
      | inr no_count ↦
          let none : ¬ CountsHere old.heap.cells old.heap.local_limit old.seat.log c =
          λ here. absurd (omega (arith, here.some_count, no_count)) in
          record {
            step = SharedUp source k;
            number = (counted.shared mortal none).found;
            up = refl;
            is = (counted.shared mortal none).told;
          }
    ]
  ]

  -- what a place had it has still
  given_keeps : (old new : FrameSeen A) (source : Source) (c : ℕ) (given : HandleSeen)
      → GivenHandle old new source c given
      → (k d : ℕ) → place_seen old.heap.cells old.seat.log k ≡ Some d
      → place_seen new.heap.cells new.seat.log k ≡ Some d
  given_keeps old new source c given gives k d at = elim (cases_eq k given.place) [
    | inr other ↦ gives.others k other ∙ at
    | inl same ↦ absurd (let none : None ≡ Some d = sym gives.vacant ∙ ap (place_seen old.heap.cells old.seat.log)
        (sym same) ∙ at in cc)
  ]

  -- with one place more the registers show what they showed
  shows_up : (base : ℕ) (cells : ℕ → ℕ) (part : ℕ → Bool) (old new : FrameSeen A) (registers : List (Option HandleSeen))
      (s : State A) → new.heap ≡ old.heap → Raised old new
      → ((k d : ℕ) → place_seen old.heap.cells old.seat.log k ≡ Some d
      → place_seen new.heap.cells new.seat.log k ≡ Some d)
      → ShowsState base cells part old registers s → ShowsState base cells part new registers s
  shows_up base cells part old new registers s same up keeps shows =
      let n : ℕ = new.heap.cells in
      let was : ShowsState base cells part (record old { heap = new.heap }) registers s =
      subst (λ h. ShowsState base cells part (record old { heap = h }) registers s) (sym same) shows in
      let kept : (k d : ℕ) → place_seen n old.seat.log k ≡ Some d → place_seen n new.seat.log k ≡ Some d =
      subst (λ (h : TableSeen). (k d : ℕ) → place_seen h.cells old.seat.log k ≡ Some d
      → place_seen n new.seat.log k ≡ Some d) (sym same) keeps in
      record {
        lives = subst (λ log. Lives n log cells part s.objects) (sym up.is)
            (lives_up n old.seat.log cells part s.objects up.step up.number up.up was.lives);
        held = λ r. held_still n old.seat.log new.seat.log cells part (slot registers r)
            (slice_index_or s.registers r None) kept (was.held r);
        size = was.size;
        same_size = was.same_size;
        made = ap (λ log. (part_seen n log).row.allocs) up.is ∙ up_allocs n old.seat.log up.step up.number up.up
            ∙ was.made;
      }

  pub shows_given : (base : ℕ) (cells : ℕ → ℕ) (part : ℕ → Bool) (old new : FrameSeen A)
      (registers : List (Option HandleSeen)) (s : State A) (source : Source) (c : ℕ) (given : HandleSeen)
      → ShowsState base cells part old registers s → new.heap ≡ old.heap → GivenHandle old new source c given
      → ShowsState base cells part new registers s
  shows_given base cells part old new registers s source c given shows same gives =
      shows_up base cells part old new registers s same (raised old new source given.place c gives.counted)
      (given_keeps old new source c given gives) shows

  -- one reference more to what a register holds
  pub means_retained : (base : ℕ) (old new : FrameSeen A) (registers : List (Option HandleSeen)) (s : State A)
      (from c : ℕ) (h given : HandleSeen)
      → Means base old registers s → slot registers from ≡ Some h → place_seen old.heap.cells old.seat.log h.place
      ≡ Some c → new.heap ≡ old.heap → GivenHandle old new (sources.Frame h.place) c given
      → (reference : Reference) × (slice_index_or s.registers from None ≡ Some reference) × MeansBesides base new
      registers s given reference
  means_retained base old new registers s from c h given means is at same gives =
      let shown : (reference : Reference) × (slice_index_or s.registers from None ≡ Some reference)
      × HasAt old.heap.cells old.seat.log means.cells means.part h.place reference =
      shown_in base means.cells means.part old registers s from h means.shows is in
      let cell : Some c ≡ Some (cell_meant means.cells shown.0) = sym at ∙ shown.2.cell in (
        shown.0,
        shown.1,
        record {
          cells = means.cells;
          part = means.part;
          shows = shows_given base means.cells means.part old new registers s (sources.Frame h.place) c given
              means.shows same gives;
          has = record { cell = gives.has ∙ cell; meant = shown.2.meant };
        },
      )

  -- ---- integers that are there always

  pub means_small : (base : ℕ) (old new : FrameSeen A) (registers : List (Option HandleSeen)) (s : State A) (number : ℤ)
      (c : ℕ) (given : HandleSeen)
      → Means base old registers s → small_cell number ≡ Some c → new.heap ≡ old.heap
      → GivenHandle old new (sources.Immortal c) c given
      → MeansBesides base new registers s given (references.Small number)
  means_small base old new registers s number c given means is same gives = record {
    cells = means.cells;
    part = means.part;
    shows = shows_given base means.cells means.part old new registers s (sources.Immortal c) c given means.shows
        same gives;
    has = record { cell = gives.has ∙ ap Some (small_is number c is).0; meant = (small_is number c is).1 };
  }
