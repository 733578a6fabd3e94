-- Event by event: the moves that it makes are allowed, and lead to the holder map of the world after it.
use Rattle.std.proofs.Common.{◌≡◌, ◌≢◌, ℕ, ◌-◌, ◌<◌, ◌≤◌, ◌||◌, not, Bool, true, false, if◌then◌else◌, List, [], ◌∷◌}
use Rattle.std.proofs.Common.{length, get_or, replicate, slice_get, Option, Some, None, refl, sym, ◌∙◌, ap, subst, inl}
use Rattle.std.proofs.Common.{inr, arith}
use Rattle.std.proofs.lemmas.List.{get_or_past, nil_from_length}
use Rattle.std.proofs.lemmas.Bool.{cases_eq, cases_lt, cases_Bool, eq-eqb, ne_eqb, eqb-true, and_parts, and_from}
use Rattle.std.proofs.lemmas.Bool.{and_left, and_right, or_parts, or_from, or_cases, not-true, ltb-true, ltb-false}
use Rattle.std.proofs.lemmas.Bool.{true≢false}
use Rattle.brc_words.specs.declared.limits.TheConstants.{FIRST_MORTAL}
use Rattle.brc_words.specs.declared.kind.Kind.{Kind}
use Rattle.brc_model.specs.declared.holder.Holder.{Holder}
use Rattle.brc_model.specs.declared.holder.Holder.TheVariants as holders
use Rattle.brc_model.specs.declared.moves.Move.TheVariants as moves
use Rattle.brc_model.specs.Holders.{Same, is_number, IsHeld, IsLastOfDead, put, with_holder}
use Rattle.brc_model.proofs.Maps.{Same-refl}
use Rattle.law.specs.declared.world.cell.Cell.{Cell}
use Rattle.law.specs.declared.world.event.Event.{Event}
use Rattle.law.specs.declared.world.event.Step.{Step}
use Rattle.law.specs.declared.world.event.Step.TheVariants.{Claim, InitLocal, InitShared, Birth, LocalUp, LocalDown}
use Rattle.law.specs.declared.world.event.Step.TheVariants.{SeeZero, Free, Untie, MergeZero, SharedUp, SharedDown, Ask}
use Rattle.law.specs.declared.world.event.Step.TheVariants.{LastDown, Enqueue, Drain, MergeAdd, Close, Nudge, Wake}
use Rattle.law.specs.declared.world.event.Step.TheVariants.{Lock, Unlock, Register, Gather, Offer, Reopen}
use Rattle.law.specs.declared.world.event.Source.{Source}
use Rattle.law.specs.declared.world.event.Source.TheVariants as sources
use Rattle.law.specs.declared.world.event.Dropped.{Dropped}
use Rattle.law.specs.declared.world.event.Dropped.TheVariants as dropped
use Rattle.law.specs.declared.world.event.LastDropped.TheVariants as lasts
use Rattle.law.specs.declared.world.row.Row.{Row}
use Rattle.law.specs.declared.world.row.Hand.{Hand}
use Rattle.law.specs.declared.world.row.Hand.TheVariants as hands
use Rattle.law.specs.declared.world.row.Phase.TheVariants as phases
use Rattle.law.specs.world.Lists.{one, bit_of, is_marked, place_at, filled, last_of}
use Rattle.law.specs.world.Heap.{Heap, cell_at, entries_at, row_at, frame_at, popped_at, worklist_at, queue_at, no_cell}
use Rattle.law.specs.world.Heap.{no_row, new_row, is_immortal, words_for, again_row}
use Rattle.law.specs.world.Steps.{enabled, after, after_target, stepped, kept_cells, registered, root_after, thread_may}
use Rattle.law.specs.world.Steps.{root_may, target_at, source_cell, dropped_cell, locked_cell, entry_of, frame_without}
use Rattle.law.specs.world.Steps.{entries_without, is_default, hand_ok, is_at, untied_hand, added_hand, drained_word}
use Rattle.law.specs.world.Steps.{with_drained, without_drained, registered_again}
use Rattle.law.specs.world.Holding.{lives, lives_at, carries}
use Rattle.law.specs.moves.Moves.{moves_by, map_of, moves_of, of_mortal, removal, asking, MakesMoves}
use Rattle.law.specs.world.Sound.{IsSound, held, HandFits, WorklistFits, Births}
use Rattle.law.proofs.world.Naming.{no_bit, Unheld, unheld, dead_unheld, free_hand, busy_hand, busy_carrier}
use Rattle.law.proofs.world.Bitwise.{without_bit_here, without_bit_else}
use Rattle.law.proofs.world.Asking.{May, may_parts, on_cell, Vacant, vacant, at_end, shut_out, from_queue, untie_way}
use Rattle.law.proofs.world.Asking.{handed_over}
use Rattle.law.proofs.world.Changes.{read_by, read_here, read_there}
use Rattle.law.proofs.world.Counting.{marked_unheld}
use Rattle.law.proofs.world.Framing.{found_inside, place_at-filled_here}
use Rattle.law.proofs.world.Dropping.{source_held, held_by_place, held_by_entry}
use Rattle.law.proofs.world.Registering.{read_push, new_bit}
use Rattle.law.proofs.world.Reusing.{Vacated, fresh, reused, registers}
use Rattle.law.proofs.world.Lifetimes.{step_lives, either_way, held_lives, alive_lives, by_whom}
use Rattle.law.proofs.world.Merging.{carried_held, popped_held}
use Rattle.law.proofs.world.Sharing.{ending_hand, ending_reference}
use Rattle.law.proofs.moves.Moving.{eqb_turned, number_is, from_one, is_none, is_this, is_either, other_cell, Own}
use Rattle.law.proofs.moves.Moving.{own_elsewhere, Elsewhere, other_place, put_after, AtCell, at_named, moves_at}
use Rattle.law.proofs.moves.Moving.{quiet_step, stepped_own, kept_own, Lasting, lasting, same_map, entries_map}
use Rattle.law.proofs.moves.Moving.{added_map, removed_map, passed_map, with_as, elsewhere, frame_shows, frame_hides}
use Rattle.law.proofs.moves.Moving.{hand_shows, hand_hides, popped_shows, popped_hides, no_place, is_unheld, unheld_in}
use Rattle.law.proofs.moves.Moving.{is_vacant_place, filled_alike, vacated_alike, vacated_here, none_shows}
use Rattle.law.proofs.moves.Exchanging.{unlock_moves}
use Rattle.law.proofs.moves.Handing.{enqueue_moves, taken_by, pop_moves}
use Rattle.law.specs.world.Runs.{IsReached}
use Rattle.law.proofs.world.Reached.{reached_sound}

-- ---- births and deaths

birth_moves : (A : Type 0) (h : Heap) (t c : ℕ) (kind : Kind) (k : ℕ) → IsSound h
    → thread_may h t (Birth c kind k) ≡ true
    → MakesMoves {A = A} (map_of h) (moves.Born c kind (holders.Frame t k) ∷ [])
    (map_of (stepped h t (Birth c kind k) c))
birth_moves A h t c kind k sound ok =
    let s : Step = Birth c kind k in
    let h' : Heap = stepped h t s c in
    let may : May h t s = may_parts h t s ok in
    let inside : c < length h.cells = (on_cell h t s c may.on_target).inside in
    let within : c < length h.entries = omega (arith, inside, sound.shaped.entries) in
    let busy : (row_at h t).hand ≡ hands.Busy phases.Ready c = busy_hand phases.Ready c _ may.hand in
    let said : HandFits h t phases.Ready c = sound.hands t c phases.Ready busy in
    let births : Births t (row_at h t) (cell_at h c) = said.fits.0 in
    let dead : lives (cell_at h c).owner ≡ false = ap lives births.claimed in
    let none : Unheld h c = dead_unheld h c sound said.mortal dead in
    let parts = and_parts _ _ may.own in
    let place : Vacant (frame_at h t) k = vacant _ k parts.1 in
    let vacated : (q : ℕ) → is_number (place_at (frame_at h t) k) q ≡ false =
    λ q. none_shows (frame_at h t) k q place.none in
    let own : Own h h' t (filled (frame_at h t) k c) (popped_at h t) hands.Free =
    stepped_own h t s c sound may.inside in (
      record {
        mortal = said.mortal;
        new = and_right (not (is_immortal c)) _ dead;
        kind_is_born = parts.0;
        holder_is_new = is_vacant_place h t k (λ q _. vacated q);
      },
      record {
        live = λ q. ap (λ b. if b then true else lives_at h q) (eqb_turned q c) ∙ sym (step_lives h t s q sound ok);
        kind = λ q _. sym (put_after (λ j. (cell_at h j).kind) (λ j. (cell_at h' j).kind) c kind
            (ap (λ (y : Cell). y.kind) (read_here h.cells c _ no_cell inside))
            (λ j other. ap (λ (y : Cell). y.kind) (read_there h.cells c j _ no_cell other)) q);
        entries = λ q. sym (put_after (entries_at h) (entries_at h') c [] (read_here h.entries c [] [] within)
            (λ j other. read_there h.entries c j [] [] other) q);
        held = λ q g. ap (λ b. is_this c (holders.Frame t k) q g || b) (put_none h c q g none)
            ∙ with_as (map_of h).held (map_of h').held c (holders.Frame t k)
            (frame_shows h' t k c said.mortal (ap (λ (f : List (Option ℕ)). place_at f k) own.frame
            ∙ place_at-filled_here (frame_at h t) k c))
            (elsewhere h h' (is_this c (holders.Frame t k))
            (own_elsewhere h h' t _ _ _ (is_this c (holders.Frame t k)) own
            (λ i q _ kept. filled_alike (frame_at h t) k c i q (λ _. vacated q) (other_place t k c q i kept))
            (λ q _. refl) (λ q _. sym (ap (carries q) busy)) (λ j q _. refl))) q g;
      },
    )
  where
    put_none : (h : Heap) (c q : ℕ) (g : Holder) → Unheld h c
        → put {A = Holder → Bool} (map_of h).held c (λ _. false) q g ≡ (map_of h).held q g
    put_none h c q g none = elim (cases_eq q c) [
      | inl same ↦ ap (λ b. let places : Holder → Bool = if b then (λ _. false) else (map_of h).held q in places g)
          (eq-eqb q c same) ∙ sym (no_place h q g (subst (Unheld h) (sym same) none))
      | inr other ↦ ap (λ b. let places : Holder → Bool = if b then (λ _. false) else (map_of h).held q in places g)
          (ne_eqb q c other)
    ]

free_moves : (A : Type 0) (h : Heap) (t c : ℕ) → IsSound h → thread_may h t (Free c) ≡ true
    → MakesMoves {A = A} (map_of h) (moves.Dies c ∷ []) (map_of (stepped h t (Free c) c))
free_moves A h t c sound ok =
    let s : Step = Free c in
    let h' : Heap = stepped h t s c in
    let may : May h t s = may_parts h t s ok in
    let inside : c < length h.cells = (on_cell h t s c may.on_target).inside in
    let parts = and_parts _ _ may.own in
    let fits : WorklistFits t c (cell_at h c) = sound.worklists t c parts.0 in (
      record {
        live = alive_lives h c fits.mortal fits.lives;
        unheld = is_unheld h c (unheld h c (marked_unheld h t c sound parts.0));
        empty = nil_from_length (entries_at h c) (eqb-true _ 0 parts.1);
      },
      record {
        live = λ q. ap (λ b. if b then false else lives_at h q) (eqb_turned q c) ∙ sym (step_lives h t s q sound ok);
        kind = λ q _. sym (read_by (λ j (y : Cell). y.kind ≡ (cell_at h j).kind) h.cells c _ no_cell inside refl
            (λ j _. refl) q);
        entries = λ q. refl;
        held = λ q g. sym (elsewhere h h' is_none
            (own_elsewhere h h' t _ _ _ is_none (stepped_own h t s c sound may.inside) (λ i q _ _. refl) (λ q _. refl)
            (λ q _. refl) (λ j q _. refl)) q g refl);
      },
    )

-- ---- counting up

-- the holder that a source shows
source_is_held : (h : Heap) (t c : ℕ) (source : Source) → source_cell (row_at h t) (frame_at h t) (entries_at h) source
    ≡ Some c → FIRST_MORTAL ≤ c → lives_at h c ≡ true → IsHeld (map_of h) c
source_is_held h t c (sources.Frame k) named mortal live =
    (holders.Frame t k, and_from _ _ live (frame_shows h t k c mortal named))
source_is_held h t c (sources.Entry i) named mortal live =
    entry_is_held_by (locked_cell (frame_at h t) (row_at h t).locked) named
  where
    entry_is_held_by : (o : Option ℕ) → entry_of (entries_at h) o i ≡ Some c → IsHeld (map_of h) c
    entry_is_held_by None named = absurd (cc)
    entry_is_held_by (Some d) named =
        (holders.Entry d i, and_from _ _ live (number_is (slice_get (entries_at h d) i) c named))
source_is_held h t c (sources.Immortal d) named mortal live = immortal_is_none (is_immortal d) refl named
  where
    immortal_is_none : (b : Bool) → is_immortal d ≡ b → (if b then Some d else None) ≡ Some c → IsHeld (map_of h) c
    immortal_is_none true low named = let same : d ≡ c = cc in
        absurd (omega (arith, ltb-true d FIRST_MORTAL low, same, mortal))
    immortal_is_none false low named = absurd (cc)

-- one place more has the cell
up_moves : (A : Type 0) (h h' : Heap) (t k c : ℕ) (source : Source) → IsSound h
    → source_cell (row_at h t) (frame_at h t) (entries_at h) source ≡ Some c → place_at (frame_at h t) k ≡ None
    → Own h h' t (filled (frame_at h t) k c) (popped_at h t) (row_at h t).hand
    → ((j : ℕ) → queue_at h' j ≡ queue_at h j) → ((q : ℕ) → entries_at h' q ≡ entries_at h q) → Lasting h h'
    → MakesMoves {A = A} (map_of h) (of_mortal (Some c) (λ c. moves.Add c (holders.Frame t k))) (map_of h')
up_moves A h h' t k c source sound named none own queues entries last =
    let shows : (q : ℕ) → is_number (place_at (frame_at h t) k) q ≡ false = λ q. none_shows (frame_at h t) k q none in
    let others : (these : ℕ → Holder → Bool) → ((i q : ℕ) → is_immortal q ≡ false → these q (holders.Frame t i) ≡ false
    → i ≡ k → q ≢ c) → Elsewhere h h' these = λ these far.
    own_elsewhere h h' t _ _ _ these own (λ i q mortal kept. filled_alike (frame_at h t) k c i q (λ _. shows q)
    (far i q mortal kept)) (λ q _. refl) (λ q _. refl) (λ j q _. ap (λ words. bit_of words q) (queues j)) in
    elim (cases_Bool (is_immortal c)) [
      | inl immortal ↦ subst (λ b. MakesMoves {A = A} (map_of h)
          (if b then [] else (moves.Add c (holders.Frame t k) ∷ [])) (map_of h')) (sym immortal)
          (same_map h h' last entries
          (others is_none (λ i q mortal _ _ e. true≢false (sym immortal ∙ ap is_immortal (sym e) ∙ mortal))))
      | inr mortal ↦
          let high : FIRST_MORTAL ≤ c = ltb-false c FIRST_MORTAL mortal in
          let alive : lives_at h c ≡ true = held_lives h c sound high (source_held h t c source named high) in
          subst (λ b. MakesMoves {A = A} (map_of h) (if b then [] else (moves.Add c (holders.Frame t k) ∷ []))
          (map_of h')) (sym mortal) (
            record {
              is_held = source_is_held h t c source named high alive;
              not_yet = and_right (lives_at h c) _ (frame_hides h t k c (shows c));
              holder_is_new = is_vacant_place h t k (λ q _. shows q);
            },
            added_map h h' c (holders.Frame t k) last entries
                (frame_shows h' t k c high (ap (λ (f : List (Option ℕ)). place_at f k) own.frame
                ∙ place_at-filled_here (frame_at h t) k c))
                (others (is_this c (holders.Frame t k)) (λ i q _ kept. other_place t k c q i kept)),
          )
    ]

-- ---- a reference goes

-- an entry of an object on the worklist
record Worked (h : Heap) (t d c : ℕ) : Type 0 where
  live : lives_at h d ≡ true
  none : Unheld h d
  within : d < length h.entries
  some : length (entries_at h d) - 1 < length (entries_at h d)
  last : last_of (entries_at h d) ≡ Some c
  other : d ≢ c

worked : (h : Heap) (t d c : ℕ) → IsSound h → (if is_marked (worklist_at h t) d then last_of (entries_at h d) else None)
    ≡ Some c → Worked h t d c
worked h t d c sound named = on_list (is_marked (worklist_at h t) d) refl named
  where
    on_list : (b : Bool) → is_marked (worklist_at h t) d ≡ b → (if b then last_of (entries_at h d) else None) ≡ Some c
        → Worked h t d c
    on_list false on last = absurd (cc)
    on_list true on last =
        let fits : WorklistFits t d (cell_at h d) = sound.worklists t d on in
        let none : held h d ≡ 0 = marked_unheld h t d sound on in
        let some : length (entries_at h d) - 1 < length (entries_at h d) = found_inside (entries_at h d) _ c last in
        record {
          live = alive_lives h d fits.mortal fits.lives;
          none = unheld h d none;
          within = elim (cases_lt d (length h.entries)) [
            | inl low ↦ low
            | inr past ↦ absurd (omega (arith, some, ap (λ (xs : List ℕ). length xs) (get_or_past h.entries d [] past)))
          ];
          some = some;
          last = last;
          other = λ e. omega (arith, none, held_by_entry h d _ d (last ∙ ap Some (sym e)));
        }

-- the last entry may go, whatever else holds other objects
last_may_go : (h : Heap) (t d c : ℕ) (held : ℕ → Holder → Bool) → Worked h t d c → ((g : Holder) → held d g ≡ false)
    → IsLastOfDead (record (map_of h) { held = held }) c d (length (entries_at h d) - 1)
last_may_go h t d c held worklist places = record {
  live = worklist.live;
  unheld = unheld_in h d held worklist.none places;
  last = omega (arith, worklist.some);
  there = worklist.last;
}

-- a place or an entry lets the cell go, and nothing else moves
down_moves : (A : Type 0) (h h' : Heap) (t c : ℕ) (hand : Hand) (drop : Dropped) → IsSound h
    → dropped_cell (frame_at h t) (worklist_at h t) (entries_at h) drop ≡ Some c
    → Own h h' t (frame_without (Some drop) (frame_at h t)) (popped_at h t) hand
    → ((q : ℕ) → carries q hand ≡ carries q (row_at h t).hand) → ((j : ℕ) → queue_at h' j ≡ queue_at h j)
    → ((q : ℕ) → entries_at h' q ≡ get_or (entries_without (Some drop) h.entries) q []) → Lasting h h'
    → MakesMoves {A = A} (map_of h) (removal h t drop (Some c)) (map_of h')
down_moves A h h' t c hand (dropped.Frame k) sound named own carried queues entries last =
    let others : (these : ℕ → Holder → Bool) → ((i q : ℕ) → is_immortal q ≡ false → these q (holders.Frame t i) ≡ false
    → i ≡ k → q ≢ c) → Elsewhere h h' these = λ these far.
    own_elsewhere h h' t _ _ _ these own (λ i q mortal kept. vacated_alike (frame_at h t) k c i q named
    (far i q mortal kept)) (λ q _. refl) (λ q _. carried q) (λ j q _. ap (λ words. bit_of words q) (queues j)) in
    elim (cases_Bool (is_immortal c)) [
      | inl immortal ↦ subst (λ b. MakesMoves {A = A} (map_of h)
          (if b then [] else (moves.Remove c (holders.Frame t k) ∷ [])) (map_of h')) (sym immortal)
          (same_map h h' last entries
          (others is_none (λ i q mortal _ _ e. true≢false (sym immortal ∙ ap is_immortal (sym e) ∙ mortal))))
      | inr mortal ↦
          let high : FIRST_MORTAL ≤ c = ltb-false c FIRST_MORTAL mortal in
          let alive : lives_at h c ≡ true = held_lives h c sound high (held_by_place h t k c named) in
          subst (λ b. MakesMoves {A = A} (map_of h) (if b then [] else (moves.Remove c (holders.Frame t k) ∷ []))
          (map_of h')) (sym mortal) (
            and_from _ _ alive (frame_shows h t k c high named),
            removed_map h h' c (holders.Frame t k) last entries
                (frame_hides h' t k c (ap (λ (f : List (Option ℕ)). is_number (place_at f k) c) own.frame
                ∙ ap (λ o. is_number o c) (vacated_here (frame_at h t) k)))
                (others (is_this c (holders.Frame t k)) (λ i q _ kept. other_place t k c q i kept)),
          )
    ]
down_moves A h h' t c hand (dropped.Work d) sound named own carried queues entries last =
    let worklist : Worked h t d c = worked h t d c sound named in (
      last_may_go h t d c (map_of h).held worklist (λ g. no_place h d g worklist.none),
      entries_map h h' d _ (map_of h).held worklist.within last entries
          (λ q g. sym (elsewhere h h' is_none (own_elsewhere h h' t _ _ _ is_none own (λ i q _ _. refl) (λ q _. refl)
          (λ q _. carried q) (λ j q _. ap (λ words. bit_of words q) (queues j))) q g refl)),
    )

-- ---- a reference that a release gave up is the hand's

asked_moves : (A : Type 0) (h h' : Heap) (t c : ℕ) (drop : Dropped) → IsSound h → FIRST_MORTAL ≤ c
    → dropped_cell (frame_at h t) (worklist_at h t) (entries_at h) drop ≡ Some c → (row_at h t).hand ≡ hands.Free
    → Own h h' t (frame_without (Some drop) (frame_at h t)) (popped_at h t) (hands.Busy phases.Asked c)
    → ((j : ℕ) → queue_at h' j ≡ queue_at h j)
    → ((q : ℕ) → entries_at h' q ≡ get_or (entries_without (Some drop) h.entries) q []) → Lasting h h'
    → MakesMoves {A = A} (map_of h) (asking h t drop c) (map_of h')
asked_moves A h h' t c (dropped.Frame k) sound mortal named free own queues entries last =
    let from : Holder = holders.Frame t k in
    let to : Holder = holders.Hand t c in (
      (
        record {
          from_no_entry = tt;
          held = and_from _ _ (held_lives h c sound mortal (held_by_place h t k c named))
              (frame_shows h t k c mortal named);
          not_yet = and_right (lives_at h c) _ (hand_hides h t c c (ap (carries c) free));
          holder_is_new = refl;
        },
        tt,
      ),
      passed_map h h' c from c to last entries
          (λ _. frame_hides h' t k c (ap (λ (f : List (Option ℕ)). is_number (place_at f k) c) own.frame
          ∙ ap (λ o. is_number o c) (vacated_here (frame_at h t) k)))
          (hand_shows h' t c mortal (ap (carries c) own.hand ∙ eq-eqb c c refl))
          (own_elsewhere h h' t _ _ _ (is_either c from c to) own
          (λ i q _ kept. vacated_alike (frame_at h t) k c i q named (other_place t k c q i (or_parts _ _ kept).0))
          (λ q _. refl)
          (λ q kept. ne_eqb c q (λ e. other_cell c (holders.Hand t) q (or_parts _ _ kept).1 (sym e))
          ∙ sym (ap (carries q) free)) (λ j q _. ap (λ words. bit_of words q) (queues j))),
    )
asked_moves A h h' t c (dropped.Work d) sound mortal named free own queues entries last =
    let worklist : Worked h t d c = worked h t d c sound named in
    let to : Holder = holders.Hand t c in
    let alive : lives_at h c ≡ true = held_lives h c sound mortal (held_by_entry h d _ c worklist.last) in
    let none_yet : (map_of h).held c to ≡ false = hand_hides h t c c (ap (carries c) free) in (
      record {
        is_held = (holders.Entry d _, and_from _ _ alive (number_is (slice_get (entries_at h d) _) c worklist.last));
        not_yet = and_right (lives_at h c) _ none_yet;
        holder_is_new = refl;
      },
      (
        last_may_go h t d c (with_holder (map_of h).held c to) worklist
            (λ g. or_from _ _ (and_left _ _ (ne_eqb d c worklist.other)) (no_place h d g worklist.none)),
        entries_map h h' d _ (with_holder (map_of h).held c to) worklist.within last entries
            (with_as (map_of h).held (map_of h').held c to
            (hand_shows h' t c mortal (ap (carries c) own.hand ∙ eq-eqb c c refl))
            (elsewhere h h' (is_this c to) (own_elsewhere h h' t _ _ _ (is_this c to) own (λ i q _ _. refl)
            (λ q _. refl)
            (λ q kept. ne_eqb c q (λ e. other_cell c (holders.Hand t) q kept (sym e)) ∙ sym (ap (carries q) free))
            (λ j q _. ap (λ words. bit_of words q) (queues j))))),
      ),
    )

ask_moves : (A : Type 0) (h : Heap) (t c : ℕ) (drop : Dropped) → IsSound h → AtCell h t (Ask drop) c
    → MakesMoves {A = A} (map_of h) (moves_of h t (Ask drop) (Some c)) (map_of (stepped h t (Ask drop) c))
ask_moves A h t c drop sound at =
    let s : Step = Ask drop in
    let h' : Heap = stepped h t s c in
    let x : Cell = cell_at h c in
    let free : (row_at h t).hand ≡ hands.Free = free_hand _ at.may.hand in
    let mortal : FIRST_MORTAL ≤ c = ltb-false c FIRST_MORTAL (not-true _ (and_parts _ _ at.fits).0) in
    elim (cases_Bool (is_default x.state)) [
      | inr again ↦ subst (λ b. MakesMoves {A = A} (map_of h) (if b then asking h t drop c else []) (map_of h'))
          (sym again)
          (quiet_step h t s c at
          (ap (λ b. frame_without (if b then Some drop else None) (frame_at h t)) again) refl
          (λ q. ap (λ b. carries q (if b then hands.Busy phases.Asked c else (row_at h t).hand)) again) refl
          (λ q. ap (λ b. get_or (entries_without (if b then Some drop else None) h.entries) q []) again))
      | inl first ↦ subst (λ b. MakesMoves {A = A} (map_of h) (if b then asking h t drop c else []) (map_of h'))
          (sym first)
          (asked_moves A h h' t c drop sound mortal at.named free
          (subst (λ b. Own h h' t (frame_without (if b then Some drop else None) (frame_at h t)) (popped_at h t)
          (if b then hands.Busy phases.Asked c else (row_at h t).hand)) first at.own)
          (λ j. refl) (λ q. ap (λ b. get_or (entries_without (if b then Some drop else None) h.entries) q []) first)
          at.lasting)
    ]

-- ---- a reference on its way ends

popped_moves : (A : Type 0) (h : Heap) (t c : ℕ) → IsSound h → AtCell h t (LastDown (lasts.Popped c)) c
    → MakesMoves {A = A} (map_of h) (moves.Remove c (holders.Popped t c) ∷ [])
    (map_of (stepped h t (LastDown (lasts.Popped c)) c))
popped_moves A h t c sound at =
    let h' : Heap = stepped h t (LastDown (lasts.Popped c)) c in
    let on : bit_of (popped_at h t) c ≡ 1 = eqb-true _ 1 at.may.own in
    let mortal : FIRST_MORTAL ≤ c = (sound.bits t c (omega (arith, on))).0 in (
      and_from _ _ (held_lives h c sound mortal (popped_held h t c on)) (popped_shows h t c mortal on),
      removed_map h h' c (holders.Popped t c) at.lasting (λ q. refl)
          (popped_hides h' t c c (ap (λ words. bit_of words c) at.own.popped ∙ without_bit_here (popped_at h t) c on))
          (own_elsewhere h h' t _ _ _ (is_this c (holders.Popped t c)) at.own (λ i q _ _. refl)
          (λ q kept. without_bit_else (popped_at h t) c q (other_cell c (holders.Popped t) q kept)) (λ q _. refl)
          (λ j q _. refl)),
    )

hand_moves : (A : Type 0) (h : Heap) (t c : ℕ) → IsSound h → AtCell h t (LastDown lasts.Hand) c
    → MakesMoves {A = A} (map_of h) (moves.Remove c (holders.Hand t c) ∷ [])
    (map_of (stepped h t (LastDown lasts.Hand) c))
hand_moves A h t c sound at =
    let h' : Heap = stepped h t (LastDown lasts.Hand) c in
    let had = ending_hand (row_at h t).hand c at.may.hand at.named in
    let mortal : FIRST_MORTAL ≤ c = (sound.hands t c had.0 had.1).mortal in
    let carried : one (carries c (row_at h t).hand) ≡ 1 = busy_carrier had.0 c _ (ending_reference had.0 had.2)
    had.1 in (
      and_from _ _ (held_lives h c sound mortal (carried_held h t c carried))
          (hand_shows h t c mortal (from_one _ carried)),
      removed_map h h' c (holders.Hand t c) at.lasting (λ q. refl) (hand_hides h' t c c (ap (carries c) at.own.hand))
          (own_elsewhere h h' t _ _ _ (is_this c (holders.Hand t c)) at.own (λ i q _ _. refl) (λ q _. refl)
          (λ q kept. sym (ap (carries q) had.1
          ∙ and_right _ _ (ne_eqb c q (λ e. other_cell c (holders.Hand t) q kept (sym e))))) (λ j q _. refl)),
    )

-- ---- hands that change and carry what they carried

down_hand_carries : (b : Bool) (q c : ℕ) (hand : Hand) → hand ≡ hands.Free
    → carries q (if b then hands.Busy phases.Zero c else hand) ≡ carries q hand
down_hand_carries b q c hand free = either_way (carries q) b (hands.Busy phases.Zero c) hand (carries q hand)
    (sym (ap (carries q) free)) refl

untied_carries : (h : Heap) (t c q : ℕ) → IsSound h → May h t (Untie c) → carries q (untied_hand c (row_at h t).hand)
    ≡ carries q (row_at h t).hand
untied_carries h t c q sound may =
    let P : Hand → Type 0 = λ hand. carries q (untied_hand c hand) ≡ carries q hand in
    elim (untie_way h t c sound may) [
      | at_end busy owner ↦ subst P (sym busy) refl
      | shut_out busy some first ↦ subst P (sym busy) refl
      | handed_over busy owner ↦ subst P (sym busy) refl
      | from_queue free on owner ↦ subst P (sym free) refl
    ]

added_carries : (q c : ℕ) (hand : Hand) → hand_ok hand (MergeAdd c) ≡ true
    → carries q (added_hand c hand) ≡ carries q hand
added_carries q c hand ok =
    elim (or_cases (is_at phases.Taking c hand || is_at phases.Popping c hand) (is_at phases.Yielding c hand) ok) [
      | inl others ↦ elim (or_cases (is_at phases.Taking c hand) (is_at phases.Popping c hand) others) [
        | inl taking ↦ subst (λ x. carries q (added_hand c x) ≡ carries q x)
            (sym (busy_hand phases.Taking c hand taking)) refl
        | inr popping ↦ subst (λ x. carries q (added_hand c x) ≡ carries q x)
            (sym (busy_hand phases.Popping c hand popping)) refl
      ]
      | inr yielding ↦ subst (λ x. carries q (added_hand c x) ≡ carries q x)
          (sym (busy_hand phases.Yielding c hand yielding)) refl
    ]

-- ---- steps on no cell that move nothing

still_moves : (h : Heap) (t : ℕ) (s : Step) → IsSound h → May h t s → drained_word s ≡ None
    → Lasting h (kept_cells h t s) → Same (map_of h) (map_of (kept_cells h t s))
still_moves h t s sound may takes last =
    let h' : Heap = kept_cells h t s in
    same_map h h' last (λ q. refl)
    (own_elsewhere h h' t _ _ _ is_none (kept_own h t s sound may.inside) (λ i q _ _. refl)
    (λ q _. ap (λ o. bit_of (with_drained o (queue_at h t) (popped_at h t)) q) takes) (λ q _. refl)
    (λ j q _. read_by (λ n (words : List ℕ). bit_of words q ≡ bit_of (queue_at h n) q) h.queues t
    (without_drained (drained_word s) (queue_at h t)) []
    (omega (arith, sound.shaped.queues, may.inside)) (ap (λ o. bit_of (without_drained o (queue_at h t)) q) takes)
    (λ n _. refl) j))

-- ---- each step of a thread

pub step_moves : (A : Type 0) (h : Heap) (t : ℕ) (s : Step) → IsSound h → thread_may h t s ≡ true
    → MakesMoves {A = A} (map_of h) (moves_of h t s (target_at h t s)) (map_of (after_target h t s (target_at h t s)))
step_moves A h t (Claim c) sound ok =
    let at = at_named h t (Claim c) c refl sound ok refl in
    quiet_step h t (Claim c) c at refl refl (λ q. sym (ap (carries q) (free_hand _ at.may.hand))) refl (λ q. refl)
step_moves A h t (InitLocal c) sound ok =
    let at = at_named h t (InitLocal c) c refl sound ok refl in
    quiet_step h t (InitLocal c) c at refl refl (λ q. sym (ap (carries q) (busy_hand phases.Claimed c _ at.may.hand)))
    refl (λ q. refl)
step_moves A h t (InitShared c) sound ok =
    let at = at_named h t (InitShared c) c refl sound ok refl in
    quiet_step h t (InitShared c) c at refl refl (λ q. sym (ap (carries q) (busy_hand phases.Counted c _ at.may.hand)))
    refl (λ q. refl)
step_moves A h t (Birth c kind k) sound ok = birth_moves A h t c kind k sound ok
step_moves A h t (LocalUp source k) sound ok =
    moves_at A h t (LocalUp source k) sound ok refl refl
    (λ c at. up_moves A h (stepped h t (LocalUp source k) c) t k c source sound at.named (vacant _ k at.may.own).none
    at.own (λ j. refl) (λ q. refl) at.lasting)
step_moves A h t (LocalDown drop) sound ok =
    moves_at A h t (LocalDown drop) sound ok refl refl
    (λ c at. down_moves A h (stepped h t (LocalDown drop) c) t c _ drop sound at.named at.own
    (λ q. down_hand_carries _ q c _ (free_hand _ at.may.hand)) (λ j. refl) (λ q. refl) at.lasting)
step_moves A h t (SeeZero c) sound ok =
    let at = at_named h t (SeeZero c) c refl sound ok refl in
    quiet_step h t (SeeZero c) c at refl refl
    (λ q. either_way (carries q) _ hands.Free (hands.Busy phases.Over c) _
    (sym (ap (carries q) (busy_hand phases.Zero c _ at.may.hand)))
    (sym (ap (carries q) (busy_hand phases.Zero c _ at.may.hand)))) refl (λ q. refl)
step_moves A h t (Free c) sound ok = free_moves A h t c sound ok
step_moves A h t (Untie c) sound ok =
    let at = at_named h t (Untie c) c refl sound ok refl in
    quiet_step h t (Untie c) c at refl refl (λ q. untied_carries h t c q sound at.may) refl (λ q. refl)
step_moves A h t (MergeZero c) sound ok =
    let at = at_named h t (MergeZero c) c refl sound ok refl in
    quiet_step h t (MergeZero c) c at refl refl (λ q. sym (ap (carries q) (busy_hand phases.Untied c _ at.may.hand)))
    refl (λ q. refl)
step_moves A h t (SharedUp source k) sound ok =
    moves_at A h t (SharedUp source k) sound ok refl refl
    (λ c at. up_moves A h (stepped h t (SharedUp source k) c) t k c source sound at.named (vacant _ k at.may.own).none
    at.own (λ j. refl) (λ q. refl) at.lasting)
step_moves A h t (SharedDown drop) sound ok =
    moves_at A h t (SharedDown drop) sound ok refl refl
    (λ c at. down_moves A h (stepped h t (SharedDown drop) c) t c _ drop sound at.named at.own (λ q. refl) (λ j. refl)
    (λ q. refl) at.lasting)
step_moves A h t (Ask drop) sound ok =
    moves_at A h t (Ask drop) sound ok refl refl (λ c at. ask_moves A h t c drop sound at)
step_moves A h t (LastDown (lasts.Dropped drop)) sound ok =
    moves_at A h t (LastDown (lasts.Dropped drop)) sound ok refl refl
    (λ c at. down_moves A h (stepped h t (LastDown (lasts.Dropped drop)) c) t c _ drop sound at.named at.own (λ q. refl)
    (λ j. refl) (λ q. refl) at.lasting)
step_moves A h t (LastDown (lasts.Popped c)) sound ok = popped_moves A h t c sound
    (at_named h t (LastDown (lasts.Popped c)) c refl sound ok refl)
step_moves A h t (LastDown lasts.Hand) sound ok =
    moves_at A h t (LastDown lasts.Hand) sound ok refl refl (λ c at. hand_moves A h t c sound at)
step_moves A h t (Enqueue c) sound ok = enqueue_moves A h t c sound ok
step_moves A h t (Drain k) sound ok =
    let may = may_parts h t (Drain k) ok in
    pop_moves h (kept_cells h t (Drain k)) t k sound (taken_by h t (Drain k) k sound may refl (ltb-true k _ may.own)
    (lasting h t (Drain k) sound ok refl))
step_moves A h t (MergeAdd c) sound ok =
    let at = at_named h t (MergeAdd c) c refl sound ok refl in
    quiet_step h t (MergeAdd c) c at refl refl (λ q. added_carries q c _ at.may.hand) refl (λ q. refl)
step_moves A h t (Close k) sound ok =
    let may = may_parts h t (Close k) ok in
    let first = and_parts _ _ (and_parts _ _ (and_parts _ _ may.own).0).0 in
    pop_moves h (kept_cells h t (Close k)) t k sound (taken_by h t (Close k) k sound may refl (ltb-true k _ first.0)
    (lasting h t (Close k) sound ok refl))
step_moves A h t (Offer c) sound ok =
    let at = at_named h t (Offer c) c refl sound ok refl in
    quiet_step h t (Offer c) c at refl refl (λ q. sym (ap (carries q) (free_hand _ at.may.hand))) refl (λ q. refl)
step_moves A h t (Reopen k) sound ok = still_moves h t (Reopen k) sound (may_parts h t (Reopen k) ok) refl
    (lasting h t (Reopen k) sound ok refl)
step_moves A h t (Nudge u k) sound ok =
    still_moves h t (Nudge u k) sound (may_parts h t (Nudge u k) ok) refl (lasting h t (Nudge u k) sound ok refl)
step_moves A h t Wake sound ok = still_moves h t Wake sound (may_parts h t Wake ok) refl
    (lasting h t Wake sound ok refl)
step_moves A h t (Lock k) sound ok =
    moves_at A h t (Lock k) sound ok refl refl (λ c at. quiet_step h t (Lock k) c at refl refl (λ q. refl) refl
    (λ q. refl))
step_moves A h t (Unlock change) sound ok = moves_at A h t (Unlock change) sound ok refl refl
    (λ c at. unlock_moves A h t c change sound at)
step_moves A h t (Register u) sound ok = absurd (true≢false (sym (may_parts h t (Register u) ok).hand))
step_moves A h t (Gather u) sound ok = absurd (true≢false (sym (may_parts h t (Gather u) ok).hand))

-- ---- the root

registered_elsewhere : (h : Heap) → Elsewhere h (registered h) is_none
registered_elsewhere h = record {
  frames = λ t k q _ _. read_push (λ j (frame : List (Option ℕ)). is_number (place_at frame k) q ≡ is_number
      (place_at (frame_at h j) k) q) h.frames [] []
      (sym (ap (λ frame. is_number (place_at frame k) q) (get_or_past h.frames (length h.frames) [] (omega arith))))
      (λ j _. refl) t;
  queues = λ t q _. read_push (λ j (words : List ℕ). bit_of words q ≡ bit_of (queue_at h j) q) h.queues
      (replicate (words_for (length h.cells)) 0) []
      (new_bit (words_for (length h.cells)) q
      ∙ sym (ap (λ words. bit_of words q) (get_or_past h.queues (length h.queues) [] (omega arith)) ∙ no_bit q))
      (λ j _. refl) t;
  popped = λ t q _. read_push (λ j (words : List ℕ). bit_of words q ≡ bit_of (popped_at h j) q) h.popped
      (replicate (words_for (length h.cells)) 0) []
      (new_bit (words_for (length h.cells)) q
      ∙ sym (ap (λ words. bit_of words q) (get_or_past h.popped (length h.popped) [] (omega arith)) ∙ no_bit q))
      (λ j _. refl) t;
  hands = λ t q _. read_push (λ j (row : Row). carries q row.hand ≡ carries q (row_at h j).hand) h.rows new_row no_row
      (sym (ap (λ (row : Row). carries q row.hand) (get_or_past h.rows (length h.rows) no_row (omega arith))))
      (λ j _. refl) t;
}

-- a number that is used again had no reference, and has none
again_elsewhere : (h : Heap) (u : ℕ) → IsSound h → Vacated h u → Elsewhere h (registered_again h u) is_none
again_elsewhere h u sound v =
    let blank : List ℕ = replicate (words_for (length h.cells)) 0 in
    record {
      frames = λ t k q _ _. read_by (λ j (frame : List (Option ℕ)). is_number (place_at frame k) q ≡ is_number
          (place_at (frame_at h j) k) q) h.frames u [] []
          (omega (arith, sound.shaped.frames, v.inside)) (sym (ap (λ o. is_number o q) (v.frame k))) (λ j _. refl) t;
      queues = λ t q _. read_by (λ j (words : List ℕ). bit_of words q ≡ bit_of (queue_at h j) q) h.queues u blank []
          (omega (arith, sound.shaped.queues, v.inside)) (new_bit (words_for (length h.cells)) q ∙ sym (v.queue q))
          (λ j _. refl) t;
      popped = λ t q _. read_by (λ j (words : List ℕ). bit_of words q ≡ bit_of (popped_at h j) q) h.popped u blank []
          (omega (arith, sound.shaped.popped, v.inside)) (new_bit (words_for (length h.cells)) q ∙ sym (v.popped q))
          (λ j _. refl) t;
      hands = λ t q _. read_by (λ j (row : Row). carries q row.hand ≡ carries q (row_at h j).hand) h.rows u
          again_row no_row
          v.inside (sym (ap (carries q) v.hand)) (λ j _. refl) t;
    }

root_moves : (A : Type 0) (h : Heap) (s : Step) → IsSound h → root_may h s ≡ true
    → MakesMoves {A = A} (map_of h) (moves_of h 0 s (target_at h 0 s)) (map_of (root_after h s))
root_moves A h (Register u) sound ok = elim (registers h u sound ok) [
  | fresh new most few is ↦ subst (λ w. Same (map_of h) (map_of w)) (sym is)
      (same_map h (registered h) (record { live = λ q. refl; kind = λ q. refl }) (λ q. refl) (registered_elsewhere h))
  | reused v few is ↦ subst (λ w. Same (map_of h) (map_of w)) (sym is)
      (same_map h (registered_again h u) (record { live = λ q. refl; kind = λ q. refl }) (λ q. refl)
      (again_elsewhere h u sound v))
]
root_moves A h (Gather u) sound ok = Same-refl (map_of h)
root_moves A h _ sound ok = absurd (true≢false (sym ok))

pub event_moves : (A : Type 0) (h : Heap) (e : Event) → IsSound h → enabled h e ≡ true
    → MakesMoves {A = A} (map_of h) (moves_of h e.thread e.step (target_at h e.thread e.step)) (map_of (after h e))
event_moves A h e sound ok =
    elim (by_whom h e ok) [
      | inl root ↦
          subst (λ w. MakesMoves {A = A} (map_of h) (moves_of h e.thread e.step (target_at h e.thread e.step))
          (map_of w)) (sym root.leads)
          (subst (λ n. MakesMoves {A = A} (map_of h) (moves_of h n e.step (target_at h n e.step))
          (map_of (root_after h e.step))) (sym root.root) (root_moves A h e.step sound root.may))
      | inr thread ↦
          subst (λ w. MakesMoves {A = A} (map_of h) (moves_of h e.thread e.step (target_at h e.thread e.step))
          (map_of w)) (sym thread.leads)
          (step_moves A h e.thread e.step sound thread.may)
    ]

-- the same of every reached world
pub reached_moves : (A : Type 0) (h : Heap) (e : Event) → IsReached h → enabled h e ≡ true
    → MakesMoves {A = A} (map_of h) (moves_by h e) (map_of (after h e))
reached_moves A h e reached may = event_moves A h e (reached_sound h reached) may
