-- What a thread has seen risen stays so while it has it: states only rise.
use Rattle.std.proofs.Common.{◌≡◌, ℕ, ◌%◌, ◌≤◌, ◌==◌, ◌&&◌, not, true, List, [], ◌∷◌, Option, Some, None, refl, sym}
use Rattle.std.proofs.Common.{◌∙◌, ap, subst, inl, inr, arith}
use Rattle.std.proofs.lemmas.Bool.{and_parts, or_cases, eqb-true, true≢false}
use Rattle.brc_words.specs.declared.limits.TheConstants.{FIRST_MORTAL}
use Rattle.brc_words.specs.declared.state.State.{State}
use Rattle.brc_words.specs.declared.state.State.TheVariants as states
use Rattle.brc_words.specs.Shared.{bits_of}
use Rattle.law.specs.declared.world.cell.Cell.{Cell}
use Rattle.law.specs.declared.world.event.Dropped.{Dropped}
use Rattle.law.specs.declared.world.event.Event.{Event}
use Rattle.law.specs.declared.world.event.Step.{Step}
use Rattle.law.specs.declared.world.event.Step.TheVariants.{SharedUp, Ask}
use Rattle.law.specs.world.Lists.{names}
use Rattle.law.specs.known.Start.{start_of}
use Rattle.law.specs.world.Heap.{Heap, cell_at, entries_at, frame_at, worklist_at, is_registered, AreOptions}
use Rattle.law.specs.world.Steps.{enabled, after, after_target, target_at, dropped_cell}
use Rattle.law.specs.world.Runs.{IsReached}
use Rattle.law.specs.world.Sound.{IsSound, held}
use Rattle.law.specs.lasting.Staying.{rank}
use Rattle.law.specs.known.Items.{Item, Stepped, Word, Of, Shared, ItemRun, AreItems, world_of_items, own, Part}
use Rattle.law.specs.known.Items.{part_of}
use Rattle.law.specs.known.Items.{meant, IsPart, IsNumberFound, WordShows, shared_word, told_at}
use Rattle.law.specs.known.Risen.{drop_in, is_risen_word, is_shared_of, tells_risen, is_risen}
use Rattle.law.proofs.world.Asking.{May}
use Rattle.law.proofs.world.Dropping.{source_held, dropped_held}
use Rattle.law.proofs.world.Reached.{reached_sound}
use Rattle.law.proofs.lasting.Lasting.{event_keeps, live_step, held_live}
use Rattle.law.proofs.lasting.Reasons.{target_cell}
use Rattle.law.proofs.known.Items_Own.{drop_alike}
use Rattle.law.proofs.known.Items_Law.{part_target, part_follows}
use Rattle.law.proofs.known.Items_Tells.{Follows, tells}

-- ---- the number of a shared word

risen_state : (x : Cell) (number : ℕ) → number ≡ shared_word x.count x.state → is_risen_word number ≡ true
    → 1 ≤ rank x.state
risen_state x number is risen = by_state x.state refl
  where
    by_state : (s : State) → x.state ≡ s → 1 ≤ rank x.state
    by_state states.Default at =
        let low : number % 4 ≡ 0 = omega (arith, is, ap bits_of at) in
        absurd (true≢false (sym risen ∙ ap (λ n. not (n == 0)) low))
    by_state states.Queued at = omega (arith, ap rank at)
    by_state states.Merged at = omega (arith, ap rank at)

-- ---- a place that has a cell holds it, and its state doesn't fall

pub named_cell : (c : ℕ) (o : Option ℕ) → names c o ≡ true → o ≡ Some c
named_cell c None is = absurd (true≢false (sym is))
named_cell c (Some d) is = ap Some (eqb-true d c is)

place_held : (h : Heap) (t c : ℕ) (part : Part) (drop : Dropped) → IsPart h t part → names c (drop_in part drop) ≡ true
    → 1 ≤ held h c
place_held h t c part drop is named =
    let same : drop_in part drop ≡ dropped_cell (frame_at h t) (worklist_at h t) (entries_at h) drop =
    ap (λ f. dropped_cell f part.worklist part.has drop) (sym is.frame_is)
    ∙ ap (λ w. dropped_cell (frame_at h t) w part.has drop) (sym is.work_is)
    ∙ drop_alike h t part.has drop (record { locked = is.locked_has; worklists = is.work_has }) in
    dropped_held h t c drop (sym same ∙ named_cell c _ named)

event_risen : (h : Heap) (e : Event) (c : ℕ) → IsReached h → enabled h e ≡ true → 1 ≤ held h c
    → 1 ≤ rank (cell_at h c).state → 1 ≤ rank (cell_at (after h e) c).state
event_risen h e c reached ok some risen =
    let sound : IsSound h = reached_sound h reached in
    omega (arith, risen, (event_keeps h e c sound ok (held_live h c sound some) (inl some)).state)

own_risen : (h : Heap) (t : ℕ) (s : Step) (c : ℕ) → IsReached h → May h t s → 1 ≤ held h c
    → 1 ≤ rank (cell_at h c).state → 1 ≤ rank (cell_at (after_target h t s (target_at h t s)) c).state
own_risen h t s c reached may some risen =
    let sound : IsSound h = reached_sound h reached in
    elim (target_cell h t s (target_at h t s) c may.on_target) [
      | inl same ↦ subst (λ (x : Cell). 1 ≤ rank x.state) (sym same) risen
      | inr at ↦ subst (λ (x : Cell). 1 ≤ rank x.state) (sym at.1)
          (omega (arith, risen, (live_step h t s c sound may at.0 (held_live h c sound some) (inl some)).state))
    ]

-- ---- the law

-- what was seen risen is named by its place now
pub risen_named : (cells : ℕ) (log : List Item) (drop : Dropped) (c : ℕ) → is_risen cells log drop c ≡ true
    → names c (drop_in (part_of cells log) drop) ≡ true
risen_named cells [] drop c risen = absurd (true≢false (sym risen))
risen_named cells (x ∷ items) drop c risen = (and_parts _ _ risen).0

Risen : ℕ → ℕ → Heap → List Item → Type 0
Risen t cells h log = IsPart h t (part_of cells log) × ((drop : Dropped) (c : ℕ) → is_risen cells log drop c ≡ true
    → FIRST_MORTAL ≤ c → 1 ≤ rank (cell_at h c).state)

-- a look at a shared word
seen_risen : (h : Heap) (word : Word) (number c : ℕ) → WordShows h word number
    → (is_shared_of c word && is_risen_word number) ≡ true → 1 ≤ rank (cell_at h c).state
seen_risen h (Of Shared d) number c shows tells =
    let parts = and_parts (d == c) (is_risen_word number) tells in
    ap-rank (eqb-true d c parts.0) (risen_state (cell_at h d) number shows parts.1)
  where
    ap-rank : d ≡ c → 1 ≤ rank (cell_at h d).state → 1 ≤ rank (cell_at h c).state
    ap-rank same risen = subst (λ i. 1 ≤ rank (cell_at h i).state) same risen
seen_risen h _ number c shows tells = absurd (true≢false (sym tells))

-- an own step that is told the shared word
told_risen : (h : Heap) (t : ℕ) (s : Step) (number : ℕ) (entries : List ℕ) (part : Part) (c : ℕ) → IsReached h
    → May h t s → IsNumberFound h t s number → IsPart h t part → FIRST_MORTAL ≤ c
    → tells_risen part c (Stepped s number entries) ≡ true → (1 ≤ held h c) × (1 ≤ rank (cell_at h c).state)
told_risen h t (SharedUp source k) number entries part c reached may told is mortal risen =
    let s : Step = SharedUp source k in
    let parts = and_parts (names c (meant part s)) (is_risen_word number) risen in
    let named : target_at h t s ≡ Some c = sym (part_target h t part s is) ∙ named_cell c _ parts.0 in
    (source_held h t c source named mortal, risen_state (cell_at h c) number (told ∙ ap (told_at h t s) named) parts.1)
told_risen h t (Ask drop) number entries part c reached may told is mortal risen =
    let s : Step = Ask drop in
    let parts = and_parts (names c (meant part s)) (is_risen_word number) risen in
    let named : target_at h t s ≡ Some c = sym (part_target h t part s is) ∙ named_cell c _ parts.0 in
    (dropped_held h t c drop named, risen_state (cell_at h c) number (told ∙ ap (told_at h t s) named) parts.1)
told_risen h t _ number entries part c reached may told is mortal risen = absurd (true≢false (sym risen))

risen_follows : (t cells : ℕ) → Follows t cells (Risen t cells)
unfolding Risen
risen_follows t cells =
    let parts = part_follows t cells in
    record {
      starts = λ h reached size last. (
        parts.starts h reached size last,
        λ drop c risen mortal. absurd
            (true≢false (sym risen)),
      );
      again = λ h number entries reached size vacated. (
        parts.again h number entries reached size vacated,
        λ drop c risen mortal. absurd (true≢false (sym (and_parts _ _ risen).1)),
      );
      others = λ h e log reached ok others before. (
        parts.others h e log reached ok others before.0,
        λ drop c risen mortal. event_risen h e c reached ok
            (place_held h t c (part_of cells log) drop before.0 (risen_named cells log drop c risen))
            (before.1 drop c risen mortal),
      );
      owns = λ h s number entries log reached size fit may told found before. (
        parts.owns h s number entries log reached size fit may told found before.0,
        λ drop c risen mortal. elim (or_cases (tells_risen (part_of cells log) c (Stepped s number entries))
            (is_risen cells log drop c) (and_parts _ _ risen).1) [
              | inl now ↦ let seen = told_risen h t s number entries (part_of cells log) c reached may told
                  before.0 mortal
                  now in own_risen h t s c reached may seen.0 seen.1
              | inr since ↦ own_risen h t s c reached may
                  (place_held h t c (part_of cells log) drop before.0 (risen_named cells log drop c since))
                  (before.1 drop c since mortal)
            ],
      );
      gathers = λ h u log before. (parts.gathers h u log before.0, before.1);
      saw = λ h word number log reached shows before. (
        before.0,
        λ drop c risen mortal. elim (or_cases (is_shared_of c word && is_risen_word number) (is_risen cells log drop c)
            (and_parts _ _ risen).1) [
              | inl now ↦ seen_risen h word number c shows now
              | inr since ↦ before.1 drop c since mortal
            ],
      );
      lost = λ h word number log reached shows before. (
        before.0,
        λ drop c risen mortal. elim (or_cases (is_shared_of c word && is_risen_word number) (is_risen cells log drop c)
            (and_parts _ _ risen).1) [
              | inl now ↦ seen_risen h word number c shows now
              | inr since ↦ before.1 drop c since mortal
            ],
      );
    }

-- what a registered thread has seen risen, in a place or as a last entry that has had it since, is queued or merged
pub risen_is_told : (cells limit : ℕ) (items : ItemRun) (t c : ℕ) (drop : Dropped) → AreOptions cells limit
    → AreItems (start_of cells limit) items
    → is_registered (world_of_items (start_of cells limit) items) t ≡ true → is_risen cells (own t items) drop c ≡ true
    → FIRST_MORTAL ≤ c
    → 1 ≤ rank (cell_at (world_of_items (start_of cells limit) items) c).state
unfolding Risen
risen_is_told cells limit items t c drop options are there risen mortal =
    (tells t cells (Risen t cells) (risen_follows t cells) limit items options are there).1 drop c risen mortal
