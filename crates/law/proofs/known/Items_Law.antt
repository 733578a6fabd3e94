-- A thread's own part of the world is what its own items say.
use Rattle.std.proofs.Common.{◌≡◌, ◌≢◌, ℕ, Bool, true, false, List, [], ◌∷◌, length, replicate, Some, None, sym, ◌∙◌, ap}
use Rattle.std.proofs.Common.{subst, arith}
use Rattle.std.proofs.lemmas.List.{get_or_push}
use Rattle.std.proofs.lemmas.Bool.{true≢false}
use Rattle.brc_words.specs.declared.owner.Owner.TheVariants as owners
use Rattle.law.specs.declared.world.event.Event.{Event}
use Rattle.law.specs.declared.world.event.Step.{Step}
use Rattle.law.specs.declared.world.row.Row.{Row}
use Rattle.law.specs.world.Lists.{place_at, word_at, is_marked, is_bare, is_blank}
use Rattle.law.specs.known.Start.{start_of}
use Rattle.law.specs.world.Heap.{Heap, cell_at, row_at, frame_at, popped_at, worklist_at, new_row, no_row, again_row}
use Rattle.law.specs.declared.world.event.Step.TheVariants.{Register}
use Rattle.law.proofs.world.Changes.{read_here}
use Rattle.law.proofs.world.Reusing.{Vacated}
use Rattle.law.specs.world.Heap.{is_registered, AreOptions}
use Rattle.law.specs.world.Steps.{enabled, after, after_target, target, target_at, locked_cell, registered, gathered_in}
use Rattle.law.specs.world.Steps.{locked_at, registered_again}
use Rattle.law.specs.world.Holding.{lives}
use Rattle.law.specs.world.Sound.{IsSound, WorklistFits}
use Rattle.law.specs.lasting.Staying.{IsAnothers, SameOwn}
use Rattle.law.specs.known.Items.{Stepped, ItemRun, world_of_items, AreItems, own, found, Part, new_part, part_after}
use Rattle.law.specs.known.Items.{part_of, meant, IsPart, IsNumberFound}
use Rattle.law.proofs.world.Asking.{May}
use Rattle.law.proofs.world.Naming.{one-true}
use Rattle.law.proofs.world.Counting.{marked_unheld}
use Rattle.law.proofs.world.Registering.{new_mark}
use Rattle.law.proofs.lasting.Lasting.{others_own, alone_stays, locked_stays}
use Rattle.law.proofs.lasting.Progress.{all_vacant, all_blank}
use Rattle.law.proofs.known.Items_Told.{QueuesFit}
use Rattle.law.proofs.known.Items_Own.{Knows, now, own_step, target_alike}
use Rattle.law.proofs.world.Reached.{reached_sound}
use Rattle.law.proofs.known.Items_Runs.{told_alike}
use Rattle.law.proofs.known.Items_Tells.{Follows, tells}

-- ---- others change nothing of it

is_live : (h : Heap) (t c : ℕ) → WorklistFits t c (cell_at h c) → (cell_at h c).owner ≢ owners.Free
is_live h t c fits free = true≢false (sym fits.lives ∙ ap lives free)

others_part : (h : Heap) (e : Event) (t : ℕ) (part : Part) → IsSound h → enabled h e ≡ true → IsAnothers t e
    → IsPart h t part → IsPart (after h e) t part
others_part h e t part sound ok others is =
    let same : SameOwn t h (after h e) = others_own h e t sound ok others in
    let locked : locked_at (after h e) t ≡ locked_at h t =
    ap (λ (r : Row). locked_cell (frame_at (after h e) t) r.locked) same.row
    ∙ ap (λ f. locked_cell f (row_at h t).locked) same.frame in
    record {
      row_is = same.row ∙ is.row_is;
      frame_is = same.frame ∙ is.frame_is;
      popped_is = same.popped ∙ is.popped_is;
      work_is = same.worklist ∙ is.work_is;
      locked_has = λ c at. let was : locked_at h t ≡ Some c = sym locked
          ∙ at in (locked_stays h e t c sound ok others.other was).2 ∙ is.locked_has c was;
      work_has = λ c marked.
          let was : is_marked (worklist_at h t) c ≡ true = ap (λ marks. is_marked marks c) (sym same.worklist)
          ∙ marked in
          let fits : WorklistFits t c (cell_at h c) = sound.worklists t c was in
          (alone_stays h e t c sound ok others.other fits.mortal
          (omega (arith, one-true (is_marked (worklist_at h t) c) was)) (marked_unheld h t c sound was)
          (is_live h t c fits)).1 ∙ is.work_has c was;
    }

-- ---- a thread as it is registered

new_is : (h : Heap) (t : ℕ) → IsSound h → t ≡ length h.rows → IsPart (registered h) t (new_part (length h.cells))
new_is h t sound last =
    let row : row_at (registered h) t ≡ new_row = get_or_push h.rows new_row no_row t (sym last) in
    let worklist : worklist_at (registered h) t ≡ replicate (length h.cells) false = get_or_push h.worklists _ [] t
    (sound.shaped.worklists ∙ sym last) in
    record {
      row_is = row;
      frame_is = get_or_push h.frames [] [] t (sound.shaped.frames ∙ sym last);
      popped_is = get_or_push h.popped _ [] t (sound.shaped.popped ∙ sym last);
      work_is = worklist;
      locked_has = λ c at. absurd
          (let e : None ≡ Some c = ap (λ (r : Row). locked_cell (frame_at (registered h) t) r.locked) (sym row)
          ∙ at in cc);
      work_has = λ c marked. absurd (true≢false (sym marked ∙ ap (λ (ws : List Bool). is_marked ws c) worklist
          ∙ new_mark (length h.cells) c));
    }

-- ---- a number that is used again

again_is : (h : Heap) (t number : ℕ) (entries : List ℕ) → IsSound h → Vacated h t
    → IsPart (registered_again h t) t (part_of (length h.cells) (Stepped (Register t) number entries ∷ []))
again_is h t number entries sound vacated =
    let row : row_at (registered_again h t) t ≡ again_row = read_here h.rows t again_row no_row vacated.inside in
    let worklist : worklist_at (registered_again h t) t ≡ replicate (length h.cells) false =
    read_here h.worklists t _ [] (omega (arith, sound.shaped.worklists, vacated.inside)) in
    record {
      row_is = row;
      frame_is = read_here h.frames t [] [] (omega (arith, sound.shaped.frames, vacated.inside));
      popped_is = read_here h.popped t _ [] (omega (arith, sound.shaped.popped, vacated.inside));
      work_is = worklist;
      locked_has = λ c at. absurd
          (let e : None ≡ Some c = ap (λ (r : Row). locked_cell (frame_at (registered_again h t) t) r.locked) (sym row)
          ∙ at in cc);
      work_has = λ c marked. absurd (true≢false (sym marked ∙ ap (λ (ws : List Bool). is_marked ws c) worklist
          ∙ new_mark (length h.cells) c));
    }

-- gathering a thread changes nothing of its part
gathered_is : (h : Heap) (u t : ℕ) (part : Part) → IsPart h t part → IsPart (gathered_in h u) t part
gathered_is h u t part is = record {
  row_is = is.row_is;
  frame_is = is.frame_is;
  popped_is = is.popped_is;
  work_is = is.work_is;
  locked_has = is.locked_has;
  work_has = is.work_has;
}

-- ---- an own step

-- the part that the items tell means the cell that the world's does
pub part_target : (h : Heap) (t : ℕ) (part : Part) (s : Step) → IsPart h t part → meant part s ≡ target_at h t s
part_target h t part s is =
    ap (λ r. target r part.frame part.worklist part.has s) (sym is.row_is)
    ∙ ap (λ f. target (row_at h t) f part.worklist part.has s) (sym is.frame_is)
    ∙ ap (λ w. target (row_at h t) (frame_at h t) w part.has s) (sym is.work_is)
    ∙ target_alike h t part.has s (record { locked = is.locked_has; worklists = is.work_has })

-- a part is its world's, with what it knows
now_is : (h : Heap) (t : ℕ) (part : Part) → IsPart h t part → now h t part.has ≡ part
now_is h t part is =
    ap (λ (r : Row). record (now h t part.has) { row = r }) is.row_is
    ∙ ap (λ f. record (now h t part.has) { row = part.row; frame = f }) is.frame_is
    ∙ ap (λ ws. record (now h t part.has) { row = part.row; frame = part.frame; popped = ws }) is.popped_is
    ∙ ap (λ ws. record part { worklist = ws }) is.work_is

own_part : (h : Heap) (t : ℕ) (s : Step) (number : ℕ) (entries : List ℕ) (part : Part) → IsSound h → QueuesFit h
    → May h t s → IsNumberFound h t s number → entries ≡ found h t s → IsPart h t part
    → IsPart (after_target h t s (target_at h t s)) t (part_after (length h.cells) part (Stepped s number entries))
own_part h t s number entries part sound fit may told_is found_is is =
    let w : Heap = after_target h t s (target_at h t s) in
    let knows : Knows h t part.has = record { locked = is.locked_has; worklists = is.work_has } in
    subst (λ p. IsPart w t (part_after (length h.cells) p (Stepped s number entries))) (now_is h t part is)
    (subst (λ p. IsPart w t p) (told_alike h t (length h.cells) s number entries (now h t part.has) told_is)
    (own_step h t s entries part.has sound fit may found_is knows))

-- ---- the law

pub part_follows : (t cells : ℕ) → Follows t cells (λ h log. IsPart h t (part_of cells log))
part_follows t cells = record {
  starts = λ h reached size last. subst (λ n. IsPart (registered h) t (new_part n)) size
      (new_is h t (reached_sound h reached) last);
  again = λ h number entries reached size vacated.
      subst (λ n. IsPart (registered_again h t) t (part_of n (Stepped (Register t) number entries ∷ []))) size
      (again_is h t number entries (reached_sound h reached) vacated);
  others = λ h e log reached ok others before. others_part h e t (part_of cells log) (reached_sound h reached) ok
      others before;
  owns = λ h s number entries log reached size fit may told_is found_is before.
      subst (λ n. IsPart (after_target h t s (target_at h t s)) t
      (part_after n (part_of cells log) (Stepped s number entries))) size
      (own_part h t s number entries (part_of cells log) (reached_sound h reached) fit may told_is found_is before);
  gathers = λ h u log before. gathered_is h u t (part_of cells log) before;
  saw = λ h word number log reached shows before. before;
  lost = λ h word number log reached shows before. before;
}

-- a registered thread's part of the world is what its own items say
pub parts_are_told : (cells limit : ℕ) (items : ItemRun) (t : ℕ) → AreOptions cells limit
    → AreItems (start_of cells limit) items
    → is_registered (world_of_items (start_of cells limit) items) t ≡ true
    → IsPart (world_of_items (start_of cells limit) items) t (part_of cells (own t items))
parts_are_told cells limit items t options are there = tells t cells (λ h log. IsPart h t (part_of cells log))
    (part_follows t cells) limit items options are there

-- the cell that a step means by the thread's own items is the one that it means in the world
pub meant_is_told : (cells limit : ℕ) (items : ItemRun) (t : ℕ) (s : Step) → AreOptions cells limit
    → AreItems (start_of cells limit) items
    → is_registered (world_of_items (start_of cells limit) items) t ≡ true
    → meant (part_of cells (own t items)) s ≡ target_at (world_of_items (start_of cells limit) items) t s
meant_is_told cells limit items t s options are there =
    part_target (world_of_items (start_of cells limit) items) t (part_of cells (own t items)) s
    (parts_are_told cells limit items t options are there)

-- a frame whose places are all vacant is bare in the world, and popped words without a bit are blank there
pub bare_is_told : (cells limit : ℕ) (items : ItemRun) (t : ℕ) → AreOptions cells limit
    → AreItems (start_of cells limit) items
    → is_registered (world_of_items (start_of cells limit) items) t ≡ true
    → ((k : ℕ) → place_at (part_of cells (own t items)).frame k ≡ None)
    → is_bare (frame_at (world_of_items (start_of cells limit) items) t) ≡ true
bare_is_told cells limit items t options are there vacant =
    all_vacant (frame_at (world_of_items (start_of cells limit) items) t)
    (λ k. ap (λ f. place_at f k) (parts_are_told cells limit items t options are there).frame_is ∙ vacant k)

pub blank_is_told : (cells limit : ℕ) (items : ItemRun) (t : ℕ) → AreOptions cells limit
    → AreItems (start_of cells limit) items
    → is_registered (world_of_items (start_of cells limit) items) t ≡ true
    → ((k : ℕ) → word_at (part_of cells (own t items)).popped k ≡ 0)
    → is_blank (popped_at (world_of_items (start_of cells limit) items) t) ≡ true
blank_is_told cells limit items t options are there none =
    all_blank (popped_at (world_of_items (start_of cells limit) items) t)
    (λ k. ap (λ (ws : List ℕ). word_at ws k) (parts_are_told cells limit items t options are there).popped_is ∙ none k)
