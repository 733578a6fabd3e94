-- The cells that a thread's own items call private are its own, after every list of items.
use Rattle.std.proofs.Common.{◌≡◌, ◌≢◌, ℕ, ◌+◌, ◌==◌, not, nat_lt, Bool, true, false, if◌then◌else◌, List, [], ◌∷◌}
use Rattle.std.proofs.Common.{length, Option, Some, None, refl, sym, ◌∙◌, ap, subst, inl, inr, ◌⊎◌}
use Rattle.std.proofs.lemmas.Bool.{cases_Bool, and_parts, eqb-true, lt-ltb, true≢false}
use Rattle.std.specs.Cmp.Derive.{both_true}
use Rattle.law.specs.declared.world.edition.Edition.TheVariants as editions
use Rattle.law.specs.declared.world.event.Event.{Event}
use Rattle.law.specs.declared.world.event.Step.{Step}
use Rattle.law.specs.declared.world.event.Step.TheVariants.{Birth, Free, Close, Unlock, Register, Gather, Offer, Reopen}
use Rattle.law.specs.declared.world.row.Row.{Row}
use Rattle.law.specs.declared.world.row.Stage.{Stage}
use Rattle.law.specs.declared.world.row.Stage.TheVariants as stages
use Rattle.law.specs.known.Start.{start_of}
use Rattle.law.specs.world.Heap.{Heap, row_at, frame_at, no_row, words_for, is_registered, AreOptions}
use Rattle.law.specs.world.Steps.{enabled, after, after_target, root_after, root_may, thread_may, target_at, target_ok}
use Rattle.law.specs.world.Steps.{needs_no_cell, locked_cell, locked_at, is_active, is_open, opens_next, edition_ok}
use Rattle.law.specs.world.Steps.{stage_after, stage_ok, registered, registered_again, stepped, kept_cells}
use Rattle.law.specs.world.Sound.{IsSound}
use Rattle.law.proofs.world.Asking.{May, may_parts}
use Rattle.law.proofs.world.Changes.{read_here}
use Rattle.law.proofs.world.Reached.{reached_sound}
use Rattle.law.specs.lasting.Staying.{IsAnothers}
use Rattle.law.proofs.lasting.Lasting.{others_own}
use Rattle.law.proofs.known.Starting.{run_reached}
use Rattle.law.specs.known.Items.{Item, Stepped, ItemRun, AreItems, events_of, world_of_items, own, Part, part_of}
use Rattle.law.specs.known.Items.{IsPart}
use Rattle.law.proofs.known.Items_Law.{part_follows}
use Rattle.law.proofs.known.Items_Runs.{events_run}
use Rattle.law.proofs.known.Items_Tells.{Follows, tells}
use Rattle.law.specs.private.Private.{Isolated, private_by, private_of, locked_told}
use Rattle.law.proofs.private.Others_Leave.{others_leave}
use Rattle.law.proofs.private.Others_Steps.{others_step}
use Rattle.law.proofs.private.Own_Steps.{own_unlock, own_plain, own_offer, none_private}
use Rattle.law.proofs.private.Births_Frees.{own_birth, own_free}
use Rattle.law.proofs.private.Queue_Steps.{apart_kept}
use Rattle.law.proofs.private.Root_Steps.{apart_registered, apart_registered_again, apart_gathered}

-- ---- others' events

others_target : (h : Heap) (t u : ℕ) (s : Step) (mine : ℕ → Bool) (o : Option ℕ) → IsSound h → u ≢ t
    → thread_may h u s ≡ true → target_at h u s ≡ o → Isolated h t mine → Isolated (after_target h u s o) t mine
others_target h t u s mine None sound other may named apart = apart_kept h t u mine s (may_parts h u s may).inside apart
others_target h t u s mine (Some d) sound other may named apart = others_step h t u mine sound apart other s d may named

roots_event : (h : Heap) (t : ℕ) (s : Step) (mine : ℕ → Bool) → root_may h s ≡ true → Isolated h t mine
    → Isolated (root_after h s) t mine
roots_event h t (Register u) mine may apart = by_number (nat_lt u (length h.rows))
  where
    by_number : (b : Bool) → Isolated (if b then registered_again h u else registered h) t mine
    by_number true = apart_registered_again h u t mine apart
    by_number false = apart_registered h t mine apart
roots_event h t (Gather u) mine may apart = apart_gathered h u t mine apart
roots_event h t s mine may apart = absurd (true≢false (sym may))

others_event : (h : Heap) (t : ℕ) (e : Event) (mine : ℕ → Bool) → IsSound h → enabled h e ≡ true → IsAnothers t e
    → Isolated h t mine → Isolated (after h e) t mine
others_event h t e mine sound ok others apart =
    let moved : Heap = after_target h e.thread e.step (target_at h e.thread e.step) in
    elim (cases_Bool (e.thread == 0)) [
      | inl root ↦ subst (λ b. Isolated (if b then root_after h e.step else moved) t mine) (sym root)
          (roots_event h t e.step mine
          (subst (λ b. (if b then root_may h e.step else thread_may h e.thread e.step) ≡ true) root ok) apart)
      | inr thread ↦ subst (λ b. Isolated (if b then root_after h e.step else moved) t mine) (sym thread)
          (others_target h t e.thread e.step mine (target_at h e.thread e.step) sound others.other
          (subst (λ b. (if b then root_may h e.step else thread_may h e.thread e.step) ≡ true) thread ok) refl apart)
    ]

-- ---- own steps

never_open : (b : Bool) (k : ℕ) → is_active (if b then stages.Left else stages.Closing k) ≡ false
never_open true k = refl
never_open false k = refl

-- the tests of a thread's step, together
pub joined : (h : Heap) (t : ℕ) (s : Step) → May h t s → thread_may h t s ≡ true
joined h t s may =
    let there : is_registered h t ≡ true = both_true (lt-ltb 0 t may.some_thread)
    (lt-ltb t (length h.rows) may.inside) in
    both_true (both_true (both_true
    (both_true (both_true (both_true (both_true (both_true there (ap not may.not_gathered)) may.stage) may.lock)
    may.hand) may.own) may.others) may.edition) may.on_target

-- a queue word is opened again by a thread whose number is used again
opens_stage : (g : Stage) (k : ℕ) → opens_next g k ≡ true → g ≡ stages.Opening k
opens_stage stages.Active k next = absurd (true≢false (sym next))
opens_stage (stages.Closing n) k next = absurd (true≢false (sym next))
opens_stage stages.Left k next = absurd (true≢false (sym next))
opens_stage (stages.Opening n) k next = ap stages.Opening (sym (eqb-true k n next))

reopens : (h : Heap) (t k : ℕ) → May h t (Reopen k) → (row_at h t).stage ≡ stages.Opening k
reopens h t k may = opens_stage (row_at h t).stage k (and_parts _ _ may.own).1

-- no other step makes a thread active
was_active : (words : ℕ) (s : Step) (g : Stage) → is_active (stage_after words s g) ≡ true
    → (is_active g ≡ true) ⊎ ((k : ℕ) × (s ≡ Reopen k))
was_active words (Close k) g active = absurd (true≢false (sym active ∙ never_open (k + 1 == words) (k + 1)))
was_active words (Reopen k) g active = inr (k, refl)
was_active words s g active = inl active

pub active_or_opens : (h : Heap) (t : ℕ) (s : Step) (o : Option ℕ) → May h t s
    → is_active (row_at (after_target h t s o) t).stage ≡ true
    → (is_active (row_at h t).stage ≡ true) ⊎ ((k : ℕ) × (s ≡ Reopen k) × ((row_at h t).stage ≡ stages.Opening k))
active_or_opens h t s None may active =
    elim (was_active (words_for (length h.cells)) s (row_at h t).stage
    (ap (λ (r : Row). is_active r.stage) (sym (read_here h.rows t _ no_row may.inside)) ∙ active)) [
      | inl was ↦ inl was
      | inr opens ↦ inr (opens.0, opens.1, reopens h t opens.0 (subst (May h t) opens.1 may))
    ]
active_or_opens h t s (Some d) may active =
    inl (ap (λ (r : Row). is_active r.stage) (sym (read_here h.rows t _ no_row may.inside)) ∙ active)

-- whoever is opening after a step was so before it
still_opening : (words n : ℕ) (s : Step) (g : Stage) → stage_ok g s ≡ true → stage_after words s g ≡ stages.Opening n
    → (k : ℕ) × (s ≡ Reopen k)
still_opening words n (Reopen k) g ok is = (k, refl)
still_opening words n (Close k) g ok is = absurd (by_last (k + 1 == words) is)
  where
    by_last : (b : Bool) → (if b then stages.Left else stages.Closing (k + 1)) ≡ stages.Opening n → ⊥
    by_last true is = cc
    by_last false is = cc
still_opening words n s g ok is = absurd (true≢false (sym (ap (λ g. stage_ok g s) (sym is) ∙ ok)))

pub opening_before : (h : Heap) (t n : ℕ) (s : Step) (o : Option ℕ) → May h t s
    → (row_at (after_target h t s o) t).stage ≡ stages.Opening n
    → (k : ℕ) × (s ≡ Reopen k) × ((row_at h t).stage ≡ stages.Opening k)
opening_before h t n s None may is =
    let opens = still_opening (words_for (length h.cells)) n s (row_at h t).stage may.stage
    (ap (λ (r : Row). r.stage) (sym (read_here h.rows t _ no_row may.inside)) ∙ is) in
    (opens.0, opens.1, reopens h t opens.0 (subst (May h t) opens.1 may))
opening_before h t n s (Some d) may is =
    let stage : (row_at h t).stage ≡ stages.Opening n = ap (λ (r : Row). r.stage)
    (sym (read_here h.rows t _ no_row may.inside)) ∙ is in
    let opens = only_opens s (ap (λ g. stage_ok g s) (sym stage) ∙ may.stage) in
    (opens.0, opens.1, reopens h t opens.0 (subst (May h t) opens.1 may))
  where
    only_opens : (s : Step) → is_open s ≡ true → (k : ℕ) × (s ≡ Reopen k)
    only_opens (Reopen k) is = (k, refl)
    only_opens s is = absurd (true≢false (sym is))

-- a step on no cell makes none private, and ends it for none
same_apart : (h : Heap) (t u : ℕ) (s : Step) (mine : ℕ → Bool) (frame : List (Option ℕ)) (into : Option ℕ)
    → needs_no_cell s ≡ true → Isolated h t mine → Isolated h t (private_by frame into s mine)
same_apart h t u (Birth d kind k) mine frame into none apart = absurd (true≢false (sym none))
same_apart h t u (Free d) mine frame into none apart = absurd (true≢false (sym none))
same_apart h t u (Unlock change) mine frame into none apart = absurd (true≢false (sym none))
same_apart h t u (Offer d) mine frame into none apart = absurd (true≢false (sym none))
same_apart h t u s mine frame into none apart = apart

own_on_cell : (h : Heap) (t : ℕ) (s : Step) (mine : ℕ → Bool) (d : ℕ) → IsSound h → Isolated h t mine
    → is_active (row_at h t).stage ≡ true → thread_may h t s ≡ true → target_at h t s ≡ Some d
    → Isolated (stepped h t s d) t (private_by (frame_at h t) (locked_at h t) s mine)
own_on_cell h t (Birth e kind k) mine d sound apart active may named = own_birth h t mine sound apart active e kind k
    d may named
own_on_cell h t (Free e) mine d sound apart active may named = own_free h t mine sound apart active e d may named
own_on_cell h t (Unlock change) mine d sound apart active may named = own_unlock h t mine sound apart active change
    d may named
own_on_cell h t (Offer e) mine d sound apart active may named = own_offer h t mine sound apart active e d may named
own_on_cell h t s mine d sound apart active may named = own_plain h t mine sound apart active s d refl may named

own_target : (h : Heap) (t : ℕ) (s : Step) (mine : ℕ → Bool) (o : Option ℕ) → IsSound h → Isolated h t mine
    → is_active (row_at h t).stage ≡ true → thread_may h t s ≡ true → target_at h t s ≡ o
    → Isolated (after_target h t s o) t (private_by (frame_at h t) (locked_at h t) s mine)
own_target h t s mine None sound apart active may named =
    let parts : May h t s = may_parts h t s may in
    same_apart (kept_cells h t s) t t s mine (frame_at h t) (locked_at h t)
    (subst (λ o. target_ok h t (row_at h t) s o ≡ true) named parts.on_target)
    (apart_kept h t t mine s parts.inside apart)
own_target h t s mine (Some d) sound apart active may named = own_on_cell h t s mine d sound apart active may named

-- the frame and the lock are those of the thread's part
pub by_part : (h : Heap) (t : ℕ) (Q : List (Option ℕ) → Option ℕ → Type 0) (part : Part) → IsPart h t part
    → Q (frame_at h t) (locked_at h t) → Q part.frame (locked_cell part.frame part.row.locked)
by_part h t Q part is holds =
    subst (λ (f : List (Option ℕ)). Q f (locked_cell f part.row.locked)) is.frame_is
    (subst (λ (r : Row). Q (frame_at h t) (locked_cell (frame_at h t) r.locked)) is.row_is holds)

pub to_world : (h : Heap) (t : ℕ) (Q : List (Option ℕ) → Option ℕ → Type 0) (part : Part) → IsPart h t part
    → Q part.frame (locked_cell part.frame part.row.locked) → Q (frame_at h t) (locked_at h t)
to_world h t Q part is holds =
    subst (λ (r : Row). Q (frame_at h t) (locked_cell (frame_at h t) r.locked)) (sym is.row_is)
    (subst (λ (f : List (Option ℕ)). Q f (locked_cell f part.row.locked)) (sym is.frame_is) holds)

-- ---- the law

-- the thread's part is what its items say, and so are its private cells while it is active; before all of its words are
-- open it has none
pub record ApartNow (t cells : ℕ) (h : Heap) (log : List Item) : Type 0 where
  pub part : IsPart h t (part_of cells log)
  pub apart : is_active (row_at h t).stage ≡ true → Isolated h t (private_of cells log)
  pub opening : (n : ℕ) → (row_at h t).stage ≡ stages.Opening n → (c : ℕ) → private_of cells log c ≡ false

-- opening one more word makes nothing private
pub opens_none : (cells : ℕ) (s : Step) (number : ℕ) (entries : List ℕ) (log : List Item) (k : ℕ) → s ≡ Reopen k
    → ((c : ℕ) → private_of cells log c ≡ false)
    → (c : ℕ) → private_of cells (Stepped s number entries ∷ log) c ≡ false
opens_none cells s number entries log k is none c =
    ap (λ (z : Step). private_by (part_of cells log).frame (locked_told cells log) z (private_of cells log) c)
    is ∙ none c

pub apart_follows : (t cells : ℕ) → Follows t cells (ApartNow t cells)
apart_follows t cells = record {
  starts = λ h reached size last. record {
    part = (part_follows t cells).starts h reached size last;
    apart = λ active. none_private (registered h) t (private_of cells []) (λ c. refl);
    opening = λ n is c. refl;
  };
  again = λ h number entries reached size vacated. record {
    part = (part_follows t cells).again h number entries reached size vacated;
    apart = λ active. none_private (registered_again h t) t
        (private_of cells (Stepped (Register t) number entries ∷ [])) (λ c. refl);
    opening = λ n is c. refl;
  };
  others = λ h e log reached ok others before. record {
    part = (part_follows t cells).others h e log reached ok others before.part;
    apart = λ active. others_event h t e (private_of cells log) (reached_sound h reached) ok others
        (before.apart (ap (λ (r : Row). is_active r.stage)
        (sym (others_own h e t (reached_sound h reached) ok others).row) ∙ active));
    opening = λ n is. before.opening n
        (ap (λ (r : Row). r.stage) (sym (others_own h e t (reached_sound h reached) ok others).row) ∙ is);
  };
  owns = λ h s number entries log reached size fit may told_is found_is before. record {
    part = (part_follows t cells).owns h s number entries log reached size fit may told_is found_is before.part;
    apart = λ active. elim (active_or_opens h t s (target_at h t s) may active) [
      | inl was ↦ by_part h t (λ frame into. Isolated (after_target h t s (target_at h t s)) t
          (private_by frame into s (private_of cells log))) (part_of cells log) before.part
          (own_target h t s (private_of cells log) (target_at h t s) (reached_sound h reached) (before.apart was) was
          (joined h t s may) refl)
      | inr opens ↦ none_private (after_target h t s (target_at h t s)) t
          (private_of cells (Stepped s number entries ∷ log))
          (opens_none cells s number entries log opens.0 opens.1 (before.opening opens.0 opens.2))
    ];
    opening = λ n is.
        let opens = opening_before h t n s (target_at h t s) may is in
        opens_none cells s number entries log opens.0 opens.1 (before.opening opens.0 opens.2);
  };
  gathers = λ h u log before. record {
    part = (part_follows t cells).gathers h u log before.part;
    apart = λ active. apart_gathered h u t (private_of cells log) (before.apart active);
    opening = before.opening;
  };
  saw = λ h word number log reached shows before. record {
    part = before.part;
    apart = before.apart;
    opening = before.opening;
  };
  lost = λ h word number log reached shows before. record {
    part = before.part;
    apart = before.apart;
    opening = before.opening;
  };
}

-- the private cells that an active thread's items tell are its own in the world
pub private_cells_stay : (cells limit : ℕ) (items : ItemRun) (t : ℕ) → AreOptions cells limit
    → AreItems (start_of cells limit) items
    → is_registered (world_of_items (start_of cells limit) items) t ≡ true
    → is_active (row_at (world_of_items (start_of cells limit) items) t).stage ≡ true
    → Isolated (world_of_items (start_of cells limit) items) t (private_of cells (own t items))
private_cells_stay cells limit items t options are there active =
    (tells t cells (ApartNow t cells) (apart_follows t cells) limit items options are there).apart active

-- a thread whose number is used again has none before all of its words are open
pub private_cells_begin : (cells limit : ℕ) (items : ItemRun) (t n c : ℕ) → AreOptions cells limit
    → AreItems (start_of cells limit) items
    → is_registered (world_of_items (start_of cells limit) items) t ≡ true
    → (row_at (world_of_items (start_of cells limit) items) t).stage ≡ stages.Opening n
    → private_of cells (own t items) c ≡ false
private_cells_begin cells limit items t n c options are there is =
    (tells t cells (ApartNow t cells) (apart_follows t cells) limit items options are there).opening n is c

-- no step of another thread's means one
pub others_never_mean : (cells limit : ℕ) (items : ItemRun) (t u : ℕ) (s : Step) (c : ℕ) → AreOptions cells limit
    → AreItems (start_of cells limit) items
    → is_registered (world_of_items (start_of cells limit) items) t ≡ true
    → is_active (row_at (world_of_items (start_of cells limit) items) t).stage ≡ true
    → u ≢ t → thread_may (world_of_items (start_of cells limit) items) u s ≡ true
    → target_at (world_of_items (start_of cells limit) items) u s ≡ Some c
    → private_of cells (own t items) c ≢ true
others_never_mean cells limit items t u s c options are there active other may named =
    let h : Heap = world_of_items (start_of cells limit) items in
    others_leave h t u (private_of cells (own t items)) s c
    (reached_sound h (run_reached cells limit (events_of items) options (events_run (start_of cells limit) items are)))
    (private_cells_stay cells limit items t options are there active) other may named
