-- Lives, births and frees: what each event does to them, so that the run alone tells them.
use Rattle.std.proofs.Common.{◌≡◌, ℕ, ◌+◌, ◌<◌, ◌≤◌, ◌==◌, ◌&&◌, ◌||◌, not, Bool, true, false, if◌then◌else◌, List}
use Rattle.std.proofs.Common.{length, get_or, set, Option, Some, None, refl, sym, ◌∙◌, ap, subst, inl, inr, ◌⊎◌, arith}
use Rattle.std.proofs.Common.{[], ◌∷◌, nat_lt}
use Rattle.std.proofs.lemmas.List.{get_or_past}
use Rattle.std.proofs.lemmas.Bool.{cases_Bool, eq-eqb, ne_eqb, eqb-true, and_parts, and_right, or_parts, le-ltb}
use Rattle.std.proofs.lemmas.Bool.{true≢false}
use Rattle.brc_words.specs.declared.limits.TheConstants.{FIRST_MORTAL}
use Rattle.law.specs.declared.world.cell.Cell.{Cell}
use Rattle.law.specs.declared.world.edition.Edition.TheVariants as editions
use Rattle.law.specs.declared.world.event.Event.{Event}
use Rattle.law.specs.world.Runs.{world_after}
use Rattle.law.specs.declared.world.event.Step.{Step}
use Rattle.law.specs.declared.world.event.Step.TheVariants.{Claim, Birth, LocalUp, LocalDown, Free, Untie, Ask}
use Rattle.law.specs.declared.world.event.Step.TheVariants.{Register}
use Rattle.law.specs.declared.world.row.Row.{Row}
use Rattle.law.specs.declared.world.row.Phase.TheVariants as phases
use Rattle.law.specs.declared.world.row.Stage.{Stage}
use Rattle.law.specs.world.Lists.{one, is_marked}
use Rattle.law.specs.world.Heap.{Heap, cell_at, row_at, worklist_at, no_cell, no_row, new_row, is_immortal, words_for}
use Rattle.law.specs.world.Steps.{enabled, after, after_target, root_after, needs_no_cell, cell_after, row_after}
use Rattle.law.specs.world.Steps.{is_shut, thread_may, root_may, target_at, target_ok, allocs_after, frees_after}
use Rattle.law.specs.world.Steps.{stage_after, number_ok, registered, registered_again}
use Rattle.law.specs.world.Holding.{lives, lives_at, lives_since, lives_by, is_birth, holders_of, DiesUnheld}
use Rattle.law.specs.world.Steps.{is_free_step}
use Rattle.law.specs.world.Sound.{IsSound, HandFits, WorklistFits, Births, held}
use Rattle.law.proofs.world.Naming.{busy_hand, busy_carrier, free_owner}
use Rattle.law.proofs.world.Asking.{May, may_parts, on_cell, OnCell, at_end, shut_out, handed_over, from_queue}
use Rattle.law.proofs.world.Asking.{untie_way}
use Rattle.law.proofs.world.Changes.{read_by}
use Rattle.law.proofs.world.Registering.{read_push}
use Rattle.law.proofs.world.Counting.{marked_unheld}
use Rattle.law.proofs.world.Merging.{held_owner, carried_held}
use Rattle.law.proofs.world.Headlines.{length-holders, no_holders}

-- ---- what is held lives

pub alive_lives : (h : Heap) (c : ℕ) → FIRST_MORTAL ≤ c → lives (cell_at h c).owner ≡ true → lives_at h c ≡ true
alive_lives h c mortal live = ap (λ b. not b && lives (cell_at h c).owner) (le-ltb c FIRST_MORTAL mortal) ∙ live

pub held_lives : (h : Heap) (c : ℕ) → IsSound h → FIRST_MORTAL ≤ c → 1 ≤ held h c → lives_at h c ≡ true
held_lives h c sound mortal some = alive_lives h c mortal (held_owner h c sound mortal some)

-- ---- lives

-- a cell whose owner changes: it lives as its new owner says, all others as before
lives_set : (h : Heap) (c q : ℕ) (x : Cell) (b : Bool) → c < length h.cells → FIRST_MORTAL ≤ c → lives x.owner ≡ b
    → (not (is_immortal q) && lives (get_or (set h.cells c x) q no_cell).owner) ≡ (if c == q then b else lives_at h q)
lives_set h c q x b inside mortal now =
    read_by (λ j (y : Cell). (not (is_immortal j) && lives y.owner) ≡ (if c == j then b else lives_at h j)) h.cells c x
    no_cell inside
    (ap (λ i. not i && lives x.owner) (le-ltb c FIRST_MORTAL mortal) ∙ now
    ∙ sym (ap (λ t. if t then b else lives_at h c) (eq-eqb c c refl)))
    (λ j other. sym (ap (λ t. if t then b else lives_at h j) (ne_eqb c j (λ e. other (sym e)))))
    q

-- a cell whose owner word says of its life what it said: every cell lives as before
lives_same : (h : Heap) (c q : ℕ) (x : Cell) → c < length h.cells → lives x.owner ≡ lives (cell_at h c).owner
    → (not (is_immortal q) && lives (get_or (set h.cells c x) q no_cell).owner) ≡ lives_at h q
lives_same h c q x inside same =
    read_by (λ j (y : Cell). (not (is_immortal j) && lives y.owner) ≡ lives_at h j) h.cells c x no_cell inside
    (ap (λ b. not (is_immortal c) && b) same) (λ j _. refl) q

-- the steps that write an owner word; all others keep it
abbrev writes_owner : Step → Bool
writes_owner (Claim c) = true
writes_owner (Birth c kind k) = true
writes_owner (Free c) = true
writes_owner (Untie c) = true
writes_owner _ = false

-- what is so of two values is so of either
pub either_way : {A B : Type 0} (f : A → B) (b : Bool) (x y : A) (v : B) → f x ≡ v → f y ≡ v
    → f (if b then x else y) ≡ v
either_way {A} {B} f true x y v first second = first
either_way {A} {B} f false x y v first second = second

owner_kept : (t : ℕ) (s : Step) (c : ℕ) (x : Cell) → writes_owner s ≡ false → (cell_after t s c x).owner ≡ x.owner
owner_kept t (Claim d) c x plain = absurd (true≢false plain)
owner_kept t (Birth d kind k) c x plain = absurd (true≢false plain)
owner_kept t (Free d) c x plain = absurd (true≢false plain)
owner_kept t (Untie d) c x plain = absurd (true≢false plain)
owner_kept t (LocalUp source k) c x plain = either_way (λ (y : Cell). y.owner) (is_immortal c) x _ x.owner refl refl
owner_kept t (LocalDown drop) c x plain = either_way (λ (y : Cell). y.owner) (is_immortal c) x _ x.owner refl refl
owner_kept t (Ask drop) c x plain = either_way (λ (y : Cell). y.owner) _ _ x x.owner refl refl
owner_kept t _ c x plain = refl

kept_lives : (h : Heap) (t : ℕ) (s : Step) (o : Option ℕ) (q : ℕ) → writes_owner s ≡ false
    → target_ok h t (row_at h t) s o ≡ true
    → lives_at (after_target h t s o) q ≡ lives_at h q
kept_lives h t s None q plain ok = refl
kept_lives h t s (Some c) q plain ok =
    lives_same h c q (cell_after t s c (cell_at h c)) (on_cell h t s c ok).inside
    (ap lives (owner_kept t s c (cell_at h c) plain))

-- a thread's object is let go while it lives
untied_alive : (h : Heap) (t c : ℕ) → IsSound h → May h t (Untie c) → lives (cell_at h c).owner ≡ true
untied_alive h t c sound may = elim (untie_way h t c sound may) [
  | at_end busy owner ↦ ap lives owner
  | shut_out busy some first ↦ held_owner h c sound (sound.hands t c phases.Shut busy).mortal
      (carried_held h t c (busy_carrier phases.Shut c _ refl busy))
  | handed_over busy owner ↦ ap lives owner
  | from_queue free on owner ↦ ap lives owner
]

pub step_lives : (h : Heap) (t : ℕ) (s : Step) (q : ℕ) → IsSound h → thread_may h t s ≡ true
    → lives_at (after_target h t s (target_at h t s)) q ≡ lives_since s q (lives_at h q)
step_lives h t (Claim c) q sound ok =
    let may : May h t (Claim c) = may_parts h t (Claim c) ok in
    let at_cell : OnCell h t (Claim c) c = on_cell h t (Claim c) c may.on_target in
    lives_same h c q (cell_after t (Claim c) c (cell_at h c)) at_cell.inside
    (sym (ap lives (free_owner _ (and_parts _ _ at_cell.fits).1)))
step_lives h t (Birth c kind k) q sound ok =
    let may : May h t (Birth c kind k) = may_parts h t (Birth c kind k) ok in
    let said : HandFits h t phases.Ready c = sound.hands t c phases.Ready (busy_hand phases.Ready c _ may.hand) in
    lives_set h c q (cell_after t (Birth c kind k) c (cell_at h c)) true
    (on_cell h t (Birth c kind k) c may.on_target).inside said.mortal refl
step_lives h t (Free c) q sound ok =
    let may : May h t (Free c) = may_parts h t (Free c) ok in
    let fits : WorklistFits t c (cell_at h c) = sound.worklists t c (and_parts _ _ may.own).0 in
    lives_set h c q (cell_after t (Free c) c (cell_at h c)) false (on_cell h t (Free c) c may.on_target).inside
    fits.mortal refl
step_lives h t (Untie c) q sound ok =
    let may : May h t (Untie c) = may_parts h t (Untie c) ok in
    let at_cell : OnCell h t (Untie c) c = on_cell h t (Untie c) c may.on_target in
    lives_same h c q (cell_after t (Untie c) c (cell_at h c)) at_cell.inside (sym (untied_alive h t c sound may))
step_lives h t s q sound ok = kept_lives h t s (target_at h t s) q refl (may_parts h t s ok).on_target

-- ---- births and frees of each thread

-- the steps with which an object begins or ends
abbrev pub is_of_life : Step → Bool
is_of_life s = is_birth s || is_free_step s

-- steps on no cell aren't among them
pub no_cell_step : (s : Step) → needs_no_cell s ≡ true → is_of_life s ≡ false
no_cell_step (Birth c kind k) none = absurd (true≢false (sym none))
no_cell_step (Free c) none = absurd (true≢false (sym none))
no_cell_step _ none = refl

-- nor are the root's
pub root_step : (h : Heap) (s : Step) → root_may h s ≡ true → is_of_life s ≡ false
root_step h (Birth c kind k) ok = absurd (true≢false (sym ok))
root_step h (Free c) ok = absurd (true≢false (sym ok))
root_step h _ ok = refl

-- a ledger's number rises exactly at the thread's own steps that count
pub counted_step : (f : Row → ℕ) (counts : Step → Bool) (h : Heap) (t : ℕ) (s : Step) (o : Option ℕ) (q : ℕ)
    → t < length h.rows → ((c : ℕ) (x : Cell) (shut : Bool) (row : Row) → f (row_after s c x shut row) ≡ f row + one
    (counts s))
    → ((row : Row) (stage : Stage) → f (record row { stage = stage }) ≡ f row)
    → (needs_no_cell s ≡ true → counts s ≡ false)
    → target_ok h t (row_at h t) s o ≡ true
    → f (row_at (after_target h t s o) q) ≡ f (row_at h q) + one ((t == q) && counts s)
counted_step f counts h t s None q inside more kept none ok =
    read_by (λ j (row : Row). f row ≡ f (row_at h j) + one ((t == j) && counts s)) h.rows t _ no_row inside
    (omega (
      arith,
      kept (row_at h t) (stage_after (words_for (length h.cells)) s (row_at h t).stage),
      ap one (and_right (t == t) (counts s) (none ok)),
    ))
    (λ j _. omega (arith, ap one (and_right (t == j) (counts s) (none ok))))
    q
counted_step f counts h t s (Some c) q inside more kept none ok =
    read_by (λ j (row : Row). f row ≡ f (row_at h j) + one ((t == j) && counts s)) h.rows t
    (row_after s c (cell_at h c) (is_shut h c) (row_at h t)) no_row inside
    (more c (cell_at h c) (is_shut h c) (row_at h t) ∙ ap (λ b. f (row_at h t) + one (b && counts s))
    (sym (eq-eqb t t refl)))
    (λ j other. omega (arith, ap (λ b. one (b && counts s)) (ne_eqb t j (λ e. other (sym e)))))
    q

pub allocs_step : (s : Step) (n : ℕ) → allocs_after s n ≡ n + one (is_birth s)
allocs_step (Birth c kind k) n = refl
allocs_step _ n = omega arith

pub frees_step : (s : Step) (n : ℕ) → frees_after s n ≡ n + one (is_free_step s)
frees_step (Free c) n = refl
frees_step _ n = omega arith

-- ---- one event

-- what one event does to lives and ledgers
pub record Turns (h : Heap) (e : Event) : Type 0 where
  pub lives : (q : ℕ) → lives_at (after h e) q ≡ lives_since e.step q (lives_at h q)
  pub allocs : h.edition ≡ editions.One → (q : ℕ) → (row_at (after h e) q).allocs ≡ (row_at h q).allocs + one
      ((e.thread == q) && is_birth e.step)
  pub frees : h.edition ≡ editions.One → (q : ℕ) → (row_at (after h e) q).frees ≡ (row_at h q).frees + one
      ((e.thread == q) && is_free_step e.step)

-- a root's step changes no life and no ledger; a new thread has the numbers of none
root_lives : (h : Heap) (s : Step) (q : ℕ) → lives_at (root_after h s) q ≡ lives_at h q
root_lives h (Register u) q = by_number (nat_lt u (length h.rows))
  where
    by_number : (b : Bool) → lives_at (if b then registered_again h u else registered h) q ≡ lives_at h q
    by_number true = refl
    by_number false = refl
root_lives h _ q = refl

root_counted : (f : Row → ℕ) (h : Heap) (s : Step) (q : ℕ) → f new_row ≡ f no_row → h.edition ≡ editions.One
    → root_may h s ≡ true → f (row_at (root_after h s) q) ≡ f (row_at h q)
root_counted f h (Register u) q none first ok =
    let new : u ≡ length h.rows = eqb-true u (length h.rows)
    (subst (λ e. number_ok e h u ≡ true) first (and_parts _ _ ok).0) in
    ap (λ b. f (row_at (if b then registered_again h u else registered h) q))
    (le-ltb u (length h.rows) (omega (arith, new)))
    ∙ read_push (λ j (row : Row). f row ≡ f (row_at h j)) h.rows new_row no_row
    (none ∙ sym (ap f (get_or_past h.rows (length h.rows) no_row (omega arith)))) (λ j _. refl) q
root_counted f h _ q none first ok = refl

pub lives_stay : (s : Step) (q : ℕ) (b : Bool) → is_of_life s ≡ false → lives_since s q b ≡ b
lives_stay (Birth c kind k) q b plain = absurd (true≢false plain)
lives_stay (Free c) q b plain = absurd (true≢false plain)
lives_stay _ q b plain = refl

-- the two kinds of steps
pub record AtRoot (h : Heap) (e : Event) : Type 0 where
  pub root : e.thread ≡ 0
  pub may : root_may h e.step ≡ true
  pub leads : after h e ≡ root_after h e.step

pub record AtThread (h : Heap) (e : Event) : Type 0 where
  pub may : thread_may h e.thread e.step ≡ true
  pub leads : after h e ≡ after_target h e.thread e.step (target_at h e.thread e.step)

pub by_whom : (h : Heap) (e : Event) → enabled h e ≡ true → AtRoot h e ⊎ AtThread h e
by_whom h e ok =
    let o : Option ℕ = target_at h e.thread e.step in
    elim (cases_Bool (e.thread == 0)) [
      | inl root ↦ inl (record {
        root = eqb-true e.thread 0 root;
        may = subst (λ b. (if b then root_may h e.step else thread_may h e.thread e.step) ≡ true) root ok;
        leads = ap (λ b. if b then root_after h e.step else after_target h e.thread e.step o) root;
      })
      | inr thread ↦ inr (record {
        may = subst (λ b. (if b then root_may h e.step else thread_may h e.thread e.step) ≡ true) thread ok;
        leads = ap (λ b. if b then root_after h e.step else after_target h e.thread e.step o) thread;
      })
    ]

-- no event of the root's is a birth or a free
pub root_idle : (h : Heap) (e : Event) → enabled h e ≡ true
    → ((e.thread == 0) && is_birth e.step ≡ false) × ((e.thread == 0) && is_free_step e.step ≡ false)
root_idle h e ok =
    elim (cases_Bool (e.thread == 0)) [
      | inl root ↦
          let may : root_may h e.step ≡ true =
          subst (λ b. (if b then root_may h e.step else thread_may h e.thread e.step) ≡ true) root ok in
          let plain = or_parts _ _ (root_step h e.step may) in
          (and_right (e.thread == 0) (is_birth e.step) plain.0, and_right (e.thread == 0) (is_free_step e.step) plain.1)
      | inr thread ↦ (ap (λ b. b && is_birth e.step) thread, ap (λ b. b && is_free_step e.step) thread)
    ]

pub event_turns : (h : Heap) (e : Event) → IsSound h → enabled h e ≡ true → Turns h e
event_turns h e sound ok =
    elim (by_whom h e ok) [
      | inl root ↦
          let plain : is_of_life e.step ≡ false = root_step h e.step root.may in
          record {
            lives = λ q. ap (λ w. lives_at w q) root.leads ∙ root_lives h e.step q
                ∙ sym (lives_stay e.step q (lives_at h q) plain);
            allocs = λ first q. omega (
              arith,
              ap (λ w. (row_at w q).allocs) root.leads,
              root_counted (λ (r : Row). r.allocs) h e.step q refl first root.may,
              ap one (and_right (e.thread == q) (is_birth e.step) (or_parts _ _ plain).0),
            );
            frees = λ first q. omega (
              arith,
              ap (λ w. (row_at w q).frees) root.leads,
              root_counted (λ (r : Row). r.frees) h e.step q refl first root.may,
              ap one (and_right (e.thread == q) (is_free_step e.step) (or_parts _ _ plain).1),
            );
          }
      | inr thread ↦
          let may : May h e.thread e.step = may_parts h e.thread e.step thread.may in
          let o : Option ℕ = target_at h e.thread e.step in
          record {
            lives = λ q. ap (λ w. lives_at w q) thread.leads ∙ step_lives h e.thread e.step q sound thread.may;
            allocs = λ _ q. ap (λ w. (row_at w q).allocs) thread.leads
                ∙ counted_step (λ (r : Row). r.allocs) is_birth h e.thread e.step o q may.inside
                (λ c x shut row. allocs_step e.step row.allocs) (λ row stage. refl)
                (λ none. (or_parts _ _ (no_cell_step e.step none)).0) may.on_target;
            frees = λ _ q. ap (λ w. (row_at w q).frees) thread.leads
                ∙ counted_step (λ (r : Row). r.frees) is_free_step h e.thread e.step o q may.inside
                (λ c x shut row. frees_step e.step row.frees) (λ row stage. refl)
                (λ none. (or_parts _ _ (no_cell_step e.step none)).1) may.on_target;
          }
    ]

-- no event changes the edition
pub edition_stays : (h : Heap) (e : Event) → (after h e).edition ≡ h.edition
edition_stays h e = by_thread (e.thread == 0)
  where
    by_number : (u : ℕ) (b : Bool) → (if b then registered_again h u else registered h).edition ≡ h.edition
    by_number u true = refl
    by_number u false = refl

    by_step : (s : Step) → (root_after h s).edition ≡ h.edition
    by_step (Register u) = by_number u (nat_lt u (length h.rows))
    by_step _ = refl

    by_target : (t : ℕ) (s : Step) (o : Option ℕ) → (after_target h t s o).edition ≡ h.edition
    by_target t s None = refl
    by_target t s (Some c) = refl

    by_thread : (b : Bool) → (if b then root_after h e.step else after_target h e.thread e.step
        (target_at h e.thread e.step)).edition ≡ h.edition
    by_thread true = by_step e.step
    by_thread false = by_target e.thread e.step (target_at h e.thread e.step)

pub run_edition : (start : Heap) (run : List Event) → (world_after start run).edition ≡ start.edition
run_edition start [] = refl
run_edition start (e ∷ run) = edition_stays (world_after start run) e ∙ run_edition start run

-- ---- deaths

-- a free is of a live object that nothing holds; a birth is in a cell where none lives
step_dies : (h : Heap) (t : ℕ) (s : Step) (run : List Event) → IsSound h → ((q : ℕ) → lives_at h q ≡ lives_by run q)
    → thread_may h t s ≡ true → DiesUnheld h run s
step_dies h t (Birth c kind k) run sound same ok =
    let may : May h t (Birth c kind k) = may_parts h t (Birth c kind k) ok in
    let said : HandFits h t phases.Ready c = sound.hands t c phases.Ready (busy_hand phases.Ready c _ may.hand) in
    let births : Births t (row_at h t) (cell_at h c) = said.fits.0 in
    sym (same c) ∙ and_right (not (is_immortal c)) (lives (cell_at h c).owner) (ap lives births.claimed)
step_dies h t (Free c) run sound same ok =
    let may : May h t (Free c) = may_parts h t (Free c) ok in
    let on : is_marked (worklist_at h t) c ≡ true = (and_parts _ _ may.own).0 in
    let fits : WorklistFits t c (cell_at h c) = sound.worklists t c on in (
      sym (same c) ∙ alive_lives h c fits.mortal fits.lives,
      no_holders (holders_of h c) (length-holders h c ∙ marked_unheld h t c sound on),
    )
step_dies h t _ run sound same ok = tt

dies_plainly : (h : Heap) (s : Step) (run : List Event) → is_of_life s ≡ false → DiesUnheld h run s
dies_plainly h (Birth c kind k) run plain = absurd (true≢false plain)
dies_plainly h (Free c) run plain = absurd (true≢false plain)
dies_plainly h _ run plain = tt

pub event_dies : (h : Heap) (e : Event) (run : List Event) → IsSound h → ((q : ℕ) → lives_at h q ≡ lives_by run q)
    → enabled h e ≡ true → DiesUnheld h run e.step
event_dies h e run sound same ok =
    elim (by_whom h e ok) [
      | inl root ↦ dies_plainly h e.step run (root_step h e.step root.may)
      | inr thread ↦ step_dies h e.thread e.step run sound same thread.may
    ]
