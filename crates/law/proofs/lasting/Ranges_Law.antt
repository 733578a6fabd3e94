-- Numbers that a reached world holds are numbers of its own: owners are registered threads, entries are cells.
use Rattle.std.proofs.Common.{◌≡◌, ℕ, ◌<◌, ◌≤◌, ◌==◌, ◌&&◌, nat_lt, Bool, true, false, if◌then◌else◌, List, [], ◌∷◌}
use Rattle.std.proofs.Common.{length, Option, Some, None, refl, sym, ◌∙◌, ap, subst, inl, inr, arith, get_or-set_same}
use Rattle.std.proofs.Common.{true≢false, ◌⊎◌}
use Rattle.std.proofs.lemmas.List.{length-set, get_or_past, get_or-set_same}
use Rattle.std.proofs.lemmas.Bool.{cases_lt, cases_eq, cases_Bool, and_parts, ltb-true, lt-ltb, true≢false}
use Rattle.std.specs.Prelude.{slice_get}
use Rattle.brc_words.specs.declared.limits.TheConstants.{FIRST_MORTAL}
use Rattle.brc_words.specs.declared.owner.Owner.{Owner}
use Rattle.brc_words.specs.declared.owner.Owner.TheVariants as owners
use Rattle.law.specs.world.Phases.{is_gripping, has_reference, merges, refers, role_of}
use Rattle.law.specs.declared.world.cell.Cell.{Cell}
use Rattle.law.specs.declared.world.edition.Edition.{Edition}
use Rattle.law.specs.declared.world.row.Phase.TheVariants as phases
use Rattle.law.proofs.lasting.Reasons.{offered_alone}
use Rattle.law.specs.declared.world.event.Event.{Event}
use Rattle.law.specs.declared.world.event.Step.{Step}
use Rattle.law.specs.declared.world.event.Step.TheVariants.{Claim, Birth, LocalUp, LocalDown, Free, Untie, Ask}
use Rattle.law.specs.declared.world.event.Step.TheVariants.{Register, Gather}
use Rattle.law.specs.declared.world.row.Hand.TheVariants as hands
use Rattle.law.specs.declared.world.row.Phase.{Phase}
use Rattle.law.specs.declared.world.row.Role.{Role}
use Rattle.law.specs.declared.world.row.Role.TheVariants as roles
use Rattle.law.specs.world.Lists.{is_marked, one}
use Rattle.law.specs.world.Heap.{Heap, opening, cell_at, entries_at, row_at, worklist_at, no_cell, is_immortal}
use Rattle.law.specs.world.Heap.{is_registered, new_row, AreOptions, opening_in, again_row}
use Rattle.law.specs.world.Steps.{enabled, after, after_target, root_after, root_may, thread_may, target_at, cell_after}
use Rattle.law.specs.world.Steps.{is_default, registered, registered_again}
use Rattle.law.specs.world.Runs.{IsReached, IsRun, world_after}
use Rattle.law.specs.world.Sound.{IsSound, held, grips, Offered}
use Rattle.law.specs.lasting.Ranges.{OwnerFits}
use Rattle.law.proofs.lasting.Lasting.{held_live, live_owner}
use Rattle.law.proofs.world.Asking.{May, may_parts}
use Rattle.law.proofs.world.Beginning.{free_cell, immortal_cell}
use Rattle.law.proofs.world.Changes.{read_there}
use Rattle.law.proofs.world.Dropping.{held_by_entry}
use Rattle.law.proofs.world.Counting.{held_unmarked}
use Rattle.law.proofs.world.Merging.{hand_grips, carried_held}
use Rattle.law.proofs.world.Naming.{grips_once, one-false, busy_carrier, sole_grip, ungripped}
use Rattle.law.proofs.world.Reached.{reached_sound}
use Rattle.law.proofs.world.Registering.{length-push}

-- ---- owners

still_fits : (old new : ℕ) (o : Owner) → old ≤ new → OwnerFits old o → OwnerFits new o
still_fits old new owners.Nobody more fits = tt
still_fits old new (owners.Thread t) more fits = (fits.0, omega (arith, fits.1, more))
still_fits old new (owners.Claimed t) more fits = (fits.0, omega (arith, fits.1, more))
still_fits old new owners.Free more fits = tt

either_fits : (threads : ℕ) (b : Bool) (x y : Cell) → OwnerFits threads x.owner → OwnerFits threads y.owner
    → OwnerFits threads (if b then x else y).owner
either_fits threads true x y one other = one
either_fits threads false x y one other = other

-- a step makes its own thread the owner, or nobody
step_owner : (threads t : ℕ) (s : Step) (c : ℕ) (x : Cell) → 0 < t → t < threads → OwnerFits threads x.owner
    → OwnerFits threads (cell_after t s c x).owner
step_owner threads t (Claim d) c x low inside fits = (low, inside)
step_owner threads t (Birth d kind k) c x low inside fits = (low, inside)
step_owner threads t (Free d) c x low inside fits = tt
step_owner threads t (Untie d) c x low inside fits = tt
step_owner threads t (LocalUp source k) c x low inside fits = either_fits threads (is_immortal c) x _ fits fits
step_owner threads t (LocalDown drop) c x low inside fits = either_fits threads (is_immortal c) x _ fits fits
step_owner threads t (Ask drop) c x low inside fits = either_fits threads (is_default x.state) _ x fits fits
step_owner threads t _ c x low inside fits = fits

Owners : Heap → Type 0
Owners h = (c : ℕ) → OwnerFits (length h.rows) (cell_at h c).owner

pub same_rows : (h : Heap) (t : ℕ) (s : Step) (o : Option ℕ) → length (after_target h t s o).rows ≡ length h.rows
same_rows h t s None = length-set h.rows t _
same_rows h t s (Some c) = length-set h.rows t _

target_owners : (h : Heap) (t : ℕ) (s : Step) (o : Option ℕ) → 0 < t → t < length h.rows → Owners h
    → Owners (after_target h t s o)
unfolding Owners
target_owners h t s None low inside fits d = still_fits _ _ _ (omega (arith, same_rows h t s None)) (fits d)
target_owners h t s (Some c) low inside fits d = still_fits (length h.rows) _ _
    (omega (arith, same_rows h t s (Some c))) (elim (cases_eq d c) [
      | inr other ↦ subst (λ (x : Cell). OwnerFits (length h.rows) x.owner)
          (sym (read_there h.cells c d _ no_cell other)) (fits d)
      | inl same ↦ elim (cases_lt c (length h.cells)) [
        | inl here ↦ subst (λ (x : Cell). OwnerFits (length h.rows) x.owner)
            (sym (ap (λ i. cell_at (after_target h t s (Some c)) i) same ∙ get_or-set_same h.cells c _ no_cell here))
            (step_owner (length h.rows) t s c (cell_at h c) low inside (fits c))
        | inr past ↦ subst (λ (x : Cell). OwnerFits (length h.rows) x.owner)
            (sym (get_or_past (after_target h t s (Some c)).cells d no_cell
            (omega (arith, past, same, length-set h.cells c (cell_after t s c (cell_at h c)))))) tt
      ]
    ])

root_owners : (h : Heap) (s : Step) → Owners h → Owners (root_after h s)
unfolding Owners
root_owners h (Register u) fits d = by_number (nat_lt u (length h.rows))
  where
    by_number : (b : Bool) → OwnerFits (length (if b then registered_again h u else registered h).rows)
        (cell_at (if b then registered_again h u else registered h) d).owner
    by_number true = still_fits (length h.rows) _ _ (omega (arith, length-set h.rows u again_row)) (fits d)
    by_number false = still_fits (length h.rows) _ _ (omega (arith, length-push h.rows new_row)) (fits d)
root_owners h (Gather u) fits d = fits d
root_owners h _ fits d = fits d

event_owners : (h : Heap) (e : Event) → enabled h e ≡ true → Owners h → Owners (after h e)
event_owners h e ok fits =
    let moved : Heap = after_target h e.thread e.step (target_at h e.thread e.step) in
    elim (cases_Bool (e.thread == 0)) [
      | inl root ↦ subst (λ b. Owners (if b then root_after h e.step else moved)) (sym root) (root_owners h e.step fits)
      | inr thread ↦
          let may : May h e.thread e.step = may_parts h e.thread e.step
          (subst (λ b. (if b then root_may h e.step else thread_may h e.thread e.step) ≡ true) thread ok) in
          subst (λ b. Owners (if b then root_after h e.step else moved)) (sym thread)
          (target_owners h e.thread e.step (target_at h e.thread e.step) may.some_thread may.inside fits)
    ]

opening_owners : (edition : Edition) (cells limit : ℕ) → AreOptions cells limit
    → Owners (opening_in edition cells limit)
unfolding Owners
opening_owners edition cells limit options c = elim (cases_lt c FIRST_MORTAL) [
  | inl low ↦ subst (λ (x : Cell). OwnerFits 1 x.owner)
      (sym (immortal_cell cells c (omega (arith, options.enough)) low)) tt
  | inr high ↦ subst (λ (x : Cell). OwnerFits 1 x.owner) (sym (free_cell cells c high)) tt
]

run_owners : (edition : Edition) (cells limit : ℕ) (run : List Event) → AreOptions cells limit
    → IsRun (opening_in edition cells limit) run → Owners (world_after (opening_in edition cells limit) run)
run_owners edition cells limit [] options is_run = opening_owners edition cells limit options
run_owners edition cells limit (e ∷ run) options is_run =
    event_owners (world_after (opening_in edition cells limit) run) e is_run.1
    (run_owners edition cells limit run options is_run.0)

pub reached_owners : (h : Heap) → IsReached h → (c : ℕ) → OwnerFits (length h.rows) (cell_at h c).owner
unfolding Owners
reached_owners h reached = subst (λ (w : Heap). (c : ℕ) → OwnerFits (length w.rows) (cell_at w c).owner)
    reached.leads_here (run_owners reached.edition reached.cells reached.limit reached.run reached.options
    reached.is_run)

-- ---- registered numbers

root_rows : (h : Heap) (s : Step) → length h.rows ≤ length (root_after h s).rows
root_rows h (Register u) = by_number (nat_lt u (length h.rows))
  where
    by_number : (b : Bool) → length h.rows ≤ length (if b then registered_again h u else registered h).rows
    by_number true = omega (arith, length-set h.rows u again_row)
    by_number false = omega (arith, length-push h.rows new_row)
root_rows h (Gather u) = omega arith
root_rows h _ = omega arith

-- no row goes
pub event_rows : (h : Heap) (e : Event) → length h.rows ≤ length (after h e).rows
event_rows h e =
    let moved : Heap = after_target h e.thread e.step (target_at h e.thread e.step) in
    elim (cases_Bool (e.thread == 0)) [
      | inl root ↦ subst (λ b. length h.rows ≤ length (if b then root_after h e.step else moved).rows) (sym root)
          (root_rows h e.step)
      | inr thread ↦ subst (λ b. length h.rows ≤ length (if b then root_after h e.step else moved).rows) (sym thread)
          (omega (arith, same_rows h e.thread e.step (target_at h e.thread e.step)))
    ]

-- so a number that is registered stays registered
pub registered_stays : (h : Heap) (e : Event) (q : ℕ) → is_registered h q ≡ true → is_registered (after h e) q ≡ true
registered_stays h e q there =
    let parts = and_parts _ _ there in
    let inside : q < length h.rows = ltb-true q (length h.rows) parts.1 in
    ap (λ b. b && nat_lt q (length (after h e).rows)) parts.0
    ∙ lt-ltb q (length (after h e).rows) (omega (arith, inside, event_rows h e))

-- and who owns a cell is registered
pub owner_registered : (h : Heap) (c q : ℕ) → IsReached h → (cell_at h c).owner ≡ owners.Thread q
    → is_registered h q ≡ true
owner_registered h c q reached owned =
    let fits : OwnerFits (length h.rows) (owners.Thread q) = subst (OwnerFits (length h.rows)) owned
    (reached_owners h reached c) in
    ap (λ b. b && nat_lt q (length h.rows)) (lt-ltb 0 q fits.0) ∙ lt-ltb q (length h.rows) fits.1

-- ---- entries

-- what is held lives, so it is one of the heap's cells; so are the immortals
held_inside : (h : Heap) (c : ℕ) → IsReached h → (FIRST_MORTAL ≤ c → 1 ≤ held h c) → c < length h.cells
held_inside h c reached some = elim (cases_lt c FIRST_MORTAL) [
  | inl low ↦ omega (arith, low, (reached_sound h reached).shaped.options.enough)
  | inr high ↦ elim (cases_lt c (length h.cells)) [
    | inl inside ↦ inside
    | inr past ↦ absurd (live_owner _ (held_live h c (reached_sound h reached) (some high))
        (ap (λ (x : Cell). x.owner) (get_or_past h.cells c no_cell past)))
  ]
]

pub entries_inside : (h : Heap) (d i c : ℕ) → IsReached h → slice_get (entries_at h d) i ≡ Some c → c < length h.cells
entries_inside h d i c reached there = held_inside h c reached (λ mortal. held_by_entry h d i c there)

-- ---- what a hand has is on no worklist

pub hand_unmarked : (h : Heap) (t s c : ℕ) (p : Phase) → IsReached h → (row_at h t).hand ≡ hands.Busy p c
    → is_marked (worklist_at h s) c ≡ false
hand_unmarked h t s c p reached busy =
    let sound : IsSound h = reached_sound h reached in
    let mortal : FIRST_MORTAL ≤ c = (sound.hands t c p busy).mortal in
    elim (cases_Bool (is_gripping p)) [
      | inr off ↦ elim (not_gripping p off) [
        | inl has ↦ one-false _ (held_unmarked h s c sound (carried_held h t c (busy_carrier p c _ has busy)))
        | inr offers ↦
            let at : (row_at h t).hand ≡ hands.Busy phases.Offered c = busy ∙ ap (λ q. hands.Busy q c) offers in
            one-false _ (ungripped h c (offered_alone h t c sound at (offered_owner h t c sound at)) s).mark
      ]
      | inl grip ↦
          let own : one (grips c (row_at h t).hand) ≡ 1 = hand_grips h t c p busy grip in
          elim (cases_eq s t) [
            | inl same ↦ ap (λ i. is_marked (worklist_at h i) c) same
                ∙ one-false _ (omega (arith, own, grips_once h c t sound mortal))
            | inr other ↦ one-false _ (sole_grip h c t sound mortal (omega (arith, own)) s other).mark
          ]
    ]
  where
    not_gripping : (q : Phase) → is_gripping q ≡ false → (has_reference q ≡ true) ⊎ (q ≡ phases.Offered)
    not_gripping phases.Asked off = inl refl
    not_gripping phases.Shut off = inl refl
    not_gripping phases.Held off = inl refl
    not_gripping phases.Offered off = inr refl
    not_gripping _ off = absurd (true≢false off)

    offered_owner : (h : Heap) (t c : ℕ) → IsSound h → (row_at h t).hand ≡ hands.Busy phases.Offered c
        → (cell_at h c).owner ≡ owners.Thread t
    offered_owner h t c sound at = let fits : Offered t (cell_at h c) = (sound.hands t c phases.Offered at).fits in
        fits.owner

-- ---- what stays

root_limit : (h : Heap) (s : Step) → (root_after h s).limit ≡ h.limit
root_limit h (Register u) = by_number (nat_lt u (length h.rows))
  where
    by_number : (b : Bool) → (if b then registered_again h u else registered h).limit ≡ h.limit
    by_number true = refl
    by_number false = refl
root_limit h (Gather u) = refl
root_limit h _ = refl

target_limit : (h : Heap) (t : ℕ) (s : Step) (o : Option ℕ) → (after_target h t s o).limit ≡ h.limit
target_limit h t s None = refl
target_limit h t s (Some c) = refl

event_limit : (h : Heap) (e : Event) → (after h e).limit ≡ h.limit
event_limit h e =
    let moved : Heap = after_target h e.thread e.step (target_at h e.thread e.step) in
    elim (cases_Bool (e.thread == 0)) [
      | inl root ↦ ap (λ b. let w : Heap = if b then root_after h e.step else moved in w.limit) root
          ∙ root_limit h e.step
      | inr thread ↦ ap (λ b. let w : Heap = if b then root_after h e.step else moved in w.limit) thread
          ∙ target_limit h e.thread e.step (target_at h e.thread e.step)
    ]

pub run_limit : (cells limit : ℕ) (run : List Event) → (world_after (opening cells limit) run).limit ≡ limit
run_limit cells limit [] = refl
run_limit cells limit (e ∷ run) = event_limit (world_after (opening cells limit) run) e ∙ run_limit cells limit run
