-- The local counts of a thread's own objects are what its own items say.
use Rattle.std.proofs.Common.{◌≡◌, ◌≢◌, ℕ, ◌+◌, ◌-◌, ◌<◌, ◌≤◌, ◌==◌, ◌&&◌, ◌||◌, not, Bool, true, false, if◌then◌else◌}
use Rattle.std.proofs.Common.{pos, ◌≤ℤ◌, List, [], length, Option, Some, None, refl, sym, ◌∙◌, ap, subst, inl, inr}
use Rattle.std.proofs.Common.{arith}
use Rattle.std.proofs.lemmas.Bool.{cases_eq, cases_Bool, eq-eqb, ne_eqb, and_parts, le-ltb, true≢false}
use Rattle.std.proofs.lemmas.Int.{ints}
use Rattle.brc_words.specs.declared.limits.TheConstants.{FIRST_MORTAL}
use Rattle.brc_words.specs.declared.owner.Owner.TheVariants as owners
use Rattle.law.specs.declared.world.cell.Cell.{Cell}
use Rattle.law.specs.declared.world.edition.Edition.{Edition}
use Rattle.law.specs.declared.world.edition.Edition.TheVariants as editions
use Rattle.law.specs.declared.world.event.Event.{Event}
use Rattle.law.specs.declared.world.event.Step.{Step}
use Rattle.law.specs.declared.world.event.Step.TheVariants.{Claim, InitLocal, Birth, LocalUp, LocalDown, Free, Untie}
use Rattle.law.specs.declared.world.event.Step.TheVariants.{Ask, Close, Reopen}
use Rattle.law.specs.declared.world.row.Row.{Row}
use Rattle.law.specs.declared.world.row.Hand.TheVariants as hands
use Rattle.law.specs.declared.world.row.Phase.TheVariants as phases
use Rattle.law.specs.declared.world.row.Stage.{Stage}
use Rattle.law.specs.declared.world.row.Stage.TheVariants as stages
use Rattle.law.specs.world.Lists.{is_marked, one}
use Rattle.law.specs.known.Start.{start_of}
use Rattle.law.specs.world.Heap.{Heap, words_for, cell_at, row_at, worklist_at, no_cell, no_row, is_immortal, again_row}
use Rattle.law.specs.world.Heap.{is_registered, AreOptions}
use Rattle.law.specs.world.Steps.{closed_more, opens_next, edition_ok, stage_after, enabled, after, after_target}
use Rattle.law.specs.world.Steps.{target_at, target_ok, cell_after, is_mine, is_owned_by, is_active, is_default}
use Rattle.law.specs.world.Steps.{counts_up_locally, registered, is_merged, is_queued}
use Rattle.law.specs.world.Runs.{IsReached}
use Rattle.brc_words.specs.declared.state.State.{State}
use Rattle.brc_words.specs.declared.state.State.TheVariants as states
use Rattle.law.specs.world.Sound.{IsSound, held, gripped, offering, offered, rests, WorklistFits, asks_least}
use Rattle.law.specs.world.Sound.{is_threads}
use Rattle.law.specs.lasting.Staying.{IsAnothers, SameOwn, IsOwning}
use Rattle.law.specs.known.Items.{Local, word_in, told_at, Item, ItemRun, AreItems, world_of_items, own, part_of}
use Rattle.law.specs.known.Items.{IsPart, IsNumberFound, told}
use Rattle.law.specs.known.Counts.{own_count, counted_by, counted_apart, counts_by, counts_of}
use Rattle.law.proofs.world.Asking.{May, OnCell, on_cell, Mine, mine}
use Rattle.law.proofs.world.Changes.{read_there, read_here}
use Rattle.law.proofs.world.Counting.{marked_unheld, total_unmerged, owned_ungripped, local_positive, sum_none}
use Rattle.law.proofs.world.Naming.{busy_hand, grips_free, one-true, sum_one, thread_owner, free_owner, unoffered}
use Rattle.law.proofs.world.Naming.{gripped_unoffered}
use Rattle.law.proofs.world.Reached.{reached_sound}
use Rattle.law.proofs.lasting.Lasting.{bearing, others_own, alone_stays, live_owner}
use Rattle.law.proofs.lasting.Reasons.{event_cell}
use Rattle.law.proofs.lasting.Telling.{owns_lasts}
use Rattle.law.proofs.world.Birthing.{active_from}
use Rattle.law.specs.world.Holding.{lives}
use Rattle.law.proofs.known.Items_Law.{part_follows, part_target}
use Rattle.law.proofs.known.Items_Tells.{Follows, tells}

-- ---- the count of one cell

same_count : (t : ℕ) (g g' : Stage) (x y : Cell) → g' ≡ g → y.owner ≡ x.owner → y.local ≡ x.local
    → own_count t g' y ≡ own_count t g x
same_count t g g' x y stage owner local =
    ap (λ k. if is_owned_by t y.owner && is_active k then y.local else 0) stage
    ∙ ap (λ o. if is_owned_by t o && is_active g then y.local else 0) owner
    ∙ ap (λ n. if is_owned_by t x.owner && is_active g then n else 0) local

not_counted : (t : ℕ) (g : Stage) (x : Cell) → is_mine t g x ≡ false → own_count t g x ≡ 0
not_counted t g x apart = ap (λ b. if b then x.local else 0) apart

not_owned : (t : ℕ) (g : Stage) (x : Cell) → (x.owner ≢ owners.Thread t) → is_mine t g x ≡ false
not_owned t g x apart = elim (cases_Bool (is_owned_by t x.owner)) [
  | inl owned ↦ absurd (apart (thread_owner t x.owner owned))
  | inr other ↦ ap (λ b. b && is_active g) other
]

counted_here : (t : ℕ) (g : Stage) (x : Cell) → is_mine t g x ≡ true → own_count t g x ≡ x.local
counted_here t g x mine = ap (λ b. if b then x.local else 0) mine

-- what is on a worklist is handed over by nobody
marked_unoffered : (h : Heap) (t c : ℕ) → IsSound h → is_marked (worklist_at h t) c ≡ true → offered h c ≡ 0
marked_unoffered h t c sound on =
    let some : 1 ≤ gripped h c = omega (
      arith,
      one-true (is_marked (worklist_at h t) c) on,
      sum_one (λ (marks : List Bool). one (is_marked marks c)) h.worklists t [] refl,
    ) in
    sum_none (λ (row : Row). one (offering c row.hand)) h.rows no_row
    (λ s. unoffered h s c (row_at h s).hand sound refl
    (gripped_unoffered h s c sound (sound.worklists t c on).mortal some))

-- a dead block that its owner still owns counts nothing
marked_count : (h : Heap) (t c : ℕ) → IsSound h → is_marked (worklist_at h t) c ≡ true
    → (cell_at h c).owner ≡ owners.Thread t → (cell_at h c).local ≡ 0
marked_count h t c sound on owner =
    let fits : WorklistFits t c (cell_at h c) = sound.worklists t c on in
    let cell = sound.cells c fits.mortal in
    elim fits.whose [
      | inl merged ↦ absurd (true≢false (ap is_merged (sym merged) ∙ cell.owned_unmerged t owner))
      | inr mine ↦ omega (
        arith,
        ints,
        fits.total,
        total_unmerged (cell_at h c).state (cell_at h c).local
            (cell_at h c).count (cell.owned_unmerged t owner),
        unshared fits,
      )
    ]
  where
    -- nothing holds it, so nobody has asked for it, and nobody else counted it
    unshared : WorklistFits t c (cell_at h c) → pos 0 ≤ℤ (cell_at h c).count
    unshared fits = by_state (cell_at h c).state refl
      where
        by_state : (s : State) → (cell_at h c).state ≡ s → pos 0 ≤ℤ (cell_at h c).count
        by_state states.Default is = (sound.cells c fits.mortal).default is
        by_state states.Merged is =
            absurd (true≢false (ap is_merged (sym is) ∙ (sound.cells c fits.mortal).owned_unmerged t owner))
        by_state states.Queued is =
            let asked : asks_least (cell_at h c) ≡ 1 = ap (λ z. one (is_queued z && is_threads (cell_at h c).owner)) is
            ∙ ap (λ o. one (is_threads o)) owner in
            absurd (omega (
              arith,
              asked,
              sound.least c fits.mortal,
              marked_unheld h t c sound on,
              marked_unoffered h t c sound on,
            ))

-- ---- others change nothing of it

-- who isn't the thread doesn't make it an owner
others_owner : (t u : ℕ) (s : Step) (c : ℕ) (x : Cell) → u ≢ t → (cell_after u s c x).owner ≡ owners.Thread t
    → x.owner ≡ owners.Thread t
others_owner t u (Claim d) c x other is = let bad : owners.Claimed u ≡ owners.Thread t = is in absurd (cc)
others_owner t u (Birth d kind k) c x other is = absurd (other (let e : owners.Thread u ≡ owners.Thread t = is in cc))
others_owner t u (Free d) c x other is = let bad : owners.Free ≡ owners.Thread t = is in absurd (cc)
others_owner t u (Untie d) c x other is = let bad : owners.Nobody ≡ owners.Thread t = is in absurd (cc)
others_owner t u (LocalUp source k) c x other is = either_owner (is_immortal c) is
  where
    either_owner : (b : Bool) → (let y : Cell = if b then x else record x { local = x.local + 1 } in y.owner)
        ≡ owners.Thread t → x.owner ≡ owners.Thread t
    either_owner true is = is
    either_owner false is = is
others_owner t u (LocalDown drop) c x other is = either_owner (is_immortal c) is
  where
    either_owner : (b : Bool) → (let y : Cell = if b then x else record x { local = x.local - 1 } in y.owner)
        ≡ owners.Thread t → x.owner ≡ owners.Thread t
    either_owner true is = is
    either_owner false is = is
others_owner t u (Ask drop) c x other is = either_owner (is_default x.state) is
  where
    either_owner : (b : Bool) → (let y : Cell = if b then record x { state = states.Queued } else x in y.owner)
        ≡ owners.Thread t → x.owner ≡ owners.Thread t
    either_owner true is = is
    either_owner false is = is
others_owner t u _ c x other is = is

others_count : (h : Heap) (e : Event) (t c : ℕ) → IsReached h → enabled h e ≡ true → IsAnothers t e → FIRST_MORTAL ≤ c
    → own_count t (row_at (after h e) t).stage (cell_at (after h e) c) ≡ own_count t (row_at h t).stage (cell_at h c)
others_count h e t c reached ok others mortal =
    let sound : IsSound h = reached_sound h reached in
    let own : SameOwn t h (after h e) = others_own h e t sound ok others in
    let stage : (row_at (after h e) t).stage ≡ (row_at h t).stage = ap (λ (r : Row). r.stage) own.row in
    elim (cases_Bool (is_mine t (row_at h t).stage (cell_at h c))) [
      | inr apart ↦
          not_counted t _ (cell_at (after h e) c) (ap (λ g. is_mine t g (cell_at (after h e) c)) stage
          ∙ still_apart apart)
          ∙ sym (not_counted t _ (cell_at h c) apart)
      | inl his ↦
          let own_cell : Mine t (row_at h t).stage (cell_at h c) = mine t _ _ his in
          elim (cases_Bool (is_marked (worklist_at h t) c)) [
            | inl on ↦
                let same = (alone_stays h e t c sound ok others.other mortal
                (omega (arith, one-true (is_marked (worklist_at h t) c) on)) (marked_unheld h t c sound on)
                (live_owner _ (sound.worklists t c on).lives)).0 in
                same_count t _ _ (cell_at h c) (cell_at (after h e) c) stage (ap (λ (x : Cell). x.owner) same)
                (ap (λ (x : Cell). x.local) same)
            | inr off ↦
                let owns : IsOwning (after h e) t c (cell_at h c).local =
                owns_lasts t c (cell_at h c).local h e reached ok others
                (record {
                  active = ap is_active own_cell.active;
                  mortal = mortal;
                  owner = own_cell.owner;
                  unmarked = off;
                  count = refl;
                }) in
                same_count t _ _ (cell_at h c) (cell_at (after h e) c) stage (owns.owner ∙ sym own_cell.owner)
                owns.count
          ]
    ]
  where
    still_apart : is_mine t (row_at h t).stage (cell_at h c) ≡ false
        → is_mine t (row_at h t).stage (cell_at (after h e) c) ≡ false
    still_apart apart = elim (event_cell h e c ok) [
      | inl same ↦ ap (λ (x : Cell). is_mine t (row_at h t).stage x) same ∙ apart
      | inr at ↦ elim (cases_Bool (is_mine t (row_at h t).stage (cell_at (after h e) c))) [
        | inr off ↦ off
        | inl his ↦
            let now : Mine t (row_at h t).stage (cell_at (after h e) c) = mine t _ _ his in
            let was : (cell_at h c).owner ≡ owners.Thread t = others_owner t e.thread e.step c
            (cell_at h c) others.other (ap (λ (x : Cell). x.owner) (sym at.1) ∙ now.owner) in
            absurd (true≢false (sym (ap (λ o. is_owned_by t o && is_active (row_at h t).stage) was
            ∙ ap (λ g. is_owned_by t (owners.Thread t) && is_active g) now.active
            ∙ ap (λ b. b && true) (eq-eqb t t refl)) ∙ apart))
      ]
    ]

-- ---- an own step counts as it is told

mine_now : (t : ℕ) (g : Stage) (x : Cell) → x.owner ≡ owners.Thread t → is_active g ≡ true → is_mine t g x ≡ true
mine_now t g x owner active = ap (λ o. is_owned_by t o && is_active g) owner ∙ ap (λ b. (t == t) && b) active
    ∙ ap (λ b. b && true) (eq-eqb t t refl)

-- what the step makes of the cell's count
own_cell : (h : Heap) (t : ℕ) (s : Step) (number c : ℕ) → IsSound h → May h t s → target_at h t s ≡ Some c
    → IsNumberFound h t s number → FIRST_MORTAL ≤ c
    → own_count t (row_at h t).stage (cell_after t s c (cell_at h c)) ≡ counted_by s number
    (own_count t (row_at h t).stage (cell_at h c))
own_cell h t (Claim d) number c sound may named told mortal =
    let x : Cell = cell_at h c in
    let at_cell : OnCell h t (Claim d) c = on_cell h t (Claim d) c
    (subst (λ o. target_ok h t (row_at h t) (Claim d) o ≡ true) named may.on_target) in
    let free : x.owner ≡ owners.Free = free_owner _ (and_parts _ _ at_cell.fits).1 in
    sym (not_counted t _ x (not_owned t _ x (λ owned. let bad : owners.Free ≡ owners.Thread t = sym free
    ∙ owned in cc)))
own_cell h t (InitLocal d) number c sound may named told mortal =
    let e : d ≡ c = cc in
    let claimed : (cell_at h c).owner ≡ owners.Claimed t =
    (bearing phases.Claimed (inl refl) h t c sound (busy_hand phases.Claimed d _ may.hand
    ∙ ap (hands.Busy phases.Claimed) e)).1 in
    ap (λ o. own_count t (row_at h t).stage (record (cell_at h c) { owner = o; local = 1 })) claimed
    ∙ sym (not_counted t _ (cell_at h c)
    (not_owned t _ (cell_at h c) (λ owned. let bad : owners.Claimed t ≡ owners.Thread t = sym claimed ∙ owned in cc)))
own_cell h t (Birth d kind k) number c sound may named told mortal =
    let e : d ≡ c = cc in
    let ready = (sound.hands t c phases.Ready (busy_hand phases.Ready d _ may.hand
    ∙ ap (hands.Busy phases.Ready) e)).fits in
    let active : (row_at h t).stage ≡ stages.Active = active_from _ (Birth d kind k) may.stage refl refl refl in
    let y : Cell = record (cell_at h c) { owner = owners.Thread t; bearer = t; kind = kind } in
    counted_here t _ y (mine_now t _ y refl (ap is_active active)) ∙ ready.1
own_cell h t (LocalUp source k) number c sound may named told mortal =
    let x : Cell = cell_at h c in
    let s : Step = LocalUp source k in
    let above : is_immortal c ≡ false = le-ltb c FIRST_MORTAL mortal in
    let at_cell : OnCell h t s c =
    on_cell h t s c (subst (λ o. target_ok h t (row_at h t) s o ≡ true) named may.on_target) in
    let his : is_mine t (row_at h t).stage x ≡ true =
    (and_parts _ _ (subst (λ b. (b || counts_up_locally h.limit t (row_at h t).stage x) ≡ true) above
    at_cell.fits)).0 in
    ap (λ b. own_count t (row_at h t).stage (if b then x else record x { local = x.local + 1 })) above
    ∙ counted_here t _ (record x { local = x.local + 1 }) his
    ∙ sym (ap (λ b. word_in Local (if b then x else record x { local = x.local + 1 })) above)
    ∙ sym (told ∙ ap (told_at h t s) named)
own_cell h t (LocalDown drop) number c sound may named told mortal =
    let x : Cell = cell_at h c in
    let s : Step = LocalDown drop in
    let above : is_immortal c ≡ false = le-ltb c FIRST_MORTAL mortal in
    let at_cell : OnCell h t s c =
    on_cell h t s c (subst (λ o. target_ok h t (row_at h t) s o ≡ true) named may.on_target) in
    let his : is_mine t (row_at h t).stage x ≡ true = subst (λ b. (b || is_mine t (row_at h t).stage x) ≡ true) above
    at_cell.fits in
    ap (λ b. own_count t (row_at h t).stage (if b then x else record x { local = x.local - 1 })) above
    ∙ counted_here t _ (record x { local = x.local - 1 }) his
    ∙ sym (ap (λ b. word_in Local (if b then x else record x { local = x.local - 1 })) above)
    ∙ sym (told ∙ ap (told_at h t s) named)
own_cell h t (Free d) number c sound may named told mortal =
    let e : d ≡ c = cc in
    let on : is_marked (worklist_at h t) c ≡ true = ap (is_marked (worklist_at h t)) (sym e)
    ∙ (and_parts _ _ may.own).0 in
    elim (cases_Bool (is_mine t (row_at h t).stage (cell_at h c))) [
      | inl his ↦ sym (counted_here t _ (cell_at h c) his
          ∙ marked_count h t c sound on (mine t (row_at h t).stage (cell_at h c) his).owner)
      | inr apart ↦ sym (not_counted t _ (cell_at h c) apart)
    ]
own_cell h t (Untie d) number c sound may named told mortal = refl
own_cell h t (Ask drop) number c sound may named told mortal = either_count (is_default (cell_at h c).state)
  where
    either_count : (b : Bool)
        → own_count t (row_at h t).stage (if b then record (cell_at h c) { state = states.Queued } else cell_at h c)
        ≡ own_count t (row_at h t).stage (cell_at h c)
    either_count true = refl
    either_count false = refl
own_cell h t _ number c sound may named told mortal = refl

closed_inactive : (words k : ℕ) → is_active (closed_more words k) ≡ false
closed_inactive words k = by_test (k + 1 == words)
  where
    by_test : (b : Bool) → is_active (if b then stages.Left else stages.Closing (k + 1)) ≡ false
    by_test true = refl
    by_test false = refl

-- a thread that isn't active counts nothing
inactive_count : (t : ℕ) (g : Stage) (x : Cell) → is_active g ≡ false → own_count t g x ≡ 0
inactive_count t g x off = not_counted t g x (ap (λ b. is_owned_by t x.owner && b) off ∙ and_no (is_owned_by t x.owner))
  where
    and_no : (b : Bool) → (b && false) ≡ false
    and_no true = refl
    and_no false = refl

-- a thread that opens its words isn't active yet
opening_inactive : (g : Stage) (k : ℕ) → opens_next g k ≡ true → is_active g ≡ false
opening_inactive stages.Active k next = absurd (true≢false (sym next))
opening_inactive (stages.Closing n) k next = refl
opening_inactive stages.Left k next = refl
opening_inactive (stages.Opening n) k next = refl

-- and rests, since words are opened again in the second edition alone
opening_rests : (e : Edition) (row : Row) (k : ℕ) → edition_ok e row (Reopen k) ≡ true → is_active row.stage ≡ false
    → rests e row.stage ≡ true
opening_rests editions.One row k ok off = absurd (true≢false (sym ok))
opening_rests editions.Two row k ok off = ap not off

-- where the local count is 0 nothing is counted
no_count : (t : ℕ) (g : Stage) (x : Cell) → (x.owner ≡ owners.Thread t → x.local ≡ 0) → own_count t g x ≡ 0
no_count t g x none = elim (cases_Bool (is_mine t g x)) [
  | inl his ↦ counted_here t g x his ∙ none (mine t g x his).owner
  | inr apart ↦ not_counted t g x apart
]

-- a step that means no cell: a thread that closes a word counts as a stranger from then on, and one that has opened all
-- of its words has no count of what it owned before
apart_count : (h : Heap) (t d : ℕ) (s : Step) → IsSound h → May h t s → FIRST_MORTAL ≤ d
    → own_count t (stage_after (words_for (length h.cells)) s (row_at h t).stage) (cell_at h d) ≡ counted_apart s
    (own_count t (row_at h t).stage (cell_at h d))
apart_count h t d (Close k) sound may mortal = inactive_count t _ (cell_at h d)
    (closed_inactive (words_for (length h.cells)) k)
apart_count h t d (Reopen k) sound may mortal =
    let off : is_active (row_at h t).stage ≡ false = opening_inactive _ k (and_parts _ _ may.own).1 in
    no_count t _ (cell_at h d)
    (λ owner. (sound.cells d mortal).rested t owner (opening_rests h.edition (row_at h t) k may.edition off))
    ∙ sym (inactive_count t _ (cell_at h d) off)
apart_count h t d _ sound may mortal = refl

step_count : (h : Heap) (t : ℕ) (s : Step) (o : Option ℕ) (number d : ℕ) (counts : ℕ → ℕ) → IsSound h → May h t s
    → target_at h t s ≡ o → IsNumberFound h t s number → FIRST_MORTAL ≤ d
    → own_count t (row_at h t).stage (cell_at h d) ≡ counts d
    → own_count t (row_at (after_target h t s o) t).stage (cell_at (after_target h t s o) d)
    ≡ counts_by s number o counts d
step_count h t s None number d counts sound may named told mortal before =
    ap (λ (r : Row). own_count t r.stage (cell_at h d)) (read_here h.rows t _ no_row may.inside)
    ∙ apart_count h t d s sound may mortal ∙ ap (counted_apart s) before
step_count h t s (Some c) number d counts sound may named told mortal before =
    let inside : c < length h.cells =
    (on_cell h t s c (subst (λ o. target_ok h t (row_at h t) s o ≡ true) named may.on_target)).inside in
    let stage : (row_at (after_target h t s (Some c)) t).stage ≡ (row_at h t).stage = ap (λ (r : Row). r.stage)
    (read_here h.rows t _ no_row may.inside) in
    elim (cases_eq d c) [
      | inr other ↦ ap (λ g. own_count t g (cell_at (after_target h t s (Some c)) d)) stage
          ∙ ap (own_count t (row_at h t).stage) (read_there h.cells c d _ no_cell other) ∙ before
          ∙ sym (ap (λ b. if b then counted_by s number (counts d) else counts d) (ne_eqb d c other))
      | inl same ↦ ap (λ g. own_count t g (cell_at (after_target h t s (Some c)) d)) stage
          ∙ ap (λ i. own_count t (row_at h t).stage (cell_at (after_target h t s (Some c)) i)) same
          ∙ ap (own_count t (row_at h t).stage) (read_here h.cells c _ no_cell inside)
          ∙ own_cell h t s number c sound may named told (omega (arith, mortal, same))
          ∙ ap (λ i. counted_by s number (own_count t (row_at h t).stage (cell_at h i))) (sym same)
          ∙ ap (counted_by s number) before
          ∙ sym (ap (λ b. if b then counted_by s number (counts d) else counts d) (eq-eqb d c same))
    ]

-- ---- the law

-- a new thread owns nothing
new_count : (h : Heap) (t c : ℕ) → IsSound h → t ≡ length h.rows → FIRST_MORTAL ≤ c
    → own_count t (row_at (registered h) t).stage (cell_at h c) ≡ 0
new_count h t c sound last mortal = not_counted t _ (cell_at h c) (not_owned t _ (cell_at h c) (λ owned.
    let cell = sound.cells c mortal in
    omega (arith, last, cell.owned_by_bearer t owned, (cell.born (ap lives owned)).1)))

-- what the items say of a thread's part and of its counts
Counts : ℕ → ℕ → Heap → List Item → Type 0
Counts t cells h log = IsPart h t (part_of cells log) × ((c : ℕ) → FIRST_MORTAL ≤ c
    → own_count t (row_at h t).stage (cell_at h c) ≡ counts_of cells log c)

counts_follow : (t cells : ℕ) → Follows t cells (Counts t cells)
unfolding Counts
counts_follow t cells =
    let parts = part_follows t cells in
    record {
      starts = λ h reached size last. (
        parts.starts h reached size last,
        λ c mortal. new_count h t c
            (reached_sound h reached) last mortal,
      );
      again = λ h number entries reached size vacated. (
        parts.again h number entries reached size vacated,
        λ c mortal. inactive_count t _ (cell_at h c)
            (ap (λ (r : Row). is_active r.stage) (read_here h.rows t again_row no_row vacated.inside)),
      );
      others = λ h e log reached ok others before. (
        parts.others h e log reached ok others before.0,
        λ c mortal. others_count h e t c reached ok others mortal ∙ before.1 c mortal,
      );
      owns = λ h s number entries log reached size fit may told found before. (
        parts.owns h s number entries log reached size fit may told found before.0,
        λ c mortal. step_count h t s (target_at h t s) number c (counts_of cells log) (reached_sound h reached) may refl
            told mortal (before.1 c mortal)
            ∙ ap (λ o. counts_by s number o (counts_of cells log) c)
            (sym (part_target h t (part_of cells log) s before.0)),
      );
      gathers = λ h u log before. (parts.gathers h u log before.0, before.1);
      saw = λ h word number log reached shows before. before;
      lost = λ h word number log reached shows before. before;
    }

-- a registered thread counts its own objects as its own items say
pub counts_are_told : (cells limit : ℕ) (items : ItemRun) (t c : ℕ) → AreOptions cells limit
    → AreItems (start_of cells limit) items
    → is_registered (world_of_items (start_of cells limit) items) t ≡ true → FIRST_MORTAL ≤ c
    → own_count t (row_at (world_of_items (start_of cells limit) items) t).stage
    (cell_at (world_of_items (start_of cells limit) items) c) ≡ counts_of cells (own t items) c
unfolding Counts
counts_are_told cells limit items t c options are there mortal =
    (tells t cells (Counts t cells) (counts_follow t cells) limit items options are there).1 c mortal

-- ---- what a count says of the world

-- a thread with a bare hand that holds an object and has no count of it doesn't count there on the local word
pub uncounted : (h : Heap) (t c : ℕ) → IsReached h → FIRST_MORTAL ≤ c → 1 ≤ held h c → (row_at h t).hand ≡ hands.Free
    → own_count t (row_at h t).stage (cell_at h c) ≡ 0
    → is_mine t (row_at h t).stage (cell_at h c) ≡ false
uncounted h t c reached mortal some free none = elim (cases_Bool (is_mine t (row_at h t).stage (cell_at h c))) [
  | inr apart ↦ apart
  | inl his ↦
      let sound : IsSound h = reached_sound h reached in
      let owner : (cell_at h c).owner ≡ owners.Thread t = (mine t (row_at h t).stage (cell_at h c) his).owner in
      let ungripped : gripped h c ≡ 0 = owned_ungripped h t c sound mortal owner some (grips_free c _ free) in
      absurd (omega (
        arith,
        none,
        counted_here t _ (cell_at h c) his,
        local_positive h t c sound mortal owner ungripped,
      ))
]

-- and where it has a count, the word has that count
pub counted : (t : ℕ) (g : Stage) (x : Cell) → 0 < own_count t g x
    → (is_mine t g x ≡ true) × (x.local ≡ own_count t g x)
counted t g x some = elim (cases_Bool (is_mine t g x)) [
  | inl his ↦ (his, sym (counted_here t g x his))
  | inr apart ↦ absurd (omega (arith, some, not_counted t g x apart))
]
