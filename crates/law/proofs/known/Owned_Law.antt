-- The cells that an active thread owns are those of which it has a local count, and dead ones on its own worklist.
use Rattle.std.proofs.Common.{◌≡◌, zero, suc, ◌||◌, not, ◌≢◌, ℕ, ◌<◌, ◌≤◌, ◌==◌, ◌&&◌, ◌||◌, not, Bool, true, false}
use Rattle.std.proofs.Common.{if◌then◌else◌, List, [], length, sum_by, refl, sym, ◌∙◌, ap, inl, inr, arith}
use Rattle.std.proofs.lemmas.Bool.{cases_eq, cases_lt, cases_Bool, eq-eqb, ne_eqb, eqb-true, true≢false}
use Rattle.std.proofs.lemmas.List.{get_or_past}
use Rattle.std.proofs.lemmas.List.Sums.{get_or-le-sum_by}
use Rattle.brc_words.specs.declared.limits.TheConstants.{FIRST_MORTAL}
use Rattle.std.specs.Cmp.Derive.{both_true}
use Rattle.brc_words.specs.declared.owner.Owner.{Owner}
use Rattle.brc_words.specs.declared.owner.Owner.TheVariants as owners
use Rattle.law.specs.declared.world.row.Row.{Row}
use Rattle.law.specs.declared.world.row.Hand.TheVariants as hands
use Rattle.law.specs.world.Lists.{one, is_marked}
use Rattle.law.specs.known.Start.{start_of}
use Rattle.law.specs.world.Heap.{Heap, cell_at, row_at, worklist_at, is_registered, no_row, AreOptions}
use Rattle.law.specs.world.Steps.{is_mine, is_owned_by, is_active, is_merged, owned_are_marked}
use Rattle.law.specs.world.Sound.{IsSound, grips, grips_by_owner, gripped}
use Rattle.law.proofs.world.Asking.{mine}
use Rattle.law.proofs.world.Counting.{sum_none, hand_apart}
use Rattle.law.proofs.world.Reached.{reached_sound}
use Rattle.law.proofs.known.Starting.{run_reached}
use Rattle.law.specs.known.Items.{ItemRun, AreItems, world_of_items, events_of, own}
use Rattle.law.specs.known.Counts.{own_count, counts_of}
use Rattle.law.specs.known.Owned.{IsAlive}
use Rattle.law.proofs.known.Items_Runs.{events_run}
use Rattle.law.proofs.known.Counts_Law.{counts_are_told, counted}

-- ---- who grips an owned cell

grips_owned : (h : Heap) (t c : ℕ) → IsSound h → FIRST_MORTAL ≤ c → (cell_at h c).owner ≡ owners.Thread t
    → gripped h c ≡ one ((cell_at h c).local == 0)
grips_owned h t c sound mortal owner =
    sound.gripped c mortal ∙ ap (λ o. grips_by_owner o (cell_at h c).state (cell_at h c).local
    (cell_at h c).count) owner

mark_inside : (h : Heap) (u c : ℕ) → one (is_marked (worklist_at h u) c) ≤ gripped h c
mark_inside h u c = elim (cases_lt u (length h.worklists)) [
  | inl inside ↦ omega (
    arith,
    get_or-le-sum_by (λ (marks : List Bool). one (is_marked marks c)) h.worklists u
        [] inside,
  )
  | inr past ↦ omega (arith, ap (λ (marks : List Bool). one (is_marked marks c)) (get_or_past h.worklists u [] past))
]

-- a count of 1 or more says that nobody has the cell to take apart
pub counted_off : (h : Heap) (t c u : ℕ) → IsSound h → FIRST_MORTAL ≤ c → (cell_at h c).owner ≡ owners.Thread t
    → 1 ≤ (cell_at h c).local
    → is_marked (worklist_at h u) c ≡ false
counted_off h t c u sound mortal owner some = elim (cases_Bool (is_marked (worklist_at h u) c)) [
  | inr off ↦ off
  | inl on ↦ absurd (omega (
    arith,
    mark_inside h u c,
    ap one on,
    grips_owned h t c sound mortal owner,
    ap one (ne_eqb (cell_at h c).local 0 (λ e. omega (arith, e, some))),
  ))
]

-- a worklist of another thread has no owned cell
mark_apart : (h : Heap) (t s c : ℕ) → IsSound h → FIRST_MORTAL ≤ c → (cell_at h c).owner ≡ owners.Thread t → s ≢ t
    → one (is_marked (worklist_at h s) c) ≡ 0
mark_apart h t s c sound mortal owner ne = elim (cases_Bool (is_marked (worklist_at h s) c)) [
  | inr off ↦ ap one off
  | inl on ↦ absurd (elim (sound.worklists s c on).whose [
    | inl merged ↦ true≢false (sym (ap is_merged merged) ∙ (sound.cells c mortal).owned_unmerged t owner)
    | inr his ↦ let e : owners.Thread t ≡ owners.Thread s = sym owner ∙ his in ne (cc)
  ])
]

-- an owned cell without a local count is in its owner's hand, or is dead and on its owner's worklist
pub uncounted_on : (h : Heap) (t c : ℕ) → IsSound h → FIRST_MORTAL ≤ c → (cell_at h c).owner ≡ owners.Thread t
    → (cell_at h c).local ≡ 0
    → (row_at h t).hand ≡ hands.Free → is_marked (worklist_at h t) c ≡ true
uncounted_on h t c sound mortal owner none free = elim (cases_Bool (is_marked (worklist_at h t) c)) [
  | inl on ↦ on
  | inr off ↦ absurd (
      let marks : sum_by (λ (marks : List Bool). one (is_marked marks c)) h.worklists ≡ 0 =
      sum_none (λ (marks : List Bool). one (is_marked marks c)) h.worklists [] (λ s. elim (cases_eq s t) [
        | inl same ↦ ap (λ j. one (is_marked (worklist_at h j) c)) same ∙ ap one off
        | inr other ↦ mark_apart h t s c sound mortal owner other
      ]) in
      let rows : sum_by (λ (row : Row). one (grips c row.hand)) h.rows ≡ 0 =
      sum_none (λ (row : Row). one (grips c row.hand)) h.rows no_row (λ s. elim (cases_eq s t) [
        | inl same ↦ ap (λ j. one (grips c (row_at h j).hand)) same ∙ ap (λ hand. one (grips c hand)) free
        | inr other ↦ hand_apart h t s c (row_at h s).hand sound owner other refl
      ]) in
      omega (arith, marks, rows, grips_owned h t c sound mortal owner, ap one (eq-eqb (cell_at h c).local 0 none)))
]

-- ---- what the own items tell

module _ (cells limit : ℕ) (items : ItemRun) (t c : ℕ) (options : AreOptions cells limit)
    (are : AreItems (start_of cells limit) items)
    (there : is_registered (world_of_items (start_of cells limit) items) t ≡ true) (mortal : FIRST_MORTAL ≤ c) where
  abbrev h : Heap
  h = world_of_items (start_of cells limit) items

  sound : IsSound h
  sound = reached_sound h (run_reached cells limit (events_of items) options
      (events_run (start_of cells limit) items are))

  told : own_count t (row_at h t).stage (cell_at h c) ≡ counts_of cells (own t items) c
  told = counts_are_told cells limit items t c options are there mortal

  -- what a thread counts on its own is its own, and alive
  pub counted_alive : 0 < counts_of cells (own t items) c → IsAlive h t c
  counted_alive some =
      let his = counted t (row_at h t).stage (cell_at h c) (omega (arith, some, told)) in
      let owner : (cell_at h c).owner ≡ owners.Thread t = (mine t (row_at h t).stage (cell_at h c) his.0).owner in
      record { owner = owner; off = λ u. counted_off h t c u sound mortal owner (omega (arith, some, told, his.1)) }

  -- what an active thread with a free hand owns and doesn't count is dead, and its own to take apart
  pub uncounted_dead : is_active (row_at h t).stage ≡ true → (row_at h t).hand ≡ hands.Free
      → counts_of cells (own t items) c ≡ 0
      → (cell_at h c).owner ≡ owners.Thread t → is_marked (worklist_at h t) c ≡ true
  uncounted_dead active free none owner =
      let his : is_mine t (row_at h t).stage (cell_at h c) ≡ true =
      ap (λ o. is_owned_by t o && is_active (row_at h t).stage) owner ∙ ap (λ b. (t == t) && b) active
      ∙ ap (λ b. b && true) (eq-eqb t t refl) in
      uncounted_on h t c sound mortal owner (sym (ap (λ b. if b then (cell_at h c).local else 0) his) ∙ told
      ∙ none) free

-- ---- before the first word is closed

owner_is : (t : ℕ) (owner : Owner) → is_owned_by t owner ≡ true → owner ≡ owners.Thread t
owner_is t owners.Nobody is = absurd (true≢false (sym is))
owner_is t (owners.Thread s) is = ap owners.Thread (eqb-true s t is)
owner_is t (owners.Claimed s) is = absurd (true≢false (sym is))
owner_is t owners.Free is = absurd (true≢false (sym is))

module _ (cells limit : ℕ) (items : ItemRun) (t : ℕ) (options : AreOptions cells limit)
    (are : AreItems (start_of cells limit) items)
    (there : is_registered (world_of_items (start_of cells limit) items) t ≡ true) where
  abbrev w : Heap
  w = world_of_items (start_of cells limit) items

  of_cell : is_active (row_at w t).stage ≡ true → (row_at w t).hand ≡ hands.Free
      → ((c : ℕ) → FIRST_MORTAL ≤ c → counts_of cells (own t items) c ≡ 0)
      → (c : ℕ) → (not (is_owned_by t (cell_at w c).owner) || is_marked (worklist_at w t) c) ≡ true
  of_cell active free none c = elim (cases_Bool (is_owned_by t (cell_at w c).owner)) [
    | inr apart ↦ ap (λ b. not b || is_marked (worklist_at w t) c) apart
    | inl his ↦
        let owner : (cell_at w c).owner ≡ owners.Thread t = owner_is t (cell_at w c).owner his in
        ap (λ b. not b || is_marked (worklist_at w t) c) his ∙ elim (cases_lt c FIRST_MORTAL) [
          | inl fixed ↦
              let e : owners.Thread t ≡ owners.Nobody = sym owner
              ∙ ((reached_sound w (run_reached cells limit (events_of items) options
              (events_run (start_of cells limit) items are))).immortals c fixed).owner in
              absurd (cc)
          | inr mortal ↦ uncounted_dead cells limit items t c options are there mortal active free (none c mortal) owner
        ]
  ]

  pub all_dead : is_active (row_at w t).stage ≡ true → (row_at w t).hand ≡ hands.Free
      → ((c : ℕ) → FIRST_MORTAL ≤ c → counts_of cells (own t items) c ≡ 0)
      → (n : ℕ) → owned_are_marked t w.cells (worklist_at w t) n ≡ true
  all_dead active free none zero = refl
  all_dead active free none (suc n) = both_true (all_dead active free none n) (of_cell active free none n)
