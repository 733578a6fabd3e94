-- Walks along the holders, and what they can't leave.
use Rattle.std.proofs.Common.{◌≤◌, ◌≡◌, ◌<◌, ◌++◌, ◌⊎◌, inl, inr, ℕ, zero, suc, List, [], ◌∷◌, true, Option, Some, refl}
use Rattle.std.proofs.Common.{sym, ◌∙◌, ap, subst, arith, length, drop, slice_index}
use Rattle.brc_report.specs.Holding.{has}
use Rattle.brc_report.specs.Cycles.{Walk, IsCycle}
use Rattle.brc_report.proofs.Membership.{is_first_or_later, has_first, has_later}

module _ (holder : ℕ → Option ℕ) where
  -- one step more
  pub walk_on : (from : ℕ) (path : List ℕ) (to next : ℕ) → Walk holder from path to → holder to ≡ Some next
      → Walk holder from (path ++ to ∷ []) next
  walk_on from [] to next h held = record { is = sym h; next = next; held = rw h held; rest = refl }
  walk_on from (cell ∷ path) to next h held =
      record { is = h.is; next = h.next; held = h.held; rest = walk_on h.next path to next h.rest held }

  -- one walk after another
  pub walk_joined : (from : ℕ) (front : List ℕ) (by : ℕ) (back : List ℕ) (to : ℕ) → Walk holder from front by
      → Walk holder by back to → Walk holder from (front ++ back) to
  walk_joined from [] by back to h on = rw h on
  walk_joined from (cell ∷ front) by back to h on =
      record { is = h.is; next = h.next; held = h.held; rest = walk_joined h.next front by back to h.rest on }

  -- a walk in two
  pub walk_cut : (from : ℕ) (front back : List ℕ) (to : ℕ) → Walk holder from (front ++ back) to
      → (by : ℕ) × Walk holder from front by × Walk holder by back to
  walk_cut from [] back to h = (from, refl, h)
  walk_cut from (cell ∷ front) back to h =
      let cut = walk_cut h.next front back to h.rest in
      (cut.0, record { is = h.is; next = h.next; held = h.held; rest = cut.1 }, cut.2)

  -- from a cell of a walk it goes on to the end
  pub walk_after : (from : ℕ) (path : List ℕ) (to cell : ℕ) → Walk holder from path to → has path cell ≡ true
      → (later : List ℕ) × Walk holder cell later to
  walk_after from [] to cell h among = absurd (cc)
  walk_after from (first ∷ path) to cell h among = elim (is_first_or_later first path cell among) [
    | inl same ↦ (first ∷ path, subst (λ w. Walk holder w (first ∷ path) to) (sym h.is ∙ same) h)
    | inr later ↦ walk_after h.next path to cell h.rest later
  ]

  -- what walks don't leave: a walk that begins there stays there
  pub walk_stays : (S : ℕ → Type 0) → ((cell next : ℕ) → S cell → holder cell ≡ Some next → S next)
      → (from : ℕ) (path : List ℕ) (to : ℕ) → Walk holder from path to → S from
      → ((cell : ℕ) → has path cell ≡ true → S cell) × S to
  walk_stays S goes_on from [] to h there = (λ cell among. absurd (cc), subst S h there)
  walk_stays S goes_on from (first ∷ path) to h there =
      let rest = walk_stays S goes_on h.next path to h.rest (goes_on from h.next there h.held) in (
        λ cell among. elim (is_first_or_later first path cell among) [
          | inl same ↦ subst S (sym h.is ∙ same) there
          | inr later ↦ rest.0 cell later
        ],
        rest.1,
      )

  -- and so one that has a cell there ends there
  pub walk_ends : (S : ℕ → Type 0) → ((cell next : ℕ) → S cell → holder cell ≡ Some next → S next)
      → (from : ℕ) (path : List ℕ) (to cell : ℕ) → Walk holder from path to → has path cell ≡ true → S cell → S to
  walk_ends S goes_on from path to cell h among there =
      let after = walk_after from path to cell h among in
      (walk_stays S goes_on cell after.0 to after.1 there).1

  -- the holder of a cell of a walk is a cell of the walk, or its end
  pub walk_next : (from : ℕ) (path : List ℕ) (to cell next : ℕ) → Walk holder from path to → has path cell ≡ true
      → holder cell ≡ Some next → (has path next ≡ true) ⊎ (next ≡ to)
  walk_next from [] to cell next h among held = absurd (cc)
  walk_next from (first ∷ []) to cell next h among held = elim (is_first_or_later first [] cell among) [
    | inl same ↦ inr (let is : cell ≡ from = sym same ∙ h.is in
        let one : Some next ≡ Some h.next = sym held ∙ (ap holder is ∙ h.held) in cc)
    | inr later ↦ absurd (cc)
  ]
  walk_next from (first ∷ second ∷ path) to cell next h among held =
      elim (is_first_or_later first (second ∷ path) cell among) [
        | inl same ↦ inl (let is : cell ≡ from = sym same ∙ h.is in
            let one : Some next ≡ Some h.next = sym held ∙ (ap holder is ∙ h.held) in
            let two : next ≡ second = cc (h.rest.is) in
            subst (λ w. has (first ∷ second ∷ path) w ≡ true) (sym two)
            (has_later first (second ∷ path) second (has_first second path)))
        | inr later ↦ elim (walk_next h.next (second ∷ path) to cell next h.rest later held) [
          | inl more ↦ inl (has_later first (second ∷ path) next more)
          | inr ends ↦ inr ends
        ]
      ]

  -- the cells of a closed walk aren't left
  pub closed_stays : (first : ℕ) (cells : List ℕ) → Walk holder first cells first → has cells first ≡ true
      → (cell next : ℕ) → has cells cell ≡ true → holder cell ≡ Some next → has cells next ≡ true
  closed_stays first cells h begins cell next among held = elim (walk_next first cells first cell next h among held) [
    | inl more ↦ more
    | inr ends ↦ rw ends begins
  ]

  -- a cycle's first cell leads only to the cycle
  pub cycle_reached : (first : ℕ) (others : List ℕ) → IsCycle holder first others
      → (path : List ℕ) (to : ℕ) → Walk holder first path to → has (first ∷ others) to ≡ true
  cycle_reached first others cycle path to h =
      (walk_stays (λ cell. has (first ∷ others) cell ≡ true)
      (closed_stays first (first ∷ others) cycle.closed (has_first first others))
      first path to h (has_first first others)).1

  -- and what is reached from there has the cycle's first cell, if it is never left
  pub cycle_begins_there : (S : ℕ → Type 0) → ((cell next : ℕ) → S cell → holder cell ≡ Some next → S next)
      → (first : ℕ) (others : List ℕ) → IsCycle holder first others
      → (path : List ℕ) (to : ℕ) → Walk holder first path to → S to → S first
  cycle_begins_there S goes_on first others cycle path to h there =
      walk_ends S goes_on first (first ∷ others) first to cycle.closed
      (cycle_reached first others cycle path to h) there

  -- a walk from one of its places on
  pub walk_from : (from : ℕ) (path : List ℕ) (to place : ℕ) → place < length path → Walk holder from path to
      → Walk holder (slice_index path place) (drop place path) to
  walk_from from [] to place within h = absurd (omega arith)
  walk_from from (first ∷ path) to zero within h =
      subst (λ w. Walk holder w (first ∷ path) to) (sym h.is) h
  walk_from from (first ∷ path) to (suc place) within h = walk_from h.next path to place (omega arith) h.rest

  -- a cell of a walk leads on to its end along some of the walk
  pub walk_rest : (from : ℕ) (path : List ℕ) (to cell : ℕ) → Walk holder from path to → has path cell ≡ true
      → (later : List ℕ) × Walk holder cell later to × (length later ≤ length path)
      × ((other : ℕ) → has later other ≡ true → has path other ≡ true)
  walk_rest from [] to cell h among = absurd (cc)
  walk_rest from (first ∷ path) to cell h among = elim (is_first_or_later first path cell among) [
    | inl same ↦ (
      first ∷ path,
      subst (λ w. Walk holder w (first ∷ path) to) (sym h.is ∙ same) h,
      omega arith,
      λ other k. k,
    )
    | inr later ↦ let rest = walk_rest h.next path to cell h.rest later in
        (rest.0, rest.1, omega (arith, rest.2), λ other k. has_later first path other (rest.3 other k))
  ]
