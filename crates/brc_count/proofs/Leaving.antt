-- A thread that holds nothing may close its queue words, one after the other.
use Rattle.std.proofs.Common.{◌≡◌, ℕ, ◌+◌, ◌-◌, ◌<◌, ◌≤◌, ◌||◌, Bool, true, false, if◌then◌else◌, List, [], ◌∷◌, length}
use Rattle.std.proofs.Common.{get_or, suc, Option, Some, None, is_some, refl, sym, ◌∙◌, ap, subst, arith, inl, inr}
use Rattle.std.proofs.Common.{count_by}
use Rattle.std.proofs.lemmas.Bool.{cases_eq, cases_lt, eq-eqb, ne_eqb, lt-ltb}
use Rattle.std.proofs.lemmas.List.{get_or_past}
use Rattle.std.proofs.lemmas.List.Sums.{sum_by-cons, get_or-le-sum_by}
use Rattle.brc_count.specs.Places.{PlacesSeen, held_in, cell_held}
use Rattle.brc_table.specs.block.declared.payload.Payload.{Payload}
use Rattle.brc_table.specs.law.declared.world.event.Step.TheVariants.{Close, Reopen}
use Rattle.brc_table.specs.law.declared.world.row.Stage.{Stage}
use Rattle.brc_table.specs.law.declared.world.row.Stage.TheVariants as stages
use Rattle.brc_table.specs.law.world.Heap.{words_for}
use Rattle.brc_table.specs.law.world.Lists.{place_at, is_marked, is_bare, is_unmarked, is_blank, filled_places, marked_cells}
use Rattle.brc_table.specs.law.world.Steps.{stage_ok, closes_next, closed_more, opened_more, is_left, is_active, may_begin_closing}
use Rattle.brc_table.specs.law.known.Taken.{listed_at}
use Rattle.brc_words.specs.declared.limits.TheConstants.{FIRST_MORTAL}
use Rattle.brc_table.specs.law.rule.Seen.{part_seen, counts_seen}
use Rattle.brc_table.specs.law.steps.Owing.{MayStep, MayClose}
use Rattle.brc_table.specs.Seated.{TableSeen, SeatSeen}
use Rattle.brc_count.specs.declared.ledger.Ledger.{Ledger}
use Rattle.brc_count.specs.Frames.{FrameSeen, Holding, locked_place}
use Rattle.brc_count.specs.Closing.{stage_with, stage_opened, TurnedLeaving, TurnsLeaving, OneMore}

-- ---- nothing is there, place by place and cell by cell

none_filled : {T : Type 0} (xs : List (Option T)) → count_by is_some xs ≡ 0 → (k : ℕ) → get_or xs k None ≡ None
none_filled {T = T} xs none k = elim (cases_lt k (length xs)) [
  | inr past ↦ get_or_past xs k None past
  | inl inside ↦ unfilled (get_or xs k None)
      (omega (arith, none, get_or-le-sum_by (λ (x : Option T). if is_some x then 1 else 0) xs k None inside))
]
  where
    unfilled : {T : Type 0} (x : Option T) → (if is_some x then 1 else 0) ≤ 0 → x ≡ None
    unfilled None none = refl
    unfilled (Some c) none = absurd (omega (arith, none))

bare_from : (frame : List (Option ℕ)) → ((k : ℕ) → place_at frame k ≡ None) → is_bare frame ≡ true
bare_from frame none = eq-eqb (filled_places frame) 0 (count frame none)
  where
    count : (xs : List (Option ℕ)) → ((k : ℕ) → place_at xs k ≡ None) → filled_places xs ≡ 0
    count [] empty = refl
    count (x ∷ xs) empty =
        let first : ◌≡◌ {A = ℕ} (if is_some x then 1 else 0) 0 = ap (λ v. if is_some v then 1 else 0) (empty 0) in
        omega (
          arith,
          sum_by-cons (λ (v : Option ℕ). if is_some v then 1 else 0) x xs,
          first,
          count xs (λ k. empty (suc k)),
        )

unmarked_from : (marks : List Bool) → ((c : ℕ) → is_marked marks c ≡ false) → is_unmarked marks ≡ true
unmarked_from marks none = eq-eqb (marked_cells marks) 0 (count marks none)
  where
    count : (xs : List Bool) → ((k : ℕ) → is_marked xs k ≡ false) → marked_cells xs ≡ 0
    count [] empty = refl
    count (x ∷ xs) empty =
        let first : ◌≡◌ {A = ℕ} (if x then 1 else 0) 0 = ap (λ (v : Bool). if v then 1 else 0) (empty 0) in
        omega (arith, sum_by-cons (λ (v : Bool). if v then 1 else 0) x xs, first, count xs (λ k. empty (suc k)))

module _ {A : Type 0} {heap : TableSeen} {seat : SeatSeen A} {places : PlacesSeen} {popped : List ℕ}
    {ledger : Ledger} where
  -- no place is filled
  pub holds_bare : {works : List (ℕ × Payload A)} → Holding A heap seat places works popped ledger → held_in places ≡ 0
      → is_bare (part_seen heap.cells seat.log).frame ≡ true
  holds_bare keeps none = bare_from (part_seen heap.cells seat.log).frame (λ k. keeps.placed k
      ∙ ap cell_held (none_filled places.slots none k))

  -- no block is left
  pub holds_unmarked : Holding A heap seat places [] popped ledger
      → is_unmarked (part_seen heap.cells seat.log).worklist ≡ true
  holds_unmarked keeps = unmarked_from (part_seen heap.cells seat.log).worklist
      (λ c. keeps.buried.only c (ap (λ bs. listed_at bs c) keeps.listed))

  -- ---- the next word

  pub may_close : (k : ℕ) {works : List (ℕ × Payload A)} → Holding A heap seat places works popped ledger
      → held_in places ≡ 0 → locked_place heap.cells seat.log ≡ None
      → ((c : ℕ) → FIRST_MORTAL ≤ c → c < heap.cells → counts_seen heap.cells seat.log c ≡ 0)
      → (part_seen heap.cells seat.log).row.stage ≡ stage_with (words_for heap.cells) k → k < words_for heap.cells
      → (k ≡ 0 → is_blank (part_seen heap.cells seat.log).popped ≡ true) → MayClose heap.cells seat.log k
  may_close k keeps none unlocked counts stage low blank = record {
    own = rw (
      stage,
      stage_fits (words_for heap.cells) k low,
      unlocked,
      keeps.hand_is,
      lt-ltb k (words_for heap.cells) low,
      next_fits (words_for heap.cells) k low,
      holds_bare keeps none,
      begins (part_seen heap.cells seat.log).popped k blank,
    ) refl;
    none = counts;
  }
    where
      stage_fits : (words k : ℕ) → k < words → stage_ok (stage_with words k) (Close k) ≡ true
      stage_fits words k low = elim (cases_eq k 0) [
        | inl none ↦ ap (λ b. let stage : Stage = if b then stages.Active else closed_more words (k - 1) in
            stage_ok stage (Close k)) (eq-eqb k 0 none)
        | inr some ↦ ap (λ b. let stage : Stage = if b then stages.Active else closed_more words (k - 1) in
            stage_ok stage (Close k)) (ne_eqb k 0 some)
            ∙ ap (λ b. let stage : Stage = if b then stages.Left else stages.Closing (k - 1 + 1) in
            stage_ok stage (Close k))
            (ne_eqb (k - 1 + 1) words (λ same. omega (arith, low, some, same)))
      ]

      next_fits : (words k : ℕ) → k < words → closes_next (stage_with words k) k ≡ true
      next_fits words k low = elim (cases_eq k 0) [
        | inl none ↦ ap (λ b. let stage : Stage = if b then stages.Active else closed_more words (k - 1) in
            closes_next stage k) (eq-eqb k 0 none) ∙ eq-eqb k 0 none
        | inr some ↦ ap (λ b. let stage : Stage = if b then stages.Active else closed_more words (k - 1) in
            closes_next stage k) (ne_eqb k 0 some)
            ∙ ap (λ b. let stage : Stage = if b then stages.Left else stages.Closing (k - 1 + 1) in closes_next stage k)
            (ne_eqb (k - 1 + 1) words (λ same. omega (arith, low, some, same)))
            ∙ eq-eqb k (k - 1 + 1) (omega (arith, some))
      ]

      begins : (words : List ℕ) (k : ℕ) → (k ≡ 0 → is_blank words ≡ true) → may_begin_closing words k ≡ true
      begins words k blank = elim (cases_eq k 0) [
        | inl none ↦ subst (λ m. may_begin_closing words m ≡ true) (sym none) (blank none)
        | inr some ↦ ap (λ b. b || is_blank words) (lt-ltb 0 k (omega (arith, some)))
      ]

-- a thread whose number is used again may open its next queue word
pub may_open : {A : Type 0} {heap : TableSeen} {seat : SeatSeen A} {places : PlacesSeen} {popped : List ℕ}
    {ledger : Ledger} {works : List (ℕ × Payload A)} (k : ℕ) → Holding A heap seat places works popped ledger
    → locked_place heap.cells seat.log ≡ None
    → (part_seen heap.cells seat.log).row.stage ≡ stage_opened (words_for heap.cells) k → k < words_for heap.cells
    → MayStep heap.cells seat.log (Reopen k)
may_open {heap = heap} k keeps unlocked stage low = record {
  own = rw (
    stage ∙ opening_at (words_for heap.cells) k low,
    eq-eqb k k refl,
    unlocked,
    keeps.hand_is,
    lt-ltb k (words_for heap.cells) low,
  ) refl;
}
  where
    opening_at : (words k : ℕ) → k < words → stage_opened words k ≡ stages.Opening k
    opening_at words k low = elim (cases_eq k 0) [
      | inl none ↦ ap (λ b. if b then stages.Opening 0 else opened_more words (k - 1)) (eq-eqb k 0 none)
          ∙ ap stages.Opening (sym none)
      | inr some ↦ ap (λ b. if b then stages.Opening 0 else opened_more words (k - 1)) (ne_eqb k 0 some)
          ∙ ap (λ b. if b then stages.Active else stages.Opening (k - 1 + 1))
          (ne_eqb (k - 1 + 1) words (λ same. omega (arith, low, some, same)))
          ∙ ap stages.Opening (omega (arith, some))
    ]

-- one word more is open
pub opened_next : (words k : ℕ) → opened_more words k ≡ stage_opened words (k + 1)
opened_next words k = sym (ap (λ b. if b then stages.Opening 0 else opened_more words (k + 1 - 1))
    (ne_eqb (k + 1) 0 (λ same. omega (arith, same))) ∙ ap (opened_more words) (omega arith))

-- with the last word open the thread is active
pub stage_active : (words : ℕ) → 0 < words → is_active (stage_opened words words) ≡ true
stage_active words some =
    ap (λ b. is_active (if b then stages.Opening 0 else opened_more words (words - 1)))
    (ne_eqb words 0 (λ same. omega (arith, some, same)))
    ∙ ap (λ b. is_active (if b then stages.Active else stages.Opening (words - 1 + 1)))
    (eq-eqb (words - 1 + 1) words (omega (arith, some)))

-- an active thread has closed no word
pub is_first : (stage : Stage) → is_active stage ≡ true → stage ≡ stages.Active
is_first stages.Active is = refl
is_first (stages.Closing words) is = cc
is_first stages.Left is = cc
is_first (stages.Opening words) is = cc

-- one word more is closed
pub stage_next : (words k : ℕ) → closed_more words k ≡ stage_with words (k + 1)
stage_next words k = sym (ap (λ b. if b then stages.Active else closed_more words (k + 1 - 1))
    (ne_eqb (k + 1) 0 (λ same. omega (arith, same))) ∙ ap (closed_more words) (omega arith))

-- with the last word closed the thread has left
pub stage_left : (words : ℕ) → 0 < words → is_left (stage_with words words) ≡ true
stage_left words some =
    ap (λ b. is_left (if b then stages.Active else closed_more words (words - 1)))
    (ne_eqb words 0 (λ same. omega (arith, some, same)))
    ∙ ap (λ b. is_left (if b then stages.Left else stages.Closing (words - 1 + 1)))
    (eq-eqb (words - 1 + 1) words (omega (arith, some)))

-- one turn less is left, and one more was made
pub one_more_turn : {A : Type 0} (old mid new : FrameSeen A) (budget left : ℕ) → 0 < left → left ≤ budget
    → TurnsLeaving old (budget - left) mid → TurnedLeaving mid new
    → TurnsLeaving old (budget - (left - 1)) new
one_more_turn old mid new budget left some few turns turned =
    subst (λ m. TurnsLeaving old m new) (omega (arith, some, few)) (OneMore (budget - left) mid new turns turned)
