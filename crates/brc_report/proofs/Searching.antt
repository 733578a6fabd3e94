-- What a search for cycles comes to know by one walk more.
use Rattle.std.proofs.Common.{◌≡◌, ◌≢◌, ◌<◌, ◌≤◌, ◌+◌, ◌-◌, ◌++◌, ◌⊎◌, inl, inr, ℕ, zero, suc, List, [], ◌∷◌, Bool}
use Rattle.std.proofs.Common.{true, false, ◌||◌, ◌==◌, if◌then◌else◌, Option, Some, None, is_some, Result, Ok, Err}
use Rattle.std.proofs.Common.{OnOk, refl, sym, ◌∙◌, ap, subst, arith, length, take, drop, slice_index, take-append-drop}
use Rattle.std.proofs.Common.{get_or, drop-cons, add-one, append_assoc, length-drop}
use Rattle.std.proofs.lemmas.List.{take_all}
use Rattle.std.specs.List.{position, position_from}
use Rattle.std.proofs.lemmas.List.Quantifiers.{position-Some}
use Rattle.std.proofs.lemmas.Iterator.Adapters.{position_from-zero}
use Rattle.brc_report.specs.declared.content.Remain.{Remain}
use Rattle.brc_report.specs.Holding.{has}
use Rattle.brc_report.specs.Cycles.{Walk, IsCycle, CycleAt, CyclesAt, in_front, holder_in}
use Rattle.brc_report.specs.Walking.{times, unseen, Walking, Walked, IsSettled, WalksAreKnown, IsTurned, IsKept}
use Rattle.brc_report.proofs.Membership.{is_first_or_later, has_first, has_later, has_both, has_turned, uncounted}
use Rattle.brc_report.proofs.Membership.{count_both, stands_at, drop_begins, drop_has, drop_times, times_later}
use Rattle.std.proofs.lemmas.Bool.{eqb-true, eq-eqb, ne_eqb}
use Rattle.brc_report.proofs.Walks.{walk_on, walk_joined, walk_cut, walk_from, walk_after, walk_stays, walk_next}
use Rattle.brc_report.proofs.Walks.{closed_stays, cycle_reached, cycle_begins_there}

bool_cases : (b : Bool) → (b ≡ true) ⊎ (b ≡ false)
bool_cases true = inl refl
bool_cases false = inr refl

num_cases : (m n : ℕ) → (m ≡ n) ⊎ (m ≢ n)
num_cases m n = elim (bool_cases (m == n)) [
  | inl h ↦ inl (eqb-true m n h)
  | inr h ↦ inr (λ e. let w : true ≡ false = sym (eq-eqb m n e) ∙ h in absurd (cc))
]

if_same : {X : Type 0} (m : ℕ) (x y : X) → (if m == m then x else y) ≡ x
if_same m x y = rw (eq-eqb m m refl) refl

if_other : {X : Type 0} (m n : ℕ) (x y : X) → m ≢ n → (if m == n then x else y) ≡ y
if_other m n x y h = rw (ne_eqb m n h) refl

or_true : (a b : Bool) → (a || b) ≡ true → (a ≡ true) ⊎ (b ≡ true)
or_true true b h = inl refl
or_true false b h = inr h

-- a cell that is given a value has one
pub seen_more : {X : Type 0} (b : Bool) (x : X) (o : Option X)
    → is_some (if b then Some x else o) ≡ (if b then true else is_some o)
seen_more true x o = refl
seen_more false x o = refl

pub on_ok_map : {T E P Q : Type 0} (r : Result T E) → (P → Q) → OnOk r P → OnOk r Q
on_ok_map (Ok value) f h = f h
on_ok_map (Err fault) f h = h

or_end : (a : Bool) → (a || true) ≡ true
or_end true = refl
or_end false = refl

or_false : (a b : Bool) → (a || b) ≡ false → (a ≡ false) × (b ≡ false)
or_false true b h = absurd (cc)
or_false false b h = (refl, h)

module _ (holder : ℕ → Option ℕ) where
  -- no walk yet
  pub walk_begins : (before now : ℕ → Bool) (from : ℕ) → ((cell : ℕ) → now cell ≡ before cell)
      → Walking holder before now from [] from
  walk_begins before now from same = record {
    walk = refl;
    seen = λ cell. same cell ∙ grind arith;
    fresh = λ cell among. absurd (cc);
    apart = λ cell. omega arith;
  }

  -- one cell more, which wasn't seen
  pub walk_goes_on : (before now new : ℕ → Bool) (from : ℕ) (path : List ℕ) (to next : ℕ)
      → Walking holder before now from path to → now to ≡ false → holder to ≡ Some next
      → ((cell : ℕ) → new cell ≡ (if to == cell then true else now cell))
      → Walking holder before new from (path ++ to ∷ []) next
  walk_goes_on before now new from path to next h unseen held put =
      let apart : (before to ≡ false) × (has path to ≡ false) =
      or_false (before to) (has path to) (sym (h.seen to) ∙ unseen) in
      record {
        walk = walk_on holder from path to next h.walk held;
        seen = λ cell. grind (arith, put cell, h.seen cell, has_both path (to ∷ []) cell);
        fresh = λ cell among. grind (arith, has_both path (to ∷ []) cell, h.fresh cell, apart.0);
        apart = λ cell. grind (arith, count_both path (to ∷ []) cell, uncounted path cell, h.apart cell, apart.1);
      }

  -- what was settled stays so while more is seen
  settled_stays : (before now : ℕ → Bool) (from : ℕ) (path : List ℕ) (to : ℕ) → Walking holder before now from path to
      → (cell : ℕ) → IsSettled holder before cell → IsSettled holder now cell
  settled_stays before now from path to h cell (inl seen) = inl (h.seen cell ∙ grind (arith, seen))
  settled_stays before now from path to h cell (inr none) = inr none

  -- walks from what was settled stay there
  settled_goes_on : (seen : ℕ → Bool) (found : ℕ → Option (List ℕ)) → WalksAreKnown holder seen found
      → (cell next : ℕ) → IsSettled holder seen cell → holder cell ≡ Some next → IsSettled holder seen next
  settled_goes_on seen found known cell next (inl was) held = known.goes_on cell next was held
  settled_goes_on seen found known cell next (inr none) held =
      let wrong : None ≡ Some next = sym none ∙ held in absurd (cc)

  -- walks go on from what is seen now to what is settled now
  goes_on_now : (before now : ℕ → Bool) (found : ℕ → Option (List ℕ)) (from : ℕ) (path : List ℕ) (to : ℕ)
      → WalksAreKnown holder before found → Walked holder before now from path to
      → (cell next : ℕ) → now cell ≡ true → holder cell ≡ Some next → IsSettled holder now next
  goes_on_now before now found from path to known h cell next seen held =
      elim (or_true (before cell) (has path cell) (sym (h.way.seen cell) ∙ seen)) [
        | inl was ↦ settled_stays before now from path to h.way next (known.goes_on cell next was held)
        | inr here ↦ elim (walk_next holder from path to cell next h.way.walk here held) [
          | inl more ↦ inl (h.way.seen next ∙ grind (arith, more))
          | inr ends ↦ subst (IsSettled holder now) (sym ends) h.ends
        ]
      ]

  -- no cycle begins where there is no holder
  pub none_unheld : (cell : ℕ) → holder cell ≡ None → CycleAt holder cell None
  none_unheld cell none others cycle =
      let wrong : None ≡ Some cycle.closed.next = sym none ∙ cycle.closed.held in absurd (cc)

  -- a settled cell's cycle is found
  pub settled_told : (seen : ℕ → Bool) (found : ℕ → Option (List ℕ)) → WalksAreKnown holder seen found
      → (cell : ℕ) → IsSettled holder seen cell → CycleAt holder cell (found cell)
  settled_told seen found known cell (inl was) = known.told cell was
  settled_told seen found known cell (inr none) =
      elim (bool_cases (seen cell)) [
        | inl was ↦ known.told cell was
        | inr not ↦ subst (CycleAt holder cell) (sym (known.untold cell not)) (none_unheld cell none)
      ]

  -- a walk that ends outside itself has no cycle
  pub known_without : (before now : ℕ → Bool) (found : ℕ → Option (List ℕ)) (from : ℕ) (path : List ℕ) (to : ℕ)
      → WalksAreKnown holder before found → Walked holder before now from path to → has path to ≡ false
      → WalksAreKnown holder now found
  known_without before now found from path to known h outside = record {
    goes_on = goes_on_now before now found from path to known h;
    told = λ cell seen. elim (or_true (before cell) (has path cell) (sym (h.way.seen cell) ∙ seen)) [
      | inl was ↦ known.told cell was
      | inr here ↦ subst (CycleAt holder cell) (sym (known.untold cell (h.way.fresh cell here)))
          (λ others cycle. not_here cell here others cycle)
    ];
    untold = λ cell seen. known.untold cell (or_false (before cell) (has path cell) (sym (h.way.seen cell) ∙ seen)).0;
  }
    where
      ends_there : IsSettled holder before to
      ends_there = elim h.ends [
        | inl seen ↦ inl (grind (arith, h.way.seen to, seen, outside))
        | inr none ↦ inr none
      ]

      not_here : (cell : ℕ) → has path cell ≡ true → (others : List ℕ) → IsCycle holder cell others → ⊥
      not_here cell here others cycle =
          let after = walk_after holder from path to cell h.way.walk here in
          let settled : IsSettled holder before cell = cycle_begins_there holder (IsSettled holder before)
          (settled_goes_on before found known) cell others cycle after.0 to after.1 ends_there in
          elim settled [
            | inl was ↦ absurd (let wrong : true ≡ false = sym was ∙ h.way.fresh cell here in cc)
            | inr none ↦ none_unheld cell none others cycle
          ]

  -- a closed walk over cells of which none stands twice, begun at its lowest, is a cycle
  pub cycle_turned : (to : ℕ) (cells : List ℕ) (first : ℕ) (others : List ℕ) → Walk holder to cells to
      → ((cell : ℕ) → times cells cell ≤ 1) → IsTurned cells (first ∷ others)
      → IsCycle holder first others × ((cell : ℕ) → has (first ∷ others) cell ≡ has cells cell)
      × ((cell : ℕ) → has cells cell ≡ true → first ≤ cell)
  cycle_turned to cells first others closed apart h =
      let front : List ℕ = take h.at cells in
      let back : List ℕ = drop h.at cells in
      let whole : front ++ back ≡ cells = take-append-drop h.at cells in
      let cut = walk_cut holder to front back to (subst (λ w. Walk holder to w to) (sym whole) closed) in
      let around : Walk holder cut.0 (first ∷ others) cut.0 =
      subst (λ w. Walk holder cut.0 w cut.0) (sym h.is) (walk_joined holder cut.0 back to front cut.0 cut.2 cut.1) in
      let same : (cell : ℕ) → has (first ∷ others) cell ≡ has cells cell =
      λ cell. ap (λ (w : List ℕ). has w cell) h.is
      ∙ (has_turned back front cell ∙ ap (λ (w : List ℕ). has w cell) whole) in
      let once : (cell : ℕ) → times (first ∷ others) cell ≤ 1 =
      λ cell. let one = ap (λ (w : List ℕ). times w cell) h.is in
      let two = ap (λ (w : List ℕ). times w cell) whole in
      omega (arith, one, two, count_both back front cell, count_both front back cell, apart cell) in
      let begins = drop_begins cells h.at h.within in
      let lowest_is : first ≡ slice_index cells h.at =
      let e : first ∷ others ≡ slice_index cells h.at ∷ (begins.0 ++ front) =
      h.is ∙ ap (λ (w : List ℕ). w ++ front) begins.1 in cc in
      let least : (cell : ℕ) → has cells cell ≡ true → first ≤ cell =
      λ cell among. rw lowest_is (h.lowest cell among) in (
        record {
          closed = subst (λ w. Walk holder w (first ∷ others) w) (sym around.is) around;
          lowest = λ cell among.
              let at_least : first ≤ cell = least cell (sym (same cell) ∙ has_later first others cell among) in
              let other : first ≢ cell = λ e. let twice = times_later first others (ap (has others) e ∙ among) in
              omega (arith, twice, once first) in
              omega (arith, at_least, other);
        },
        same,
        least,
      )

  -- a walk that ends within itself has the cycle from there on, and no other
  pub known_with : (before now : ℕ → Bool) (found new : ℕ → Option (List ℕ)) (from : ℕ) (path : List ℕ) (to place : ℕ)
      (first : ℕ) (others : List ℕ) → WalksAreKnown holder before found → Walked holder before now from path to
      → place < length path → slice_index path place ≡ to → IsTurned (drop place path) (first ∷ others)
      → ((cell : ℕ) → new cell ≡ (if first == cell then Some (first ∷ others) else found cell))
      → WalksAreKnown holder now new
  known_with before now found new from path to place first others known h within at turned put = record {
    goes_on = goes_on_now before now found from path to known h;
    told = λ cell seen. elim (num_cases first cell) [
      | inl same ↦ subst (λ w. CycleAt holder w (new w)) same
          (subst (CycleAt holder first) (sym (put first ∙ if_same first (Some (first ∷ others)) (found first)))
          (others, refl, cycle.0))
      | inr other ↦ subst (CycleAt holder cell)
          (sym (put cell ∙ if_other first cell (Some (first ∷ others)) (found cell) other))
          (elim (or_true (before cell) (has path cell) (sym (h.way.seen cell) ∙ seen)) [
            | inl was ↦ known.told cell was
            | inr here ↦ subst (CycleAt holder cell) (sym (known.untold cell (h.way.fresh cell here)))
                (λ beside its. other (only cell here beside its))
          ])
    ];
    untold = λ cell seen.
        let apart = or_false (before cell) (has path cell) (sym (h.way.seen cell) ∙ seen) in
        let other : first ≢ cell = λ e. let wrong : true ≡ false =
        sym (drop_has path place first among_first) ∙ (ap (has path) e ∙ apart.1) in cc in
        put cell ∙ (if_other first cell (Some (first ∷ others)) (found cell) other ∙ known.untold cell apart.0);
  }
    where
      cells : List ℕ
      cells = drop place path

      closed : Walk holder to (drop place path) to
      closed = subst (λ w. Walk holder w (drop place path) to) at
          (walk_from holder from path to place within h.way.walk)

      cycle : IsCycle holder first others × ((cell : ℕ) → has (first ∷ others) cell ≡ has (drop place path) cell)
          × ((cell : ℕ) → has (drop place path) cell ≡ true → first ≤ cell)
      cycle = cycle_turned to (drop place path) first others closed
          (λ cell. omega (arith, drop_times path place cell, h.way.apart cell)) turned

      among_first : has (drop place path) first ≡ true
      among_first = sym (cycle.1 first) ∙ has_first first others

      among_to : has (drop place path) to ≡ true
      among_to = let begins = drop_begins path place within in
          ap (λ (w : List ℕ). has w to) begins.1
          ∙ (ap (λ (w : ℕ). has (w ∷ begins.0) to) at ∙ has_first to begins.0)

      only : (cell : ℕ) → has path cell ≡ true → (beside : List ℕ) → IsCycle holder cell beside → first ≡ cell
      only cell here beside its =
          let after = walk_after holder from path to cell h.way.walk here in
          let inside : has (drop place path) cell ≡ true =
          cycle_begins_there holder (λ w. has (drop place path) w ≡ true)
          (closed_stays holder to (drop place path) closed among_to) cell beside its after.0 to after.1 among_to in
          let low : first ≤ cell = cycle.2 cell inside in
          let round : has (cell ∷ beside) first ≡ true =
          (walk_stays holder (λ w. has (cell ∷ beside) w ≡ true)
          (closed_stays holder cell (cell ∷ beside) its.closed (has_first cell beside))
          to (drop place path) to closed (cycle_reached holder cell beside its after.0 to after.1)).0 first
          among_first in
          elim (is_first_or_later cell beside first round) [
            | inl same ↦ sym same
            | inr later ↦ let high = its.lowest first later in absurd (omega (arith, low, high))
          ]

  -- nothing is seen yet
  pub known_nothing : (seen : ℕ → Bool) (found : ℕ → Option (List ℕ)) → ((cell : ℕ) → seen cell ≡ false)
      → ((cell : ℕ) → found cell ≡ None) → WalksAreKnown holder seen found
  known_nothing seen found unseen_all none = record {
    goes_on = λ cell next was held. let wrong : true ≡ false = sym was ∙ unseen_all cell in absurd (cc);
    told = λ cell was. let wrong : true ≡ false = sym was ∙ unseen_all cell in absurd (cc);
    untold = λ cell not. none cell;
  }

  -- the first cell of a walk is settled after it
  pub start_settled : (before now : ℕ → Bool) (from : ℕ) (path : List ℕ) (to : ℕ)
      → Walked holder before now from path to → IsSettled holder now from
  start_settled before now from [] to h = subst (IsSettled holder now) (sym h.way.walk) h.ends
  start_settled before now from (first ∷ path) to h =
      inl (subst (λ w. now w ≡ true) h.way.walk.is
      (h.way.seen first ∙ (ap (λ (b : Bool). before first || b) (has_first first path) ∙ or_end (before first))))

  -- one walk more, and what is kept of it
  pub known_kept : (before now : ℕ → Bool) (found new : ℕ → Option (List ℕ)) (from : ℕ) (path : List ℕ) (to : ℕ)
      → WalksAreKnown holder before found → Walked holder before now from path to → IsKept path to found new
      → WalksAreKnown holder now new
  known_kept before now found new from path to known h (inl outside) =
      let same = known_without before now found from path to known h outside.0 in
      record {
        goes_on = same.goes_on;
        told = λ cell seen. subst (CycleAt holder cell) (sym (outside.1 cell)) (same.told cell seen);
        untold = λ cell not. outside.1 cell ∙ same.untold cell not;
      }
  known_kept before now found new from path to known h (inr within) =
      known_with before now found new from path to within.place within.first within.others known h
      within.within within.at within.turned within.put

  -- the cells that were settled so far, and one more
  pub settled_more : (before now : ℕ → Bool) (from : ℕ) (path : List ℕ) (to : ℕ) (remains : List Remain) (i : ℕ)
      → Walked holder before now from path to → ((d : Remain) → (get_or remains i d).cell ≡ from)
      → ((k : ℕ) (d : Remain) → k < i → IsSettled holder before (get_or remains k d).cell)
      → (k : ℕ) (d : Remain) → k < i + 1 → IsSettled holder now (get_or remains k d).cell
  settled_more before now from path to remains i h here so_far k d within = elim (num_cases k i) [
    | inl same ↦ subst (λ w. IsSettled holder now (get_or remains w d).cell) (sym same)
        (subst (IsSettled holder now) (sym (here d)) (start_settled before now from path to h))
    | inr other ↦ settled_stays before now from path to h.way _ (so_far k d (omega (arith, other)))
  ]

-- a remain that is seen now and wasn't makes the unseen fewer
pub fewer_or_same : (seen now : ℕ → Bool) (remains : List Remain) → ((cell : ℕ) → seen cell ≡ true → now cell ≡ true)
    → unseen now remains ≤ unseen seen remains
fewer_or_same seen now [] more = omega arith
fewer_or_same seen now (remain ∷ remains) more =
    grind (arith, fewer_or_same seen now remains more, more remain.cell)

pub fewer : (seen now : ℕ → Bool) (remains : List Remain) (cell next : ℕ)
    → ((other : ℕ) → now other ≡ (if cell == other then true else seen other)) → seen cell ≡ false
    → holder_in remains cell ≡ Some next → unseen now remains < unseen seen remains
fewer seen now [] cell next put not held = absurd (cc)
fewer seen now (remain ∷ remains) cell next put not held = elim (num_cases remain.cell cell) [
  | inl same ↦ grind (
    arith,
    put remain.cell,
    same,
    not,
    fewer_or_same seen now remains (λ other was. grind (arith, put other, was)),
  )
  | inr other ↦ grind (
    arith,
    put remain.cell,
    other,
    fewer seen now remains cell next put not (grind (arith, held, other)),
  )
]

-- the cells from a place on that is as low as any, and then those before it
pub turned_is : (cells turned : List ℕ) (lowest : ℕ) → lowest < length cells
    → ((k : ℕ) → k < length cells → slice_index cells lowest ≤ slice_index cells k)
    → turned ≡ drop lowest cells ++ take lowest cells → IsTurned cells turned
turned_is cells turned lowest within least is = record {
  at = lowest;
  within = within;
  is = is;
  lowest = λ cell among. let there = stands_at cells cell among in
      let low = least there.0 there.1 in omega (arith, low, there.2);
}

none_before : (cells : List ℕ) (to i : ℕ) → position_from (λ cell. cell == to) i cells ≡ None → has cells to ≡ false
none_before [] to i h = refl
none_before (cell ∷ cells) to i h = grind (arith, none_before cells to (i + 1))

-- a cell that is found nowhere isn't among the cells
pub found_nowhere : (cells : List ℕ) (to : ℕ) → position (λ cell. cell == to) cells ≡ None → has cells to ≡ false
found_nowhere cells to h = none_before cells to 0 (sym (position_from-zero (λ (w : ℕ). w == to) cells) ∙ h)

-- what is kept of a walk whose end is found within it
pub kept_from : (path : List ℕ) (to : ℕ) (found new : ℕ → Option (List ℕ)) (place first : ℕ) (cycle : List ℕ)
    → position (λ cell. cell == to) path ≡ Some place → IsTurned (drop place path) cycle
    → first ≡ get_or cycle 0 first
    → ((cell : ℕ) → new cell ≡ (if first == cell then Some cycle else found cell)) → IsKept path to found new
kept_from path to found new place first cycle at turned is put =
    let told = position-Some (λ (w : ℕ). w == to) path place 0 at in
    let begins = drop_begins (drop place path) turned.at turned.within in
    let others : List ℕ = begins.0 ++ take turned.at (drop place path) in
    let whole : cycle ≡ slice_index (drop place path) turned.at ∷ others =
    turned.is ∙ ap (λ (w : List ℕ). w ++ take turned.at (drop place path)) begins.1 in
    let one : first ≡ slice_index (drop place path) turned.at = is ∙ ap (λ (w : List ℕ). get_or w 0 first) whole in
    let all : cycle ≡ first ∷ others = whole ∙ ap (λ (w : ℕ). w ∷ others) (sym one) in
    inr (record {
      place = place;
      within = told.0;
      at = eqb-true (slice_index path place) to told.1;
      first = first;
      others = others;
      turned = subst (IsTurned (drop place path)) all turned;
      put = λ cell. put cell ∙ ap (λ (w : List ℕ). if first == cell then Some w else found cell) all;
    })

-- one remain more among those whose cycles are listed
pub cycles_more : (holder : ℕ → Option ℕ) (remains : List Remain) (i : ℕ) (d : Remain) (cycle : Option (List ℕ))
    (rest : List (List ℕ)) → i < length remains → CycleAt holder (get_or remains i d).cell cycle
    → CyclesAt holder (drop (i + 1) remains) rest → CyclesAt holder (drop i remains) (in_front cycle rest)
cycles_more holder remains i d cycle rest within here more =
    subst (λ w. CyclesAt holder w (in_front cycle rest)) (sym (drop-cons remains i d within))
    (cycle, rest, refl, here, subst (λ w. CyclesAt holder (drop w remains) rest) (add-one i) more)

front_first : (cycle : Option (List ℕ)) (rest : List (List ℕ)) → in_front cycle [] ++ rest ≡ in_front cycle rest
front_first None rest = refl
front_first (Some first) rest = refl

-- the same, once it is put behind those that stand
pub listed_more : (holder : ℕ → Option ℕ) (remains : List Remain) (i : ℕ) (d : Remain) (cycle : Option (List ℕ))
    (items new : List (List ℕ)) → i < length remains → CycleAt holder (get_or remains i d).cell cycle
    → new ≡ items ++ in_front cycle []
    → ((rest : List (List ℕ)) → CyclesAt holder (drop i remains) rest → CyclesAt holder remains (items ++ rest))
    → (rest : List (List ℕ)) → CyclesAt holder (drop (i + 1) remains) rest → CyclesAt holder remains (new ++ rest)
listed_more holder remains i d cycle items new within here put so_far rest more =
    subst (CyclesAt holder remains)
    (sym (ap (λ (w : List (List ℕ)). w ++ rest) put ∙ (append_assoc items (in_front cycle []) rest
    ∙ ap (λ (w : List (List ℕ)). items ++ w) (front_first cycle rest))))
    (so_far (in_front cycle rest) (cycles_more holder remains i d cycle rest within here more))

-- within a list the default isn't read
pub get_or_within : {X : Type 0} (xs : List X) (i : ℕ) (d e : X) → i < length xs → get_or xs i d ≡ get_or xs i e
get_or_within [] i d e within = absurd (omega arith)
get_or_within (x ∷ xs) zero d e within = refl
get_or_within (x ∷ xs) (suc i) d e within = get_or_within xs i d e (omega arith)

-- what a slice's range to its end is
pub tail_range : (cells : List ℕ) (k : ℕ) → take (length cells - k) (drop k cells) ≡ drop k cells
tail_range cells k = take_all (length cells - k) (drop k cells) (omega (arith, length-drop k cells))
