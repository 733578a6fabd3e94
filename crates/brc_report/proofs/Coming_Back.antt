-- A walk that can't leave the remains comes back to itself.
use Rattle.std.proofs.Common.{◌≡◌, ◌<◌, ◌≤◌, ◌++◌, ◌==◌, nat_lt, if◌then◌else◌, inl, inr, ℕ, zero, suc, List, [], ◌∷◌}
use Rattle.std.proofs.Common.{Bool, true, false, Option, Some, None, refl, sym, ◌∙◌, ap, subst, arith, length, take}
use Rattle.std.proofs.Common.{drop, slice_index}
use Rattle.std.proofs.lemmas.Bool.{cases_Bool, cases_lt, eqb-true, eq-eqb, le-ltb, ltb-true, and_parts, true≢false}
use Rattle.std.specs.Option.{option_map}
use Rattle.brc_words.specs.declared.limits.TheConstants.{FIRST_MORTAL, GLOBALS}
use Rattle.brc_report.specs.declared.content.Content.{Content}
use Rattle.brc_report.specs.declared.content.Remain.{Remain}
use Rattle.brc_report.specs.Holding.{has, joined, holder_of, remains_among}
use Rattle.brc_report.specs.Cycles.{Walk, IsCycle, holder_in}
use Rattle.brc_report.specs.Reports.{rises, IsReport}
use Rattle.brc_report.specs.Walking.{unseen, Walking, IsTurned}
use Rattle.brc_report.proofs.Membership.{is_first_or_later, has_first, has_both, stands_at, drop_begins, drop_times}
use Rattle.brc_report.proofs.Searching.{walk_begins, walk_goes_on, cycle_turned, fewer}
use Rattle.brc_report.proofs.Unique.{cycle_listed}
use Rattle.brc_report.proofs.Walks.{walk_joined, walk_from}
use Rattle.brc_report.specs.Running.{entries_of_first, RunsInto, IsHolder}

-- the lowest of some cells, and where it stands
record Lowest (cells : List ℕ) : Type 0 where
  pub at : ℕ
  pub within : at < length cells
  pub least : (cell : ℕ) → has cells cell ≡ true → slice_index cells at ≤ cell

lowest_of : (first : ℕ) (cells : List ℕ) → Lowest (first ∷ cells)
lowest_of first [] = record {
  at = 0;
  within = omega arith;
  least = λ cell among. elim (is_first_or_later first [] cell among) [
    | inl same ↦ omega (arith, same)
    | inr later ↦ absurd (cc)
  ];
}
lowest_of first (second ∷ cells) =
    let rest = lowest_of second cells in
    elim (cases_lt (slice_index (second ∷ cells) rest.at) first) [
      | inl lower ↦ record {
        at = suc rest.at;
        within = omega (arith, rest.within);
        least = λ cell among. elim (is_first_or_later first (second ∷ cells) cell among) [
          | inl same ↦ omega (arith, same, lower)
          | inr later ↦ rest.least cell later
        ];
      }
      | inr higher ↦ record {
        at = 0;
        within = omega arith;
        least = λ cell among. elim (is_first_or_later first (second ∷ cells) cell among) [
          | inl same ↦ omega (arith, same)
          | inr later ↦ omega (arith, higher, rest.least cell later)
        ];
      }
    ]

-- so they can be turned to begin with it
record Turns (cells : List ℕ) : Type 0 where
  pub first : ℕ
  pub others : List ℕ
  pub turned : IsTurned cells (first ∷ others)

turns : (cells : List ℕ) → 0 < length cells → Turns cells
turns [] some = absurd (omega (arith, some))
turns (first ∷ cells) some =
    let low = lowest_of first cells in
    let begins = drop_begins (first ∷ cells) low.at low.within in
    record {
      first = slice_index (first ∷ cells) low.at;
      others = begins.0 ++ take low.at (first ∷ cells);
      turned = record {
        at = low.at;
        within = low.within;
        is = ap (λ (w : List ℕ). w ++ take low.at (first ∷ cells)) (sym begins.1);
        lowest = low.least;
      };
    }

length_drop_some : (cells : List ℕ) (place : ℕ) → place < length cells → 0 < length (drop place cells)
length_drop_some cells place within = let begins = drop_begins cells place within in
    subst (λ (w : List ℕ). 0 < length w) (sym begins.1) (omega arith)

-- a walk comes to each of its cells
walk_to : (holder : ℕ → Option ℕ) (from : ℕ) (path : List ℕ) (to cell : ℕ) → Walk holder from path to
    → has path cell ≡ true
    → (front : List ℕ) × Walk holder from front cell
walk_to holder from [] to cell h among = absurd (cc)
walk_to holder from (first ∷ path) to cell h among = elim (is_first_or_later first path cell among) [
  | inl same ↦ ([], sym h.is ∙ same)
  | inr later ↦ let rest = walk_to holder h.next path to cell h.rest later in
      (first ∷ rest.0, record { is = h.is; next = h.next; held = h.held; rest = rest.1 })
]

-- a walk from the cell comes to the first cell of a cycle
record Comes (holder : ℕ → Option ℕ) (from : ℕ) : Type 0 where
  pub first : ℕ
  pub others : List ℕ
  pub path : List ℕ
  pub walk : Walk holder from path first
  pub cycle : IsCycle holder first others

module _ (remains : List Remain) where
  abbrev holder : ℕ → Option ℕ
  holder = holder_in remains

  -- a walk that ended within itself
  comes_back : (from : ℕ) (path : List ℕ) (to : ℕ) → Walking holder (λ cell. false) (has path) from path to
      → has path to ≡ true → Comes holder from
  comes_back from path to way among =
      let there = stands_at path to among in
      let place = there.0 in
      let cells : List ℕ = drop place path in
      let closed : Walk holder to cells to = subst (λ w. Walk holder w cells to) there.2
      (walk_from holder from path to place there.1 way.walk) in
      let turn = turns cells (length_drop_some path place there.1) in
      let cycle = cycle_turned holder to cells turn.first turn.others closed
      (λ cell. omega (arith, drop_times path place cell, way.apart cell)) turn.turned in
      let on = walk_to holder to cells to turn.first closed (sym (cycle.1 turn.first)
      ∙ has_first turn.first turn.others) in
      record {
        first = turn.first;
        others = turn.others;
        path = path ++ on.0;
        walk = walk_joined holder from path to on.0 turn.first way.walk on.1;
        cycle = cycle.0;
      }

  more_has : (path : List ℕ) (to cell : ℕ) → has (path ++ to ∷ []) cell ≡ (if to == cell then true else has path cell)
  more_has path to cell = grind (arith, has_both path (to ∷ []) cell)

  -- each step of a walk that hasn't come back sees a remain more
  search_on : ((cell next : ℕ) → holder cell ≡ Some next → (again : ℕ) × (holder next ≡ Some again))
      → (fuel from : ℕ) (path : List ℕ) (to next : ℕ) → Walking holder (λ cell. false) (has path) from path to
      → holder to ≡ Some next
      → unseen (has path) remains ≤ fuel → Comes holder from
  search_on closed zero from path to next way held few = elim (cases_Bool (has path to)) [
    | inl among ↦ comes_back from path to way among
    | inr fresh ↦ absurd (omega (
      arith,
      few,
      fewer (has path) (has (path ++ to ∷ [])) remains to next
          (more_has path to) fresh held,
    ))
  ]
  search_on closed (suc fuel) from path to next way held few = elim (cases_Bool (has path to)) [
    | inl among ↦ comes_back from path to way among
    | inr fresh ↦
        let again = closed to next held in
        search_on closed fuel from (path ++ to ∷ []) next again.0
        (walk_goes_on holder (λ cell. false) (has path) (has (path ++ to ∷ [])) from path to next way fresh held
        (more_has path to))
        again.1 (omega (
          arith,
          few,
          fewer (has path) (has (path ++ to ∷ [])) remains to next
              (more_has path to) fresh held,
        ))
  ]

  comes : ((cell next : ℕ) → holder cell ≡ Some next → (again : ℕ) × (holder next ≡ Some again))
      → (from next : ℕ) → holder from ≡ Some next → Comes holder from
  comes closed from next held =
      search_on closed (unseen (has []) remains) from [] from next
      (walk_begins holder (λ cell. false) (has []) from (λ cell. refl)) held (omega arith)

-- ---- the holders of remains are remains

if_same : {X : Type 0} (b : Bool) (x y z : X) → b ≡ true → (if b then x else y) ≡ z → x ≡ z
if_same true x y z is e = e
if_same false x y z is e = absurd (true≢false (sym is))

if_other : {X : Type 0} (b : Bool) (x y z : X) → b ≡ false → (if b then x else y) ≡ z → y ≡ z
if_other true x y z is e = absurd (true≢false is)
if_other false x y z is e = e

some_same : {X : Type 0} {x y : X} → Some x ≡ Some y → x ≡ y
some_same e = cc

-- the parts of remains of which there is one at least
record Joins (one : Option Remain) (rest : Option (List Remain)) (remains : List Remain) : Type 0 where
  pub first : Remain
  pub others : List Remain
  pub is_first : one ≡ Some first
  pub is_rest : rest ≡ Some others
  pub is : remains ≡ first ∷ others

joins : (one : Option Remain) (rest : Option (List Remain)) (remains : List Remain) → joined one rest ≡ Some remains
    → Joins one rest remains
joins None rest remains is = cc
joins (Some first) None remains is = cc
joins (Some first) (Some others) remains is = record {
  first = first;
  others = others;
  is_first = refl;
  is_rest = refl;
  is = sym (some_same is);
}

module _ {A : Type 0} where
  record Held (contents : List (Content A)) (content : Content A) (remain : Remain) : Type 0 where
    pub cell : remain.cell ≡ content.cell
    pub holder : holder_of contents content.cell ≡ Some remain.held_by

  held : (contents : List (Content A)) (content : Content A) (remain : Remain) (o : Option ℕ)
      → holder_of contents content.cell ≡ o
      → option_map (λ holder. record { cell = content.cell; kind = content.kind; held_by = holder }) o ≡ Some remain
      → Held contents content remain
  held contents content remain None found is = cc
  held contents content remain (Some holder) found is =
      let same : record { cell = content.cell; kind = content.kind; held_by = holder } ≡ remain = some_same is in
      record {
        cell = ap (λ (r : Remain). r.cell) (sym same);
        holder = found
            ∙ ap (λ (r : Remain). Some r.held_by) same;
      }

  -- a remain's holder is that of its cell's contents
  holder_is : (contents rest : List (Content A)) (remains : List Remain) (cell next : ℕ)
      → remains_among contents rest ≡ Some remains
      → holder_in remains cell ≡ Some next → holder_of contents cell ≡ Some next
  holder_is contents [] remains cell next is found =
      let none : remains ≡ [] = sym (some_same is) in
      let bad : None ≡ Some next = sym (ap (λ (w : List Remain). holder_in w cell) none) ∙ found in cc
  holder_is contents (content ∷ rest) remains cell next is found =
      elim (cases_Bool (nat_lt content.cell FIRST_MORTAL)) [
        | inl low ↦ holder_is contents rest remains cell next (if_same _ _ _ _ low is) found
        | inr mortal ↦
            let parts = joins _ _ remains (if_other _ _ _ _ mortal is) in
            let own = held contents content parts.first (holder_of contents content.cell) refl parts.is_first in
            let at : holder_in (parts.first ∷ parts.others) cell ≡ Some next =
            ap (λ (w : List Remain). holder_in w cell)
            (sym parts.is) ∙ found in
            elim (cases_Bool (parts.first.cell == cell)) [
              | inl here ↦
                  let same : content.cell ≡ cell = sym own.cell ∙ eqb-true parts.first.cell cell here in
                  ap (holder_of contents) (sym same) ∙ own.holder ∙ if_same _ _ _ _ here at
              | inr other ↦ holder_is contents rest parts.others cell next parts.is_rest (if_other _ _ _ _ other at)
            ]
      ]

  -- who holds stands among the contents, and holds something
  record Stands (contents : List (Content A)) (cell : ℕ) : Type 0 where
    pub before : List (Content A)
    pub content : Content A
    pub behind : List (Content A)
    pub is : contents ≡ before ++ content ∷ behind
    pub here : content.cell ≡ cell

  holder_stands : (contents : List (Content A)) (cell next : ℕ) → holder_of contents cell ≡ Some next
      → Stands contents next
  holder_stands [] cell next found = cc
  holder_stands (content ∷ contents) cell next found = elim (cases_Bool (has content.entries cell)) [
    | inl here ↦ record {
      before = [];
      content = content;
      behind = contents;
      is = refl;
      here = some_same (if_same _ _ _ _ here found);
    }
    | inr other ↦
        let later = holder_stands contents cell next (if_other _ _ _ _ other found) in
        record {
          before = content ∷ later.before;
          content = later.content;
          behind = later.behind;
          is = ap (λ w. content ∷ w) later.is;
          here = later.here;
        }
  ]

  -- each mortal cell among the contents is a remain
  remain_there : (contents before : List (Content A)) (content : Content A) (behind : List (Content A))
      (remains : List Remain)
      → remains_among contents (before ++ content ∷ behind) ≡ Some remains → nat_lt content.cell FIRST_MORTAL ≡ false
      → (holder : ℕ) × (holder_in remains content.cell ≡ Some holder)
  remain_there contents [] content behind remains is mortal =
      let parts = joins _ _ remains (if_other _ _ _ _ mortal is) in
      let own = held contents content parts.first (holder_of contents content.cell) refl parts.is_first in (
        parts.first.held_by,
        ap (λ (w : List Remain). holder_in w content.cell) parts.is
            ∙ ap (λ b. if b then Some parts.first.held_by else holder_in parts.others content.cell)
            (eq-eqb parts.first.cell content.cell own.cell),
      )
  remain_there contents (first ∷ before) content behind remains is mortal =
      elim (cases_Bool (nat_lt first.cell FIRST_MORTAL)) [
        | inl low ↦ remain_there contents before content behind remains (if_same _ _ _ _ low is) mortal
        | inr high ↦
            let parts = joins _ _ remains (if_other _ _ _ _ high is) in
            let later = remain_there contents before content behind parts.others parts.is_rest mortal in
            elim (cases_Bool (parts.first.cell == content.cell)) [
              | inl here ↦ (
                parts.first.held_by,
                ap (λ (w : List Remain). holder_in w content.cell) parts.is
                    ∙ ap (λ b. if b then Some parts.first.held_by else holder_in parts.others content.cell) here,
              )
              | inr other ↦ (
                later.0,
                ap (λ (w : List Remain). holder_in w content.cell) parts.is
                    ∙ ap (λ b. if b then Some parts.first.held_by else holder_in parts.others content.cell) other
                    ∙ later.1,
              )
            ]
      ]

  -- behind the globals all are mortal
  all_above : (last : ℕ) (before : List (Content A)) (content : Content A) (behind : List (Content A))
      → rises last (before ++ content ∷ behind) ≡ true
      → last < content.cell
  all_above last [] content behind up = ltb-true last content.cell (and_parts _ _ up).0
  all_above last (first ∷ before) content behind up =
      let parts : (nat_lt last first.cell ≡ true) × (rises first.cell (before ++ content ∷ behind) ≡ true) =
      and_parts _ _ up in
      omega (arith, ltb-true last first.cell parts.0, all_above first.cell before content behind parts.1)

  -- who stands behind the globals is a remain
  behind_globals : (first : Content A) (contents : List (Content A)) (remains : List Remain) (cycles : List (List ℕ))
      (next : ℕ)
      → IsReport remains cycles (first ∷ contents) → Stands contents next
      → (again : ℕ) × (holder_in remains next ≡ Some again)
  behind_globals first contents remains cycles next report at =
      let rise = and_parts _ _ report.contents_rise in
      let globals : first.cell ≡ GLOBALS = eqb-true first.cell GLOBALS rise.1 in
      let high : first.cell < at.content.cell = all_above first.cell at.before at.content at.behind
      (subst (λ w. rises first.cell w ≡ true) at.is rise.0) in
      let mortal : nat_lt at.content.cell FIRST_MORTAL ≡ false = le-ltb at.content.cell FIRST_MORTAL
      (omega (arith, high, globals)) in
      let there = remain_there (first ∷ contents) (first ∷ at.before) at.content at.behind remains
      (subst (λ w. remains_among (first ∷ contents) (first ∷ w) ≡ Some remains) at.is report.all_remains) mortal in
      (there.0, ap (holder_in remains) (sym at.here) ∙ there.1)

  -- so the globals hold a remain, or a remain does
  pub held_well : (contents : List (Content A)) (remains : List Remain) (cycles : List (List ℕ)) (cell next : ℕ)
      → IsReport remains cycles contents
      → holder_in remains cell ≡ Some next → IsHolder remains next
  held_well [] remains cycles cell next report found = absurd (true≢false (sym report.contents_rise))
  held_well (first ∷ contents) remains cycles cell next report found =
      let rise = and_parts _ _ report.contents_rise in
      let globals : first.cell ≡ GLOBALS = eqb-true first.cell GLOBALS rise.1 in
      let holder : holder_of (first ∷ contents) cell ≡ Some next = holder_is (first ∷ contents)
      (first ∷ contents) remains cell next report.all_remains found in
      elim (cases_Bool (has first.entries cell)) [
        | inl here ↦ inl (sym (some_same (if_same _ _ _ _ here holder)) ∙ globals)
        | inr other ↦ inr (behind_globals first contents remains cycles next report
            (holder_stands contents cell next (if_other _ _ _ _ other holder)))
      ]

  -- where these hold nothing, a remain
  held_by_remains : (contents : List (Content A)) (remains : List Remain) (cycles : List (List ℕ))
      → IsReport remains cycles contents
      → entries_of_first contents ≡ [] → (cell next : ℕ) → holder_in remains cell ≡ Some next
      → (again : ℕ) × (holder_in remains next ≡ Some again)
  held_by_remains [] remains cycles report bare cell next found = absurd (true≢false (sym report.contents_rise))
  held_by_remains (first ∷ contents) remains cycles report bare cell next found =
      let holder : holder_of (first ∷ contents) cell ≡ Some next = holder_is (first ∷ contents)
      (first ∷ contents) remains cell next report.all_remains found in
      let later : holder_of contents cell ≡ Some next =
      if_other _ _ _ _ (ap (λ (w : List ℕ). has w cell) bare) holder in
      behind_globals first contents remains cycles next report (holder_stands contents cell next later)

  pub runs_into : (contents : List (Content A)) (remains : List Remain) (cycles : List (List ℕ)) (from next : ℕ)
      → IsReport remains cycles contents
      → entries_of_first contents ≡ [] → holder_in remains from ≡ Some next → RunsInto remains cycles from
  runs_into contents remains cycles from next report bare found =
      let come = comes remains (held_by_remains contents remains cycles report bare) from next found in
      let listed = cycle_listed (holder_in remains) remains cycles come.first come.cycle.closed.next come.others
      report.all_cycles come.cycle.closed.held come.cycle in
      record {
        first = come.first;
        others = come.others;
        path = come.path;
        walk = come.walk;
        before = listed.0;
        behind = listed.1;
        listed = listed.2;
      }
