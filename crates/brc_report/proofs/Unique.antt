-- There is one list of cycles.
use Rattle.std.proofs.Common.{◌++◌, ◌≤◌, inl, inr, length, ◌≡◌, ◌<◌, ℕ, List, [], ◌∷◌, Bool, true, false, ◌==◌, Option}
use Rattle.std.proofs.Common.{Some, None, ◌&&◌, rules, refl, sym, ◌∙◌, ap, subst, arith}
use denote.Enum.Bare.{sameb, same_true, true_same}
use Rattle.std.specs.Bool.{Decides}
use Rattle.std.proofs.lemmas.Bool.{eqb-true, eq-eqb}
use Rattle.brc_words.specs.declared.kind.Kind.{Kind}
use Rattle.brc_words.specs.contracts.kind.Kind.{the_type}
use Rattle.brc_report.specs.declared.content.Remain.{Remain}
use Rattle.brc_report.specs.Holding.{has}
use Rattle.brc_report.specs.Cycles.{Walk, IsCycle, CycleAt, CyclesAt, in_front, holder_in}
use Rattle.brc_report.specs.Walking.{times}
use Rattle.brc_report.proofs.Membership.{has_first, has_later, uncounted}
use Rattle.brc_report.proofs.Walks.{walk_rest}
use Rattle.std.proofs.lemmas.Bool.{cases_Bool}

and_both : (a b : Bool) → (a && b) ≡ true → (a ≡ true) × (b ≡ true)
and_both true b h = (refl, h)
and_both false b h = absurd (cc)

one_remain : (one other : Remain) → one.cell ≡ other.cell → one.kind ≡ other.kind → one.held_by ≡ other.held_by
    → one ≡ other
one_remain one other cell kind held_by =
    ap (λ (w : ℕ). let r : Remain = record { cell = w; kind = one.kind; held_by = one.held_by } in r) cell
    ∙ (ap (λ (w : Kind). let r : Remain = record { cell = other.cell; kind = w; held_by = one.held_by } in r) kind
    ∙ ap (λ (w : ℕ). let r : Remain = record { cell = other.cell; kind = other.kind; held_by = w } in r) held_by)

-- the test of two remains says whether they are one
pub remain_decides : (one other : Remain)
    → Decides ((one.cell == other.cell) && (sameb the_type one.kind other.kind && (one.held_by == other.held_by)))
    (one ≡ other)
remain_decides one other = (
  λ same.
      let first = and_both (one.cell == other.cell) _ same in
      let second = and_both (sameb the_type one.kind other.kind) _ first.1 in
      let cell : one.cell ≡ other.cell = eqb-true one.cell other.cell first.0 in
      let kind : one.kind ≡ other.kind = same_true the_type (search rules) one.kind other.kind second.0 in
      let held_by : one.held_by ≡ other.held_by = eqb-true one.held_by other.held_by second.1 in
      one_remain one other cell kind held_by,
  λ e.
      let cell : (one.cell == other.cell) ≡ true = eq-eqb one.cell other.cell (ap (λ (r : Remain). r.cell) e) in
      let kind : sameb the_type one.kind other.kind ≡ true =
      true_same the_type one.kind other.kind (ap (λ (r : Remain). r.kind) e) in
      let held_by : (one.held_by == other.held_by) ≡ true =
      eq-eqb one.held_by other.held_by (ap (λ (r : Remain). r.held_by) e) in
      rw (cell, kind, held_by) refl,
)

module _ (holder : ℕ → Option ℕ) (first : ℕ) where
  -- two walks to a cell below them are one
  pub walk_unique : (from : ℕ) (one other : List ℕ) → Walk holder from one first → Walk holder from other first
      → ((cell : ℕ) → has one cell ≡ true → first < cell) → ((cell : ℕ) → has other cell ≡ true → first < cell)
      → one ≡ other
  walk_unique from [] [] h k low less = refl
  walk_unique from [] (cell ∷ other) h k low less =
      let below = less cell (has_first cell other) in let is = k.is in absurd (omega (arith, h, is, below))
  walk_unique from (cell ∷ one) [] h k low less =
      let below = low cell (has_first cell one) in let is = h.is in absurd (omega (arith, k, is, below))
  walk_unique from (cell ∷ one) (second ∷ other) h k low less =
      let same : cell ≡ second = h.is ∙ sym k.is in
      let both : Some h.next ≡ Some k.next = sym h.held ∙ k.held in
      let next : h.next ≡ k.next = cc in
      let rest : one ≡ other = walk_unique h.next one other h.rest
      (subst (λ w. Walk holder w other first) (sym next) k.rest)
      (λ w among. low w (has_later cell one w among)) (λ w among. less w (has_later second other w among)) in
      cc

  pub cycle_unique : (one other : List ℕ) → IsCycle holder first one → IsCycle holder first other → one ≡ other
  cycle_unique one other h k =
      let both : Some h.closed.next ≡ Some k.closed.next = sym h.closed.held ∙ k.closed.held in
      let next : h.closed.next ≡ k.closed.next = cc in
      walk_unique h.closed.next one other h.closed.rest
      (subst (λ w. Walk holder w other first) (sym next) k.closed.rest) h.lowest k.lowest

  pub at_unique : (one other : Option (List ℕ)) → CycleAt holder first one → CycleAt holder first other → one ≡ other
  at_unique None None h k = refl
  at_unique None (Some other) h k = absurd (h k.0 k.2)
  at_unique (Some one) None h k = absurd (k h.0 h.2)
  at_unique (Some one) (Some other) h k =
      ap Some (h.1 ∙ (ap (λ (w : List ℕ). first ∷ w) (cycle_unique h.0 k.0 h.2 k.2) ∙ sym k.1))

pub cycles_unique : (holder : ℕ → Option ℕ) (remains : List Remain) (one other : List (List ℕ))
    → CyclesAt holder remains one → CyclesAt holder remains other → one ≡ other
cycles_unique holder [] one other h k = h ∙ sym k
cycles_unique holder (remain ∷ remains) one other h k =
    let cycle : h.0 ≡ k.0 = at_unique holder remain.cell h.0 k.0 h.3 k.3 in
    let rest : h.1 ≡ k.1 = cycles_unique holder remains h.1 k.1 h.4 k.4 in
    h.2 ∙ (ap (λ (w : Option (List ℕ)). in_front w h.1) cycle
    ∙ (ap (λ (w : List (List ℕ)). in_front k.0 w) rest ∙ sym k.2))

once_more : (first : ℕ) (cells : List ℕ) (cell : ℕ) → times cells cell ≤ 1 → (has cells first ≡ true → ⊥)
    → times (first ∷ cells) cell ≤ 1
once_more first cells cell once apart = elim (cases_Bool (has cells first)) [
  | inl among ↦ absurd (apart among)
  | inr none ↦ grind (arith, uncounted cells first none, once)
]

-- no cell stands twice on a walk to a cell below it
once_on_walk : (holder : ℕ → Option ℕ) (first from : ℕ) (path : List ℕ) → Walk holder from path first
    → ((cell : ℕ) → has path cell ≡ true → first < cell) → (cell : ℕ) → times path cell ≤ 1
once_on_walk holder first from [] h low cell = omega arith
once_on_walk holder first from (second ∷ path) h low cell =
    let later : times path cell ≤ 1 =
    once_on_walk holder first h.next path h.rest (λ w among. low w (has_later second path w among)) cell in
    let apart : has path second ≡ true → ⊥ = λ among.
    let rest = walk_rest holder h.next path first second h.rest among in
    let same : second ∷ path ≡ rest.0 = walk_unique holder first second (second ∷ path) rest.0
    (subst (λ w. Walk holder w (second ∷ path) first) (sym h.is) h) rest.1 low
    (λ w k. low w (has_later second path w (rest.3 w k))) in
    let long = ap length same in omega (arith, long, rest.2) in
    once_more second path cell later apart

-- no cell stands twice in a cycle
pub cycle_apart : (holder : ℕ → Option ℕ) (first : ℕ) (others : List ℕ) → IsCycle holder first others
    → (cell : ℕ) → times (first ∷ others) cell ≤ 1
cycle_apart holder first others h cell =
    once_more first others cell (once_on_walk holder first h.closed.next others h.closed.rest h.lowest cell)
    (λ among. let below = h.lowest first among in absurd (omega (arith, below)))

front_before : (cycle : Option (List ℕ)) (front back : List (List ℕ))
    → in_front cycle (front ++ back) ≡ in_front cycle front ++ back
front_before None front back = refl
front_before (Some first) front back = refl

-- a cycle that begins at one of the remains is among those that are listed
pub cycle_listed : (holder : ℕ → Option ℕ) (remains : List Remain) (cycles : List (List ℕ)) (first next : ℕ)
    (others : List ℕ) → CyclesAt holder remains cycles → holder_in remains first ≡ Some next
    → IsCycle holder first others
    → (front : List (List ℕ)) × (back : List (List ℕ)) × (cycles ≡ front ++ (first ∷ others) ∷ back)
cycle_listed holder [] cycles first next others h held cycle = absurd (cc)
cycle_listed holder (remain ∷ remains) cycles first next others h held cycle =
    elim (cases_Bool (remain.cell == first)) [
      | inl same ↦
          let here : CycleAt holder first h.0 =
          subst (λ w. CycleAt holder w h.0) (eqb-true remain.cell first same) h.3 in
          let one : h.0 ≡ Some (first ∷ others) =
          at_unique holder first h.0 (Some (first ∷ others)) here (others, refl, cycle) in
          ([], h.1, h.2 ∙ ap (λ (w : Option (List ℕ)). in_front w h.1) one)
      | inr other ↦
          let later : holder_in remains first ≡ Some next = rw other at held in
          let rest = cycle_listed holder remains h.1 first next others h.4 later cycle in (
            in_front h.0 rest.0,
            rest.1,
            h.2 ∙ (ap (λ (w : List (List ℕ)). in_front h.0 w) rest.2
                ∙ front_before h.0 rest.0 ((first ∷ others) ∷ rest.1)),
          )
    ]
