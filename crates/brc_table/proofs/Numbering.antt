-- The lowest number that nobody has is the next one, and the bits go on with each registration and each gathering.
use Rattle.std.proofs.Common.{◌≡◌, ◌≢◌, ℕ, ◌+◌, ◌-◌, ◌^◌, ◌<◌, ◌≤◌, ◌==◌, nat_lt, ◌&&◌, not, Bool, true, false}
use Rattle.std.proofs.Common.{if◌then◌else◌, List, [], ◌∷◌, ◌++◌, length, get_or, set, zero, suc, refl, sym, ◌∙◌, ap, subst}
use Rattle.std.proofs.Common.{inl, inr, ◌⊎◌, arith}
use Rattle.std.specs.Int.{bit_at}
use Rattle.std.proofs.lemmas.List.{get_or_push, get_or_past, length-set}
use Rattle.std.proofs.lemmas.Bool.{cases_eq, cases_lt, cases_Bool, eq-eqb, ne_eqb, eqb-true, lt-ltb, le-ltb, ltb-true}
use Rattle.std.proofs.lemmas.Bool.{true≢false}
use Rattle.std.specs.Cmp.Derive.{both_true}
use Rattle.std.proofs.lemmas.Nat.Bits.{bit_at_ones, bit_at-lt}
use Rattle.brc_words.specs.declared.limits.TheConstants.{MOST_THREADS}
use Rattle.law.specs.world.Steps.{first_gathered}
use Rattle.law.specs.declared.world.event.Step.TheVariants.{Register, Gather}
use Rattle.law.proofs.world.Changes.{read_here, read_there}
use Rattle.law.proofs.world.Registering.{length-push, push_else}
use Rattle.law.specs.known.Items.{Item, Stepped}
use Rattle.law.specs.known.Root.{marks_of, marks_on, rows_of}
use Rattle.brc_table.specs.Numbers.{in_use, AreFree, IsLowest}

-- ---- the first that is gathered

shift : (b : Bool) (marks : List Bool) (u : ℕ) → in_use (b ∷ marks) (suc u) ≡ in_use marks u
shift b marks u = ap (λ t. t && not (get_or marks u false)) (elim (cases_lt u (length marks)) [
  | inl inside ↦ lt-ltb (suc u) (suc (length marks)) (omega (arith, inside)) ∙ sym (lt-ltb u (length marks) inside)
  | inr past ↦ le-ltb (suc u) (suc (length marks)) (omega (arith, past)) ∙ sym (le-ltb u (length marks) past)
])

-- all before it are in use
before_first : (marks : List Bool) (u : ℕ) → u < first_gathered marks → in_use marks u ≡ true
before_first [] u low = absurd (omega (arith, low))
before_first (true ∷ marks) u low = absurd (omega (arith, low))
before_first (false ∷ marks) zero low = ap (λ t. t && true) (lt-ltb 0 (suc (length marks)) (omega arith))
before_first (false ∷ marks) (suc u) low = shift false marks u ∙ before_first marks u (omega (arith, low))

-- it is not, where it is one that was used; and else it is the next after all
at_first : (marks : List Bool) → in_use marks (first_gathered marks) ≡ false
at_first [] = refl
at_first (true ∷ marks) = ap (λ t. t && false) (lt-ltb 0 (suc (length marks)) (omega arith))
at_first (false ∷ marks) = shift false marks (first_gathered marks) ∙ at_first marks

first_low : (marks : List Bool) → first_gathered marks ≤ length marks
first_low [] = omega arith
first_low (true ∷ marks) = omega arith
first_low (false ∷ marks) = omega (arith, first_low marks)

first_some : (marks : List Bool) → get_or marks 0 false ≡ false → 0 < length marks → 0 < first_gathered marks
first_some [] is positive = absurd (omega (arith, positive))
first_some (true ∷ marks) is positive = absurd (true≢false is)
first_some (false ∷ marks) is positive = omega arith

-- the lowest bit that is set is that of the next number
pub next_is : (bits place : ℕ) (marks : List Bool) → AreFree bits marks → IsLowest bits place
    → place + 1 ≡ first_gathered marks
next_is bits place marks free lowest = elim (cases_eq (place + 1) (first_gathered marks)) [
  | inl same ↦ same
  | inr other ↦
      let positive : 0 < first_gathered marks = first_some marks free.root free.some in
      elim (cases_lt (place + 1) (first_gathered marks)) [
        | inl low ↦
            let small : place < 64 = omega (arith, low, first_low marks, free.few) in
            absurd (true≢false (sym (eq-eqb (bit_at bits place) 1 (lowest.set small)) ∙ free.each place small
            ∙ ap not (before_first marks (place + 1) low)))
        | inr high ↦
            let f : ℕ = first_gathered marks - 1 in
            let under : f < place = omega (arith, high, other, positive) in
            let small : f < 64 = omega (arith, under, lowest.few) in
            let back : f + 1 ≡ first_gathered marks = omega (arith, positive) in
            absurd (true≢false (sym (free.each f small ∙ ap (λ u. not (in_use marks u)) back
            ∙ ap not (at_first marks)) ∙ ne_eqb (bit_at bits f) 1 (λ e. omega (arith, e, lowest.below f under))))
      ]
]

-- ---- bits that change

-- the marks of another number are as they were
kept_bit : (bits new : ℕ) (marks now : List Bool) (at i : ℕ) (value : ℕ) → i < 64
    → bit_at new i ≡ (if i == at then value else bit_at bits i) → i ≢ at
    → (bit_at bits i == 1) ≡ not (in_use marks (i + 1)) → in_use now (i + 1) ≡ in_use marks (i + 1)
    → (bit_at new i == 1) ≡ not (in_use now (i + 1))
kept_bit bits new marks now at i value low is other was same =
    ap (λ b. b == 1) (is ∙ ap (λ c. if c then value else bit_at bits i) (ne_eqb i at other)) ∙ was ∙ ap not (sym same)

here_bit : (bits new : ℕ) (now : List Bool) (at i : ℕ) (value : ℕ) → i < 64
    → bit_at new i ≡ (if i == at then value else bit_at bits i) → i ≡ at
    → (value == 1) ≡ not (in_use now (i + 1)) → (bit_at new i == 1) ≡ not (in_use now (i + 1))
here_bit bits new now at i value low is same so =
    ap (λ b. b == 1) (is ∙ ap (λ c. if c then value else bit_at bits i) (eq-eqb i at same)) ∙ so

-- a number is registered
taken_marks : (marks : List Bool) (u number : ℕ) (entries : List ℕ) → u ≤ length marks → u ≢ 0 → (v : ℕ)
    → in_use (marks_on (Stepped (Register u) number entries) marks) v ≡ (if v == u then true else in_use marks v)
taken_marks marks u number entries low some v = elim (cases_lt u (length marks)) [
  | inl inside ↦
      ap (λ b. in_use (if b then set marks u false else marks ++ false ∷ []) v) (lt-ltb u (length marks) inside)
      ∙ elim (cases_eq v u) [
        | inl same ↦ ap (in_use (set marks u false)) same
            ∙ ap (λ b. b && not (get_or (set marks u false) u false))
            (lt-ltb u (length (set marks u false)) (omega (arith, inside, length-set marks u false)))
            ∙ ap not (read_here marks u false false inside)
            ∙ sym (ap (λ b. if b then true else in_use marks v) (eq-eqb v u same))
        | inr other ↦ ap (λ n. nat_lt v n && not (get_or (set marks u false) v false)) (length-set marks u false)
            ∙ ap (λ b. nat_lt v (length marks) && not b) (read_there marks u v false false other)
            ∙ sym (ap (λ b. if b then true else in_use marks v) (ne_eqb v u other))
      ]
  | inr past ↦
      let last : u ≡ length marks = omega (arith, low, past) in
      ap (λ b. in_use (if b then set marks u false else marks ++ false ∷ []) v) (le-ltb u (length marks) past)
      ∙ elim (cases_eq v u) [
        | inl same ↦ ap (λ b. b && not (get_or (marks ++ false ∷ []) v false))
            (lt-ltb v (length (marks ++ false ∷ [])) (omega (arith, same, last, length-push marks false)))
            ∙ ap not (get_or_push marks false false v (sym (same ∙ last)))
            ∙ sym (ap (λ b. if b then true else in_use marks v) (eq-eqb v u same))
        | inr other ↦ ap (λ b. nat_lt v (length (marks ++ false ∷ [])) && not b)
            (push_else marks false false v (λ e. other (e ∙ sym last)))
            ∙ ap (λ b. b && not (get_or marks v false)) (elim (cases_lt v (length marks)) [
              | inl small ↦ lt-ltb v _ (omega (arith, small, length-push marks false)) ∙ sym (lt-ltb v _ small)
              | inr large ↦ le-ltb v _ (omega (arith, large, other, last, length-push marks false))
                  ∙ sym (le-ltb v _ large)
            ])
            ∙ sym (ap (λ b. if b then true else in_use marks v) (ne_eqb v u other))
      ]
]

pub taken_number : (bits new u number : ℕ) (entries : List ℕ) (items : List Item) → AreFree bits (marks_of items)
    → u ≡ first_gathered (marks_of items) → u ≤ MOST_THREADS
    → ((i : ℕ) → i < 64 → bit_at new i ≡ (if i == u - 1 then 0 else bit_at bits i))
    → AreFree new (marks_of (Stepped (Register u) number entries ∷ items))
taken_number bits new u number entries items free is few bit_is =
    let marks : List Bool = marks_of items in
    let positive : 0 < u = omega (arith, is, first_some marks free.root free.some) in
    let low : u ≤ length marks = omega (arith, is, first_low marks) in
    let now : List Bool = marks_on (Stepped (Register u) number entries) marks in
    let use_is : (v : ℕ) → in_use now v ≡ (if v == u then true else in_use marks v) =
    taken_marks marks u number entries low (λ e. omega (arith, e, positive)) in
    record {
      root = root_stays marks u positive free.root (nat_lt u (length marks));
      some = some_stays marks u free.some (nat_lt u (length marks));
      few = elim (cases_lt u (length marks)) [
        | inl inside ↦ omega (
          arith,
          free.few,
          length-set marks u false,
          ap (λ b. length (if b then set marks u false else marks ++ false ∷ [])) (lt-ltb u (length marks) inside),
        )
        | inr past ↦ omega (
          arith,
          few,
          low,
          past,
          length-push marks false,
          ap (λ b. length (if b then set marks u false else marks ++ false ∷ [])) (le-ltb u (length marks) past),
        )
      ];
      each = λ i small. elim (cases_eq i (u - 1)) [
        | inl same ↦ here_bit bits new now (u - 1) i 0 small (bit_is i small) same
            (sym (ap not (use_is (i + 1) ∙ ap (λ b. if b then true else in_use marks (i + 1))
            (eq-eqb (i + 1) u (omega (arith, same, positive))))))
        | inr other ↦ kept_bit bits new marks now (u - 1) i 0 small (bit_is i small) other (free.each i small)
            (use_is (i + 1) ∙ ap (λ b. if b then true else in_use marks (i + 1))
            (ne_eqb (i + 1) u (λ e. other (omega (arith, e)))))
      ];
    }
  where
    root_stays : (marks : List Bool) (u : ℕ) → 0 < u → get_or marks 0 false ≡ false → (b : Bool)
        → get_or (if b then set marks u false else marks ++ false ∷ []) 0 false ≡ false
    root_stays marks u positive root true = read_there marks u 0 false false (λ e. omega (arith, e, positive)) ∙ root
    root_stays marks u positive root false = elim (cases_eq 0 (length marks)) [
      | inl last ↦ get_or_push marks false false 0 (sym last)
      | inr other ↦ push_else marks false false 0 other ∙ root
    ]

    some_stays : (marks : List Bool) (u : ℕ) → 0 < length marks → (b : Bool)
        → 0 < length (if b then set marks u false else marks ++ false ∷ [])
    some_stays marks u positive true = omega (arith, positive, length-set marks u false)
    some_stays marks u positive false = omega (arith, positive, length-push marks false)

-- a thread is gathered
pub given_number : (bits new u number : ℕ) (entries : List ℕ) (items : List Item) → AreFree bits (marks_of items)
    → 0 < u → u ≤ MOST_THREADS → ((i : ℕ) → i < 64 → bit_at new i ≡ (if i == u - 1 then 1 else bit_at bits i))
    → AreFree new (marks_of (Stepped (Gather u) number entries ∷ items))
given_number bits new u number entries items free positive few bit_is =
    let marks : List Bool = marks_of items in
    let now : List Bool = set marks u true in
    record {
      root = read_there marks u 0 true false (λ e. omega (arith, e, positive)) ∙ free.root;
      some = omega (arith, free.some, length-set marks u true);
      few = omega (arith, free.few, length-set marks u true);
      each = λ i small. elim (cases_eq i (u - 1)) [
        | inl same ↦ here_bit bits new now (u - 1) i 1 small (bit_is i small) same
            (sym (ap not (ap (in_use now) (omega (arith, same, positive)) ∙ gone marks u)))
        | inr other ↦ kept_bit bits new marks now (u - 1) i 1 small (bit_is i small) other (free.each i small)
            (ap (λ n. nat_lt (i + 1) n && not (get_or now (i + 1) false)) (length-set marks u true)
            ∙ ap (λ b. nat_lt (i + 1) (length marks) && not b)
            (read_there marks u (i + 1) true false (λ e. other (omega (arith, e)))))
      ];
    }
  where
    gone : (marks : List Bool) (u : ℕ) → in_use (set marks u true) u ≡ false
    gone marks u = elim (cases_lt u (length marks)) [
      | inl inside ↦ ap (λ b. nat_lt u (length (set marks u true)) && not b) (read_here marks u true false inside)
          ∙ and_no (nat_lt u (length (set marks u true)))
      | inr past ↦ ap (λ b. b && not (get_or (set marks u true) u false))
          (le-ltb u (length (set marks u true)) (omega (arith, past, length-set marks u true)))
    ]
      where
        and_no : (b : Bool) → (b && false) ≡ false
        and_no true = refl
        and_no false = refl

-- at first nobody has a number but the root
pub none_taken : AreFree (2 ^ 64 - 1) (false ∷ [])
none_taken = record {
  root = refl;
  some = omega arith;
  few = omega arith;
  each = λ i small. eq-eqb (bit_at (2 ^ 64 - 1) i) 1 (bit_at_ones 64 i small) ∙ sym (ap not (past i));
}
  where
    past : (i : ℕ) → in_use (false ∷ []) (i + 1) ≡ false
    past i = ap (λ b. b && not (get_or (false ∷ []) (i + 1) false)) (le-ltb (i + 1) 1 (omega arith))

-- ---- how many were used

pub taken_rows : (u rows number : ℕ) (entries : List ℕ) (items : List Item) → rows ≡ rows_of items
    → u ≡ first_gathered (marks_of items)
    → rows_of (Stepped (Register u) number entries ∷ items) ≡ (if u == rows then u + 1 else rows)
taken_rows u rows number entries items is first =
    let marks : List Bool = marks_of items in
    let low : u ≤ length marks = omega (arith, first, first_low marks) in
    elim (cases_eq u rows) [
      | inl last ↦ ap (λ b. length (if b then set marks u false else marks ++ false ∷ []))
          (le-ltb u (length marks) (omega (arith, last, is)))
          ∙ length-push marks false ∙ ap (λ n. n + 1) (sym (last ∙ is))
          ∙ sym (ap (λ b. if b then u + 1 else rows) (eq-eqb u rows last))
      | inr other ↦ ap (λ b. length (if b then set marks u false else marks ++ false ∷ []))
          (lt-ltb u (length marks) (omega (arith, low, other, is)))
          ∙ length-set marks u false ∙ sym is
          ∙ sym (ap (λ b. if b then u + 1 else rows) (ne_eqb u rows other))
    ]

pub given_rows : (u number : ℕ) (entries : List ℕ) (items : List Item)
    → rows_of (Stepped (Gather u) number entries ∷ items) ≡ rows_of items
given_rows u number entries items = length-set (marks_of items) u true
