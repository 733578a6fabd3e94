-- How far the numbers among values are marked, and how far they are restored.
use Rattle.std.proofs.Common.{arith, ◌≡◌, ◌≢◌, ◌<◌, ◌+◌, ◌*◌, ◌⊎◌, ℕ, List, Option, Some, length, refl, sym, ap, ◌∙◌, inl, inr, subst}
use Rattle.std.specs.Prelude.{get_or, slice_get, slice_set, Bool, true, false}
use Rattle.brc_words.specs.declared.note.Note.{Note}
use Rattle.brc_count.specs.Frames.{HandleSeen}
use Rattle.std.proofs.lemmas.Option.{slice_get_within}
use Rattle.std.proofs.lemmas.Bool.{cases_eq, cases_order}
use Rattle.std.proofs.lemmas.Grind.{common_steps, same_number_lists}
use Rattle.brc_client.specs.declared.data.Datum.{Datum}
use Rattle.brc_client.specs.declared.data.Datum.TheVariants.{Scalar, Object}
use Rattle.brc_client.specs.Numbers.{NumbersSeen, StampSeen, number_at, place_in, uses_in, once_more}
use Rattle.brc_client.specs.Clients.{NamesOneIn}
use Rattle.brc_client.specs.Reach.{ReachSeen, Reaches, Widened}
use Rattle.brc_client.specs.Value_Row.{HasNumber, AllNamed, AreSpelled, NoneTwice, StandsTwice, IsPlace, AreMarked, Restores}

-- ---- a number at an index

-- a value has one number
pub one_number_at : (items : List Datum) (at one other : ℕ) → HasNumber items at one → HasNumber items at other → one ≡ other
one_number_at items at one other has more =
    let a : slice_get items at ≡ Some (Object one has.0) = has.1 in
    let b : slice_get items at ≡ Some (Object other more.0) = more.1 in
    cc

uses_len : (uses : List ℕ) (i x : ℕ) → length (slice_set uses i x) ≡ length uses
uses_len uses i x = grind (arith, common_steps)

uses_else : (uses : List ℕ) (i k x : ℕ) → k ≢ i → get_or (slice_set uses i x) k 0 ≡ get_or uses k 0
uses_else uses i k x other = grind (arith, common_steps)

-- a place of a number below the next index: of the last, or of one before
place_cases : (items : List Datum) (at place : ℕ) → IsPlace items (at + 1) place
    → IsPlace items at place ⊎ ((number : ℕ) × HasNumber items at number × (place_in number ≡ place))
place_cases items at place found = elim (cases_order found.at at) [
  | inl same ↦ inr (found.number, subst (λ (i : ℕ). HasNumber items i found.number) same found.has, found.is)
  | inr rest ↦ elim rest [
    | inl less ↦ inl (record { at = found.at; number = found.number; inside = less; has = found.has; is = found.is })
    | inr more ↦ absurd (omega (arith, found.inside, more))
  ]
]

abbrev place_wider : (items : List Datum) (at place : ℕ) → IsPlace items at place → IsPlace items (at + 1) place
place_wider items at place found =
    record { at = found.at; number = found.number; inside = omega (arith, found.inside); has = found.has; is = found.is }

-- a scalar has none
pub scalar_unnumbered : (items : List Datum) (at : ℕ) (note : Note) → slice_get items at ≡ Some (Scalar note)
    → (number : ℕ) → HasNumber items at number → ⊥
scalar_unnumbered items at note is number has =
    let here : slice_get items at ≡ Some (Object number has.0) = has.1 in
    let off : Some (Scalar note) ≡ Some (Object number has.0) = sym is ∙ here in
    cc

-- ---- each names something

-- Below the index each does. The places that were met reach as far as theirs, and unless one is unsure none stands twice.
pub record NamedSoFar (handles : List (Option HandleSeen)) (numbers : NumbersSeen) (items : List Datum) (below : ℕ)
    (reach : ReachSeen) (unsure : Bool) : Type 0 where
  pub named : (i number : ℕ) → i < below → HasNumber items i number → NamesOneIn handles numbers number
  pub met : (i number : ℕ) → i < below → HasNumber items i number → Reaches reach (place_in number)
  pub apart : unsure ≡ false → (i k number : ℕ) → i < k → k < below → HasNumber items i number → HasNumber items k number → ⊥

pub named_none : (handles : List (Option HandleSeen)) (numbers : NumbersSeen) (items : List Datum) (met : ReachSeen)
    → NamedSoFar handles numbers items 0 met false
named_none handles numbers items met = record {
  named = λ i number below has. absurd (omega (arith, below));
  met = λ i number below has. absurd (omega (arith, below));
  apart = λ off i k number order below one other. omega (arith, below);
}

pub named_past : (handles : List (Option HandleSeen)) (numbers : NumbersSeen) (items : List Datum) (at : ℕ)
    (met : ReachSeen) (unsure : Bool) → NamedSoFar handles numbers items at met unsure
    → ((number : ℕ) → HasNumber items at number → ⊥) → NamedSoFar handles numbers items (at + 1) met unsure
named_past handles numbers items at met unsure so free = record {
  named = λ i number below has. elim (cases_order i at) [
    | inl same ↦ absurd (free number (subst (λ (k : ℕ). HasNumber items k number) same has))
    | inr rest ↦ elim rest [
      | inl less ↦ so.named i number less has
      | inr more ↦ absurd (omega (arith, below, more))
    ]
  ];
  met = λ i number below has. elim (cases_order i at) [
    | inl same ↦ absurd (free number (subst (λ (k : ℕ). HasNumber items k number) same has))
    | inr rest ↦ elim rest [
      | inl less ↦ so.met i number less has
      | inr more ↦ absurd (omega (arith, below, more))
    ]
  ];
  apart = λ off i k number order below one other. elim (cases_order k at) [
    | inl same ↦ free number (subst (λ (j : ℕ). HasNumber items j number) same other)
    | inr rest ↦ elim rest [
      | inl less ↦ so.apart off i k number order less one other
      | inr more ↦ absurd (omega (arith, below, more))
    ]
  ];
}

-- one more does; nothing is unsure then only if nothing was, and its place lay outside
pub named_more : (handles : List (Option HandleSeen)) (numbers : NumbersSeen) (items : List Datum) (at number : ℕ)
    (was is : ReachSeen) (before after outside : Bool) → NamedSoFar handles numbers items at was before
    → HasNumber items at number → NamesOneIn handles numbers number → Widened was is (place_in number) outside
    → (after ≡ false → (before ≡ false) × (outside ≡ true)) → NamedSoFar handles numbers items (at + 1) is after
named_more handles numbers items at number was is before after outside so has names widened sure = record {
  named = λ i n below found. elim (cases_order i at) [
    | inl same ↦
        let e : n ≡ number = one_number_at items at n number (subst (λ (k : ℕ). HasNumber items k n) same found) has in
        subst (λ (m : ℕ). NamesOneIn handles numbers m) (sym e) names
    | inr rest ↦ elim rest [
      | inl less ↦ so.named i n less found
      | inr more ↦ absurd (omega (arith, below, more))
    ]
  ];
  met = λ i n below found. elim (cases_order i at) [
    | inl same ↦
        let e : n ≡ number = one_number_at items at n number (subst (λ (k : ℕ). HasNumber items k n) same found) has in
        subst (λ (m : ℕ). Reaches is (place_in m)) (sym e) widened.here
    | inr rest ↦ elim rest [
      | inl less ↦ widened.others (place_in n) (so.met i n less found)
      | inr more ↦ absurd (omega (arith, below, more))
    ]
  ];
  apart = λ off i k n order below one other. elim (cases_order k at) [
    | inl last ↦
        let e : n ≡ number = one_number_at items at n number (subst (λ (j : ℕ). HasNumber items j n) last other) has in
        widened.apart (sure off).1 (subst (λ (m : ℕ). Reaches was (place_in m)) e
        (so.met i n (omega (arith, order, last)) one))
    | inr rest ↦ elim rest [
      | inl less ↦ so.apart (sure off).0 i k n order less one other
      | inr more ↦ absurd (omega (arith, below, more))
    ]
  ];
}

-- so all do
pub all_named : (handles : List (Option HandleSeen)) (numbers : NumbersSeen) (items : List Datum) (below : ℕ)
    (met : ReachSeen) (unsure : Bool) → NamedSoFar handles numbers items below met unsure → below ≡ length items
    → AllNamed handles numbers items
all_named handles numbers items below met unsure so all at number has = so.named at number
    (subst (λ (n : ℕ). at < n) (sym all) (slice_get_within items at (Object number has.0) has.1)) has

pub all_apart : (handles : List (Option HandleSeen)) (numbers : NumbersSeen) (items : List Datum) (below : ℕ)
    (met : ReachSeen) (unsure : Bool) → NamedSoFar handles numbers items below met unsure → below ≡ length items
    → unsure ≡ false → NoneTwice items
all_apart handles numbers items below met unsure so all off i k number order one other = so.apart off i k number order
    (subst (λ (n : ℕ). k < n) (sym all) (slice_get_within items k (Object number other.0) other.1)) one other

-- ---- they are marked

pub marks_none : (items : List Datum) (numbers : NumbersSeen) → AreMarked items 0 numbers numbers
marks_none items numbers = record {
  stamp = refl;
  of = refl;
  len = refl;
  uses = λ place. inl (refl, λ found. omega (arith, found.inside));
  said = λ at number below has. absurd (omega (arith, below));
  apart = λ i k number order below one other. omega (arith, below);
}

-- the next value has no number
pub marks_past : (items : List Datum) (at : ℕ) (was is : NumbersSeen) → AreMarked items at was is
    → ((number : ℕ) → HasNumber items at number → ⊥) → AreMarked items (at + 1) was is
marks_past items at was is so none = record {
  stamp = so.stamp;
  of = so.of;
  len = so.len;
  uses = λ place. elim (so.uses place) [
    | inl (same, free) ↦ inl (
      same,
      λ found. elim (place_cases items at place found) [
        | inl before ↦ free before
        | inr (number, has, here) ↦ none number has
      ],
    )
    | inr (other, found) ↦ inr (other, place_wider items at place found)
  ];
  said = λ i number below has. elim (cases_order i at) [
    | inl same ↦ absurd (none number (subst (λ (k : ℕ). HasNumber items k number) same has))
    | inr rest ↦ elim rest [
      | inl less ↦ so.said i number less has
      | inr more ↦ absurd (omega (arith, below, more))
    ]
  ];
  apart = λ i k number order below one other. elim (cases_order k at) [
    | inl same ↦ none number (subst (λ (j : ℕ). HasNumber items j number) same other)
    | inr rest ↦ elim rest [
      | inl less ↦ so.apart i k number order less one other
      | inr more ↦ absurd (omega (arith, below, more))
    ]
  ];
}

-- a place that is spelled as before was vacated as often
as_often : (was is : NumbersSeen) (place : ℕ) → is.stamp ≡ was.stamp → number_at is place ≡ number_at was place
    → get_or is.uses place 0 ≡ get_or was.uses place 0
as_often was is place stamp same = omega (arith, stamp, same)

-- once more is another number
differs : (u : ℕ) → once_more u ≢ u
differs u same = omega (arith, same)

-- the next value has a number, which is marked
pub marks_more : (items : List Datum) (at number : ℕ) (was is new : NumbersSeen) → AreMarked items at was is
    → HasNumber items at number → number ≡ number_at was (place_in number) → number ≡ number_at is (place_in number)
    → uses_in number ≡ get_or is.uses (place_in number) 0 → new.stamp ≡ is.stamp → new.of ≡ is.of
    → new.uses ≡ slice_set is.uses (place_in number) (once_more (get_or is.uses (place_in number) 0))
    → get_or new.uses (place_in number) 0 ≡ once_more (get_or is.uses (place_in number) 0)
    → AreMarked items (at + 1) was new
marks_more items at number was is new so has before now said stamp of uses here =
    let p = place_in number in
    let same : get_or is.uses p 0 ≡ get_or was.uses p 0 = as_often was is p so.stamp (sym now ∙ before) in
    let else : (q : ℕ) → q ≢ p → get_or new.uses q 0 ≡ get_or is.uses q 0
    = λ q other. ap (λ (l : List ℕ). get_or l q 0) uses ∙ uses_else is.uses p q (once_more (get_or is.uses p 0)) other in
    let free : IsPlace items at p → ⊥ = elim (so.uses p) [
      | inl (kept, free) ↦ free
      | inr (other, found) ↦ (λ _. other same)
    ] in
    record {
      stamp = stamp ∙ so.stamp;
      of = of ∙ so.of;
      len = ap (λ (l : List ℕ). length l) uses ∙ uses_len is.uses p (once_more (get_or is.uses p 0)) ∙ so.len;
      uses = λ q. elim (cases_eq q p) [
        | inl one ↦ inr (
          λ again. differs (get_or is.uses p 0) (sym here ∙ ap (λ (k : ℕ). get_or new.uses k 0) (sym one) ∙ again
              ∙ ap (λ (k : ℕ). get_or was.uses k 0) one ∙ sym same),
          record { at = at; number = number; inside = omega arith; has = has; is = sym one },
        )
        | inr other ↦ elim (so.uses q) [
          | inl (kept, none) ↦ inl (
            else q other ∙ kept,
            λ found. elim (place_cases items at q found) [
              | inl earlier ↦ none earlier
              | inr (last, has_last, is) ↦ other (sym is ∙ ap place_in (one_number_at items at last number has_last has))
            ],
          )
          | inr (moved, found) ↦ inr (λ again. moved (sym (else q other) ∙ again), place_wider items at q found)
        ]
      ];
      said = λ i n below has_n. elim (cases_order i at) [
        | inl one ↦
            let e : n ≡ number = one_number_at items at n number (subst (λ (k : ℕ). HasNumber items k n) one has_n) has in
            ap uses_in e ∙ said ∙ same ∙ ap (λ (k : ℕ). get_or was.uses (place_in k) 0) (sym e)
        | inr rest ↦ elim rest [
          | inl less ↦ so.said i n less has_n
          | inr more ↦ absurd (omega (arith, below, more))
        ]
      ];
      apart = λ i k n order below one other. elim (cases_order k at) [
        | inl last ↦
            let e : n ≡ number = one_number_at items at n number (subst (λ (j : ℕ). HasNumber items j n) last other) has in
            free (record { at = i; number = n; inside = omega (arith, order, last); has = one; is = ap place_in e })
        | inr rest ↦ elim rest [
          | inl less ↦ so.apart i k n order less one other
          | inr more ↦ absurd (omega (arith, below, more))
        ]
      ];
    }

-- or it is spelled otherwise by now: it stood before
pub marks_again : (items : List Datum) (at number : ℕ) (was is : NumbersSeen) → AreMarked items at was is
    → AreSpelled was items → HasNumber items at number → number_at is (place_in number) ≢ number → StandsTwice items
marks_again items at number was is so spelled has other =
    let p = place_in number in
    let before : number ≡ number_at was p = spelled at number has in
    elim (so.uses p) [
      | inl (kept, none) ↦ absurd (other (ap (λ (s : ℕ). s * 281474976710656 + get_or is.uses p 0 * 65536 + p) so.stamp
          ∙ ap (λ (u : ℕ). was.stamp * 281474976710656 + u * 65536 + p) kept ∙ sym before))
      | inr (moved, found) ↦
          let e : found.number ≡ number = spelled found.at found.number found.has
          ∙ ap (number_at was) found.is ∙ sym before in
          record {
            first = found.at;
            second = at;
            number = number;
            order = found.inside;
            stands = subst (λ (n : ℕ). HasNumber items found.at n) e found.has;
            again = has;
          }
    ]

-- ---- they are restored

pub restores_none : (items : List Datum) (numbers : NumbersSeen) → Restores items 0 numbers numbers
restores_none items numbers = record {
  stamp = refl;
  of = refl;
  len = refl;
  uses = λ place. inl (refl, λ found. omega (arith, found.inside));
}

pub restores_past : (items : List Datum) (at : ℕ) (was is : NumbersSeen) → Restores items at was is
    → ((number : ℕ) → HasNumber items at number → ⊥) → Restores items (at + 1) was is
restores_past items at was is so none = record {
  stamp = so.stamp;
  of = so.of;
  len = so.len;
  uses = λ place. elim (so.uses place) [
    | inl (same, free) ↦ inl (
      same,
      λ found. elim (place_cases items at place found) [
        | inl before ↦ free before
        | inr (number, has, here) ↦ none number has
      ],
    )
    | inr (found, said) ↦ inr (place_wider items at place found, said)
  ];
}

pub restores_more : (items : List Datum) (at number : ℕ) (was is new : NumbersSeen) → Restores items at was is
    → HasNumber items at number → new.stamp ≡ is.stamp → new.of ≡ is.of
    → new.uses ≡ slice_set is.uses (place_in number) (uses_in number)
    → get_or new.uses (place_in number) 0 ≡ uses_in number → Restores items (at + 1) was new
restores_more items at number was is new so has stamp of uses here =
    let p = place_in number in
    let else : (q : ℕ) → q ≢ p → get_or new.uses q 0 ≡ get_or is.uses q 0
    = λ q other. ap (λ (l : List ℕ). get_or l q 0) uses ∙ uses_else is.uses p q (uses_in number) other in
    record {
      stamp = stamp ∙ so.stamp;
      of = of ∙ so.of;
      len = ap (λ (l : List ℕ). length l) uses ∙ uses_len is.uses p (uses_in number) ∙ so.len;
      uses = λ q. elim (cases_eq q p) [
        | inl one ↦ inr (
          record { at = at; number = number; inside = omega arith; has = has; is = sym one },
          ap (λ (k : ℕ). get_or new.uses k 0) one ∙ here,
        )
        | inr other ↦ elim (so.uses q) [
          | inl (kept, none) ↦ inl (
            else q other ∙ kept,
            λ found. elim (place_cases items at q found) [
              | inl earlier ↦ none earlier
              | inr (last, has_last, is) ↦ other (sym is ∙ ap place_in (one_number_at items at last number has_last has))
            ],
          )
          | inr (found, said) ↦ inr (place_wider items at q found, else q other ∙ said)
        ]
      ];
    }

-- ---- then all are as they were

numbers_same : (a b : NumbersSeen) → a.stamp ≡ b.stamp → a.of ≡ b.of → a.uses ≡ b.uses → a ≡ b
numbers_same a b stamp of uses =
    let made : ℕ → StampSeen → List ℕ → NumbersSeen = λ s o u. record { stamp = s; of = o; uses = u } in
    ap (λ (s : ℕ). made s a.of a.uses) stamp ∙ ap (λ (o : StampSeen). made b.stamp o a.uses) of
    ∙ ap (λ (u : List ℕ). made b.stamp b.of u) uses

pub as_before : (items : List Datum) (below : ℕ) (was mid is : NumbersSeen) → AreMarked items below was mid
    → Restores items below mid is → is ≡ was
as_before items below was mid is marks back =
    numbers_same is was (back.stamp ∙ marks.stamp) (back.of ∙ marks.of)
    (same_number_lists is.uses was.uses (back.len ∙ marks.len) (λ place inside. elim (back.uses place) [
      | inl (same, none) ↦ elim (marks.uses place) [
        | inl (kept, free) ↦ same ∙ kept
        | inr (moved, found) ↦ absurd (none found)
      ]
      | inr (found, said) ↦ said ∙ marks.said found.at found.number found.inside found.has
          ∙ ap (λ (k : ℕ). get_or was.uses k 0) found.is
    ]))

-- and none stands twice, if all were marked
pub none_again : (items : List Datum) (below : ℕ) (was mid : NumbersSeen) → AreMarked items below was mid
    → below ≡ length items → NoneTwice items
none_again items below was mid marks all = λ i k number order one other. marks.apart i k number order
    (subst (λ (n : ℕ). k < n) (sym all) (slice_get_within items k (Object number other.0) other.1)) one other
