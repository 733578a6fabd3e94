-- How each change of the array of places keeps the count and the list of the vacant ones.
use Rattle.std.proofs.Common.{◌≡◌, ◌≢◌, ◌⊎◌, ℕ, zero, suc, ◌+◌, ◌-◌, ◌<◌, ◌≤◌, Bool, true, List, [], ◌∷◌, ◌++◌, map, length, get_or, set, Option, Some, None}
use Rattle.std.proofs.Common.{is_some, is_none, count_by, cond, slice_get, refl, sym, ap, subst, ◌∙◌, inl, inr, arith, length-set}
use Rattle.std.proofs.lemmas.Bool.{true≢false}
use Rattle.std.proofs.lemmas.List.{map-set, map_push, length-map, length_push, get_or-map, get_or-set_same, get_or-set_other, get_or_past}
use Rattle.std.proofs.lemmas.List.Sums.{sum_by-cons, sum_by-set, sum_by_push}
use Rattle.std.proofs.lemmas.Option.{slice_get_within, slice_get-get_or, slice_get_read, get_or_from_slice_get}
use Rattle.brc_words.specs.declared.limits.TheConstants.{MOST_PLACES}
use Rattle.brc_count.specs.declared.held.PlaceEntry.{PlaceEntry}
use Rattle.brc_count.specs.declared.frame_places.Slot.{Slot}
use Rattle.brc_count.specs.Places.{PlacesSeen, held_at, held_in, spare_in, cell_held, Updates}
use Rattle.brc_count.specs.declared.frame_places.State.{State}
use Rattle.brc_count.specs.declared.frame_places.State.TheVariants.{Vacant, Held, Risen}
use Rattle.brc_count.specs.PlaceList.{held_as, held_by, vacant_before, IsVacantList, AreLinked}

-- what the array shows
abbrev pub shown : List Slot → ℕ → PlacesSeen
shown places next = record { slots = map held_by places; next = next }

-- each place has a reference or is vacant
pub some_and_none : (slots : List (Option PlaceEntry)) → count_by is_some slots + count_by is_none slots ≡ length slots
some_and_none [] = refl
some_and_none (None ∷ rest) =
    omega (
      arith,
      some_and_none rest,
      sum_by-cons (λ o. cond (is_some o) 1 0) None rest,
      sum_by-cons (λ o. cond (is_none o) 1 0) None rest,
    )
some_and_none (Some held ∷ rest) =
    omega (
      arith,
      some_and_none rest,
      sum_by-cons (λ o. cond (is_some o) 1 0) (Some held) rest,
      sum_by-cons (λ o. cond (is_none o) 1 0) (Some held) rest,
    )

-- how many are vacant is all that don't have a reference
pub vacant_count : (places : List Slot) → count_by is_some (map held_by places) + count_by is_none (map held_by places) ≡ length places
vacant_count places = some_and_none (map held_by places) ∙ length-map places held_by

abbrev number_in : Option Slot → ℕ
number_in None = 0
number_in (Some p) = p.number

-- a place begins one list at most
pub one_list : (places : List Slot) (m n k : ℕ) → IsVacantList places m k → IsVacantList places n k → m ≡ n
one_list places zero zero k p q = refl
one_list places zero (suc n) k p q = absurd (omega (arith, p, slice_get_within places k _ q.1))
one_list places (suc m) zero k p q = absurd (omega (arith, q, slice_get_within places k _ p.1))
one_list places (suc m) (suc n) k p q =
    let same : q.0 ≡ p.0 = ap number_in (sym q.1 ∙ p.1) in
    ap suc (one_list places m n p.0 p.2 (subst (IsVacantList places n) same q.2))

-- a write at a place that isn't on the list keeps the list
pub list_kept : (places : List Slot) (k : ℕ) (p : Slot) (n from : ℕ)
    → ((m : ℕ) → m < n → IsVacantList places (suc m) k → ⊥) → IsVacantList places n from
    → IsVacantList (set places k p) n from
list_kept places k p zero from off list = list ∙ sym (length-set places k p)
list_kept places k p (suc n) from off list =
    let other : from ≢ k = λ same. off n (omega arith) (subst (IsVacantList places (suc n)) same list) in
    let within = slice_get_within places from _ list.1 in
    let kept : slice_get (set places k p) from ≡ Some (vacant_before list.0) =
    slice_get-get_or (set places k p) from p (omega (arith, within, length-set places k p))
    ∙ ap Some (get_or-set_other places k from p p other ∙ get_or_from_slice_get places from _ p list.1) in
    (list.0, kept, list_kept places k p n list.0 (λ m below. off m (omega (arith, below))) list.2)

-- a place with a reference is on no list
pub filled_is_off : (places : List Slot) (k : ℕ) (p : Slot) (held : PlaceEntry) → slice_get places k ≡ Some p
    → held_by p ≡ Some held → (m : ℕ) → IsVacantList places (suc m) k → ⊥
filled_is_off places k p held there filled m list =
    let listed = list.1 in
    let same : p ≡ vacant_before list.0 = cc in
    let none : None ≡ Some held = ap held_by (sym same) ∙ filled in
    cc

-- what a place reads as is what it shows
pub shows_at : (places : List Slot) (next k : ℕ) (p : Slot) → slice_get places k ≡ Some p
    → held_at (shown places next) k ≡ held_by p
shows_at places next k p there =
    get_or-map held_by places k p None (slice_get_within places k p there)
    ∙ ap held_by (get_or_from_slice_get places k p p there)

pub shows_none : (places : List Slot) (next k : ℕ) → length places ≤ k → held_at (shown places next) k ≡ None
shows_none places next k past = get_or_past (map held_by places) k None (omega (arith, past, length-map places held_by))

-- a place that shows a reference is in the array
pub filled_inside : (places : List Slot) (next k : ℕ) → is_some (held_at (shown places next) k) ≡ true → k < length places
filled_inside places next k filled = omega (arith, inside_shown (map held_by places) k filled, length-map places held_by)
  where
    inside_shown : (slots : List (Option PlaceEntry)) (k : ℕ) → is_some (get_or slots k None) ≡ true → k < length slots
    inside_shown [] k some = absurd (true≢false (sym some))
    inside_shown (x ∷ xs) zero some = omega arith
    inside_shown (x ∷ xs) (suc k) some = omega (arith, inside_shown xs k some)

-- what a place with a reference has
pub filled_place : (places : List Slot) (next k : ℕ) → is_some (held_at (shown places next) k) ≡ true
    → (p : Slot) × (held : PlaceEntry) × (slice_get places k ≡ Some p) × (held_by p ≡ Some held)
filled_place places next k filled =
    let within = filled_inside places next k filled in
    let p : Slot = get_or places k (vacant_before 0) in
    let there : slice_get places k ≡ Some p = slice_get-get_or places k (vacant_before 0) within in
    by_held p there (held_by p) refl (subst (λ o. is_some o ≡ true) (shows_at places next k p there) filled)
  where
    by_held : (p : Slot) → slice_get places k ≡ Some p → (o : Option PlaceEntry) → held_by p ≡ o → is_some o ≡ true
        → (p : Slot) × (held : PlaceEntry) × (slice_get places k ≡ Some p) × (held_by p ≡ Some held)
    by_held p there None shows some = absurd (true≢false (sym some))
    by_held p there (Some held) shows some = (p, held, there, shows)

-- its number is the cell
pub cell_there : (p : Slot) (held : PlaceEntry) → held_by p ≡ Some held → cell_held (held_by p) ≡ Some p.number
cell_there p held shows = by_state p.state p.number shows
  where
    by_state : (state : State) (number : ℕ) → held_as state number ≡ Some held
        → cell_held (held_as state number) ≡ Some number
    by_state Vacant number shows = absurd (cc)
    by_state Held number shows = refl
    by_state Risen number shows = refl

-- a write changes what its place shows, and nothing else
pub written : (places : List Slot) (next after k : ℕ) (p : Slot) → k < length places
    → Updates (shown places next) (shown (set places k p) after) k (held_by p)
written places next after k p within = record {
  changed = ap (λ slots. get_or slots k None) (map-set held_by places k p)
      ∙ get_or-set_same (map held_by places) k (held_by p) None (omega (arith, within, length-map places held_by));
  others = λ other differs. ap (λ slots. get_or slots other None) (map-set held_by places k p)
      ∙ get_or-set_other (map held_by places) k other (held_by p) None differs;
}

-- how a write changes a count
abbrev counted_by : (Option PlaceEntry → Bool) → Slot → ℕ
counted_by test p = cond (test (held_by p)) 1 0

pub count_written : (test : Option PlaceEntry → Bool) (places : List Slot) (k : ℕ) (old new : Slot)
    → slice_get places k ≡ Some old
    → count_by test (map held_by (set places k new)) + cond (test (held_by old)) 1 0
    ≡ count_by test (map held_by places) + cond (test (held_by new)) 1 0
count_written test places k old new there =
    let within = slice_get_within places k old there in
    let read : get_or (map held_by places) k None ≡ held_by old =
    get_or-map held_by places k old None within ∙ ap held_by (get_or_from_slice_get places k old old there) in
    let counted = sum_by-set (λ o. cond (test o) 1 0) (map held_by places) k (held_by new) None
    (omega (arith, within, length-map places held_by)) in
    rw (map-set held_by places k new, ← read) counted

-- the same by what the two show
count_as : (test : Option PlaceEntry → Bool) (places : List Slot) (k : ℕ) (old new : Slot)
    → slice_get places k ≡ Some old → (was is : Option PlaceEntry) → held_by old ≡ was → held_by new ≡ is
    → count_by test (map held_by (set places k new)) + cond (test was) 1 0
    ≡ count_by test (map held_by places) + cond (test is) 1 0
count_as test places k old new there was is shows_old shows_new =
    subst (λ o. count_by test (map held_by (set places k new)) + cond (test o) 1 0
    ≡ count_by test (map held_by places) + cond (test is) 1 0) shows_old
    (subst (λ o. count_by test (map held_by (set places k new)) + cond (test (held_by old)) 1 0
    ≡ count_by test (map held_by places) + cond (test o) 1 0) shows_new (count_written test places k old new there))

-- ---- the next place

-- it is the end where none is vacant, else a vacant place
pub next_cases : (places : List Slot) (next len : ℕ) → AreLinked places next len
    → ((next ≡ length places) × (spare_in (shown places next) ≡ 0))
    ⊎ ((after : ℕ) × (slice_get places next ≡ Some (vacant_before after)) × (0 < spare_in (shown places next)))
next_cases places next len are = by_count (count_by is_none (map held_by places)) refl are.linked
  where
    by_count : (n : ℕ) → count_by is_none (map held_by places) ≡ n → IsVacantList places n next
        → ((next ≡ length places) × (count_by is_none (map held_by places) ≡ 0))
        ⊎ ((after : ℕ) × (slice_get places next ≡ Some (vacant_before after)) × (0 < count_by is_none (map held_by places)))
    by_count zero is list = inl (list, is)
    by_count (suc n) is list = inr (list.0, list.1, omega (arith, is))

pub next_is_vacant : (places : List Slot) (next len : ℕ) → AreLinked places next len
    → held_at (shown places next) next ≡ None
next_is_vacant places next len are = elim (next_cases places next len are) [
  | inl full ↦ shows_none places next next (omega (arith, full.0))
  | inr some ↦ shows_at places next next (vacant_before some.0) some.1
]

-- it is inside where one is vacant
pub next_inside : (places : List Slot) (next len : ℕ) → AreLinked places next len → 0 < spare_in (shown places next)
    → next < length places
next_inside places next len are spare = elim (next_cases places next len are) [
  | inl full ↦ absurd (omega (arith, spare, full.1))
  | inr some ↦ slice_get_within places next _ some.1
]

pub inside_spare : (places : List Slot) (next len : ℕ) → AreLinked places next len → next < length places
    → 0 < spare_in (shown places next)
inside_spare places next len are inside = elim (next_cases places next len are) [
  | inl full ↦ absurd (omega (arith, inside, full.0))
  | inr some ↦ some.2
]

-- then fewer than all have a reference
pub inside_few : (places : List Slot) (next len : ℕ) → AreLinked places next len → next < length places
    → held_in (shown places next) < MOST_PLACES
inside_few places next len are inside =
    omega (arith, inside_spare places next len are inside, vacant_count places, are.few)

-- all have a reference where none is left below 65,536
pub all_held : (places : List Slot) (next len : ℕ) → AreLinked places next len → MOST_PLACES ≤ next
    → MOST_PLACES ≤ held_in (shown places next)
all_held places next len are high = elim (next_cases places next len are) [
  | inl full ↦ omega (arith, full.0, full.1, high, vacant_count places)
  | inr some ↦ absurd (omega (arith, high, slice_get_within places next _ some.1, are.few))
]

pub full_next : (places : List Slot) (next len : ℕ) → AreLinked places next len → spare_in (shown places next) ≡ 0
    → next ≡ length places
full_next places next len are full = elim (next_cases places next len are) [
  | inl end ↦ end.0
  | inr some ↦ absurd (omega (arith, full, some.2))
]

pub past_full : (places : List Slot) (next len : ℕ) → AreLinked places next len → length places ≤ next
    → spare_in (shown places next) ≡ 0
past_full places next len are past = elim (next_cases places next len are) [
  | inl full ↦ full.1
  | inr some ↦ absurd (omega (arith, past, slice_get_within places next _ some.1))
]

-- ---- filling, vacating, replacing

-- the first vacant place leaves the list: what is left is shorter, so it doesn't come back there
pub linked_filled : (places : List Slot) (next len after : ℕ) (p : Slot) → AreLinked places next len
    → slice_get places next ≡ Some (vacant_before after) → (held : PlaceEntry) → held_by p ≡ Some held
    → AreLinked (set places next p) after (len + 1)
linked_filled places next len after p are there held is_held =
    by_count (count_by is_none (map held_by places)) refl are.linked
  where
    fewer : count_by is_none (map held_by (set places next p)) + 1 ≡ count_by is_none (map held_by places)
    fewer = omega (arith, count_as is_none places next (vacant_before after) p there None (Some held) refl is_held)

    more : count_by is_some (map held_by (set places next p)) ≡ count_by is_some (map held_by places) + 1
    more = omega (arith, count_as is_some places next (vacant_before after) p there None (Some held) refl is_held)

    by_count : (n : ℕ) → count_by is_none (map held_by places) ≡ n → IsVacantList places n next
        → AreLinked (set places next p) after (len + 1)
    by_count zero is list = absurd (omega (arith, fewer, is))
    by_count (suc n) is list =
        let same : list.0 ≡ after = ap number_in (sym list.1 ∙ there) in
        let off : (m : ℕ) → m < n → IsVacantList places (suc m) next → ⊥ =
        λ m below q. omega (arith, below, one_list places (suc m) (suc n) next q list) in
        let left : count_by is_none (map held_by (set places next p)) ≡ n = omega (arith, fewer, is) in
        record {
          few = omega (arith, are.few, length-set places next p);
          counted = omega (arith, are.counted, more);
          linked = subst (λ k. IsVacantList (set places next p) k after) (sym left)
              (list_kept places next p n after off (subst (IsVacantList places n) same list.2));
        }

-- a place that is vacated is the list's first
pub linked_vacated : (places : List Slot) (next len k : ℕ) (p : Slot) → AreLinked places next len
    → slice_get places k ≡ Some p → (held : PlaceEntry) → held_by p ≡ Some held
    → AreLinked (set places k (vacant_before next)) k (len - 1)
linked_vacated places next len k p are there held is_held =
    let last : Slot = vacant_before next in
    let within = slice_get_within places k p there in
    let fewer : count_by is_some (map held_by (set places k last)) + 1 ≡ count_by is_some (map held_by places) =
    omega (arith, count_as is_some places k p last there (Some held) None is_held refl) in
    let more : count_by is_none (map held_by (set places k last)) ≡ suc (count_by is_none (map held_by places)) =
    omega (arith, count_as is_none places k p last there (Some held) None is_held refl) in
    let here : slice_get (set places k last) k ≡ Some last =
    slice_get-get_or (set places k last) k last (omega (arith, within, length-set places k last))
    ∙ ap Some (get_or-set_same places k last last within) in
    record {
      few = omega (arith, are.few, length-set places k last);
      counted = omega (arith, are.counted, fewer);
      linked = subst (λ m. IsVacantList (set places k last) m k) (sym more) (
        next,
        here,
        list_kept places k last (count_by is_none (map held_by places)) next
            (λ m below. filled_is_off places k p held there is_held m) are.linked,
      );
    }

-- a reference in the place of another
pub linked_replaced : (places : List Slot) (next len k : ℕ) (p new : Slot) → AreLinked places next len
    → slice_get places k ≡ Some p → (held other : PlaceEntry) → held_by p ≡ Some held → held_by new ≡ Some other
    → AreLinked (set places k new) next len
linked_replaced places next len k p new are there held other is_held is_other =
    let counts : count_by is_some (map held_by (set places k new)) ≡ count_by is_some (map held_by places) =
    omega (arith, count_as is_some places k p new there (Some held) (Some other) is_held is_other) in
    let same : count_by is_none (map held_by (set places k new)) ≡ count_by is_none (map held_by places) =
    omega (arith, count_as is_none places k p new there (Some held) (Some other) is_held is_other) in
    record {
      few = omega (arith, are.few, length-set places k new);
      counted = are.counted ∙ sym counts;
      linked = subst (λ m. IsVacantList (set places k new) m next) (sym same)
          (list_kept places k new (count_by is_none (map held_by places)) next
          (λ m below. filled_is_off places k p held there is_held m) are.linked);
    }

-- ---- more places

-- a place behind the others that names the end behind it goes on the list's end
pub list_longer : (places : List Slot) (n from : ℕ) → IsVacantList places n from
    → IsVacantList (places ++ vacant_before (length places + 1) ∷ []) (suc n) from
list_longer places zero from list = (
  length places + 1,
  slice_get-get_or (places ++ vacant_before (length places + 1) ∷ []) from (vacant_before (length places + 1))
      (omega (arith, list, length_push places (vacant_before (length places + 1))))
      ∙ ap Some (ap (λ k. get_or (places ++ vacant_before (length places + 1) ∷ []) k (vacant_before (length places + 1))) list
      ∙ pushed_last places (vacant_before (length places + 1))),
  sym (length_push places (vacant_before (length places + 1))),
)
  where
    pushed_last : (places : List Slot) (p : Slot) → get_or (places ++ p ∷ []) (length places) p ≡ p
    pushed_last [] p = refl
    pushed_last (x ∷ xs) p = pushed_last xs p
list_longer places (suc n) from list = (
  list.0,
  pushed_same places from (vacant_before list.0) (vacant_before (length places + 1)) list.1,
  list_longer places n list.0 list.2,
)
  where
    pushed_same : (places : List Slot) (k : ℕ) (p last : Slot) → slice_get places k ≡ Some p
        → slice_get (places ++ last ∷ []) k ≡ Some p
    pushed_same [] k p last there = absurd (omega (arith, slice_get_within [] k p there))
    pushed_same (x ∷ xs) zero p last there = there
    pushed_same (x ∷ xs) (suc k) p last there = pushed_same xs k p last there

pub linked_more : (places : List Slot) (next len : ℕ) → AreLinked places next len → length places < MOST_PLACES
    → AreLinked (places ++ vacant_before (length places + 1) ∷ []) next len
linked_more places next len are few =
    let last : Slot = vacant_before (length places + 1) in
    let longer = length_push places last in
    let some_same : count_by is_some (map held_by (places ++ last ∷ [])) ≡ count_by is_some (map held_by places) =
    ap (count_by is_some) (map_push held_by places last)
    ∙ sum_by_push (λ o. cond (is_some o) 1 0) (map held_by places) None ∙ omega arith in
    let one_more : count_by is_none (map held_by (places ++ last ∷ [])) ≡ suc (count_by is_none (map held_by places)) =
    ap (count_by is_none) (map_push held_by places last)
    ∙ sum_by_push (λ o. cond (is_none o) 1 0) (map held_by places) None ∙ omega arith in
    record {
      few = omega (arith, few, longer);
      counted = are.counted ∙ sym some_same;
      linked = subst (λ m. IsVacantList (places ++ last ∷ []) m next) (sym one_more)
          (list_longer places (count_by is_none (map held_by places)) next are.linked);
    }

-- a place more shows nothing
pub shows_as_before : (places : List Slot) (next k : ℕ) (link : ℕ)
    → held_at (shown (places ++ vacant_before link ∷ []) next) k ≡ held_at (shown places next) k
shows_as_before places next k link =
    ap (λ slots. get_or slots k None) (map_push held_by places (vacant_before link)) ∙ none_behind (map held_by places) k
  where
    none_behind : (slots : List (Option PlaceEntry)) (k : ℕ) → get_or (slots ++ None ∷ []) k None ≡ get_or slots k None
    none_behind [] zero = refl
    none_behind [] (suc k) = refl
    none_behind (x ∷ xs) zero = refl
    none_behind (x ∷ xs) (suc k) = none_behind xs k

-- so many places, of which the first are as they were, with the list through all that are vacant
pub record Growing (old now : List Slot) (next len at : ℕ) : Type 0 where
  pub linked : AreLinked now next len
  pub wide : length now ≡ at
  pub same : (k : ℕ) → held_at (shown now next) k ≡ held_at (shown old next) k

pub grows_first : (old : List Slot) (next len : ℕ) → AreLinked old next len → Growing old old next len (length old)
grows_first old next len are = record { linked = are; wide = refl; same = λ k. refl }

pub grows_on : (old now : List Slot) (next len at : ℕ) → Growing old now next len at → at < MOST_PLACES
    → Growing old (now ++ vacant_before (at + 1) ∷ []) next len (at + 1)
grows_on old now next len at grown few =
    subst (λ m. Growing old (now ++ vacant_before (m + 1) ∷ []) next len (m + 1)) grown.wide (record {
      linked = linked_more now next len grown.linked (omega (arith, few, grown.wide));
      wide = length_push now (vacant_before (length now + 1));
      same = λ k. shows_as_before now next k (length now + 1) ∙ grown.same k;
    })

-- ---- what the calls make of the array

-- the next place, which is k, gets a reference
pub record Fills (places : List Slot) (next len k : ℕ) (there new : Slot) (held : PlaceEntry) : Type 0 where
  pub links : AreLinked (set places k new) there.number (len + 1)
  pub shows : Updates (shown places next) (shown (set places k new) there.number) k (Some held)
  pub count : count_by is_some (map held_by (set places k new)) ≡ count_by is_some (map held_by places) + 1

fills_next : (places : List Slot) (next len : ℕ) (there new : Slot) (held : PlaceEntry) → AreLinked places next len
    → 0 < spare_in (shown places next) → there ≡ get_or places next there → held_by new ≡ Some held
    → Fills places next len next there new held
fills_next places next len there new held are spare read is =
    elim (next_cases places next len are) [
      | inl full ↦ absurd (omega (arith, spare, full.1))
      | inr some ↦
          let within = slice_get_within places next _ some.1 in
          let found : slice_get places next ≡ Some there = slice_get_read places (length places) next there refl within read in
          let number : there.number ≡ some.0 = ap number_in (sym found ∙ some.1) in
          let links = linked_filled places next len some.0 new are some.1 held is in
          record {
            links = subst (λ k. AreLinked (set places next new) k (len + 1)) (sym number) links;
            shows = subst (Updates (shown places next) (shown (set places next new) there.number) next) is
                (written places next there.number next new within);
            count = sym links.counted ∙ ap (λ m. m + 1) are.counted;
          }
    ]

pub fills : (places : List Slot) (next len k : ℕ) (there new : Slot) (held : PlaceEntry) → k ≡ next
    → AreLinked places next len → 0 < spare_in (shown places next) → there ≡ get_or places k there
    → held_by new ≡ Some held → Fills places next len k there new held
fills places next len k there new held at are spare read is =
    subst (λ j. Fills places next len j there new held) (sym at)
    (fills_next places next len there new held are spare (subst (λ j. there ≡ get_or places j there) at read) is)

-- a place that has something is one of at most 65,536
pub filled_low : (places : List Slot) (next len k : ℕ) → AreLinked places next len
    → is_some (held_at (shown places next) k) ≡ true → k < MOST_PLACES
filled_low places next len k are filled =
    let found = filled_place places next k filled in
    omega (arith, slice_get_within places k found.0 found.2, are.few)

-- a place is vacated
pub record Vacates (places : List Slot) (next len k : ℕ) : Type 0 where
  pub links : AreLinked (set places k (vacant_before next)) k (len - 1)
  pub shows : Updates (shown places next) (shown (set places k (vacant_before next)) k) k None
  pub count : count_by is_some (map held_by (set places k (vacant_before next))) + 1 ≡ count_by is_some (map held_by places)

pub vacates : (places : List Slot) (next len k : ℕ) → AreLinked places next len
    → is_some (held_at (shown places next) k) ≡ true → Vacates places next len k
vacates places next len k are filled =
    let found = filled_place places next k filled in
    record {
      links = linked_vacated places next len k found.0 are found.2 found.1 found.3;
      shows = written places next k k (vacant_before next) (slice_get_within places k found.0 found.2);
      count = omega (arith, count_as is_some places k found.0 (vacant_before next) found.2 (Some found.1) None found.3 refl);
    }

-- a place gets another reference
pub record Replaces (places : List Slot) (next len k : ℕ) (new : Slot) (held : PlaceEntry) : Type 0 where
  pub links : AreLinked (set places k new) next len
  pub shows : Updates (shown places next) (shown (set places k new) next) k (Some held)
  pub count : count_by is_some (map held_by (set places k new)) ≡ count_by is_some (map held_by places)
  pub spare : count_by is_none (map held_by (set places k new)) ≡ count_by is_none (map held_by places)

pub replaces : (places : List Slot) (next len k : ℕ) (new : Slot) (held : PlaceEntry) → AreLinked places next len
    → is_some (held_at (shown places next) k) ≡ true → held_by new ≡ Some held → Replaces places next len k new held
replaces places next len k new held are filled is =
    let found = filled_place places next k filled in
    record {
      links = linked_replaced places next len k found.0 new are found.2 found.1 held found.3 is;
      shows = subst (Updates (shown places next) (shown (set places k new) next) k) is
          (written places next next k new (slice_get_within places k found.0 found.2));
      count = omega (arith, count_as is_some places k found.0 new found.2 (Some found.1) (Some held) found.3 is);
      spare = omega (arith, count_as is_none places k found.0 new found.2 (Some found.1) (Some held) found.3 is);
    }
