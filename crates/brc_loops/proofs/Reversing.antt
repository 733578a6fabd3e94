-- The last element of a list goes, and what stands for it comes behind all others of another list; and so on.
use Rattle.std.proofs.Common.{◌≡◌, ◌⊎◌, inl, inr, ◌<◌, ◌≤◌, ◌+◌, ◌++◌, ℕ, List, [], ◌∷◌, length, get_or, length-append, arith, sym, ◌∙◌, ap, subst, refl}
use Rattle.std.proofs.Math.Seq.{get_or-append_seam}
use Rattle.std.proofs.lemmas.Bool.{cases_lt}
use Rattle.std.proofs.lemmas.List.{get_or_append_left}
use Rattle.brc_loops.specs.Errands.{InReverse}

less_than_none : (j n : ℕ) → n ≡ 0 → j < n → ⊥
less_than_none j n none less = omega arith

sum_of_none : (m n whole : ℕ) → n ≡ 0 → m ≡ whole → m + n ≡ whole
sum_of_none m n whole none same = omega arith

sum_with_none : (m n whole : ℕ) → m ≡ 0 → m + n ≡ whole → n ≡ whole
sum_with_none m n whole none sum = omega arith

other_below : (i j m n whole : ℕ) → m ≡ 0 → m + n ≡ whole → i + j + 1 ≡ whole → j < n
other_below i j m n whole none sum at = omega arith

sum_moved : (m m' n n' whole : ℕ) → m ≡ m' + 1 → n' ≡ n + 1 → m + n ≡ whole → m' + n' ≡ whole
sum_moved m m' n n' whole gone more sum = omega arith

below_more : (i m m' : ℕ) → m ≡ m' + 1 → i < m' → i < m
below_more i m m' gone less = omega arith

last_below : (i m m' : ℕ) → m ≡ m' + 1 → i ≡ m' → i < m
last_below i m m' gone at = omega arith

is_last : (j n n' : ℕ) → n' ≡ n + 1 → j < n' → n ≤ j → j ≡ n
is_last j n n' more less last = omega arith

faces_last : (i j m m' n whole : ℕ) → m ≡ m' + 1 → m + n ≡ whole → j ≡ n → i + j + 1 ≡ whole → i ≡ m'
faces_last i j m m' n whole gone sum last at = omega arith

module _ {S T : Type 0} (Is : S → T → Type 0) (whole : List S) where
  -- how far it has come: what is left is the front of the whole, and the rest is placed
  pub record Reversing (left : List S) (placed : List T) : Type 0 where
    pub len : length left + length placed ≡ length whole
    pub same : (i : ℕ) (one : S) → i < length left → get_or left i one ≡ get_or whole i one
    pub each : (i j : ℕ) (one : S) (other : T) → j < length placed → i + j + 1 ≡ length whole
        → Is (get_or whole i one) (get_or placed j other)

  pub reversing_none : (placed : List T) → placed ≡ [] → Reversing whole placed
  reversing_none placed none = record {
    len = sum_of_none _ _ _ (ap length none) refl;
    same = λ i one less. refl;
    each = λ i j one other less at. absurd (less_than_none j _ (ap length none) less);
  }

  pub reversing_done : (left : List S) (placed : List T) → length left ≡ 0 → Reversing left placed
      → InReverse Is whole placed
  reversing_done left placed none so = record {
    len = sum_with_none _ _ _ none so.len;
    each = λ i j one other at. so.each i j one other (other_below i j _ _ _ none so.len at) at;
  }

  module _ (left next : List S) (x : S) (placed after : List T) (y : T) (gone : left ≡ next ++ x ∷ [])
      (more : after ≡ placed ++ y ∷ []) (is : Is x y) (so : Reversing left placed) where
    shorter : length left ≡ length next + 1
    shorter = ap length gone ∙ length-append next (x ∷ [])

    longer : length after ≡ length placed + 1
    longer = ap length more ∙ length-append placed (y ∷ [])

    still : (i : ℕ) (one : S) → i < length next → get_or next i one ≡ get_or whole i one
    still i one less =
        sym (get_or_append_left next (x ∷ []) one i less) ∙ ap (λ l. get_or l i one) (sym gone)
        ∙ so.same i one (below_more i _ _ shorter less)

    last_of : (i : ℕ) (one : S) → i ≡ length next → get_or whole i one ≡ x
    last_of i one at =
        sym (so.same i one (last_below i _ _ shorter at)) ∙ ap (λ l. get_or l i one) gone
        ∙ ap (λ k. get_or (next ++ x ∷ []) k one) at ∙ get_or-append_seam next x [] one

    placed_last : (j : ℕ) (other : T) → j ≡ length placed → get_or after j other ≡ y
    placed_last j other at =
        ap (λ l. get_or l j other) more ∙ ap (λ k. get_or (placed ++ y ∷ []) k other) at
        ∙ get_or-append_seam placed y [] other

    placed_before : (j : ℕ) (other : T) → j < length placed → get_or after j other ≡ get_or placed j other
    placed_before j other before = ap (λ l. get_or l j other) more ∙ get_or_append_left placed (y ∷ []) other j before

    each_by : (i j : ℕ) (one : S) (other : T) → (j < length placed) ⊎ (length placed ≤ j) → j < length after
        → i + j + 1 ≡ length whole → Is (get_or whole i one) (get_or after j other)
    each_by i j one other (inl before) less at =
        subst (λ t. Is (get_or whole i one) t) (sym (placed_before j other before)) (so.each i j one other before at)
    each_by i j one other (inr last) less at =
        let here : j ≡ length placed = is_last j _ _ longer less last in
        subst (λ t. Is (get_or whole i one) t) (sym (placed_last j other here))
        (subst (λ s. Is s y) (sym (last_of i one (faces_last i j _ _ _ _ shorter so.len here at))) is)

    pub reversing_more : Reversing next after
    reversing_more = record {
      len = sum_moved _ _ _ _ _ shorter longer so.len;
      same = still;
      each = λ i j one other less at. each_by i j one other (cases_lt j (length placed)) less at;
    }
