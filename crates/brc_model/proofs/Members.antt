-- What passes a test stands in the list.
use Rattle.std.proofs.Common.{◌≡◌, ℕ, suc, zero, Bool, true, false, Option, Some, None, List, [], ◌∷◌, refl, ap}
use Rattle.std.proofs.Common.{slice_get}
use Rattle.std.specs.Prelude.{◌==◌, ◌||◌}
use Rattle.std.specs.List.{list_any, cons_option}
use Rattle.std.proofs.lemmas.Bool.{or_left, or_right, eqb-true, eq-eqb}
use Rattle.brc_model.specs.declared.fact.Fact.{Fact}
use Rattle.brc_model.specs.Holders.{is_number}
use Rattle.brc_model.specs.Facts.{entry_in, entries_in}

-- an item that passes the test, so that the list passes each test that the item does
pub record Member {X : Type 0} (p : X → Bool) (xs : List X) : Type 0 where
  pub item : X
  pub passes : p item ≡ true
  pub stands : (q : X → Bool) → q item ≡ true → list_any q xs ≡ true

pub Member-from_any : {X : Type 0} (p : X → Bool) (xs : List X) → list_any p xs ≡ true → Member p xs
Member-from_any p [] e = cc
Member-from_any p (x ∷ xs) e =
    elim (p x) as (λ t. p x ≡ t → Member p (x ∷ xs)) [
      | true ↦ (λ h. record { item = x; passes = h; stands = λ q k. or_left (q x) (list_any q xs) k })
      | false ↦ (λ h.
          let rest : list_any p xs ≡ true = rw h at e in
          let m = Member-from_any p xs rest in
          record { item = m.item; passes = m.passes; stands = λ q k. or_right (q x) (list_any q xs) (m.stands q k) })
    ] refl

pub list_any-implied : {X : Type 0} (p q : X → Bool) → ((x : X) → p x ≡ true → q x ≡ true) → (xs : List X)
    → list_any p xs ≡ true → list_any q xs ≡ true
list_any-implied p q h xs e = let m = Member-from_any p xs e in m.stands q (h m.item m.passes)

pub is_number-true : (o : Option ℕ) (n : ℕ) → is_number o n ≡ true → o ≡ Some n
is_number-true None n e = cc
is_number-true (Some m) n e = ap Some (eqb-true m n e)

pub is_number-from : (o : Option ℕ) (n : ℕ) → o ≡ Some n → is_number o n ≡ true
is_number-from o n e = rw e (eq-eqb n n refl)

-- a fact that gives the entry stands for one of the cell's entries
pub entry_from_any : (facts : List Fact) (cell c : ℕ) → list_any (λ f. is_number (entry_in cell f) c) facts ≡ true
    → (i : ℕ) × (is_number (slice_get (entries_in facts cell) i) c ≡ true)
entry_from_any [] cell c e = cc
entry_from_any (x ∷ xs) cell c e =
    elim (entry_in cell x) as (λ o. entry_in cell x ≡ o
    → (i : ℕ) × (is_number (slice_get (cons_option o (entries_in xs cell)) i) c ≡ true)) [
      | None ↦ (λ h. let rest : list_any (λ f. is_number (entry_in cell f) c) xs ≡ true = rw h at e in
          entry_from_any xs cell c rest)
      | Some y ↦ (λ h.
          elim (y == c) as (λ t. (y == c) ≡ t → (i : ℕ) × (is_number (slice_get (y ∷ entries_in xs cell) i) c ≡ true)) [
            | true ↦ (λ k. (0, k))
            | false ↦ (λ k.
                let rest : list_any (λ f. is_number (entry_in cell f) c) xs ≡ true = rw (h, k) at e in
                let found = entry_from_any xs cell c rest in (suc found.0, found.1))
          ] refl)
    ] refl

-- and each entry is given by such a fact
pub any_from_entry : (facts : List Fact) (cell c i : ℕ) → is_number (slice_get (entries_in facts cell) i) c ≡ true
    → list_any (λ f. is_number (entry_in cell f) c) facts ≡ true
any_from_entry [] cell c i e = cc
any_from_entry (x ∷ xs) cell c zero e =
    let rest = list_any (λ f. is_number (entry_in cell f) c) xs in
    elim (entry_in cell x) as (λ o. is_number (slice_get (cons_option o (entries_in xs cell)) zero) c ≡ true
    → (is_number o c || rest) ≡ true) [
      | None ↦ (λ h. any_from_entry xs cell c zero h)
      | Some y ↦ (λ h. or_left (y == c) rest h)
    ] e
any_from_entry (x ∷ xs) cell c (suc i) e =
    let rest = list_any (λ f. is_number (entry_in cell f) c) xs in
    elim (entry_in cell x) as (λ o. is_number (slice_get (cons_option o (entries_in xs cell)) (suc i)) c ≡ true
    → (is_number o c || rest) ≡ true) [
      | None ↦ (λ h. any_from_entry xs cell c (suc i) h)
      | Some y ↦ (λ h. or_right (y == c) rest (any_from_entry xs cell c i h))
    ] e
