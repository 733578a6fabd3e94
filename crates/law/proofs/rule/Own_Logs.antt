-- Logs of threads in runs: one more item joins its own thread's log, and no other's.
use Rattle.std.proofs.Common.{◌≡◌, ◌≢◌, ℕ, ◌==◌, ◌&&◌, ◌||◌, not, nat_lt, ◌<◌, Bool, true, false, if◌then◌else◌, List}
use Rattle.std.proofs.Common.{[], ◌∷◌, length, refl, ◌∙◌, ap, inl, inr, arith}
use Rattle.std.proofs.lemmas.Bool.{eq-eqb, ne_eqb, eqb-true, and_parts, or_cases, not-true}
use Rattle.law.specs.world.Heap.{Heap, is_registered, is_gathered}
use Rattle.law.specs.known.Items.{own, is_start, is_used, begins_with}
use Rattle.law.specs.declared.rule.told.LogItem.{LogItem}
use Rattle.law.specs.rule.Logs.{item_of, log_items, Run, items_of, begins, own_of}
use Rattle.law.specs.rule.Rule.{stands}

-- a thread's own items are its log without contents
pub own_items : (t : ℕ) (run : Run) → own t (items_of run) ≡ log_items (own_of t run)
own_items t [] = refl
own_items t (x ∷ run) = by_test (is_start t (item_of x.1)) (x.0 == t) (own_items t run)
  where
    begun : (used : Bool) → begins_with used (item_of x.1) ≡ log_items (begins used x.1)
    begun true = refl
    begun false = refl

    used : Bool
    used = is_used t (items_of run)

    by_test : (starts mine : Bool) → own t (items_of run) ≡ log_items (own_of t run)
        → (if starts then begins_with used (item_of x.1) else (if mine then item_of x.1 ∷ own t (items_of run) else own
        t (items_of run)))
        ≡ log_items (if starts then begins used x.1 else (if mine then x.1 ∷ own_of t run else own_of t run))
    by_test true mine before = begun used
    by_test false true before = ap (λ log. item_of x.1 ∷ log) before
    by_test false false before = before

pub own_more : (t : ℕ) (x : LogItem) (run : Run) → is_start t (item_of x) ≡ false
    → own_of t ((t, x) ∷ run) ≡ x ∷ own_of t run
own_more t x run older = ap (λ b. if b then begins (is_used t (items_of run)) x else (if t == t then x ∷ own_of t run else own_of t run)) older
    ∙ ap (λ b. if b then x ∷ own_of t run else own_of t run) (eq-eqb t t refl)

pub own_same : (t u : ℕ) (x : LogItem) (run : Run) → is_start u (item_of x) ≡ false → t ≢ u
    → own_of u ((t, x) ∷ run) ≡ own_of u run
own_same t u x run older other = ap (λ b. if b then begins (is_used u (items_of run)) x else (if t == u then x ∷ own_of u run else own_of u run)) older
    ∙ ap (λ b. if b then x ∷ own_of u run else own_of u run) (ne_eqb t u other)

-- who stands isn't gathered
pub stands_ungathered : (h : Heap) (t : ℕ) → stands h t ≡ true → 0 < t → is_gathered h t ≡ false
stands_ungathered h t is some_thread = elim (or_cases (t == 0) _ is) [
  | inl root ↦ absurd (omega (arith, some_thread, eqb-true t 0 root))
  | inr thread ↦ not-true _ (and_parts _ _ thread).1
]

pub stands_registered : (h : Heap) (t : ℕ) → stands h t ≡ true → 0 < t → is_registered h t ≡ true
stands_registered h t is some_thread = elim (or_cases (t == 0) _ is) [
  | inl root ↦ absurd (omega (arith, some_thread, eqb-true t 0 root))
  | inr thread ↦ (and_parts _ _ thread).0
]

-- as many threads are registered, and the same are gathered
pub record SameThreads (h new : Heap) : Type 0 where
  pub rows : length new.rows ≡ length h.rows
  pub gathered : new.gathered ≡ h.gathered

pub same_stands : (h new : Heap) (t : ℕ) → SameThreads h new → stands new t ≡ stands h t
same_stands h new t same =
    ap (λ m. (t == 0) || (nat_lt 0 t && nat_lt t m && not (is_gathered new t))) same.rows
    ∙ ap (λ (marks : List Bool). (t == 0) ||
    (is_registered h t && not (Rattle.std.specs.Prelude.slice_index_or marks t false))) same.gathered

pub same_gathered : (h new : Heap) (t : ℕ) → SameThreads h new → is_gathered new t ≡ is_gathered h t
same_gathered h new t same = ap (λ (marks : List Bool). Rattle.std.specs.Prelude.slice_index_or marks t false)
    same.gathered
