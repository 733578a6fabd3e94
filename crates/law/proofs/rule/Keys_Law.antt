-- No key of a dictionary stands twice: each unlocking leaves the keys as they were put home last, or one fewer, or one
-- more that wasn't there.
use Rattle.std.proofs.Common.{◌≡◌, ◌≢◌, ℕ, ◌<◌, ◌≤◌, ◌==◌, Bool, true, false, if◌then◌else◌, pos, ◌-ℤ◌, zero, suc, List}
use Rattle.std.proofs.Common.{[], ◌∷◌, length, remove, AllPairs, Option, Some, refl, sym, ◌∙◌, ap, subst, inl, inr}
use Rattle.std.proofs.Common.{arith}
use Rattle.std.proofs.lemmas.Bool.{cases_eq, cases_lt, eq-eqb, ne_eqb, true≢false}
use Rattle.std.proofs.lemmas.List.Quantifiers.{all_pairs_push, all_pairs_remove}
use mathlib.Core.Option.{some}
use lib.ListN.{get_elem?}
use Rattle.atomic_table.specs.Table.{State}
use Rattle.brc_words.specs.declared.limits.TheConstants.{GLOBALS}
use Rattle.law.specs.declared.world.event.Change.{Change}
use Rattle.law.specs.declared.world.event.Change.TheVariants as changes
use Rattle.law.specs.declared.world.event.Step.{Step}
use Rattle.law.specs.declared.world.event.Step.TheVariants.{Lock, Unlock, Register}
use Rattle.law.specs.world.Heap.{cell_at}
use Rattle.law.specs.known.Items.{is_start, is_used}
use Rattle.law.specs.declared.rule.contents.PlainKey.{PlainKey}
use Rattle.law.specs.declared.rule.contents.Contents.{Contents}
use Rattle.law.specs.declared.rule.contents.Contents.TheVariants.{Nothing, Truth, Int, Dict}
use Rattle.law.specs.declared.rule.told.Moved.TheVariants as moves
use Rattle.law.specs.declared.rule.told.LogItem.{LogItem}
use Rattle.law.specs.declared.rule.told.LogItem.TheVariants.{Stepped, Loaded, Lost}
use Rattle.law.specs.declared.rule.view.View.{View}
use Rattle.law.specs.rule.Keys.{keys_in, HasDistinctKeys, KeyPut, KeysGo, KeysAfter}
use Rattle.law.specs.rule.Logs.{entries_in, item_of, Run, items_of, begins, own_of, contents_at, world, AreMoved, IsLegal}
use Rattle.law.specs.rule.Seen.{contents_on, contents_locked}
use Rattle.law.specs.rule.Homes.{AtRest, LiesThere}
use Rattle.law.specs.rule.Rule.{Kept}

-- ---- lists of keys

AreDistinct : List PlainKey → Type 0
AreDistinct keys = AllPairs (λ first later. first ≢ later) keys

none_distinct : AreDistinct []
unfolding AreDistinct
none_distinct i j d below inside = absurd (omega (arith, inside))

remove_past : (keys : List PlainKey) (i : ℕ) → length keys ≤ i → remove keys i ≡ keys
remove_past [] zero past = refl
remove_past [] (suc i) past = refl
remove_past (key ∷ keys) zero past = absurd (omega (arith, past))
remove_past (key ∷ keys) (suc i) past = ap (λ ks. key ∷ ks) (remove_past keys i (omega (arith, past)))

less_distinct : (keys : List PlainKey) (i : ℕ) → AreDistinct keys → AreDistinct (remove keys i)
unfolding AreDistinct
less_distinct keys i distinct = elim (cases_lt i (length keys)) [
  | inl inside ↦ all_pairs_remove (λ first later. first ≢ later) keys i inside distinct
  | inr past ↦ subst (AllPairs (λ first later. first ≢ later)) (sym (remove_past keys i past)) distinct
]

-- an object without entries has no keys
pub bare_keys : (contents : Contents) → entries_in contents ≡ [] → keys_in contents ≡ []
bare_keys (Dict []) bare = refl
bare_keys (Dict (pair ∷ pairs)) bare = absurd (cc)
bare_keys _ bare = refl

-- ---- one step

put_distinct : (found home : Contents) → KeyPut found home → HasDistinctKeys found → HasDistinctKeys home
unfolding AreDistinct
put_distinct (Dict pairs) home more distinct =
    subst (AllPairs (λ first later. first ≢ later)) (sym more.last)
    (all_pairs_push (λ first later. first ≢ later) (keys_in (Dict pairs)) more.key distinct more.absent)
put_distinct _ home none distinct = subst (AllPairs (λ first later. first ≢ later)) (sym none) none_distinct

change_distinct : (change : Change) (found home : Contents) → KeysGo change found home → HasDistinctKeys found
    → HasDistinctKeys home
unfolding AreDistinct
change_distinct changes.Keep found home same distinct = subst (AllPairs (λ first later. first ≢ later))
    (sym same) distinct
change_distinct (changes.Put j) found home more distinct = put_distinct found home more distinct
change_distinct (changes.Take i j) found home less distinct =
    subst (AllPairs (λ first later. first ≢ later)) (sym less) (less_distinct (keys_in found) i distinct)
change_distinct (changes.Swap i j) found home same distinct = subst (AllPairs (λ first later. first ≢ later))
    (sym same) distinct

step_distinct : (s : Step) (found home : Contents) → KeysAfter s found home → HasDistinctKeys found
    → HasDistinctKeys home
unfolding AreDistinct
step_distinct (Unlock change) found home goes distinct = change_distinct change found home goes distinct
step_distinct _ found home none distinct = subst (AllPairs (λ first later. first ≢ later)) (sym none) none_distinct

-- ---- over runs

opening_distinct : (zero one two globals : Bool) (c : ℕ)
    → HasDistinctKeys (if zero then Nothing
    else (if one then Truth false else (if two then Truth true else (if globals then Dict [] else Int
    (pos c -ℤ pos 8)))))
unfolding AreDistinct
opening_distinct true one two globals c = none_distinct
opening_distinct false true two globals c = none_distinct
opening_distinct false false true globals c = none_distinct
opening_distinct false false false true c = none_distinct
opening_distinct false false false false c = none_distinct

module _ (n limit : ℕ) where
  at_home : (run : Run) (c : ℕ) → AreMoved n limit run → HasDistinctKeys (contents_at run c)
  at_home [] c moved = opening_distinct (c == 0) (c == 1) (c == 2) (c == GLOBALS) c
  at_home ((t, Stepped s number moves.Nothing) ∷ run) c moved = at_home run c moved.0
  at_home ((t, Stepped s number (moves.Found d contents)) ∷ run) c moved = at_home run c moved.0
  at_home ((t, Stepped s number (moves.Put d contents)) ∷ run) c moved = elim (cases_eq d c) [
    | inl same ↦ subst HasDistinctKeys (sym (ap (λ b. if b then contents else contents_at run c) (eq-eqb d c same)))
        (step_distinct s (contents_at run d) contents moved.1.keys (at_home run d moved.0))
    | inr other ↦ subst HasDistinctKeys (sym (ap (λ b. if b then contents else contents_at run c) (ne_eqb d c other)))
        (at_home run c moved.0)
  ]
  at_home ((t, Loaded word number) ∷ run) c moved = at_home run c moved.0
  at_home ((t, Lost word number) ∷ run) c moved = at_home run c moved.0

  -- what was put home last in any cell
  pub keys_at_home : (run : Run) (c : ℕ) → IsLegal n limit run → HasDistinctKeys (contents_at run c)
  keys_at_home run c legal = at_home run c legal.moved

  -- what a thread's newest locking found
  found_on : (run : Run) (t : ℕ) (x : LogItem) (before : Option Contents) (p : Contents)
      → AreMoved n limit ((t, x) ∷ run)
      → (before ≡ Some p → HasDistinctKeys p) → contents_on x before ≡ Some p → HasDistinctKeys p
  found_on run t (Stepped (Lock k) number (moves.Found c contents)) before p moved older is =
      subst HasDistinctKeys (sym moved.1.there ∙ some_same contents p is) (at_home run c moved.0)
    where
      some_same : (a b : Contents) → Some a ≡ Some b → a ≡ b
      some_same a b e = cc
  found_on run t (Stepped (Unlock change) number put) before p moved older is = absurd (cc)
  found_on run t _ before p moved older is = older is

  found_in : (run : Run) (t : ℕ) (p : Contents) → AreMoved n limit run → contents_locked (own_of t run) ≡ Some p
      → HasDistinctKeys p
  found_in [] t p moved is = absurd (cc)
  found_in (x ∷ run) t p moved is =
      by_test (is_start t (item_of x.1)) (x.0 == t) refl (found_in run t p moved.0) is
    where
      -- the root's item locks nothing
      none_locked : (x : LogItem) (used : Bool) → is_start t (item_of x) ≡ true
          → contents_locked (begins used x) ≡ Some p
          → ⊥
      none_locked x false starts is = absurd (cc)
      none_locked (Stepped (Register u) number moved) true starts is = absurd (cc)
      none_locked (Stepped _ number moved) true starts is = absurd (true≢false (sym starts))
      none_locked (Loaded word number) true starts is = absurd (true≢false (sym starts))
      none_locked (Lost word number) true starts is = absurd (true≢false (sym starts))

      by_test : (starts mine : Bool) → is_start t (item_of x.1) ≡ starts → (contents_locked (own_of t run) ≡ Some p → HasDistinctKeys p)
          → contents_locked (if starts then begins (is_used t (items_of run)) x.1 else (if mine then x.1 ∷ own_of t run else own_of t run)) ≡ Some p
          → HasDistinctKeys p
      by_test true mine first older is = absurd (none_locked x.1 (is_used t (items_of run)) first is)
      by_test false true first older is = found_on run x.0 x.1 (contents_locked (own_of t run)) p moved older is
      by_test false false first older is = older is

  pub keys_found : (run : Run) (t : ℕ) (p : Contents) → IsLegal n limit run → contents_locked (own_of t run) ≡ Some p
      → HasDistinctKeys p
  keys_found run t p legal is = found_in run t p legal.moved is

  -- what an unlocking puts home has the keys that its change leaves
  pub keys_unlocked : (run : Run) (t : ℕ) (change : Change) (number c : ℕ) (p : Contents)
      → IsLegal n limit ((t, Stepped (Unlock change) number (moves.Put c p)) ∷ run)
      → KeysGo change (contents_at run c) p
  keys_unlocked run t change number c p legal = legal.moved.1.keys

-- ---- in a table that keeps the rule

module _ {B : Type 0} (shows : B → ℕ × Contents) (n limit : ℕ) where
  same_block : (a b : B) → some (some (Some a)) ≡ some (some (Some b)) → a ≡ b
  same_block a b e = cc

  -- what lies at home of an unlocked object
  pub keys_of_block : (st : State (Option B) View) (r : Kept shows n limit st) (c : ℕ) (block : B) → c < n
      → AtRest (world n limit r.run) c
      → (cell_at (world n limit r.run) c).mutex ≡ 0 → get_elem? st.homes c ≡ some (some (Some block))
      → HasDistinctKeys (shows block).1
  keys_of_block st r c block low rest unlocked there =
      let lies : LiesThere shows st.homes c (contents_at r.run c) =
      (r.each_home c low).lies rest.live unlocked rest.off in
      subst (λ b. HasDistinctKeys (shows b).1) (same_block lies.block block (sym lies.there ∙ there))
      (subst HasDistinctKeys (sym lies.holds) (keys_at_home n limit r.run c r.legal))

  -- what a seat's locking found
  pub keys_of_seat : (st : State (Option B) View) (r : Kept shows n limit st) (j : ℕ) (v : View) (p : Contents)
      → get_elem? st.views j ≡ some v
      → v.active ≡ true → contents_locked v.log ≡ Some p → HasDistinctKeys p
  keys_of_seat st r j v p at active found =
      keys_found n limit r.run v.thread p r.legal (ap contents_locked (r.each_seat j v at active).log ∙ found)
