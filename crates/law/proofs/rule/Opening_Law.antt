-- A table that opens with the opening world's words and the immortals' blocks keeps the rule: the run is empty.
use Rattle.std.proofs.Common.{◌≡◌, ℕ, zero, suc, ◌<◌, ◌==◌, nat_lt, not, Bool, if◌then◌else◌, ◌++◌, true, false, List}
use Rattle.std.proofs.Common.{[], ◌∷◌, map, Option, refl, sym, ◌∙◌, ap, subst, inl, inr, arith}
use Rattle.std.proofs.lemmas.Bool.{cases_lt, eqb-true, ltb-true, and_parts, or_cases, true≢false}
use mathlib.Core.Option.{some, some-injective, some-ne-none}
use lib.ListN.{get_elem?, length-map}
use Rattle.atomic_table.specs.Table.{State}
use Rattle.atomic_table.specs.Table as tables
use Rattle.brc_words.specs.declared.limits.TheConstants.{FIRST_MORTAL}
use Rattle.brc_words.specs.declared.owner.Owner.TheVariants as owners
use Rattle.law.specs.declared.world.cell.Cell.{Cell}
use Rattle.law.specs.known.Start.{start_of}
use Rattle.law.specs.world.Heap.{cell_at, is_gathered, is_registered, AreOptions}
use Rattle.law.specs.world.Holding.{lives}
use Rattle.law.proofs.world.Beginning.{free_cell, immortal_cell}
use Rattle.law.specs.declared.rule.contents.Contents.{Contents}
use Rattle.law.specs.declared.rule.told.LogItem.{LogItem}
use Rattle.law.specs.declared.rule.view.View.{View}
use Rattle.law.specs.rule.Homes.{HomeShown}
use Rattle.law.specs.rule.Rule.{stands, Fits, Kept}
use Rattle.law.specs.rule.Opening.{first_view, Opens}

-- nobody is gathered yet, and nobody stands but the root
none_gathered : (n limit u : ℕ) → is_gathered (start_of n limit) u ≡ false
none_gathered n limit zero = refl
none_gathered n limit (suc u) = refl

root_stands : (n limit t : ℕ) → stands (start_of n limit) t ≡ true → t ≡ 0
root_stands n limit t stood = elim (or_cases (t == 0) _ stood) [
  | inl root ↦ eqb-true t 0 root
  | inr thread ↦
      let number : (nat_lt 0 t ≡ true) × (nat_lt t 1 ≡ true) = and_parts (nat_lt 0 t) (nat_lt t 1)
      (and_parts (is_registered (start_of n limit) t) (not (is_gathered (start_of n limit) t)) thread).0 in
      absurd (omega (arith, ltb-true 0 t number.0, ltb-true t 1 number.1))
]

none_logged : (b : Bool) → ◌≡◌ {A = List LogItem} [] ((if b then [] else []) ++ [])
none_logged true = refl
none_logged false = refl

module _ {B : Type 0} (shows : B → ℕ × Contents) (n limit : ℕ) where
  opening_home : (words : List ℕ) (slots : List (Option B)) (c : ℕ) → AreOptions n limit
      → Opens shows n limit words slots → c < n → HomeShown shows (map some slots) (start_of n limit) [] c
  opening_home words slots c options given low = elim (cases_lt c FIRST_MORTAL) [
    | inl fixed ↦
        let is : (cell_at (start_of n limit) c).owner ≡ owners.Nobody = ap (λ (x : Cell). x.owner)
        (immortal_cell n c (omega (arith, options.enough)) fixed) in
        record {
          bare = λ free. absurd (nobody_free (sym is ∙ free));
          lies = λ live unlocked off. given.immortals c fixed;
        }
    | inr mortal ↦
        let is : (cell_at (start_of n limit) c).owner ≡ owners.Free = ap (λ (x : Cell). x.owner)
        (free_cell n c mortal) in
        record {
          bare = λ free. given.mortals c mortal low;
          lies = λ live unlocked off. absurd
              (true≢false (sym live ∙ ap lives is));
        }
  ]
    where
      nobody_free : owners.Nobody ≡ owners.Free → ⊥
      nobody_free bad = absurd (cc)

  pub opens : (words : List ℕ) (slots : List (Option B)) → AreOptions n limit → Opens shows n limit words slots
      → Kept shows n limit (tables.opening words slots first_view)
  opens words slots options given = record {
    run = [];
    seat = λ t. 0;
    options = options;
    legal = record { items = tt; moved = tt };
    wide = given.wide;
    deep = length-map slots some ∙ given.deep;
    each_word = given.each_word;
    each_home = λ c low. opening_home words slots c options given low;
    each_seat = λ j v there live. subst (λ (z : ℕ × View). Fits (start_of n limit) [] (λ t. 0) z.0 z.1)
        (λ i. (sym (only_root j v there).0 i, (only_root j v there).1 i))
        (record {
          here = refl;
          there = refl;
          log = refl;
          gathered = λ root u low out. absurd
              (true≢false (sym out ∙ none_gathered n limit u));
          lives = λ root. refl;
        });
    each_thread = λ t stood. record {
      view = first_view;
      there = refl;
      active = refl;
      thread = sym (root_stands n limit t stood);
    };
    each_once = λ t some. none_logged (stands (start_of n limit) t);
  }
    where
      only_root : (j : ℕ) (v : View) → get_elem? (first_view ∷ []) j ≡ some v → (j ≡ 0) × (first_view ≡ v)
      only_root zero v there = (refl, some-injective first_view v there)
      only_root (suc j) v there = absurd (some-ne-none v (sym there))
