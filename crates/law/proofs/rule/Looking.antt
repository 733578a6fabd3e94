-- A look at any word of the table keeps the rule: a note joins the seat's log, and nothing else changes.
use Rattle.std.proofs.Common.{◌≡◌, ℕ, true, List, set, get_or, Option, refl, sym, subst}
use lib.Seq.{set-get_or}
use mathlib.Core.Option.{some}
use lib.ListN.{get_elem?}
use Rattle.atomic_table.specs.Table.{State, Allows, keeps}
use Rattle.law.specs.declared.known.word.Word.{Word}
use Rattle.law.specs.known.Items.{IsWord}
use Rattle.law.specs.declared.rule.contents.Contents.{Contents}
use Rattle.law.specs.declared.rule.told.LogItem.{LogItem}
use Rattle.law.specs.declared.rule.told.LogItem.TheVariants.{Loaded, Lost}
use Rattle.law.specs.declared.rule.view.View.{View}
use Rattle.law.specs.rule.Layout.{spot}
use Rattle.law.specs.rule.Logs.{world}
use Rattle.law.specs.rule.Rule.{with_told, Kept}
use Rattle.law.proofs.rule.Growing.{grows}
use Rattle.law.proofs.rule.Homing.{unchanged, home_stays}

module _ {B : Type 0} (shows : B → ℕ × Contents) (n limit : ℕ) where
  abbrev Table : Type 0
  Table = State (Option B) View

  abbrev Rule : Table → Type 0
  Rule = Kept shows n limit

  -- whether the look was a load or a lost compare-exchange
  pub data Looks (w : Word) (number : ℕ) : LogItem → Type 0 where
    saw : Looks w number (Loaded w number)
    lost : Looks w number (Lost w number)

  noted : (s : Table) (r : Rule s) (id : ℕ) (v : View) (w : Word) (x : LogItem) → get_elem? s.views id ≡ some v
      → v.active ≡ true → IsWord n w
      → Looks w (get_or s.words (spot n w) 0) x
      → Rule (record { words = s.words; homes = s.homes; views = set s.views id (with_told x v) })
  noted s r id v w _ at active is saw = grows shows n limit s r id v (Loaded w (get_or s.words (spot n w) 0)) s.words
      s.homes at active
      (record { threads = record { rows = refl; gathered = refl }; starts = λ u. refl; gathers = refl })
      (r.each_word w is) tt
      (record {
        wide = r.wide;
        deep = r.deep;
        each_word = r.each_word;
        each_home = λ c low. home_stays shows s.homes
            (world n limit r.run) (world n limit r.run) r.run _ c (unchanged (world n limit r.run) c) refl
            (r.each_home c low);
      })
  noted s r id v w _ at active is lost = grows shows n limit s r id v (Lost w (get_or s.words (spot n w) 0)) s.words
      s.homes at active
      (record { threads = record { rows = refl; gathered = refl }; starts = λ u. refl; gathers = refl })
      (r.each_word w is) tt
      (record {
        wide = r.wide;
        deep = r.deep;
        each_word = r.each_word;
        each_home = λ c low. home_stays shows s.homes
            (world n limit r.run) (world n limit r.run) r.run _ c (unchanged (world n limit r.run) c) refl
            (r.each_home c low);
      })

  -- the word is written with what it had
  pub unmoved : (s : Table) (r : Rule s) (id : ℕ) (v : View) (w : Word) (x : LogItem) → get_elem? s.views id ≡ some v
      → v.active ≡ true → IsWord n w
      → Looks w (get_or s.words (spot n w) 0) x
      → Rule (record {
        words = set s.words (spot n w) (get_or s.words (spot n w) 0);
        homes = s.homes;
        views = set s.views id (with_told x v);
      })
  unmoved s r id v w x at active is looks =
      subst (λ (words : List ℕ). Rule
      (record { words = words; homes = s.homes; views = set s.views id (with_told x v) }))
      (sym (set-get_or s.words (spot n w) 0))
      (noted s r id v w x at active is looks)

  -- a load of any word of the table
  pub looks : (id : ℕ) (v : View) (slots : List (ℕ × Option B)) (w : Word) → v.active ≡ true → IsWord n w
      → Allows Rule n id (v, slots) (spot n w) (λ number. number)
      (λ number me. me ≡ (with_told (Loaded w number) v, slots))
  looks id v slots w active is s r deep at small = (
    with_told (Loaded w (get_or s.words (spot n w) 0)) v,
    keeps,
    tt,
    unmoved s r id v w (Loaded w (get_or s.words (spot n w) 0)) at active is saw,
    refl,
  )
