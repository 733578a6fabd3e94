-- One more item of a seat keeps the rule, where words and homes show the world after it. Seats are dealt with here,
-- once.
use Rattle.std.proofs.Common.{◌≡◌, ◌≢◌, ℕ, suc, ◌<◌, true, false, List, [], ◌∷◌, length, set, get_or, Option, Some}
use Rattle.std.proofs.Common.{None, refl, sym, ◌∙◌, ap, subst, inl, inr, ⊎_elim, arith, length-set}
use Rattle.std.proofs.lemmas.Bool.{cases_eq}
use mathlib.Core.Option.{some, some-injective, some-ne-none}
use lib.ListN.{get_elem?}
use Rattle.atomic_table.specs.Table.{State}
use Rattle.atomic_table.proofs.Lists.{at_set, set_here, set_else}
use Rattle.law.specs.world.Heap.{Heap, is_gathered}
use Rattle.law.specs.declared.known.word.Word.{Word}
use Rattle.law.specs.known.Items.{IsWord, WordShows, MayCome, is_start}
use Rattle.law.specs.declared.rule.contents.Contents.{Contents}
use Rattle.law.specs.declared.rule.told.LogItem.{LogItem}
use Rattle.law.specs.declared.rule.view.View.{View}
use Rattle.law.specs.rule.Layout.{spot, extent}
use Rattle.law.specs.rule.Logs.{item_of, Run, gathered_by, lives_on, lives_of, world, IsMoved}
use Rattle.law.specs.rule.Homes.{Homes, HomeShown}
use Rattle.law.specs.rule.Rule.{stands, with_told, Fits, Seated, Kept}
use Rattle.law.proofs.rule.Once.{once_calm}
use Rattle.law.proofs.rule.Own_Logs.{own_more, own_same, stands_ungathered, SameThreads, same_stands, same_gathered}

pub at_inside : {A : Type 0} (l : List A) (i : ℕ) (a : A) → get_elem? l i ≡ some a → i < length l
at_inside [] i a at = absurd (some-ne-none a (sym at))
at_inside (x ∷ xs) Rattle.std.proofs.Common.zero a at = omega arith
at_inside (x ∷ xs) (suc i) a at = omega (arith, at_inside xs i a at)

-- the item neither registers nor gathers a thread
pub record IsCalm (h new : Heap) (x : LogItem) : Type 0 where
  pub threads : SameThreads h new
  pub starts : (u : ℕ) → is_start u (item_of x) ≡ false
  pub gathers : gathered_by x ≡ None

same_lives : (t : ℕ) (x : LogItem) (run : Run) → gathered_by x ≡ None → lives_of ((t, x) ∷ run) ≡ lives_of run
same_lives t x run none = ap (λ o. lives_on o run (lives_of run)) none

module _ {B : Type 0} (shows : B → ℕ × Contents) (n limit : ℕ) where
  abbrev pub Table : Type 0
  Table = State (Option B) View

  abbrev pub Rule : Table → Type 0
  Rule = Kept shows n limit

  -- what words and homes show after the item
  pub record Showing (words : List ℕ) (homes : Homes B) (run : Run) : Type 0 where
    pub wide : length words ≡ extent n
    pub deep : length homes ≡ n
    pub each_word : (w : Word) → IsWord n w → WordShows (world n limit run) w (get_or words (spot n w) 0)
    pub each_home : (c : ℕ) → c < n → HomeShown shows homes (world n limit run) run c

  -- the view of another seat, or of this one with one more item
  other_fits : (run : Run) (seat : ℕ → ℕ) (t j : ℕ) (u : View) (x : LogItem)
      → IsCalm (world n limit run) (world n limit ((t, x) ∷ run)) x
      → stands (world n limit run) t ≡ true → seat t ≢ j → Fits (world n limit run) run seat j u
      → Fits (world n limit ((t, x) ∷ run)) ((t, x) ∷ run) seat j u
  other_fits run seat t j u x calm stood apart fits = record {
    here = fits.here;
    there = same_stands (world n limit run) (world n limit ((t, x) ∷ run)) u.thread calm.threads ∙ fits.there;
    log = own_same t u.thread x run (calm.starts u.thread) (λ e. apart (ap seat e ∙ fits.here)) ∙ fits.log;
    gathered = λ root w some_thread left. fits.gathered root w some_thread
        (sym (same_gathered (world n limit run) (world n limit ((t, x) ∷ run)) w calm.threads) ∙ left)
        ∙ ap Some (sym (own_same t w x run (calm.starts w)
        (λ e. gathered_else run seat t w x calm stood some_thread left e)));
    lives = λ root. fits.lives root ∙ sym (same_lives t x run calm.gathers);
  }
    where
      gathered_else : (run : Run) (seat : ℕ → ℕ) (t w : ℕ) (x : LogItem)
          → IsCalm (world n limit run) (world n limit ((t, x) ∷ run)) x → stands (world n limit run) t ≡ true
          → 0 < w → is_gathered (world n limit ((t, x) ∷ run)) w ≡ true → t ≢ w
      gathered_else run seat t w x calm stood some_thread left e =
          Rattle.std.proofs.lemmas.Bool.true≢false
          (sym (sym (same_gathered (world n limit run) (world n limit ((t, x) ∷ run)) w calm.threads) ∙ left)
          ∙ stands_ungathered (world n limit run) w (subst (λ u. stands (world n limit run) u ≡ true) e stood)
          some_thread)

  pub grows : (s : Table) (r : Rule s) (id : ℕ) (v : View) (x : LogItem) (words : List ℕ) (homes : Homes B)
      → get_elem? s.views id ≡ some v → v.active ≡ true
      → IsCalm (world n limit r.run) (world n limit ((v.thread, x) ∷ r.run)) x
      → MayCome (world n limit r.run) v.thread (item_of x) → IsMoved (world n limit r.run) r.run v.thread x
      → Showing words homes ((v.thread, x) ∷ r.run)
      → Rule (record { words = words; homes = homes; views = set s.views id (with_told x v) })
  grows s r id v x words homes at active calm comes moved showing =
      let t : ℕ = v.thread in
      let old : Heap = world n limit r.run in
      let new : Heap = world n limit ((t, x) ∷ r.run) in
      let mine : Fits old r.run r.seat id v = r.each_seat id v at active in
      record {
        run = (t, x) ∷ r.run;
        seat = r.seat;
        options = r.options;
        legal = record { items = (r.legal.items, comes); moved = (r.legal.moved, moved) };
        wide = showing.wide;
        deep = showing.deep;
        each_word = showing.each_word;
        each_home = showing.each_home;
        each_seat = λ j u there live. ⊎_elim
            (λ (e : (j ≡ id) × (with_told x v ≡ u)). subst (λ (z : ℕ × View). Fits new ((t, x) ∷ r.run) r.seat z.0 z.1)
            (λ i. (sym e.0 i, e.1 i)) (own_fits r.run r.seat id v x calm mine))
            (λ (e : (j ≢ id) × (get_elem? s.views j ≡ some u)). other_fits r.run r.seat t j u x calm mine.there
            (λ same. e.0 (sym same ∙ mine.here)) (r.each_seat j u e.1 live))
            (at_set s.views id j (with_told x v) u there);
        each_thread = λ u there. seated_still r.seat s.views id v x u at active
            (r.each_thread u (sym (same_stands old new u calm.threads) ∙ there));
        each_once = λ u some. once_calm old new r.run t u x (calm.starts u) calm.gathers mine.there
            (same_stands old new u calm.threads) (r.each_once u some);
      }
    where
      own_fits : (run : Run) (seat : ℕ → ℕ) (j : ℕ) (v : View) (x : LogItem)
          → IsCalm (world n limit run) (world n limit ((v.thread, x) ∷ run)) x
          → Fits (world n limit run) run seat j v → Fits (world n limit ((v.thread, x) ∷ run))
          ((v.thread, x) ∷ run) seat j (with_told x v)
      own_fits run seat j v x calm fits = record {
        here = fits.here;
        there = same_stands (world n limit run) (world n limit ((v.thread, x) ∷ run)) v.thread calm.threads
            ∙ fits.there;
        log = own_more v.thread x run (calm.starts v.thread) ∙ ap (λ log. x ∷ log) fits.log;
        gathered = λ root w some_thread left. fits.gathered root w some_thread
            (sym (same_gathered (world n limit run) (world n limit ((v.thread, x) ∷ run)) w calm.threads) ∙ left)
            ∙ ap Some (sym (own_same v.thread w x run (calm.starts w) (λ e. omega (arith, root, e, some_thread))));
        lives = λ root. fits.lives root ∙ sym (same_lives v.thread x run calm.gathers);
      }

      seated_still : (seat : ℕ → ℕ) (views : List View) (id : ℕ) (v : View) (x : LogItem) (u : ℕ)
          → get_elem? views id ≡ some v → v.active ≡ true
          → Seated views u (seat u) → Seated (set views id (with_told x v)) u (seat u)
      seated_still seat views id v x u at active seated = elim (cases_eq (seat u) id) [
        | inl same ↦ record {
          view = with_told x v;
          there = ap (get_elem? (set views id (with_told x v))) same
              ∙ set_here views id (with_told x v) (at_inside views id v at);
          active = active;
          thread = ap (λ (w : View). w.thread) (some-injective v seated.view (sym at ∙ sym (ap (get_elem? views) same)
              ∙ seated.there)) ∙ seated.thread;
        }
        | inr other ↦ record {
          view = seated.view;
          there = set_else views id (seat u) (with_told x v) other ∙ seated.there;
          active = seated.active;
          thread = seated.thread;
        }
      ]
