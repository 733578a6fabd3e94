-- The rule of the running table: what its words, its blocks at home and its seats' views show is the world of one run.
use Rattle.std.specs.Prelude.{◌≡◌, ℕ, ◌==◌, ◌&&◌, ◌||◌, not, ◌<◌, Bool, true, if◌then◌else◌, List, [], ◌∷◌, ◌++◌}
use Rattle.std.specs.Prelude.{length, slice_index, Option, Some, None}
use mathlib.Core.Option.{some}
use lib.ListN.{get_elem?}
use Rattle.atomic_table.specs.Table.{State}
use Rattle.law.specs.world.Heap.{Heap, is_registered, is_gathered, AreOptions}
use Rattle.law.specs.declared.known.word.Word.{Word}
use Rattle.law.specs.known.Items.{IsWord, WordShows}
use Rattle.law.specs.declared.rule.contents.Contents.{Contents}
use Rattle.law.specs.declared.rule.told.LogItem.{LogItem}
use Rattle.law.specs.declared.rule.view.View.{View}
use Rattle.law.specs.rule.Layout.{spot, extent}
use Rattle.law.specs.rule.Logs.{Run, own_of, own_steps, lives_of, all_of, ended_in, world, IsLegal}
use Rattle.law.specs.rule.Homes.{HomeShown}

-- the root, and each thread that is registered and not gathered, has a seat
abbrev pub stands : Heap → ℕ → Bool
stands h t = (t == 0) || (is_registered h t && not (is_gathered h t))

-- the newest of a thread's logs
abbrev pub log_in : List (ℕ × List LogItem) → ℕ → Option (List LogItem)
log_in [] u = None
log_in (x ∷ logs) u = if x.0 == u then Some x.1 else log_in logs u

-- a seat's view after one more item
abbrev pub with_told : LogItem → View → View
with_told x v = record v { log = x ∷ v.log }

-- The view of a seat: its thread's only one, and its log is all that the thread did. The root's has a log for
-- each registration that has ended.
pub record Fits (h : Heap) (run : Run) (seat : ℕ → ℕ) (j : ℕ) (v : View) : Type 0 where
  pub here : seat v.thread ≡ j
  pub there : stands h v.thread ≡ true
  pub log : own_of v.thread run ≡ v.log
  pub gathered : v.thread ≡ 0 → (u : ℕ) → 0 < u → is_gathered h u ≡ true → log_in v.gathered u ≡ Some (own_of u run)
  pub lives : v.thread ≡ 0 → v.gathered ≡ lives_of run

-- Each item of a thread stands in one log, once and in its order: in its seat's, where it has one, or before that in
-- one of those of its registrations that have ended.
abbrev pub StandsOnce : Heap → Run → ℕ → Type 0
StandsOnce h run t = all_of t run ≡ (if stands h t then own_steps t (own_of t run) else []) ++ ended_in t (lives_of run)

-- the seat that a thread has
pub record Seated (views : List View) (t j : ℕ) : Type 0 where
  pub view : View
  pub there : get_elem? views j ≡ some view
  pub active : view.active ≡ true
  pub thread : view.thread ≡ t

-- The rule of a table with n cells: there is a run of which the own items of every thread are its seat's log, and no
-- other items stand in it; each word shows what the run's world has there, and so do the blocks at home.
pub record Kept {B : Type 0} (shows : B → ℕ × Contents) (n limit : ℕ) (s : State (Option B) View) : Type 0 where
  pub run : Run
  pub seat : ℕ → ℕ
  pub options : AreOptions n limit
  pub legal : IsLegal n limit run
  pub wide : length s.words ≡ extent n
  pub deep : length s.homes ≡ n
  pub each_word : (w : Word) → IsWord n w → WordShows (world n limit run) w (slice_index s.words (spot n w))
  pub each_home : (c : ℕ) → c < n → HomeShown shows s.homes (world n limit run) run c
  pub each_seat : (j : ℕ) (v : View) → get_elem? s.views j ≡ some v → v.active ≡ true
      → Fits (world n limit run) run seat j v
  pub each_thread : (t : ℕ) → stands (world n limit run) t ≡ true → Seated s.views t (seat t)
  pub each_once : (t : ℕ) → 0 < t → StandsOnce (world n limit run) run t
