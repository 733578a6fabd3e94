-- What a step tells its seat besides its item: of the number found, what the world before the step says, and of the
-- log, what the world after it says.
use Rattle.std.proofs.Common.{◌≡◌, ℕ, ◌<◌, true, List, Option, get_or}
use Rattle.atomic_table.specs.Table.{Me, Allows}
use Rattle.atomic_table.proofs.Lists.{set_here}
use Rattle.law.specs.world.Heap.{Heap}
use Rattle.law.specs.declared.known.word.Word.{Word}
use Rattle.law.specs.known.Items.{IsWord, WordShows}
use Rattle.law.specs.declared.rule.contents.Contents.{Contents}
use Rattle.law.specs.declared.rule.told.LogItem.{LogItem}
use Rattle.law.specs.declared.rule.view.View.{View}
use Rattle.law.specs.rule.Layout.{spot}
use Rattle.law.specs.rule.Logs.{world}
use Rattle.law.specs.rule.Rule.{Kept}
use Rattle.law.proofs.rule.Growing.{at_inside}
use Rattle.law.proofs.rule.Knowing.{Known, knows}

module _ {B : Type 0} (shows : B → ℕ × Contents) (n limit : ℕ) where
  pub tells_found : (P : ℕ → Type 0) (id : ℕ) (v : View) (slots : List (ℕ × Option B)) (w : Word) (f : ℕ → ℕ)
      (told : ℕ → Me (Option B) View → Type 0) → v.active ≡ true → 0 < v.thread → IsWord n w
      → ((h : Heap) (there : ℕ) → Known n limit h v.thread v.log → WordShows h w there → P there)
      → Allows (Kept shows n limit) n id (v, slots) (spot n w) f told
      → Allows (Kept shows n limit) n id (v, slots) (spot n w) f (λ there me. told there me × P there)
  tells_found P id v slots w f told active some_thread is says allowed st r deep at small =
      let step = allowed st r deep at small in (
        step.0,
        step.1,
        step.2,
        step.3,
        (
          step.4,
          says (world n limit r.run) (get_or st.words (spot n w) 0)
              (knows shows n limit st r id v at active some_thread) (r.each_word w is),
        ),
      )

  pub tells_after : (P : List LogItem → Type 0) (id : ℕ) (v : View) (slots : List (ℕ × Option B)) (w : Word) (f : ℕ → ℕ)
      (told : ℕ → Me (Option B) View → Type 0)
      → ((there : ℕ) (me : Me (Option B) View) → told there me → (me.0.active ≡ true) × (0 < me.0.thread))
      → ((h : Heap) (t : ℕ) (log : List LogItem) → Known n limit h t log → P log)
      → Allows (Kept shows n limit) n id (v, slots) (spot n w) f told
      → Allows (Kept shows n limit) n id (v, slots) (spot n w) f (λ there me. told there me × P me.0.log)
  tells_after P id v slots w f told stays says allowed st r deep at small =
      let step = allowed st r deep at small in
      let seat = stays (get_or st.words (spot n w) 0) _ step.4 in (
        step.0,
        step.1,
        step.2,
        step.3,
        (
          step.4,
          says (world n limit step.3.run) step.0.thread step.0.log
              (knows shows n limit _ step.3 id step.0 (set_here st.views id step.0 (at_inside st.views id v at))
              seat.0 seat.1),
        ),
      )
