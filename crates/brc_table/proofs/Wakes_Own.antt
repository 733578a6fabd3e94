-- A waking thread is active, so that the swap of its notify word tells it that its log is an own log.
use Rattle.std.proofs.Common.{◌≡◌, ℕ, ◌<◌, ◌≤◌, ◌&&◌, Bool, true, false, List, Option, refl, sym, arith}
use Rattle.std.proofs.lemmas.Bool.{true≢false}
use Rattle.brc_words.specs.declared.limits.TheConstants.{MOST_THREADS}
use Rattle.law.specs.declared.world.event.Step.TheVariants.{Wake}
use Rattle.law.specs.declared.world.row.Stage.{Stage}
use Rattle.law.specs.declared.world.row.Stage.TheVariants as stages
use Rattle.law.specs.world.Steps.{stage_ok, is_active}
use Rattle.law.specs.declared.known.word.Word.TheVariants.{NotifyWord}
use Rattle.law.specs.declared.rule.contents.Contents.{Contents}
use Rattle.law.specs.declared.rule.told.Moved.TheVariants.{Nothing}
use Rattle.law.specs.declared.rule.told.LogItem.TheVariants.{Stepped}
use Rattle.law.specs.declared.rule.view.View.{View}
use Rattle.law.specs.rule.Rule.{with_told}
use Rattle.law.specs.rule.Seen.{part_seen}
use Rattle.law.specs.living.Living.{OwnLog}
use Rattle.law.proofs.living.Own_Logs_Law.{known_own_log}
use Rattle.law.specs.steps.Owing.{MayStep}
use Rattle.law.proofs.steps.Queue_Steps.{wakes}
use Rattle.law.proofs.steps.Telling.{tells_found}
use Rattle.brc_table.specs.Machine.{MayWake}

wakes_active : (stage : Stage) → stage_ok stage Wake ≡ true → is_active stage ≡ true
wakes_active stages.Active ok = refl
wakes_active (stages.Closing m) ok = absurd (true≢false (sym ok))
wakes_active stages.Left ok = absurd (true≢false (sym ok))
wakes_active (stages.Opening m) ok = absurd (true≢false (sym ok))

first_of : (a b c d : Bool) → (a && b && c && d) ≡ true → a ≡ true
first_of true b c d is = refl
first_of false b c d is = absurd (true≢false (sym is))

module _ {B : Type 0} (shows : B → ℕ × Contents) (n limit : ℕ) where
  pub wakes_own : (id : ℕ) (v : View) (slots : List (ℕ × Option B)) → v.active ≡ true → 0 < v.thread
      → v.thread ≤ MOST_THREADS → MayStep n v.log Wake
      → MayWake shows n limit id (v, slots) (NotifyWord v.thread) (λ _. 0) (λ there. Stepped Wake there Nothing) n
  wakes_own id v slots active some_thread few allowed =
      tells_found shows n limit (λ _. OwnLog n v.log) id v slots (NotifyWord v.thread) (λ _. 0)
      (λ there after. after ≡ (with_told (Stepped Wake there Nothing) v, slots)) active some_thread (omega (arith, few))
      (λ h there known shown. known_own_log n limit h v.thread v.log known some_thread
      (wakes_active (part_seen n v.log).row.stage (first_of _ _ _ _ allowed.own)))
      (wakes shows n limit id v slots active some_thread few allowed)
