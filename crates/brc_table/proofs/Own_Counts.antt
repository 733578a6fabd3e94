-- An owner's counting, as a word is loaded that nobody writes: the count stands in no word of the table.
use Rattle.std.proofs.Common.{◌≡◌, ℕ, ◌+◌, ◌-◌, ◌<◌, true, List, Option}
use Rattle.atomic_table.specs.Table.{Allows}
use Rattle.brc_words.specs.declared.limits.TheConstants.{IMMORTAL_LOCAL}
use Rattle.law.specs.declared.world.event.Source.{Source}
use Rattle.law.specs.declared.world.event.Dropped.{Dropped}
use Rattle.law.specs.declared.world.event.Step.TheVariants.{InitLocal, LocalUp, LocalDown}
use Rattle.law.specs.declared.known.word.Word.TheVariants.{NotifyWord}
use Rattle.law.specs.declared.rule.contents.Contents.{Contents}
use Rattle.law.specs.declared.rule.told.Moved.TheVariants as moves
use Rattle.law.specs.declared.rule.told.LogItem.TheVariants.{Stepped}
use Rattle.law.specs.declared.rule.view.View.{View}
use Rattle.law.specs.rule.Layout.{spot}
use Rattle.law.specs.rule.Rule.{with_told, Kept}
use Rattle.law.specs.steps.Owing.{MayRaise, MayRaiseImmortal, MayLower, MayLowerImmortal, MayCarry}
use Rattle.law.proofs.steps.Local_Steps.{counts_up, counts_down, counts_immortal_up, counts_immortal_down}
use Rattle.law.proofs.steps.Making_Steps.{sets_local}

module _ {B : Type 0} (shows : B → ℕ × Contents) (n limit : ℕ) where
  pub raises : (id : ℕ) (v : View) (slots : List (ℕ × Option B)) (source : Source) (k c count : ℕ) → v.active ≡ true
      → 0 < v.thread → MayRaise n limit v.log source k c count
      → Allows (Kept shows n limit) n id (v, slots) (spot n (NotifyWord 0)) (λ there. there)
      (λ there me. me ≡ (with_told (Stepped (LocalUp source k) (count + 1) moves.Nothing) v, slots))
  raises id v slots = counts_up shows n limit id v slots (NotifyWord 0)

  pub lowers : (id : ℕ) (v : View) (slots : List (ℕ × Option B)) (drop : Dropped) (c count : ℕ) → v.active ≡ true
      → 0 < v.thread → MayLower n v.log drop c count
      → Allows (Kept shows n limit) n id (v, slots) (spot n (NotifyWord 0)) (λ there. there)
      (λ there me. me ≡ (with_told (Stepped (LocalDown drop) (count - 1) moves.Nothing) v, slots))
  lowers id v slots = counts_down shows n limit id v slots (NotifyWord 0)

  pub raises_immortal : (id : ℕ) (v : View) (slots : List (ℕ × Option B)) (source : Source) (k c : ℕ)
      → v.active ≡ true → 0 < v.thread → MayRaiseImmortal n v.log source k c
      → Allows (Kept shows n limit) n id (v, slots) (spot n (NotifyWord 0)) (λ there. there)
      (λ there me. me ≡ (with_told (Stepped (LocalUp source k) IMMORTAL_LOCAL moves.Nothing) v, slots))
  raises_immortal id v slots = counts_immortal_up shows n limit id v slots (NotifyWord 0)

  pub lowers_immortal : (id : ℕ) (v : View) (slots : List (ℕ × Option B)) (drop : Dropped) (c : ℕ) → v.active ≡ true
      → 0 < v.thread → MayLowerImmortal n v.log drop c
      → Allows (Kept shows n limit) n id (v, slots) (spot n (NotifyWord 0)) (λ there. there)
      (λ there me. me ≡ (with_told (Stepped (LocalDown drop) IMMORTAL_LOCAL moves.Nothing) v, slots))
  lowers_immortal id v slots = counts_immortal_down shows n limit id v slots (NotifyWord 0)

  pub counts_first : (id : ℕ) (v : View) (slots : List (ℕ × Option B)) (c : ℕ) → v.active ≡ true → 0 < v.thread
      → MayCarry n v.log (InitLocal c) c
      → Allows (Kept shows n limit) n id (v, slots) (spot n (NotifyWord 0)) (λ there. there)
      (λ there me. me ≡ (with_told (Stepped (InitLocal c) 1 moves.Nothing) v, slots))
  counts_first id v slots = sets_local shows n limit id v slots (NotifyWord 0)
