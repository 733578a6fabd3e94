-- A step after which a block or an empty slot is home tells that its thread has given back few enough objects.
use Rattle.std.proofs.Common.{◌≡◌, ℕ, ◌<◌, ◌^◌, true, List, Option, sym, ◌∙◌, ap, subst}
use Rattle.brc_block.specs.declared.payload.Payload.{Payload}
use Rattle.atomic_table.specs.Table.{Me, rest}
use Rattle.law.proofs.known.Queued_Law.{reached_frees}
use Rattle.law.specs.declared.known.word.Word.{Word}
use Rattle.law.specs.declared.rule.told.LogItem.{LogItem}
use Rattle.law.specs.declared.rule.view.View.{View}
use Rattle.law.specs.rule.Rule.{with_told}
use Rattle.law.specs.world.Heap.{Heap}
use Rattle.law.specs.declared.world.row.Row.{Row}
use Rattle.law.proofs.rule.Knowing.{Known}
use Rattle.law.proofs.steps.Telling.{tells_after}
use Rattle.brc_table.specs.Moving.{MayGiveBy, MayGiveByOfFew, FewFrees}
use Rattle.brc_table.specs.Shown.{shows}

few_frees : (n limit : ℕ) (h : Heap) (t : ℕ) (log : List LogItem) → Known n limit h t log → FewFrees n log
few_frees n limit h t log known = subst (λ (row : Row). row.frees < 2 ^ 64) known.part.row_is
    (reached_frees h t known.reached)

pub gives_few : {A : Type 0} (n limit id : ℕ) (v : View) (slots : List (ℕ × Option (ℕ × Payload A))) (w : Word)
    (f : ℕ → ℕ) (item : ℕ → LogItem) → v.active ≡ true → 0 < v.thread
    → MayGiveBy n limit id (v, slots) w f item → MayGiveByOfFew n limit id (v, slots) w f item n
gives_few {A} n limit id v slots w f item active some_thread =
    tells_after shows n limit (FewFrees n) id v slots w f
    (λ there after. after ≡ (with_told (item there) v, rest slots))
    (λ there me is. (
      ap (λ (m : Me (Option (ℕ × Payload A)) View). m.0.active) is ∙ active,
      subst (λ t. 0 < t) (sym (ap (λ (m : Me (Option (ℕ × Payload A)) View). m.0.thread) is)) some_thread,
    ))
    (few_frees n limit)
