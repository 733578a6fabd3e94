use Rattle.std.proofs.Common.{refl, subst, ℤ, w64}
use Rattle.std.specs.Prelude.{Err}
use Rattle.std.proofs.lemmas.Int.{to_z-of_z}
use Rattle.brc_count.specs.block.declared.key_ref.KeyRef.TheVariants as lent
use Rattle.brc_client.specs.Swap_If.{SwapsDatumIf, SwapsIfAt}
use Rattle.brc_client.specs.declared.status.Status.TheVariants as statuses
use Rattle.brc_client.specs.declared.conditional.SwapIfAt.TheVariants as swapping
use Rattle.brc_c.specs.Calls.{OfTwoValues, WritesSwap}
use Rattle.brc_c.specs.Exports.{Carries, IsMade, HasLeft}
use Rattle.brc_c.proofs.Made.{works_at, left_at, same_at}
use Rattle.brc_c.proofs.swaps.brc_dict_swap_if_int.Goals as goal

pub returns-in-Some-clause-does : goal.returns-in-Some-clause-does
returns-in-Some-clause-does c =
    let did = subst (λ (number : ℤ). Carries (OfTwoValues c.args.bits c.args.noted c.args.value.now
    (SwapsDatumIf (SwapsIfAt (swapping.Beside (lent.Int number))) c.args.dict)) c.in-Some.client.now
    c.swap_if_by.new.client c.swap_if_by.result (WritesSwap c.args.value.now c.swap_if_by.new.value
    c.args.swapped.now c.swap_if_by.new.swapped)) (to_z-of_z w64 c.args.key c.ranges.key) c.swap_if_by.ensures.does in
    record {
      answer = did.answer;
      made = IsMade c.in-Some.client.now c.swap_if_by.new.client
          (works_at _ _ _ c.in-Some.ensures.value c.as_mut.ensures.value) refl did.made;
      told = did.told;
      written = did.written;
    }

pub returns-in-None-clause-does : goal.returns-in-None-clause-does
returns-in-None-clause-does c = record {
  answer = Err statuses.Gone;
  made = HasLeft (left_at _ _ c.in-None.ensures.value c.as_mut.ensures.value) (same_at _ _ c.as_mut.ensures.value) refl;
  told = c.gone.ensures;
  written = (refl, refl);
}
