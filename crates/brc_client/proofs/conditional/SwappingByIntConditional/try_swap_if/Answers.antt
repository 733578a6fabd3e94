use Rattle.std.proofs.Common.{subst, ℤ, w64, rules}
use Rattle.std.proofs.lemmas.Int.{to_z-of_z}
use Rattle.brc_count.specs.block.declared.key_ref.KeyRef.TheVariants as lent
use Rattle.brc_client.specs.Swap_If.{SwapsIfAt}
use Rattle.brc_client.specs.declared.conditional.SwapIfAt.TheVariants as places
use Rattle.brc_client.proofs.conditional.SwappingByIntConditional.try_swap_if.Goals as goal

pub returns-clause-did : goal.returns-clause-did
returns-clause-did c =
    subst (λ (number : ℤ). SwapsIfAt (places.Beside (lent.Int number)) c.args.frame.now c.try_dict_swap_if.new.frame
    c.args.object.now.place c.args.expected c.args.none.now c.try_dict_swap_if.new.none c.args.value
    c.try_dict_swap_if.result) (to_z-of_z w64 c.args.self.0 (search rules)) c.try_dict_swap_if.ensures.swapped
