use Rattle.std.proofs.Common.{subst, ℤ, w64, rules}
use Rattle.std.proofs.lemmas.Int.{to_z-of_z}
use Rattle.brc_count.specs.block.declared.key_ref.KeyRef.TheVariants as lent
use Rattle.brc_places.specs.Value_Calls.{TookOutValueBy}
use Rattle.brc_places.specs.declared.giving.GiveBy.TheVariants as gives
use Rattle.brc_client.proofs.take_out.DeletingByIntOutward.try_take_out_value.Goals as goal

pub returns-clause-did : goal.returns-clause-did
returns-clause-did c =
    subst (λ (number : ℤ). TookOutValueBy (gives.Delete (lent.Int number)) c.args.frame.now c.try_dict_del_value.new.frame
    c.args.object.now.place c.try_dict_del_value.result) (to_z-of_z w64 c.args.self.0 (search rules)) c.try_dict_del_value.ensures.takes
