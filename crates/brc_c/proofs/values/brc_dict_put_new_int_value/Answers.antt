use Rattle.std.proofs.Common.{subst, ℤ, w64}
use Rattle.std.proofs.lemmas.Int.{to_z-of_z}
use Rattle.brc_count.specs.block.declared.key_ref.KeyRef.TheVariants as lent
use Rattle.brc_places.specs.Value_Calls.{PutValueBy}
use Rattle.brc_places.specs.declared.valued.PutBy.TheVariants as putting
use Rattle.brc_client.specs.Valued.{TakesDatum}
use Rattle.brc_c.specs.Calls.{came_of}
use Rattle.brc_c.specs.Exports.{CarriesOut, OrNotValue, Writes}
use Rattle.brc_c.proofs.values.brc_dict_put_new_int_value.Goals as goal

pub returns-clause-does : goal.returns-clause-does
returns-clause-does c =
    subst (λ (number : ℤ). CarriesOut
    (OrNotValue c.args.bits c.args.noted (TakesDatum (PutValueBy (putting.PutNew (lent.Int number))) c.args.dict))
    c.args.thread.now.value c.exchange_value_by.new.thread.value c.exchange_value_by.result
    (Writes came_of c.args.back.now c.exchange_value_by.new.old))
    (to_z-of_z w64 c.args.key c.ranges.key) c.exchange_value_by.ensures.does
