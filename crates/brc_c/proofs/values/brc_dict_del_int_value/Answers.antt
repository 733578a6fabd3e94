use Rattle.std.proofs.Common.{subst, ℤ, w64}
use Rattle.std.proofs.lemmas.Int.{to_z-of_z}
use Rattle.brc_count.specs.block.declared.key_ref.KeyRef.TheVariants as lent
use Rattle.brc_places.specs.Value_Calls.{TookOutValueBy}
use Rattle.brc_places.specs.declared.giving.GiveBy.TheVariants as giving
use Rattle.brc_client.specs.Valued.{GivesDatum}
use Rattle.brc_c.specs.Calls.{value_of}
use Rattle.brc_c.specs.Exports.{CarriesOut, Writes}
use Rattle.brc_c.proofs.values.brc_dict_del_int_value.Goals as goal

pub returns-clause-does : goal.returns-clause-does
returns-clause-does c =
    subst (λ (number : ℤ). CarriesOut (GivesDatum (TookOutValueBy (giving.Delete (lent.Int number))) c.args.dict)
    c.args.thread.now.value c.take_out_value_by.new.thread.value c.take_out_value_by.result
    (Writes value_of c.args.value.now c.take_out_value_by.new.value))
    (to_z-of_z w64 c.args.key c.ranges.key) c.take_out_value_by.ensures.does
