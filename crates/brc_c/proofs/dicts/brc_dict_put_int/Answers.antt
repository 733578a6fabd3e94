use Rattle.std.proofs.Common.{subst, ℤ, w64}
use Rattle.std.proofs.lemmas.Int.{to_z-of_z}
use Rattle.brc_count.specs.block.declared.key_ref.KeyRef.TheVariants as lent
use Rattle.brc_places.specs.Calls.{TookBy}
use Rattle.brc_places.specs.declared.taking.TakeBy.TheVariants as taking
use Rattle.brc_client.specs.Answers.{Takes}
use Rattle.brc_c.specs.Exports.{CarriesOut, Writes, old_number}
use Rattle.brc_c.proofs.dicts.brc_dict_put_int.Goals as goal

pub returns-clause-does : goal.returns-clause-does
returns-clause-does c =
    subst (λ (number : ℤ). CarriesOut (Takes (TookBy (taking.Put (lent.Int number))) c.args.dict c.args.value)
    c.args.thread.now.value c.exchange_by.new.thread.value c.exchange_by.result
    (Writes old_number c.args.old.now c.exchange_by.new.old))
    (to_z-of_z w64 c.args.key c.ranges.key) c.exchange_by.ensures.does
