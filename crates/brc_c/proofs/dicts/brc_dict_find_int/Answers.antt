use Rattle.std.proofs.Common.{subst, ℤ, w64}
use Rattle.std.proofs.lemmas.Int.{to_z-of_z}
use Rattle.brc_count.specs.block.declared.key_ref.KeyRef.TheVariants as lent
use Rattle.brc_places.specs.Calls.{GaveBy}
use Rattle.brc_places.specs.declared.giving.GiveBy.TheVariants as giving
use Rattle.brc_client.specs.Answers.{Gives}
use Rattle.brc_c.specs.Exports.{CarriesOut, Writes, itself}
use Rattle.brc_c.proofs.dicts.brc_dict_find_int.Goals as goal

pub returns-clause-does : goal.returns-clause-does
returns-clause-does c =
    subst (λ (number : ℤ). CarriesOut (Gives (GaveBy (giving.Find (lent.Int number))) c.args.dict)
    c.args.thread.now.value c.give_by.new.thread.value c.give_by.result
    (Writes itself c.args.value.now c.give_by.new.given))
    (to_z-of_z w64 c.args.key c.ranges.key) c.give_by.ensures.does
