use Rattle.std.proofs.Common.{subst, ℤ, w64}
use Rattle.std.proofs.lemmas.Int.{to_z-of_z}
use Rattle.brc_places.specs.Calls.{MadeBy}
use Rattle.brc_places.specs.declared.place_makers.Make.TheVariants as making
use Rattle.brc_client.specs.Answers.{Makes}
use Rattle.brc_c.specs.Exports.{CarriesOut, Writes, itself}
use Rattle.brc_c.proofs.makers.brc_new_int.Goals as goal

pub returns-clause-does : goal.returns-clause-does
returns-clause-does c =
    subst (λ (number : ℤ). CarriesOut (Makes (MadeBy (making.Int number)))
    c.args.thread.now.value c.make_by.new.thread.value c.make_by.result
    (Writes itself c.args.made.now c.make_by.new.made))
    (to_z-of_z w64 c.args.value c.ranges.value) c.make_by.ensures.does
