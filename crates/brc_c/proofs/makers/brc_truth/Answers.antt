use Rattle.std.proofs.Common.{subst, Bool}
use Rattle.brc_places.specs.Calls.{MadeBy}
use Rattle.brc_places.specs.declared.place_makers.Make.TheVariants as making
use Rattle.brc_client.specs.Answers.{Makes}
use Rattle.brc_c.specs.Exports.{CarriesOut, Writes, itself}
use Rattle.brc_c.proofs.makers.brc_truth.Goals as goal

pub returns-clause-does : goal.returns-clause-does
returns-clause-does c =
    subst (λ (is_true : Bool). CarriesOut (Makes (MadeBy (making.Truth is_true))) c.args.thread.now.value
    c.make_by.new.thread.value c.make_by.result (Writes itself c.args.made.now c.make_by.new.made))
    c.says_yes.ensures c.make_by.ensures.does
