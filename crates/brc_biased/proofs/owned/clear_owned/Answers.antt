use Rattle.std.proofs.Common.{ap, ◌∙◌}
use Rattle.std.specs.Int.{bit_at}
use Rattle.brc_biased.proofs.Owning.{other_bits}
use Rattle.brc_biased.proofs.owned.clear_owned.Goals as goal

pub returns-clause-others : goal.returns-clause-others
returns-clause-others g c = other_bits c.args.words.now.items c.args.cell c.without-rest.result c.requires.inside
    (λ i small other. c.without-rest.ensures.others i small other ∙ ap (λ w. bit_at w i) c.word_of.ensures)
