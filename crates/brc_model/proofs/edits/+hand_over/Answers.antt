use Rattle.std.proofs.Common.{sym, ◌∙◌, map, ap}
use Rattle.brc_model.specs.Edits.{replaced}
use Rattle.brc_model.proofs.Replacing.{map-handed_back}
use Rattle.brc_model.proofs.edits.+hand_over.Goals as goal

pub returns-then-not-handed-clause-unchanged : goal.returns-then-not-handed-clause-unchanged
returns-then-not-handed-clause-unchanged t c =
    rw c.if-not-handed.true
    (c.replace-then-not-handed.ensures ∙ ap (map (replaced _ _ _)) (c.if-not-handed.ensures.unchanged
    ∙ c.replace.ensures)
    ∙ map-handed_back c.args.facts.now _ (sym c.may_be_handed.ensures ∙ c.if-not-may_be_handed.false))
