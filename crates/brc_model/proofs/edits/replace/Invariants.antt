use Rattle.std.proofs.Common.{◌≡◌, ◌++◌, take, drop, map}
use Rattle.brc_model.specs.Edits.{replaced}
use Rattle.brc_model.proofs.edits.replace.Given as goal

abbrev pub invariant-loop-fact : goal.invariant-loop-fact
invariant-loop-fact l = l.facts ≡ map (replaced l.object l.«from» l.to) (take l.fact-index l.fn.facts)
    ++ drop l.fact-index l.fn.facts
