use Rattle.std.proofs.Common.{drop}
use Rattle.std.specs.List.{flat_map}
use Rattle.brc_text.specs.Puts.{PutsUpTo}
use Rattle.brc_program.specs.Explanations.{fact_text}
use Rattle.brc_program.proofs.facts.put_facts.Given as goal

abbrev pub invariant-loop-fact : goal.invariant-loop-fact
invariant-loop-fact g l =
    PutsUpTo (g.E.Write.contents l.fn.errors) (g.E.Write.contents l.errors) (flat_map fact_text l.facts)
    (flat_map fact_text (drop l.fact-index l.facts))
