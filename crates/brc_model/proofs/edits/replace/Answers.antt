use Rattle.std.proofs.Common.{◌≡◌, arith, length, slice_index_or, ◌<◌}
use Rattle.brc_words.specs.declared.kind.Kind.TheVariants as kinds
use Rattle.brc_model.specs.declared.fact.Fact.TheVariants.{Lives}
use Rattle.brc_model.specs.Edits.{replaced}
use Rattle.std.proofs.lemmas.List.{get_or_default}
use Rattle.std.proofs.lemmas.List.Edits.{map_over_more}
use Rattle.brc_model.proofs.edits.replace.Goals as goal

pub loop-fact-preserved : goal.loop-fact-preserved
loop-fact-preserved c =
    let x = slice_index_or c.loop-fact.facts c.loop-fact.fact-index (Lives 0 kinds.Int) in
    let read : x ≡ slice_index_or c.loop-fact.facts c.loop-fact.fact-index x =
    let within : c.loop-fact.fact-index < length c.loop-fact.facts = omega arith in
    get_or_default c.loop-fact.facts c.loop-fact.fact-index (Lives 0 kinds.Int) x within in
    rw c.renamed.ensures (map_over_more (replaced c.args.object c.args.«from».now c.args.to) c.args.facts.now
    c.loop-fact.facts c.loop-fact.fact-index x c.loop-fact-test.true c.loop-fact.invariant read)
