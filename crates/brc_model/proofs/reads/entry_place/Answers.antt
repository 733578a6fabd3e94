use Rattle.std.proofs.Common.{◌≡◌, arith, ◌∙◌, ap, sym, slice_index_or}
use Rattle.brc_words.specs.declared.kind.Kind.TheVariants as kinds
use Rattle.brc_model.specs.declared.fact.Fact.TheVariants.{Lives}
use Rattle.brc_model.specs.Facts.{entry_in}
use Rattle.std.specs.Option.{is_some}
use Rattle.brc_model.proofs.Entries.{length-entries_in_more, count_said-some, count_said-none}
use Rattle.brc_model.proofs.reads.entry_place.Goals as goal
use Rattle.brc_model.proofs.reads.entry_place.Goals.{then-is_some+else-left-eq0, else-is_some}

pub loop-place-preserved : goal.loop-place-preserved
loop-place-preserved c =
    let d = Lives 0 kinds.Int in
    let more = length-entries_in_more c.args.facts.now c.args.cell c.loop-place.place d c.loop-place-test.true in
    let said = entry_in c.args.cell (slice_index_or c.args.facts.now c.loop-place.place d) in
    let told : c.is_some.result ≡ is_some said = c.is_some.ensures ∙ ap is_some c.entry_of.ensures in
    elim c.if-is_some.branch [
      | then-is_some+else-left-eq0 w ↦ let one = count_said-some said (sym told ∙ w.if-is_some.true) in omega arith
      | else-is_some w ↦ let none = count_said-none said (sym told ∙ w.if-is_some.false) in omega arith
    ]
