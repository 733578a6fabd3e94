use Rattle.std.proofs.Common.{◌∙◌}
use Rattle.brc_client.proofs.Marking.{as_before, none_again}
use Rattle.brc_client.proofs.value_row.none_twice.Goals as goal

pub returns-then-reached-len-clause-apart : goal.returns-then-reached-len-clause-apart
returns-then-reached-len-clause-apart g c = none_again (g.S.ValueRow.items c.args.values.now) c.mark_each-reached.result
    c.args.numbers.now c.mark_each-reached.new.numbers c.mark_each-reached.ensures.marks
    (c.if-reached-len.true ∙ c.len.ensures)

pub returns-then-reached-len-clause-same : goal.returns-then-reached-len-clause-same
returns-then-reached-len-clause-same g c = as_before (g.S.ValueRow.items c.args.values.now) c.mark_each-reached.result
    c.args.numbers.now c.mark_each-reached.new.numbers c.restore_each.new.numbers c.mark_each-reached.ensures.marks
    c.restore_each.ensures.restores

pub returns-else-reached-len-clause-same : goal.returns-else-reached-len-clause-same
returns-else-reached-len-clause-same g c = as_before (g.S.ValueRow.items c.args.values.now) c.mark_each-reached.result
    c.args.numbers.now c.mark_each-reached.new.numbers c.restore_each.new.numbers c.mark_each-reached.ensures.marks
    c.restore_each.ensures.restores
