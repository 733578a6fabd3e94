use Rattle.std.proofs.Common.{arith, ap, ◌∙◌, Some}
use Rattle.brc_client.specs.declared.data.Datum.{Datum}
use Rattle.brc_client.proofs.Born_Lists.{goes_in_more, all_spent}
use Rattle.brc_client.proofs.client.Client.push_each.Goals as goal

pub push_one-requires-clause-named : goal.push_one-requires-clause-named
push_one-requires-clause-named g c number note is =
    let here = c.item.ensures ∙ ap (λ (d : Datum). Some d) is in (
      c.loop-at.invariant.awaits.named c.loop-at.at number (omega arith) (note, here),
      c.loop-at.invariant.awaits.others c.loop-at.at number (omega arith) (note, here),
    )

pub loop-at-preserved : goal.loop-at-preserved
loop-at-preserved g c = goes_in_more c.args.list (g.S.ValueRow.items c.args.values.now) c.loop-at.at c.item.result
    c.args.self.now c.loop-at.self c.push_one.new.self c.loop-at.invariant c.requires.apart c.item.ensures
    c.in_ok-push_one.ensures.pushed c.in_ok-push_one.ensures.spent c.in_ok-push_one.ensures.none

pub returns-clause-spent : goal.returns-clause-spent
returns-clause-spent g c = all_spent c.args.list (g.S.ValueRow.items c.args.values.now) c.loop-at.at c.args.self.now
    c.loop-at.self c.loop-at.invariant (omega (arith, c.loop-at-test.false, c.loop-at.auto.at-end, c.len-at-end.ensures))
