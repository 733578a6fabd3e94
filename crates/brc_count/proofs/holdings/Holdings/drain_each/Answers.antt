use Rattle.brc_count.specs.Polling.{NoWord, OneMore}
use Rattle.brc_count.proofs.Changes.{kept, kept_on}
use Rattle.brc_count.proofs.holdings.Holdings.drain_each.Goals as goal

pub loop-word-init : goal.loop-word-init
loop-word-init g c = (NoWord, kept c.args.self.now, c.requires.blank)

pub loop-word-preserved : goal.loop-word-preserved
loop-word-preserved g c =
    let inv = c.loop-word.invariant in
    let one = c.drain_one.ensures in (
      OneMore c.loop-word.word c.loop-word.self c.drain_one.new.self inv.0 one.drains,
      kept_on inv.1 one.keeps,
      one.blank,
    )
