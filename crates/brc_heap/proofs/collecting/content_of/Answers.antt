use Rattle.std.proofs.Common.{sym, ◌∙◌}
use Rattle.brc_count.specs.block.Payload.{entries_of}
use Rattle.brc_heap.proofs.Collected.{taken_more}
use Rattle.brc_heap.proofs.collecting.content_of.Goals as goal

pub loop-index-preserved : goal.loop-index-preserved
loop-index-preserved g c =
    taken_more c.loop-index.entries.items c.push.new.self.items (entries_of c.payload-payload.result.now)
    c.loop-index.index c.in-Some.cell
    c.loop-index.invariant c.in_ok-push-in-Some.ensures.items (sym c.entry.ensures ∙ c.in-Some.is)
