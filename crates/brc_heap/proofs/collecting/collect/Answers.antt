use Rattle.brc_thread.specs.Emptied.{blocks_in}
use Rattle.brc_thread.proofs.At_Home.{fewer_left}
use Rattle.brc_heap.specs.Contents.{contents_in}
use Rattle.brc_heap.proofs.Collected.{collected_on, collected_all}
use Rattle.brc_heap.proofs.collecting.collect.Goals as goal

pub loop-block-smaller : goal.loop-block-smaller
loop-block-smaller g c = fewer_left c.loop-block.rest c.in-Some.later c.in-Some.block c.in-Some.ensures.gives

pub loop-block-preserved : goal.loop-block-preserved
loop-block-preserved g c =
    collected_on (λ contents. contents.items) (contents_in (blocks_in c.args.rest)) c.loop-block.found
    c.with_block-found.result c.loop-block.rest
    c.in-Some.later c.in-Some.block c.in-Some.ensures.gives c.with_block-found.ensures c.loop-block.invariant

pub returns : goal.returns
returns g c =
    collected_all (λ contents. contents.items) (contents_in (blocks_in c.args.rest)) c.loop-block.found
    c.loop-block.rest c.in_default.ensures.ended
    c.loop-block.invariant
