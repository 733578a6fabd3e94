use Rattle.brc_words.specs.declared.kind.Kind.TheVariants as kinds
use Rattle.brc_count.specs.Locking.{contents_found}
use Rattle.brc_things.specs.Plain_Lists.{plain_pop}
use Rattle.brc_things.specs.Rows.{plain_take}
use Rattle.brc_things.proofs.Rows_Law.{pop_before}
use Rattle.brc_things.proofs.Joining.{takes_entry}
use Rattle.brc_things.proofs.waiting_calls.list_pop.Goals as goal

pub returns-clause-popped : goal.returns-clause-popped
returns-clause-popped g c =
    let begins = c.begin_late-block.ensures in
    let same = pop_before (contents_found c.begin_late-block.new.frame) c.begin_late-block.result.1 c.last_place-last.result
    begins.began.found
    (rw c.payload.ensures at c.last_place-last.ensures) in (
      begins.mid,
      begins.waits,
      takes_entry (plain_take kinds.«List» c.last_place-last.result) plain_pop c.take_locked.result
          c.begin_late-block.new.frame c.take_locked.new.frame same begins.began begins.keeps begins.frame
          c.take_locked.ensures.thread c.take_locked.ensures.taken c.take_locked.ensures.places
          c.take_locked.ensures.kept c.take_locked.ensures.refused,
    )
