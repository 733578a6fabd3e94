use Rattle.std.proofs.Common.{refl}
use Rattle.brc_words.specs.declared.kind.Kind.TheVariants as kinds
use Rattle.brc_things.specs.Plain_Lists.{plain_receive}
use Rattle.brc_things.specs.Rows.{plain_take}
use Rattle.brc_things.proofs.Joining.{takes_entry}
use Rattle.brc_things.proofs.waiting_calls.recv.Goals as goal

pub returns-clause-received : goal.returns-clause-received
returns-clause-received g c =
    let begins = c.begin_late-block.ensures in (
      begins.mid,
      begins.waits,
      takes_entry (plain_take kinds.Mailbox 0) plain_receive c.take_locked.result
          c.begin_late-block.new.frame c.take_locked.new.frame (refl) begins.began begins.keeps begins.frame
          c.take_locked.ensures.thread c.take_locked.ensures.taken c.take_locked.ensures.places
          c.take_locked.ensures.kept c.take_locked.ensures.refused,
    )
