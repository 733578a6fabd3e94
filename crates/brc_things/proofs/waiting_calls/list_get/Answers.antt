use Rattle.brc_things.specs.Plain_Lists.{plain_get}
use Rattle.brc_things.proofs.Joining.{shares_entry}
use Rattle.brc_things.proofs.waiting_calls.list_get.Goals as goal

pub returns-clause-shared : goal.returns-clause-shared
returns-clause-shared g c =
    let begins = c.begin_late-block.ensures in (
      begins.mid,
      begins.waits,
      shares_entry (plain_get c.args.index) c.share_locked.result
          c.begin_late-block.new.frame c.share_locked.new.frame begins.began begins.keeps begins.frame
          c.share_locked.ensures.thread c.share_locked.ensures.shared c.share_locked.ensures.places
          c.share_locked.ensures.kept c.share_locked.ensures.refused,
    )
