use Rattle.brc_words.specs.Notes.{bare}
use Rattle.brc_things.specs.Plain_Lists.{plain_push}
use Rattle.brc_things.proofs.Joining.{puts_value}
use Rattle.brc_things.proofs.waiting_calls.list_push.Goals as goal

pub returns-clause-pushed : goal.returns-clause-pushed
returns-clause-pushed g c =
    let begins = c.begin_late-block.ensures in (
      begins.mid,
      begins.waits,
      puts_value c.args.value.place (λ cell. plain_push (bare cell)) c.put_locked.result
          c.begin_late-block.new.frame c.put_locked.new.frame begins.began begins.keeps begins.frame
          c.put_locked.ensures.thread c.put_locked.ensures.put c.put_locked.ensures.frame c.put_locked.ensures.kept
          c.put_locked.ensures.refused,
    )
