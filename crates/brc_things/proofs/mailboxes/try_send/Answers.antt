use Rattle.brc_words.specs.Notes.{bare}
use Rattle.brc_things.specs.Plain_Lists.{plain_send}
use Rattle.brc_things.proofs.Joining.{puts_value}
use Rattle.brc_things.proofs.mailboxes.try_send.Goals as goal

pub returns-clause-sent : goal.returns-clause-sent
returns-clause-sent g c =
    puts_value c.args.value.place (λ cell. plain_send (bare cell)) c.put_locked.result
    c.begin.new.self c.put_locked.new.frame c.in-Some.ensures.began c.begin.ensures.keeps c.begin.ensures.frame
    c.put_locked.ensures.thread c.put_locked.ensures.put c.put_locked.ensures.frame c.put_locked.ensures.kept
    c.put_locked.ensures.refused
