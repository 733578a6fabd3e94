use Rattle.std.proofs.Common.{refl}
use Rattle.brc_words.specs.declared.kind.Kind.TheVariants as kinds
use Rattle.brc_things.specs.Plain_Lists.{plain_receive}
use Rattle.brc_things.specs.Rows.{plain_take}
use Rattle.brc_things.proofs.Joining.{takes_entry}
use Rattle.brc_things.proofs.mailboxes.try_recv.Goals as goal

pub returns-clause-received : goal.returns-clause-received
returns-clause-received g c =
    takes_entry (plain_take kinds.Mailbox 0) plain_receive c.take_locked.result
    c.begin.new.self c.take_locked.new.frame (refl) c.in-Some.ensures.began c.begin.ensures.keeps c.begin.ensures.frame
    c.take_locked.ensures.thread c.take_locked.ensures.taken c.take_locked.ensures.places c.take_locked.ensures.kept
    c.take_locked.ensures.refused
