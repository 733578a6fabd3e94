use Rattle.brc_things.specs.Plain_Lists.{plain_get}
use Rattle.brc_things.proofs.Joining.{shares_entry}
use Rattle.brc_things.proofs.lists.try_list_get.Goals as goal

pub returns-clause-shared : goal.returns-clause-shared
returns-clause-shared g c =
    shares_entry (plain_get c.args.index) c.share_locked.result
    c.begin.new.self c.share_locked.new.frame c.in-Some.ensures.began c.begin.ensures.keeps c.begin.ensures.frame
    c.share_locked.ensures.thread c.share_locked.ensures.shared c.share_locked.ensures.places
    c.share_locked.ensures.kept c.share_locked.ensures.refused
