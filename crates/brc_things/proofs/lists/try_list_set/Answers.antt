use Rattle.brc_words.specs.Notes.{bare}
use Rattle.brc_things.specs.Plain_Lists.{plain_set}
use Rattle.brc_things.proofs.Joining.{swaps_value}
use Rattle.brc_things.proofs.lists.try_list_set.Goals as goal

pub returns-clause-set : goal.returns-clause-set
returns-clause-set g c =
    swaps_value c.args.value.place (λ cell. plain_set c.args.index (bare cell)) c.swap_locked.result
    c.begin.new.self c.swap_locked.new.frame c.in-Some.ensures.began c.begin.ensures.keeps c.begin.ensures.frame
    c.swap_locked.ensures.thread c.swap_locked.ensures.swapped c.swap_locked.ensures.frame c.swap_locked.ensures.kept
    c.swap_locked.ensures.refused
