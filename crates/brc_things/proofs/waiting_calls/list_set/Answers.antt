use Rattle.brc_words.specs.Notes.{bare}
use Rattle.brc_things.specs.Plain_Lists.{plain_set}
use Rattle.brc_things.proofs.Joining.{swaps_value}
use Rattle.brc_things.proofs.waiting_calls.list_set.Goals as goal

pub returns-clause-set : goal.returns-clause-set
returns-clause-set g c =
    let begins = c.begin_late-block.ensures in (
      begins.mid,
      begins.waits,
      swaps_value c.args.value.place (λ cell. plain_set c.args.index (bare cell)) c.swap_locked.result
          c.begin_late-block.new.frame c.swap_locked.new.frame begins.began begins.keeps begins.frame
          c.swap_locked.ensures.thread c.swap_locked.ensures.swapped c.swap_locked.ensures.frame
          c.swap_locked.ensures.kept c.swap_locked.ensures.refused,
    )
