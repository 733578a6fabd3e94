use Rattle.std.proofs.Common.{refl}
use Rattle.brc_words.specs.declared.kind.Kind.TheVariants as kinds
use Rattle.brc_things.specs.Plain_Lists.{plain_take_at}
use Rattle.brc_things.specs.Rows.{plain_take}
use Rattle.brc_things.proofs.Joining.{takes_entry}
use Rattle.brc_things.proofs.waiting_calls.list_take.Goals as goal

pub returns-clause-taken : goal.returns-clause-taken
returns-clause-taken g c =
    let begins = c.begin_late-block.ensures in (
      begins.mid,
      begins.waits,
      takes_entry (plain_take kinds.«List» c.args.index) (plain_take_at c.args.index) c.take_locked.result
          c.begin_late-block.new.frame c.take_locked.new.frame (refl) begins.began begins.keeps begins.frame
          c.take_locked.ensures.thread c.take_locked.ensures.taken c.take_locked.ensures.places
          c.take_locked.ensures.kept c.take_locked.ensures.refused,
    )
