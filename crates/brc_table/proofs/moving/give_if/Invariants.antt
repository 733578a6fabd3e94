use Rattle.law.specs.declared.rule.told.LogItem.TheVariants.{Stepped}
use Rattle.brc_table.specs.Moving.{put_home}
use Rattle.brc_table.proofs.moving.give_if.Given as goal

abbrev pub ghosts-give_if_as : goal.ghosts-give_if_as
ghosts-give_if_as g a = record { item = Stepped a.step a.new (put_home a.seat.now.me.1); number = a.new }
