use Rattle.law.specs.declared.rule.told.LogItem.TheVariants.{Stepped}
use Rattle.brc_table.specs.Moving.{put_home}
use Rattle.brc_table.proofs.moving.give.Given as goal

abbrev pub ghosts-give_as : goal.ghosts-give_as
ghosts-give_as g a = record
    { item = λ number. Stepped a.step number (put_home a.seat.now.me.1); cells = a.table.now.cells }
