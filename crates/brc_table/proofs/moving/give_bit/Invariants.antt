use Rattle.law.specs.declared.rule.told.LogItem.TheVariants.{Stepped}
use Rattle.brc_table.specs.Moving.{put_home}
use Rattle.brc_table.proofs.moving.give_bit.Given as goal

abbrev pub ghosts-give_bit_as : goal.ghosts-give_bit_as
ghosts-give_bit_as g a = record {
  item = λ number. Stepped a.step number (put_home a.seat.now.me.1);
  cells = a.table.now.cells;
}
