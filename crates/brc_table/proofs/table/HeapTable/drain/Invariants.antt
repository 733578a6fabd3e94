use Rattle.law.specs.declared.rule.told.Moved.TheVariants.{Nothing}
use Rattle.law.specs.declared.rule.told.LogItem.TheVariants.{Stepped}
use Rattle.brc_table.proofs.Bounding.{queue_of}
use Rattle.brc_table.proofs.table.HeapTable.drain.Given as goal

abbrev pub ghosts-take_bits : goal.ghosts-take_bits
ghosts-take_bits g a = record {
  item = λ number. Stepped a.step number Nothing;
  cells = a.table.now.cells;
  word = queue_of a.word;
}
