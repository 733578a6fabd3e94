use Rattle.law.specs.declared.rule.told.Moved.TheVariants.{Nothing}
use Rattle.law.specs.declared.rule.told.LogItem.TheVariants.{Stepped}
use Rattle.brc_table.proofs.table.HeapTable.wake.Given as goal

abbrev pub ghosts-take_told : goal.ghosts-take_told
ghosts-take_told g a = record { item = λ there. Stepped a.step there Nothing; cells = a.table.now.cells }
