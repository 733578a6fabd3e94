use Rattle.std.proofs.Common.{◌+◌, ◌%◌, ◌^◌}
use Rattle.law.specs.declared.rule.told.Moved.TheVariants.{Nothing}
use Rattle.law.specs.declared.rule.told.LogItem.TheVariants.{Stepped}
use Rattle.brc_table.proofs.table.HeapTable.merge_add.Given as goal

abbrev pub ghosts-add_up : goal.ghosts-add_up
ghosts-add_up g a = record { item = λ number. Stepped a.step ((number + a.more) % 2 ^ 64) Nothing; more = a.more }
