use Rattle.law.specs.declared.rule.told.Moved.TheVariants.{Nothing}
use Rattle.law.specs.declared.rule.told.LogItem.TheVariants.{Stepped}
use Rattle.brc_table.proofs.machine.add.Given as goal

abbrev pub ghosts-add_as : goal.ghosts-add_as
ghosts-add_as g a = record { item = λ number. Stepped a.step number Nothing }
