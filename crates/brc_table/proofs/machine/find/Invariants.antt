use Rattle.law.specs.declared.rule.told.Moved.TheVariants.{Nothing}
use Rattle.law.specs.declared.rule.told.LogItem.TheVariants.{Stepped}
use Rattle.brc_table.proofs.machine.find.Given as goal

abbrev pub ghosts-find_as : goal.ghosts-find_as
ghosts-find_as g a = record { item = Stepped a.step a.new Nothing; number = a.new }
