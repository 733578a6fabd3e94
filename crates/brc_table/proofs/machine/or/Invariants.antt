use Rattle.law.specs.declared.rule.told.Moved.TheVariants.{Nothing}
use Rattle.law.specs.declared.rule.told.LogItem.TheVariants.{Stepped}
use Rattle.brc_table.proofs.machine.or.Given as goal

abbrev pub ghosts-or_as : goal.ghosts-or_as
ghosts-or_as g a = record { item = λ number. Stepped a.step number Nothing }
