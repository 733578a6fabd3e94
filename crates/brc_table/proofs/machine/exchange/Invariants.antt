use Rattle.law.specs.declared.rule.told.Moved.TheVariants.{Nothing}
use Rattle.law.specs.declared.rule.told.LogItem.TheVariants.{Stepped}
use Rattle.brc_table.proofs.machine.exchange.Given as goal

abbrev pub ghosts-exchange_as : goal.ghosts-exchange_as
ghosts-exchange_as g a = record { item = Stepped a.step a.old Nothing; word = a.word }
