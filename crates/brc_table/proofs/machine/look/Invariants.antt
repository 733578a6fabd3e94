use Rattle.law.specs.declared.rule.told.LogItem.TheVariants.{Loaded}
use Rattle.brc_table.proofs.machine.look.Given as goal

abbrev pub ghosts-look_as : goal.ghosts-look_as
ghosts-look_as g a = record { item = λ number. Loaded a.word number }
