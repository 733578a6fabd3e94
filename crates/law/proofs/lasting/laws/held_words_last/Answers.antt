use Rattle.law.proofs.lasting.Lasting.{births_last, burials_last, locks_last, keeping_lasts}
use Rattle.law.proofs.lasting.laws.held_words_last.Goals as goal

pub returns-clause-born : goal.returns-clause-born
returns-clause-born c = births_last

pub returns-clause-buried : goal.returns-clause-buried
returns-clause-buried c = burials_last

pub returns-clause-locked : goal.returns-clause-locked
returns-clause-locked c = locks_last

pub returns-clause-kept : goal.returns-clause-kept
returns-clause-kept c = keeping_lasts
