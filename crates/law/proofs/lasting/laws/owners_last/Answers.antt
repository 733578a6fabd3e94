use Rattle.law.proofs.lasting.Lasting.{foreign_lasts, nobodys_last, owning_lasts}
use Rattle.law.proofs.lasting.Telling.{owns_lasts, merging_lasts, yielding_lasts, adopting_lasts, popped_lasts}
use Rattle.law.proofs.lasting.laws.owners_last.Goals as goal

pub returns-clause-foreign : goal.returns-clause-foreign
returns-clause-foreign c = foreign_lasts

pub returns-clause-owned : goal.returns-clause-owned
returns-clause-owned c = owning_lasts

pub returns-clause-nobodys : goal.returns-clause-nobodys
returns-clause-nobodys c = nobodys_last

pub returns-clause-own : goal.returns-clause-own
returns-clause-own c = owns_lasts

pub returns-clause-merging : goal.returns-clause-merging
returns-clause-merging c = merging_lasts

pub returns-clause-yielding : goal.returns-clause-yielding
returns-clause-yielding c = yielding_lasts

pub returns-clause-adopting : goal.returns-clause-adopting
returns-clause-adopting c = adopting_lasts

pub returns-clause-popped : goal.returns-clause-popped
returns-clause-popped c = popped_lasts
