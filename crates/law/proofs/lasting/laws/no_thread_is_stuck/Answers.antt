use Rattle.law.proofs.lasting.Progress.{hands_go_on, births_go_on, references_go, popped_go, blocks_go, locks_go}
use Rattle.law.proofs.lasting.Progress.{leavings_begin, offers_go, closings_go, gatherings_go, openings_go}
use Rattle.law.proofs.lasting.laws.no_thread_is_stuck.Goals as goal

pub returns-clause-hands : goal.returns-clause-hands
returns-clause-hands c = hands_go_on

pub returns-clause-births : goal.returns-clause-births
returns-clause-births c = births_go_on

pub returns-clause-references : goal.returns-clause-references
returns-clause-references c = references_go

pub returns-clause-popped : goal.returns-clause-popped
returns-clause-popped c = popped_go

pub returns-clause-blocks : goal.returns-clause-blocks
returns-clause-blocks c = blocks_go

pub returns-clause-locks : goal.returns-clause-locks
returns-clause-locks c = locks_go

pub returns-clause-begins : goal.returns-clause-begins
returns-clause-begins c = leavings_begin

pub returns-clause-closes : goal.returns-clause-closes
returns-clause-closes c = closings_go

pub returns-clause-gathered : goal.returns-clause-gathered
returns-clause-gathered c = gatherings_go

pub returns-clause-offers : goal.returns-clause-offers
returns-clause-offers c = offers_go

pub returns-clause-opens : goal.returns-clause-opens
returns-clause-opens c = openings_go
