use Rattle.brc_things.proofs.One_History.{is_sequential, last_stands, later_extends, earlier_legal}
use Rattle.brc_things.proofs.One_History.{fronts_sequential, own_calls}
use Rattle.brc_things.proofs.laws.calls_on_an_object_are_one_history.Goals as goal

pub returns-clause-sequential : goal.returns-clause-sequential
returns-clause-sequential c = is_sequential

pub returns-clause-last : goal.returns-clause-last
returns-clause-last c = last_stands

pub returns-clause-extends : goal.returns-clause-extends
returns-clause-extends c = later_extends

pub returns-clause-earlier : goal.returns-clause-earlier
returns-clause-earlier c = earlier_legal

pub returns-clause-fronts : goal.returns-clause-fronts
returns-clause-fronts c = fronts_sequential

pub returns-clause-own : goal.returns-clause-own
returns-clause-own c = own_calls
