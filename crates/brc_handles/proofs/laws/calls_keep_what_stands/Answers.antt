use Rattle.brc_handles.proofs.Gained.{still_stands, still_besides}
use Rattle.brc_handles.proofs.laws.calls_keep_what_stands.Goals as goal

pub returns-clause-stands : goal.returns-clause-stands
returns-clause-stands g c = still_stands

pub returns-clause-besides : goal.returns-clause-besides
returns-clause-besides g c = still_besides
