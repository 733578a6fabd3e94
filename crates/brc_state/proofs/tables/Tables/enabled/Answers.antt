use Rattle.brc_state.proofs.Refused.{told_by_none}
use Rattle.brc_state.proofs.tables.Tables.enabled.Goals as goal

pub returns : goal.returns
returns g c = told_by_none c.args.self.now c.args.event.now _ _ c.refusal_at.ensures c.is_none.ensures
