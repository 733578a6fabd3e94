use Rattle.law.proofs.payloads.Payloads_Law.{payload_is_there}
use Rattle.law.proofs.payloads.Small_Contents.{small_is_there}
use Rattle.law.proofs.payloads.laws.payloads_lie_in_their_cells.Goals as goal

pub returns-clause-own : goal.returns-clause-own
returns-clause-own c = λ n limit run t cell payload options. payload_is_there n limit options run t cell payload

pub returns-clause-small : goal.returns-clause-small
returns-clause-small c = λ n limit run cell options. small_is_there n limit options run cell
