use Rattle.std.proofs.Common.{ℕ, Result, Ok, Err}
use Rattle.std.specs.Prelude.{IfErr}
use Rattle.brc_client.specs.declared.status.Status.{Status}
use Rattle.brc_client.specs.Clients.{ClientSeen, Names}
use Rattle.brc_client.specs.Valued.{NoneRefused, Placeless, LacksNoneOf}
use Rattle.brc_client.proofs.client.Client.make_none.Goals as goal

placeless : (old new : ClientSeen) (container : ℕ) (result : Result (Unit {0}) Status) → Names old container
    → IfErr result (LacksNoneOf old new) → IfErr result (NoneRefused old new container)
placeless old new container (Ok done) names why = tt
placeless old new container (Err status) names why = Placeless why.fault names why.told why.lacks why.gone

pub returns-clause-refused : goal.returns-clause-refused
returns-clause-refused c = placeless c.args.self.now c.new_none.new.self c.args.container c.new_none.result
    c.in_ok-_place.ensures.named c.new_none.ensures.refused
