-- What the room of a thread ends as, where the thread's client is lent.
use Rattle.std.specs.Prelude.{Option}
use Rattle.std.specs.Borrow.{LendsIf, Fml, MutBor}
use Rattle.brc_client.specs.Clients.{ClientSeen}
use Rattle.brc_client.specs.declared.thread.Stage.TheVariants as stages
use Rattle.brc_client.specs.contracts.client.Client as client
use Rattle.brc_c.specs.declared.held.Held.{Held}
use Rattle.brc_c.specs.contracts.held.Held as held

abbrev pub lends_client : MutBor Held → Option (MutBor ClientSeen) → Fml
lends_client h r = LendsIf held.the_row client.the_row h r (λ left. record { thread = stages.Works left }) h.now
