-- What a thread ends as, where its client is lent.
use Rattle.std.specs.Prelude.{Option}
use Rattle.std.specs.Borrow.{LendsIf, Fml, MutBor}
use Rattle.brc_client.specs.Clients.{ClientSeen}
use Rattle.brc_client.specs.declared.thread.Stage.{Stage}
use Rattle.brc_client.specs.declared.thread.Stage.TheVariants as stages
use Rattle.brc_client.specs.contracts.client.Client as client
use Rattle.brc_client.specs.contracts.thread.Stage as stage
use Rattle.brc_client.specs.contracts.thread.Thread as thread

-- It works still, with the client as it was left; or it has left, and stays as it is.
abbrev pub lends_of_stage : MutBor Stage → Option (MutBor ClientSeen) → Fml
lends_of_stage s r = LendsIf stage.the_row client.the_row s r (λ left. stages.Works left) s.now

abbrev pub lends_of_thread : MutBor Stage → Option (MutBor ClientSeen) → Fml
lends_of_thread t r = LendsIf thread.the_row client.the_row t r (λ left. stages.Works left) t.now
