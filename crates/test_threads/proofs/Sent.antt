-- What a thread takes along, and what it hands back, go to another thread of the machine.
use denote.Param.Send.{IsSend, IsSync, sendable}
use Rattle.std.proofs.Crossing.{crosses}
use Rattle.std.specs.contracts.option.Option as Option
use Rattle.std.proofs.option.Option.TheSendSync as option
use Rattle.std.specs.contracts.alloc.Global as Global
use Rattle.std.specs.contracts.impls.GlobalAllocator.TheImpl.{ghosts}
use Rattle.brc_thread.specs.contracts.resting.Resting as Resting
use Rattle.brc_heap.proofs.Sent.{shared_send}
use Rattle.brc_thread.proofs.Sent.{resting_send, retired_send}
use Rattle.test_threads.specs.contracts.crowd.gate.Gate as Gate
use Rattle.test_threads.specs.contracts.crowd.lives.Done as Done
use Rattle.test_threads.specs.contracts.shared.crew.Job as Job

pub gate_sync : IsSync Gate.the_row
gate_sync = search (sendable, crosses) depth 40

pub done_send : IsSend Done.the_row
done_send = search (sendable, crosses, retired_send) depth 40

pub maybe_send : IsSend (Option.the_row (Resting.the_row Global.the_row ghosts))
maybe_send = option.the_send _ resting_send

pub job_send : IsSend Job.the_row
job_send = search (sendable, crosses, shared_send) depth 40
