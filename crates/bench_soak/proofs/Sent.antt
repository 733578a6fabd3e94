-- What the thread that stays takes along goes to another thread of the machine.
use denote.Param.Send.{IsSend}
use Rattle.std.specs.contracts.option.Option as Option
use Rattle.std.proofs.option.Option.TheSendSync as option
use Rattle.std.specs.contracts.alloc.Global as Global
use Rattle.std.specs.contracts.impls.GlobalAllocator.TheImpl.{ghosts}
use Rattle.brc_thread.specs.contracts.resting.Resting as Resting
use Rattle.brc_thread.proofs.Sent.{resting_send}

pub maybe_send : IsSend (Option.the_row (Resting.the_row Global.the_row ghosts))
maybe_send = option.the_send _ resting_send
