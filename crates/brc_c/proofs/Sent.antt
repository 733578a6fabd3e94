-- A heap and a thread, as C's variables lead to them, go to another thread of the machine. The search for this is cut at
-- each type on the way, as in `brc_thread`: what a seat gives back are blocks, and a block's type is a cycle.
use denote.Param.Send.{IsSend, sendable}
use denote.RattleType.{RattleType}
use denote.Hole.{as_row}
use denote.Struct.Field.{u32-field}
use Rattle.std.proofs.Crossing.{crosses, Box-send, frees, send as global_send}
use Rattle.std.specs.contracts.option.Option as Option
use Rattle.std.specs.contracts.boxed.Box as Box
use Rattle.std.proofs.option.Option.TheSendSync as option
use Rattle.std.specs.contracts.alloc.Global as Global
use Rattle.std.specs.contracts.impls.GlobalAllocator.TheImpl.{ghosts}
use Rattle.brc_count.proofs.block.payload.Payload.TheSendSync as payload
use Rattle.brc_count.specs.block.contracts.block.Block as Block
use Rattle.brc_count.specs.block.contracts.key_map.KeyMap as KeyMap
use Rattle.brc_count.specs.block.contracts.pairs.Pairs as Pairs
use Rattle.brc_count.specs.block.contracts.payload.Payload as Payload
use Rattle.brc_count.specs.block.contracts.worklist.Node as Node
use Rattle.brc_count.specs.block.contracts.worklist.Worklist as Worklist
use Rattle.brc_count.proofs.block.worklist.Worklist.TheLaws.TheKnot.{send-Node, send-Worklist}
use Rattle.brc_count.specs.table.contracts.seats.ThreadSeat as ThreadSeat
use Rattle.atomic_table.proofs.shared.Seat.TheSendSync as seat
use Rattle.brc_thread.proofs.Sent.{retired_send}
use Rattle.brc_heap.proofs.Sent.{shared_send, sight_send, registration_send, last_send}
use Rattle.brc_client.specs.contracts.client.Client as Client
use Rattle.brc_client.specs.contracts.owner.Owner as Owner
use Rattle.brc_client.specs.contracts.owner.Closed as Closed
use Rattle.brc_client.specs.contracts.owner.OpenHeap as OpenHeap
use Rattle.brc_client.specs.contracts.numbers.Numbers as Numbers
use Rattle.brc_client.specs.contracts.thread.DoneThread as DoneThread
use Rattle.brc_client.specs.contracts.thread.LeavingThread as LeavingThread
use Rattle.brc_client.specs.contracts.thread.Thread as Thread
use Rattle.brc_c.specs.contracts.held.Held as Held

-- ---- a block

boxed_send : (R : RattleType) → IsSend R → IsSend (Option.the_row (Box.the_row R Global.the_row ghosts))
boxed_send R s = option.the_send _ (Box-send R s)

map_send : IsSend (KeyMap.the_row Global.the_row ghosts)
map_send = search (sendable, crosses, frees) depth 40 fits 20000

pairs_send : IsSend (Pairs.the_row Global.the_row ghosts)
pairs_send = search (sendable, crosses, global_send, frees, map_send) depth 40 fits 20000

payload_send : IsSend (Payload.the_row Global.the_row ghosts)
payload_send = search (sendable, crosses, pairs_send) depth 40 fits 20000

payload_field_send : IsSend (as_row (Payload.the_field Global.the_row ghosts))
payload_field_send = search (sendable, crosses, payload.the_field_send, global_send, frees) depth 40

payload_row_send : IsSend (Payload.the_field Global.the_row ghosts).row
payload_row_send = search (sendable, crosses, payload.the_field_send, global_send, frees) depth 40

u32_send : IsSend (as_row u32-field)
u32_send = search sendable

node_send : IsSend (Node.the_field Global.the_row ghosts).row
node_send =
    let below = send-Worklist Global.the_row ghosts boxed_send u32_send payload_field_send
    in send-Node Global.the_row ghosts below u32_send payload_row_send

block_send : IsSend (Block.the_row Global.the_row ghosts)
block_send = search (sendable, crosses, node_send) depth 40

worklist_send : IsSend (Worklist.the_row Global.the_row ghosts)
worklist_send = send-Worklist Global.the_row ghosts boxed_send u32_send payload_field_send

-- ---- a thread, at each of its stages

seat_send : IsSend (ThreadSeat.the_row Global.the_row ghosts)
seat_send = search (sendable, crosses, option.the_send, seat.the_send, block_send) depth 40

numbers_send : IsSend Numbers.the_row
numbers_send = search (sendable, crosses, registration_send, frees) depth 40

client_send : IsSend Client.the_row
client_send =
    search (sendable, crosses, shared_send, seat_send, worklist_send, numbers_send, sight_send, frees) depth 60 fits 20000

leaving_send : IsSend LeavingThread.the_row
leaving_send = search (sendable, crosses, shared_send, seat_send, worklist_send, frees) depth 60 fits 20000

done_send : IsSend DoneThread.the_row
done_send = search (sendable, crosses, shared_send, retired_send) depth 40

thread_send : IsSend Thread.the_row
thread_send = search (sendable, crosses, client_send, leaving_send, done_send, sight_send) depth 40

pub held_send : IsSend Held.the_row
held_send = search (sendable, crosses, thread_send) depth 40

-- ---- a heap, open or closed

closed_send : IsSend Closed.the_row
closed_send = search (sendable, crosses, last_send, frees) depth 40 fits 20000

opened_send : IsSend OpenHeap.the_row
opened_send = search (sendable, crosses, shared_send, sight_send) depth 40

pub owner_send : IsSend Owner.the_row
owner_send = search (sendable, crosses, opened_send, closed_send, sight_send) depth 40
