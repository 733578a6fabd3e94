-- A thread at rest, and one that has retired, go to another thread of the machine; their heap is shared with it. The
-- search for this is cut at each type on the way, since it breaks off at the whole: what a seat gives back are blocks,
-- and a block's type is a cycle.
use denote.Param.Send.{IsSend, IsSync, sendable}
use denote.RattleType.{RattleType}
use denote.Hole.{as_row}
use denote.Struct.Field.{u32-field}
use Rattle.std.proofs.Crossing.{crosses, Box-send, frees, send as global_send}
use Rattle.std.specs.contracts.option.Option as Option
use Rattle.std.specs.contracts.boxed.Box as Box
use Rattle.brc_count.proofs.block.payload.Payload.TheSendSync as payload
use Rattle.std.proofs.option.Option.TheSendSync as option
use Rattle.std.specs.contracts.alloc.Global as Global
use Rattle.std.specs.contracts.impls.GlobalAllocator.TheImpl.{ghosts}
use Rattle.brc_count.specs.block.contracts.block.Block as Block
use Rattle.brc_count.specs.block.contracts.key_map.KeyMap as KeyMap
use Rattle.brc_count.specs.block.contracts.pairs.Pairs as Pairs
use Rattle.brc_count.specs.block.contracts.payload.Payload as Payload
use Rattle.brc_count.specs.block.contracts.worklist.Node as Node
use Rattle.brc_count.proofs.block.worklist.Worklist.TheLaws.TheKnot.{send-Node, send-Worklist}
use Rattle.brc_count.specs.table.contracts.seats.ThreadSeat as ThreadSeat
use Rattle.brc_count.specs.biased.contracts.resting_counter.RestingCounter as RestingCounter
use Rattle.brc_count.below.atomic_table.proofs.shared.Seat.TheSendSync as seat
use Rattle.brc_count.below.atomic_table.proofs.owned.Table.TheSendSync as table
use Rattle.brc_count.specs.table.contracts.table.HeapTable as HeapTable
use Rattle.brc_count.specs.contracts.resting.RestingFrame as RestingFrame
use Rattle.brc_thread.specs.contracts.resting.Resting as Resting
use Rattle.brc_thread.specs.contracts.heap.Heap as Heap
use Rattle.brc_thread.specs.contracts.leaving.Retired as Retired

boxed_send : (R : RattleType) → IsSend R → IsSend (Option.the_row (Box.the_row R Global.the_row ghosts))
boxed_send R s = option.the_send _ (Box-send R s)

map_send : IsSend (KeyMap.the_row Global.the_row ghosts)
map_send = search (sendable, crosses, frees) depth 40 fits 20000

pairs_send : IsSend (Pairs.the_row Global.the_row ghosts)
pairs_send = search (sendable, crosses, global_send, frees, map_send) depth 40 fits 20000

payload_send : IsSend (Payload.the_row Global.the_row ghosts)
payload_send = search (sendable, crosses, pairs_send) depth 40 fits 20000

payload_field_send : IsSend (as_row (Payload.the_field Global.the_row ghosts))
payload_field_send = search (sendable, crosses, payload.the_field_send, global_send, frees) depth 40

payload_row_send : IsSend (Payload.the_field Global.the_row ghosts).row
payload_row_send = search (sendable, crosses, payload.the_field_send, global_send, frees) depth 40

u32_send : IsSend (as_row u32-field)
u32_send = search sendable

node_send : IsSend (Node.the_field Global.the_row ghosts).row
node_send =
    let below = send-Worklist Global.the_row ghosts boxed_send u32_send payload_field_send
    in send-Node Global.the_row ghosts below u32_send payload_row_send

block_send : IsSend (Block.the_row Global.the_row ghosts)
block_send = search (sendable, crosses, node_send) depth 40

seat_send : IsSend (ThreadSeat.the_row Global.the_row ghosts)
seat_send = search (sendable, crosses, option.the_send, seat.the_send, block_send) depth 40

counter_send : IsSend (RestingCounter.the_row Global.the_row ghosts)
counter_send = search (sendable, crosses, seat_send) depth 40

frame_send : IsSend (RestingFrame.the_row Global.the_row ghosts)
frame_send = search (sendable, crosses, counter_send) depth 40

pub resting_send : IsSend (Resting.the_row Global.the_row ghosts)
resting_send = search (sendable, crosses, frame_send) depth 40

pub table_sync : IsSync (HeapTable.the_row Global.the_row ghosts)
table_sync = search (sendable, crosses, option.the_send, table.the_field_sync, block_send) depth 40

pub heap_sync : IsSync (Heap.the_row Global.the_row ghosts)
heap_sync = search (sendable, crosses, table_sync) depth 40

pub retired_send : IsSend (Retired.the_row Global.the_row ghosts)
retired_send = search (sendable, crosses, seat_send) depth 40
