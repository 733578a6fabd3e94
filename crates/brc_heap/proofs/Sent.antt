-- A shared heap goes to another thread of the machine, and is shared with it, since its heap and its root are. The search
-- for this is cut at each type on the way, as in `brc_thread`: what a seat gives back are blocks, and a block's type is a
-- cycle.
use denote.Param.Send.{IsSend, IsSync, sendable, view_send, view_sync}
use denote.RattleType.{RattleType}
use denote.Hole.{as_row}
use denote.Struct.Field.{u32-field}
use Rattle.std.proofs.Crossing.{crosses, Box-send, frees, send as global_send}
use Rattle.std.specs.contracts.option.Option as Option
use Rattle.std.specs.contracts.boxed.Box as Box
use Rattle.std.proofs.option.Option.TheSendSync as option
use Rattle.std.specs.contracts.alloc.Global as Global
use Rattle.std.specs.contracts.impls.GlobalAllocator.TheImpl.{ghosts}
use Rattle.brc_count.proofs.block.payload.Payload.TheSendSync as payload
use Rattle.brc_count.specs.block.contracts.block.Block as Block
use Rattle.brc_count.specs.block.contracts.key_map.KeyMap as KeyMap
use Rattle.brc_count.specs.block.contracts.pairs.Pairs as Pairs
use Rattle.brc_count.specs.block.contracts.payload.Payload as Payload
use Rattle.brc_count.specs.block.contracts.worklist.Node as Node
use Rattle.brc_count.proofs.block.worklist.Worklist.TheLaws.TheKnot.{send-Node, send-Worklist}
use Rattle.brc_count.specs.table.contracts.table.HeapTable as HeapTable
use Rattle.brc_count.specs.table.contracts.root.RootSeat as RootSeat
use Rattle.atomic_table.proofs.shared.Seat.TheSendSync as seat
use Rattle.atomic_table.proofs.badge.Badge.TheSendSync as badge
use Rattle.atomic_table.proofs.owned.Table.TheSendSync as table
use Rattle.brc_thread.specs.contracts.heap.Heap as Heap
use Rattle.brc_thread.specs.contracts.root.Root as Root
use Rattle.brc_thread.proofs.Sent.{heap_sync}
use Rattle.brc_heap.specs.contracts.desk.Clerk as Clerk
use Rattle.brc_heap.specs.contracts.desk.Desk as Desk
use Rattle.brc_heap.specs.contracts.inner.Inner as Inner
use Rattle.brc_heap.specs.contracts.inner.Inner.TheInside as Inside
use Rattle.brc_heap.specs.contracts.last.LastReport as LastReport
use Rattle.brc_heap.specs.contracts.shared.Shared as Shared
use Rattle.brc_heap.specs.contracts.sight.Sight as Sight
use Rattle.brc_heap.specs.contracts.sight.Registration as Registration

-- ---- a block

boxed_send : (R : RattleType) → IsSend R → IsSend (Option.the_row (Box.the_row R Global.the_row ghosts))
boxed_send R s = option.the_send _ (Box-send R s)

map_send : IsSend (KeyMap.the_row Global.the_row ghosts)
map_send = search (sendable, crosses, frees) depth 40 fits 20000

pairs_send : IsSend (Pairs.the_row Global.the_row ghosts)
pairs_send = search (sendable, crosses, global_send, frees, map_send) depth 40 fits 20000

payload_send : IsSend (Payload.the_row Global.the_row ghosts)
payload_send = search (sendable, crosses, pairs_send) depth 40 fits 20000

payload_field_send : IsSend (as_row (Payload.the_field Global.the_row ghosts))
payload_field_send = search (sendable, crosses, payload.the_field_send, global_send, frees) depth 40

payload_row_send : IsSend (Payload.the_field Global.the_row ghosts).row
payload_row_send = search (sendable, crosses, payload.the_field_send, global_send, frees) depth 40

u32_send : IsSend (as_row u32-field)
u32_send = search sendable

node_send : IsSend (Node.the_field Global.the_row ghosts).row
node_send =
    let below = send-Worklist Global.the_row ghosts boxed_send u32_send payload_field_send
    in send-Node Global.the_row ghosts below u32_send payload_row_send

block_send : IsSend (Block.the_row Global.the_row ghosts)
block_send = search (sendable, crosses, node_send) depth 40

-- ---- a heap and its root

table_send : IsSend (HeapTable.the_row Global.the_row ghosts)
table_send = search (sendable, crosses, option.the_send, table.the_field_send, block_send) depth 40

heap_send : IsSend (Heap.the_row Global.the_row ghosts)
heap_send = search (sendable, crosses, table_send) depth 40

root_seat_send : IsSend (RootSeat.the_row Global.the_row ghosts)
root_seat_send = search (sendable, crosses, option.the_send, seat.the_send, block_send) depth 40

root_send : IsSend (Root.the_row Global.the_row ghosts)
root_send = search (sendable, crosses, root_seat_send) depth 40

-- ---- the desk, and what lies behind the count

desk_send : IsSend Desk.the_field.row
desk_send = search (sendable, crosses, option.the_send, table.the_field_send, root_send) depth 40

desk_sync : IsSync Desk.the_field.row
desk_sync = search (sendable, crosses, option.the_send, table.the_field_sync, root_send) depth 40

heap_part_send : IsSend (Heap.the_field Global.the_row ghosts).row
heap_part_send = heap_send

heap_part_sync : IsSync (Heap.the_field Global.the_row ghosts).row
heap_part_sync = heap_sync

inside_send : IsSend Inside.the_row
inside_send = search (sendable, crosses, heap_part_send, desk_send) depth 40

inside_sync : IsSync Inside.the_row
inside_sync = search (sendable, crosses, heap_part_sync, desk_sync) depth 40

inner_send : IsSend Inner.the_row
inner_send = view_send Inside.the_row _ _ _ _ inside_send

inner_sync : IsSync Inner.the_row
inner_sync = view_sync Inside.the_row _ _ _ _ inside_sync

pub shared_send : IsSend Shared.the_row
shared_send = search (sendable, crosses, inner_send, inner_sync) depth 40

pub shared_sync : IsSync Shared.the_row
shared_sync = search (sendable, crosses, inner_send, inner_sync) depth 40

-- ---- what was seen of a root has no bytes

pub sight_send : IsSend Sight.the_row
sight_send = search (sendable, crosses, badge.the_send) depth 40

pub registration_send : IsSend Registration.the_row
registration_send = search (sendable, crosses, sight_send) depth 40

-- ---- the report of a heap that has ended, with the seat of whoever ended it

clerk_send : IsSend Clerk.the_row
clerk_send = search (sendable, crosses, option.the_send, seat.the_send, root_send) depth 40

pub last_send : IsSend LastReport.the_row
last_send = search (sendable, crosses, clerk_send, frees) depth 40 fits 20000
