use denote.Param.Send.{sendable}
use Rattle.brc_c.proofs.Sent.{held_send, owner_send}
use Rattle.brc_c.proofs.held.may_be_moved.Goals as goal

pub is_send-requires-send-T : goal.is_send-requires-send-T
is_send-requires-send-T c κs = search (sendable, owner_send)

pub is_send-requires-2-send-T : goal.is_send-requires-2-send-T
is_send-requires-2-send-T c κs = search (sendable, held_send)
