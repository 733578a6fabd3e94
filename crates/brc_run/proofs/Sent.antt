-- What a section's thread takes along, and what it hands back, go to another thread of the machine.
use denote.Param.Send.{IsSend, IsSync, sendable}
use Rattle.std.proofs.Crossing.{crosses, frees, send as global_send}
use Rattle.std.proofs.option.Option.TheSendSync as option
use Rattle.std.specs.contracts.alloc.Global as Global
use Rattle.std.specs.contracts.impls.GlobalAllocator.TheImpl.{ghosts}
use Rattle.brc_thread.proofs.Sent.{retired_send}
use Rattle.brc_section.proofs.board.Board.TheSendSync as board
use Rattle.brc_section.specs.contracts.board.Board as Board
use Rattle.brc_script.proofs.script.Section.TheSendSync as section
use Rattle.brc_section.proofs.section.SectionEnd.TheSendSync as section_end
use Rattle.brc_section.specs.contracts.section.SectionEnd as SectionEnd
use Rattle.brc_run.specs.contracts.crew.Done as Done
use Rattle.brc_script.specs.contracts.script.Section as Section

pub board_sync : IsSync (Board.the_row Global.the_row ghosts)
board_sync = search (sendable, crosses, board.the_sync, board.the_field_sync, global_send, frees) depth 40

pub section_sync : IsSync (Section.the_row Global.the_row ghosts)
section_sync = search (sendable, crosses, section.the_sync, section.the_field_sync, global_send, frees) depth 40

end_send : IsSend (SectionEnd.the_row Global.the_row ghosts)
end_send = search (
  sendable,
  crosses,
  option.the_send,
  section_end.the_send,
  section_end.the_field_send,
  global_send,
  frees,
) depth 40

pub done_send : IsSend (Done.the_row Global.the_row ghosts)
done_send = search (sendable, crosses, option.the_send, retired_send, end_send) depth 40
