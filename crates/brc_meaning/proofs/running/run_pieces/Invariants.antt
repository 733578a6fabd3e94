use Rattle.std.proofs.Common.{◌≡◌, drop}
use Rattle.brc_meaning.specs.Sections.{pieces_after}
use Rattle.brc_meaning.proofs.running.run_pieces.Given as goal

abbrev pub invariant-loop-piece : goal.invariant-loop-piece
invariant-loop-piece g l = pieces_after (drop l.piece-index l.pieces) l.state ≡ pieces_after l.pieces l.fn.state
