use Rattle.std.proofs.Common.{◌≡◌, drop}
use Rattle.std.specs.List.{list_any}
use Rattle.brc_script.specs.Scripts.{shares}
use Rattle.brc_script.proofs.private.is_private.Given as goal

abbrev pub invariant-loop-piece : goal.invariant-loop-piece
invariant-loop-piece g l = list_any shares (drop l.piece-index l.section.pieces) ≡ list_any shares l.section.pieces
