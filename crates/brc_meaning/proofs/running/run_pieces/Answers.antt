use Rattle.std.proofs.Common.{◌∙◌, sym, arith}
use Rattle.std.proofs.lemmas.Result.{err_from_is_err_and}
use Rattle.brc_meaning.proofs.Turns.{piece_stops}
use Rattle.brc_meaning.proofs.running.run_pieces.Goals as goal

pub returns-in_err-run_piece : goal.returns-in_err-run_piece
returns-in_err-run_piece g c =
    let answer = err_from_is_err_and c.from_residual.result c.from_residual.ensures.1 in
    rw (answer.1, answer.2) (λ own. sym c.loop-piece.invariant
    ∙ piece_stops c.args.pieces.now c.loop-piece.piece-index c.piece-item.result c.loop-piece.state _ (omega arith)
    c.piece-item.is (c.in_err-run_piece.ensures own))
