use Rattle.std.proofs.Common.{arith, length}
use Rattle.brc_count.proofs.Owning.{keeps_on}
use Rattle.brc_client.specs.Equal.{PieceAnswers, PieceRefused, PieceAlike}
use Rattle.brc_client.proofs.equal.rest_alike.Goals as goal

pub returns-in-Ok-Some-clause-compared : goal.returns-in-Ok-Some-clause-compared
returns-in-Ok-Some-clause-compared c =
    let piece = rw c.in-Ok-Some.field-0-is at c.in-Ok-Some.ensures.compared in
    c.pieces.invariant.goes_on _ _ (PieceAnswers c.pieces.from (length c.pieces.room) c.pieces.frame
    c.piece_alike.new.frame c.in-Ok-Some.is_alike (omega (arith, c.pieces.invariant.room)) piece)

pub pieces-preserved : goal.pieces-preserved
pieces-preserved c =
    let was = c.pieces.invariant in
    let here = rw c.in-Ok-None.field-0-is at c.in-Ok-None.ensures.compared in
    let piece = rw was.room at here in
    record {
      keeps = keeps_on was.keeps c.in-Ok-None.ensures.keeps;
      unlocked = c.in-Ok-None.ensures.unlocked;
      room = omega (arith, was.room, c.piece_alike.auto.room);
      other_room = omega (arith, was.other_room, c.piece_alike.auto.beside);
      goes_on = λ new result rest. was.goes_on new result (PieceAlike c.pieces.from 4096 c.pieces.frame
          c.piece_alike.new.frame new result (omega arith) piece rest);
    }

pub returns-in-Err-clause-compared : goal.returns-in-Err-clause-compared
returns-in-Err-clause-compared c =
    c.pieces.invariant.goes_on _ _ (PieceRefused c.pieces.from c.pieces.frame c.piece_alike.new.frame c.in-Err.fault
    c.in-Err.ensures.compared)
