use Rattle.std.proofs.Common.{arith, refl}
use Rattle.brc_client.specs.Equal.{PieceAnswers, PieceRefused, PieceAlike, TwoCells}
use Rattle.brc_client.proofs.equal.cells_alike.Goals as goal

pub returns-in-Ok-Some-clause-compared : goal.returns-in-Ok-Some-clause-compared
returns-in-Ok-Some-clause-compared c =
    let piece = rw c.in-Ok-Some.field-0-is at c.in-Ok-Some.ensures.compared in
    TwoCells (c.if-same_object.ensures.apart refl) (PieceAnswers 0 256 c.args.frame.now c.piece_alike.new.frame
    c.in-Ok-Some.is_alike (omega arith) piece)

pub returns-in-Ok-None-clause-compared : goal.returns-in-Ok-None-clause-compared
returns-in-Ok-None-clause-compared c =
    let piece = rw c.in-Ok-None.field-0-is at c.in-Ok-None.ensures.compared in
    TwoCells (c.if-same_object.ensures.apart refl) (PieceAlike 0 256 c.args.frame.now c.piece_alike.new.frame
    c.rest_alike.new.frame c.rest_alike.result (omega arith) piece c.rest_alike.ensures.compared)

pub returns-in-Err-clause-compared : goal.returns-in-Err-clause-compared
returns-in-Err-clause-compared c =
    TwoCells (c.if-same_object.ensures.apart refl) (PieceRefused 0 c.args.frame.now c.piece_alike.new.frame c.in-Err.fault
    c.in-Err.ensures.compared)
