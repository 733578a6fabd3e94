use Rattle.std.proofs.Common.{◌++◌, ◌∷◌, decimal, refl}
use Rattle.std.proofs.lemmas.Result.{err_from_is_err_and}
use Rattle.brc_text.proofs.PutLaws.{starts, fails}
use Rattle.brc_text.proofs.headed.add_number.Goals as goal

pub returns-in_err-make_room-clause-puts : goal.returns-in_err-make_room-clause-puts
returns-in_err-make_room-clause-puts g c =
    let p = err_from_is_err_and c.from_residual.result c.from_residual.ensures.1 in
    let word = 32 ∷ decimal c.args.number in
    let whole = starts (g.W.Write.contents c.args.writer.now) (c.args.text.now.items ++ word) in
    rw (p.1, p.2) (
      c.in_err-make_room.ensures.puts.0,
      c.in_err-make_room.ensures.puts.1 ++ word,
      fails c.args.text.now.items word whole refl c.in_err-make_room.ensures.puts.2,
    )
