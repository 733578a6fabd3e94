use Rattle.law_isolation.proofs.Later_Calls.{later_made}
use Rattle.brc_instructions.proofs.Follows_Of.{later_held, makes_empty}
use Rattle.std.proofs.lemmas.Result.{err_from_is_err_and}
use Rattle.brc_instructions.proofs.Causes_Of.{caused_making}
use Rattle.brc_instructions.proofs.instructions.MakeEmptyExecute.act.Goals as goal

pub returns-clause-later : goal.returns-clause-later
returns-clause-later g c =
    later_held c.args.frame.now c.new_empty.new.frame c.hold.new.frame
    (later_made c.in_ok-made.ensures.made) c.hold.ensures.quiet

pub returns-clause-follows : goal.returns-clause-follows
returns-clause-follows g c base s own means =
    let it = c.args.self.now in
    makes_empty base c.args.frame.now c.new_empty.new.frame c.hold.new.frame c.args.registers.now
    c.hold.new.registers s it.to c.in_ok-made.made
    means c.new_empty.ensures.heap c.hold.ensures.heap c.hold.ensures.quiet own c.hold.ensures.means
    it.empty c.in_ok-made.ensures.made

pub returns-in_err-made-clause-why : goal.returns-in_err-made-clause-why
returns-in_err-made-clause-why g c =
    let answer = err_from_is_err_and c.from_residual.result c.from_residual.ensures.1 in
    rw (answer.1, answer.2) (caused_making c.args.frame.now c.new_empty.new.frame _ c.in_err-made.ensures.refused)
