use Rattle.std.proofs.Common.{sym}
use Rattle.law_isolation.proofs.Later_Calls.{later_given}
use Rattle.law_isolation.proofs.Retaining.{means_retained}
use Rattle.brc_instructions.proofs.Follows_Of.{owned_at, cell_of, later_held, copies}
use Rattle.std.proofs.lemmas.Result.{err_from_is_err_and}
use Rattle.brc_instructions.proofs.Causes_Of.{caused_handle}
use Rattle.brc_instructions.proofs.instructions.CopyHeldExecute.act.Goals as goal

pub returns-clause-later : goal.returns-clause-later
returns-clause-later g c =
    let it = c.args.self.now in
    let at = cell_of (owned_at c.args.frame.now c.args.registers.now it.from c.requires.stands.holds.owned
    (sym c.in-Some.ensures)) in
    later_held c.args.frame.now c.retain.new.self c.hold.new.frame (later_given (c.in_ok-more.ensures.given at.0 at.1))
    c.hold.ensures.quiet

pub returns-clause-follows : goal.returns-clause-follows
returns-clause-follows g c base s own means =
    let it = c.args.self.now in
    let at = cell_of (owned_at c.args.frame.now c.args.registers.now it.from c.requires.stands.holds.owned
    (sym c.in-Some.ensures)) in
    copies base c.retain.new.self c.hold.new.frame c.args.registers.now c.hold.new.registers s it.to it.from
    c.in_ok-more.more
    (means_retained base c.args.frame.now c.retain.new.self c.args.registers.now s it.from at.0 c.in-Some.handle.now
    c.in_ok-more.more
    means (sym c.in-Some.ensures) at.1 c.retain.ensures.heap (c.in_ok-more.ensures.given at.0 at.1))
    own c.hold.ensures.means

pub returns-in_err-more-clause-why : goal.returns-in_err-more-clause-why
returns-in_err-more-clause-why g c =
    let answer = err_from_is_err_and c.from_residual.result c.from_residual.ensures.1 in
    rw (answer.1, answer.2) (caused_handle c.args.frame.now c.retain.new.self _ c.in_err-more.ensures.refused
    c.in_err-more.ensures.unchanged)
