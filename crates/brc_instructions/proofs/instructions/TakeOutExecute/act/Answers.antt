use Rattle.std.proofs.Common.{sym, subst}
use Rattle.std.proofs.lemmas.Result.{err_from_is_err_and}
use Rattle.brc_instructions.specs.Calls.{given_by}
use Rattle.brc_handles.proofs.Gained.{gains_besides}
use Rattle.brc_instructions.proofs.Follows_Of.{Led, later_held, own_before, called_gives}
use Rattle.brc_instructions.proofs.Stands_For.{after_gives, gives_refused}
use Rattle.brc_instructions.proofs.instructions.TakeOutExecute.act.Goals as goal

pub hold-requires : goal.hold-requires
hold-requires g c = record {
  besides = gains_besides c.requires.stands c.in_ok-reference.ensures.gains
      c.in_ok-reference.ensures.unlocked;
}

pub returns-clause-later : goal.returns-clause-later
returns-clause-later g c = later_held c.args.frame.now c.take_out.new.frame c.hold.new.frame
    c.take_out.ensures.later c.hold.ensures.quiet

pub returns-clause-follows : goal.returns-clause-follows
returns-clause-follows g c base s own means =
    let it = c.args.self.now in
    subst (Led base c.hold.new.frame c.hold.new.registers)
    (sym (after_gives it.giving it.to it.container s))
    (called_gives (given_by it.giving) it.container it.to base c.take_out.new.frame c.hold.new.frame
    c.args.registers.now c.hold.new.registers s c.in_ok-reference.reference
    (c.in_ok-reference.ensures.means base it.container c.args.registers.now s
    (own_before c.take_out.new.frame c.hold.new.frame c.hold.ensures.heap c.hold.ensures.quiet own)
    (sym c.in-Some.ensures) means)
    own c.hold.ensures.means)

pub returns-in_err-reference-clause-follows : goal.returns-in_err-reference-clause-follows
returns-in_err-reference-clause-follows g c base s own means =
    let it = c.args.self.now in
    let answer = err_from_is_err_and c.from_residual.result c.from_residual.ensures.1 in
    rw (answer.1, answer.2) (λ want.
    gives_refused it.giving it.to it.container base c.take_out.new.frame c.args.registers.now s _
    (c.in_err-reference.ensures.means base it.container c.args.registers.now s own (sym c.in-Some.ensures) means
    want))
