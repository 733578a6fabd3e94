use Rattle.std.proofs.Common.{Ok, FitsSigned, rules, w64, sym, subst}
use Rattle.std.proofs.lemmas.Int.{to_z-of_z}
use Rattle.brc_meaning.specs.States.{with_integer}
use Rattle.brc_count.proofs.law.living.Earlier.{later_both}
use Rattle.law_isolation.specs.Goes.{LedAsMeant}
use Rattle.brc_instructions.proofs.Follows_Of.{own_at}
use Rattle.brc_instructions.proofs.Sums_Read.{adds}
use Rattle.std.proofs.lemmas.Result.{err_from_is_err_and}
use Rattle.brc_instructions.proofs.Causes_Of.{uncaused, caused_from_in}
use Rattle.brc_instructions.proofs.instructions.AddExecute.act.Goals as goal

pub returns-clause-later : goal.returns-clause-later
returns-clause-later g c =
    later_both c.args.frame.now.seat.log c.read.new.frame.seat.log c.act.new.frame.seat.log c.read.ensures.later
    c.act.ensures.later

pub returns-clause-follows : goal.returns-clause-follows
returns-clause-follows g c base s own means =
    let it = c.args.self.now in
    let mid = c.read.new.frame in
    let fits : FitsSigned w64 c.in_ok-number.number = search rules in
    let told = c.in_ok-number.ensures.finds base s
    (own_at mid c.act.new.frame c.act.ensures.heap c.act.ensures.later own) means in
    subst (λ meant. LedAsMeant base c.act.new.frame c.act.new.registers s meant c.act.result)
    (sym (adds s it.to it.first it.second (Ok c.in_ok-number.number) told.1))
    (subst (λ z. LedAsMeant base c.act.new.frame c.act.new.registers s (Ok (with_integer z it.to s)) c.act.result)
    (to_z-of_z w64 c.in_ok-number.number fits)
    (c.act.ensures.follows base s own told.0))

pub returns-in_err-number-clause-why : goal.returns-in_err-number-clause-why
returns-in_err-number-clause-why g c =
    let answer = err_from_is_err_and c.from_residual.result c.from_residual.ensures.1 in
    rw (answer.1, answer.2) (uncaused c.args.frame.now c.read.new.frame _ c.in_err-number.ensures.room)

pub returns-clause-why : goal.returns-clause-why
returns-clause-why g c =
    caused_from_in c.args.frame.now c.read.new.frame c.act.new.frame c.act.result c.read.ensures.heap c.read.ensures.later
    c.act.ensures.why
