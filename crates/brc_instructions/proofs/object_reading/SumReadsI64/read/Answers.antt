use Rattle.std.proofs.Common.{◌∙◌, rules, sym, FitsSigned, w64}
use Rattle.std.proofs.lemmas.Result.{err_from_is_err_and}
use Rattle.brc_meaning.proofs.Sums.{sum_found, sum_refused}
use Rattle.brc_count.proofs.law.living.Earlier.{later_both}
use Rattle.law_isolation.proofs.Registers_Kept.{means_register}
use Rattle.brc_instructions.proofs.Follows_Of.{own_at}
use Rattle.brc_instructions.proofs.Sums_Read.{filled_of, numbers_summed, first_refused, second_refused}
use Rattle.brc_instructions.proofs.object_reading.SumReadsI64.read.Goals as goal

pub returns-in_err-number-clause-finds : goal.returns-in_err-number-clause-finds
returns-in_err-number-clause-finds g c =
    let p = err_from_is_err_and c.from_residual.result c.from_residual.ensures.1 in
    let fault = c.in_err-number.field-0.0 in
    let filled = filled_of c.get-else-is_none.result _ _ c.get-else-is_none.ensures c.is_none-else-is_none.ensures
    c.if-is_none-2.false in
    rw (p.1, p.2) (λ base s own means.
    let told = c.in_err-number.ensures.finds base s own means in
    let other = means_register base c.args.frame.now c.args.registers.now s c.args.self.now.second filled.0 means
    filled.1 in
    (told.0, first_refused s c.args.self.now.first c.args.self.now.second fault other.0 told.1 other.1))

pub returns-in_err-more-clause-later : goal.returns-in_err-more-clause-later
returns-in_err-more-clause-later g c =
    later_both c.args.frame.now.seat.log c.read.new.frame.seat.log c.read-2.new.frame.seat.log
    c.read.ensures.later c.read-2.ensures.later

pub returns-in_err-more-clause-finds : goal.returns-in_err-more-clause-finds
returns-in_err-more-clause-finds g c =
    let p = err_from_is_err_and c.from_residual-in_err-more.result c.from_residual-in_err-more.ensures.1 in
    let fault = c.in_err-more.field-0.0 in
    let mid = c.read.new.frame in
    rw (p.1, p.2) (λ base s own means.
    let told = c.in_ok-number.ensures.finds base s
    (own_at mid c.read-2.new.frame c.read-2.ensures.heap c.read-2.ensures.later own) means in
    let more = c.in_err-more.ensures.finds base s own told.0 in
    (more.0, second_refused s c.args.self.now.first c.args.self.now.second c.in_ok-number.number fault told.1 more.1))

pub returns-in-Some-clause-later : goal.returns-in-Some-clause-later
returns-in-Some-clause-later g c =
    later_both c.args.frame.now.seat.log c.read.new.frame.seat.log c.read-2.new.frame.seat.log
    c.read.ensures.later c.read-2.ensures.later

pub returns-in-Some-clause-finds : goal.returns-in-Some-clause-finds
returns-in-Some-clause-finds g c base s own means =
    let mid = c.read.new.frame in
    let number = c.in_ok-number.number in
    let more = c.in_ok-more.more in
    let number_fits : FitsSigned w64 number = search rules in
    let more_fits : FitsSigned w64 more = search rules in
    let told = c.in_ok-number.ensures.finds base s
    (own_at mid c.read-2.new.frame c.read-2.ensures.heap c.read-2.ensures.later own) means in
    let then = c.in_ok-more.ensures.finds base s own told.0 in (
      then.0,
      numbers_summed s c.args.self.now.first c.args.self.now.second number more told.1 then.1
          ∙ sym (sum_found number more c.in-Some.sum number_fits more_fits (c.in-Some.ensures).0 (c.in-Some.ensures).1),
    )

pub returns-in-None-clause-later : goal.returns-in-None-clause-later
returns-in-None-clause-later g c =
    later_both c.args.frame.now.seat.log c.read.new.frame.seat.log c.read-2.new.frame.seat.log
    c.read.ensures.later c.read-2.ensures.later

pub returns-in-None-clause-finds : goal.returns-in-None-clause-finds
returns-in-None-clause-finds g c base s own means =
    let mid = c.read.new.frame in
    let number = c.in_ok-number.number in
    let more = c.in_ok-more.more in
    let number_fits : FitsSigned w64 number = search rules in
    let more_fits : FitsSigned w64 more = search rules in
    let told = c.in_ok-number.ensures.finds base s
    (own_at mid c.read-2.new.frame c.read-2.ensures.heap c.read-2.ensures.later own) means in
    let then = c.in_ok-more.ensures.finds base s own told.0 in (
      then.0,
      numbers_summed s c.args.self.now.first c.args.self.now.second number more told.1 then.1
          ∙ sym (sum_refused number more number_fits more_fits c.in-None.ensures),
    )

pub returns-in_err-number-clause-room : goal.returns-in_err-number-clause-room
returns-in_err-number-clause-room g c =
    let answer = err_from_is_err_and c.from_residual.result c.from_residual.ensures.1 in
    rw (answer.1, answer.2) c.in_err-number.ensures.room

pub returns-in_err-more-clause-room : goal.returns-in_err-more-clause-room
returns-in_err-more-clause-room g c =
    let answer = err_from_is_err_and c.from_residual-in_err-more.result c.from_residual-in_err-more.ensures.1 in
    rw (answer.1, answer.2) c.in_err-more.ensures.room
