use Rattle.std.proofs.Common.{◌≡◌, ◌∙◌, pos, true, false, Ok, Err, FitsSigned, w64, sym, subst}
use Rattle.std.proofs.lemmas.Int.{to_z-of_z}
use Rattle.std.proofs.lemmas.Result.{err_from_is_err_and}
use Rattle.brc_meaning.specs.Objects.{entries_in}
use Rattle.brc_meaning.specs.States.{with_integer}
use Rattle.brc_count.proofs.law.living.Earlier.{later_both}
use Rattle.law_isolation.specs.Goes.{LedAsMeant}
use Rattle.law_isolation.proofs.Calls_Mean.{len_means}
use Rattle.brc_instructions.proofs.Looks.{later_len}
use Rattle.brc_instructions.proofs.Follows_Of.{own_at}
use Rattle.brc_instructions.proofs.Sums_Read.{found_read, counts}
use Rattle.brc_instructions.proofs.Causes_Of.{uncaused, len_room, caused_from_in}
use Rattle.brc_instructions.proofs.instructions.LenExecute.act.Goals as goal

pub returns-in_err-entries-clause-later : goal.returns-in_err-entries-clause-later
returns-in_err-entries-clause-later g c =
    later_len c.args.frame.now c.len_of.new.frame c.in-Some.container.now.place c.len_of.result c.len_of.ensures.looked

pub returns-in_err-entries-clause-follows : goal.returns-in_err-entries-clause-follows
returns-in_err-entries-clause-follows g c =
    let it = c.args.self.now in
    let p = err_from_is_err_and c.from_residual.result c.from_residual.ensures.1 in
    let fault = c.in_err-entries.field-0.0 in
    rw (p.1, p.2) (λ base s own means.
    let told = len_means base c.args.frame.now c.len_of.new.frame c.args.registers.now s own it.container
    c.in-Some.container.now (sym c.in-Some.ensures)
    means (Err fault) c.in_err-entries.ensures.looked c.in_err-entries.ensures.waited in
    λ want. (
      counts s it.to it.container (Err fault)
          (found_read entries_in it.container s (Err fault) told.1),
      told.0,
    ))

pub returns-in-Ok-clause-later : goal.returns-in-Ok-clause-later
returns-in-Ok-clause-later g c =
    later_both c.args.frame.now.seat.log c.len_of.new.frame.seat.log c.act.new.frame.seat.log
    (later_len c.args.frame.now c.len_of.new.frame c.in-Some.container.now.place c.len_of.result
    c.len_of.ensures.looked) c.act.ensures.later

pub returns-in-Ok-clause-follows : goal.returns-in-Ok-clause-follows
returns-in-Ok-clause-follows g c base s own means =
    let it = c.args.self.now in
    let mid = c.len_of.new.frame in
    let told = len_means base c.args.frame.now mid c.args.registers.now s
    (own_at mid c.act.new.frame c.act.ensures.heap c.act.ensures.later own)
    it.container c.in-Some.container.now (sym c.in-Some.ensures) means (Ok c.in_ok-entries.entries)
    c.in_ok-entries.ensures.looked c.in_ok-entries.ensures.waited in
    subst (λ meant. LedAsMeant base c.act.new.frame c.act.new.registers s meant c.act.result)
    (sym (counts s it.to it.container (Ok c.in_ok-entries.entries)
    (found_read entries_in it.container s (Ok c.in_ok-entries.entries) told.1)))
    (let number = c.in-Ok.number in
    let is : number ≡ pos c.in_ok-entries.entries = (c.in-Ok.ensures).1 in
    let fits : FitsSigned w64 number = subst (FitsSigned w64) (sym is) (c.in-Ok.ensures).0 in
    subst (λ z. LedAsMeant base c.act.new.frame c.act.new.registers s (Ok (with_integer z it.to s)) c.act.result)
    (to_z-of_z w64 number fits ∙ is)
    (c.act.ensures.follows base s own told.0))

pub returns-in-Err-clause-later : goal.returns-in-Err-clause-later
returns-in-Err-clause-later g c =
    later_len c.args.frame.now c.len_of.new.frame c.in-Some.container.now.place c.len_of.result c.len_of.ensures.looked

pub returns-in-Err-clause-follows : goal.returns-in-Err-clause-follows
returns-in-Err-clause-follows g c base s own means want = absurd (let bad : true ≡ false = want in cc)

pub returns-in_err-entries-clause-why : goal.returns-in_err-entries-clause-why
returns-in_err-entries-clause-why g c =
    let answer = err_from_is_err_and c.from_residual.result c.from_residual.ensures.1 in
    rw (answer.1, answer.2) (uncaused c.args.frame.now c.len_of.new.frame _
    (len_room c.args.frame.now c.len_of.new.frame c.in-Some.container.now.place (Err _)
    c.in_err-entries.ensures.looked))

pub returns-in-Ok-clause-why : goal.returns-in-Ok-clause-why
returns-in-Ok-clause-why g c =
    caused_from_in c.args.frame.now c.len_of.new.frame c.act.new.frame c.act.result c.len_of.ensures.keeps.heap
    (later_len c.args.frame.now c.len_of.new.frame c.in-Some.container.now.place c.len_of.result
    c.len_of.ensures.looked) c.act.ensures.why
