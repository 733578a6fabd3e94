use Rattle.std.proofs.Common.{sym, subst}
use Rattle.brc_instructions.specs.Calls.{taken_by}
use Rattle.brc_instructions.proofs.Follows_Of.{Led, Left, later_held, own_before, put_none, put_one, took, swapped}
use Rattle.brc_instructions.proofs.Follows_Of.{handed_back}
use Rattle.brc_instructions.proofs.Stands_For.{after_takes}
use Rattle.brc_instructions.proofs.instructions.PutInExecute.act.Goals as goal

pub returns-in-Ok-None-clause-follows : goal.returns-in-Ok-None-clause-follows
returns-in-Ok-None-clause-follows g c apart base s own means =
    let it = c.args.self.now in
    subst (Led base c.put_in.new.frame c.take.new.self)
    (sym (after_takes it.taking it.container it.value s))
    (took (taken_by it.taking) it.container it.value base c.args.frame.now
    c.args.registers.now c.take.new.self s c.in-Some.given
    apart means c.in-Some.ensures.comes.was c.take.ensures.set c.put_in.new.frame own
    (λ base s reference own means.
    put_none (taken_by it.taking reference) it.container base c.put_in.new.frame c.take.new.self s
    c.in-Ok-None.field-0 c.in-Ok-None.field-0-is (c.in-Ok-None.ensures.asked base s reference own means)))

pub returns-in-Ok-Some-clause-later : goal.returns-in-Ok-Some-clause-later
returns-in-Ok-Some-clause-later g c = later_held c.args.frame.now c.put_in.new.frame c.hold.new.frame
    c.put_in.ensures.later c.hold.ensures.quiet

pub returns-in-Ok-Some-clause-follows : goal.returns-in-Ok-Some-clause-follows
returns-in-Ok-Some-clause-follows g c apart base s own means =
    let it = c.args.self.now in
    subst (Led base c.hold.new.frame c.hold.new.registers)
    (sym (after_takes it.taking it.container it.value s))
    (swapped (taken_by it.taking) it.container it.value base
    c.args.frame.now c.args.registers.now c.take.new.self s c.in-Some.given
    apart means c.in-Some.ensures.comes.was c.take.ensures.set c.put_in.new.frame c.hold.new.frame
    c.hold.new.registers c.in-Ok-Some.old
    (own_before c.put_in.new.frame c.hold.new.frame c.hold.ensures.heap c.hold.ensures.quiet own) own
    (λ base s reference own means.
    put_one (taken_by it.taking reference) it.container base c.put_in.new.frame c.take.new.self s
    c.in-Ok-Some.field-0 c.in-Ok-Some.old c.in-Ok-Some.field-0-is
    (c.in-Ok-Some.ensures.asked base s reference own means))
    c.hold.ensures.means)

pub returns-in-Err-clause-later : goal.returns-in-Err-clause-later
returns-in-Err-clause-later g c = later_held c.args.frame.now c.put_in.new.frame c.hold-in-Err.new.frame
    c.put_in.ensures.later c.hold-in-Err.ensures.quiet

pub returns-in-Err-clause-follows : goal.returns-in-Err-clause-follows
returns-in-Err-clause-follows g c apart base s own means want =
    let it = c.args.self.now in
    subst (λ meant. Left base c.hold-in-Err.new.frame c.hold-in-Err.new.registers s meant c.in-Err.handed.fault)
    (sym (after_takes it.taking it.container it.value s))
    (handed_back (taken_by it.taking) it.container it.value base
    c.args.frame.now c.args.registers.now c.take.new.self s c.in-Some.given
    apart means c.in-Some.ensures.comes.was c.take.ensures.set c.put_in.new.frame c.hold-in-Err.new.frame
    c.hold-in-Err.new.registers c.in-Err.handed.value c.in-Err.handed.fault
    (own_before c.put_in.new.frame c.hold-in-Err.new.frame c.hold-in-Err.ensures.heap c.hold-in-Err.ensures.quiet
    own) own c.in-Err.ensures.same c.in-Err.ensures.asked c.hold-in-Err.ensures.means want)
