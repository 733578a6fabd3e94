use Rattle.std.proofs.Common.{Option, MatchOption, subst}
use Rattle.brc_count.specs.Frames.{HandleSeen}
use Rattle.brc_count.proofs.Quiet.{let_go_quietly}
use Rattle.brc_instructions.specs.Registers.{OwnsRegisters, OwnsRegistersBeside}
use Rattle.brc_instructions.proofs.Follows_Of.{later_held}
use Rattle.brc_instructions.proofs.instructions.ShareExecute.act.Goals as goal

pub returns-in-Err-clause-later : goal.returns-in-Err-clause-later
returns-in-Err-clause-later g c = later_held c.args.frame.now c.taken_by_globals.new.frame c.hold.new.frame
    c.taken_by_globals.ensures.later c.hold.ensures.quiet

pub returns-in-Ok-Some-clause-later : goal.returns-in-Ok-Some-clause-later
returns-in-Ok-Some-clause-later g c =
    let put = c.taken_by_globals.new.frame in
    let left = c.take.new.self in
    let besides = subst (λ (answer : Option HandleSeen). MatchOption answer (OwnsRegisters put left)
    (OwnsRegistersBeside put left))
    c.in-Ok-Some.field-0-is c.in-Ok-Some.ensures.old in
    later_held c.args.frame.now put c.release.new.self c.taken_by_globals.ensures.later
    (let_go_quietly put c.release.new.self c.in-Ok-Some.old besides.owned c.release.ensures.released)
