use Rattle.brc_instructions.proofs.Follows_Of.{later_held}
use Rattle.brc_instructions.proofs.instructions.TakeOutGlobalExecute.act.Goals as goal

pub returns-clause-later : goal.returns-clause-later
returns-clause-later g c = later_held c.args.frame.now c.given_by_globals.new.frame c.hold.new.frame
    c.given_by_globals.ensures.later c.hold.ensures.quiet
