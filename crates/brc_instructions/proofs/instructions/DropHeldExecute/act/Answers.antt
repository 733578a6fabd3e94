use Rattle.brc_count.proofs.law.living.Earlier.{quietly_later}
use Rattle.brc_count.proofs.Quiet.{release_quietly}
use Rattle.brc_instructions.proofs.Follows_Of.{owned_at, released_of, drops}
use Rattle.brc_instructions.proofs.instructions.DropHeldExecute.act.Goals as goal

pub returns-clause-later : goal.returns-clause-later
returns-clause-later g c =
    let it = c.args.self.now in
    let gone = released_of (owned_at c.args.frame.now c.args.registers.now it.from c.requires.stands.holds.owned
    c.in-Some.ensures.comes.was) c.release.ensures.released in
    quietly_later c.args.frame.now.seat.log c.release.new.self.seat.log
    (release_quietly c.args.frame.now c.release.new.self c.in-Some.handle.place gone.0 gone.1)

pub returns-clause-follows : goal.returns-clause-follows
returns-clause-follows g c base s own means =
    let it = c.args.self.now in
    let gone = released_of (owned_at c.args.frame.now c.args.registers.now it.from c.requires.stands.holds.owned
    c.in-Some.ensures.comes.was) c.release.ensures.released in
    drops base c.args.frame.now c.release.new.self c.args.registers.now c.take.new.self s it.from
    c.in-Some.handle gone.0
    means c.in-Some.ensures.comes.was c.take.ensures.set c.in-Some.ensures.comes.apart gone.1 c.release.ensures.heap own
