use Rattle.brc_count.proofs.law.living.Earlier.{later_both}
use Rattle.law_isolation.proofs.Later_Calls.{later_given}
use Rattle.brc_count.proofs.Quiet.{let_go_quietly}
use Rattle.brc_instructions.proofs.Follows_Of.{later_as_before, later_held}
use Rattle.brc_handles.proofs.Gained.{owns_after}
use Rattle.brc_instructions.proofs.globals.given_by_globals.Goals as goal

pub returns-in_err-globals-clause-later : goal.returns-in_err-globals-clause-later
returns-in_err-globals-clause-later g c =
    later_as_before c.args.frame.now c.immortal.new.self c.in_err-globals.ensures.unchanged

pub returns-clause-later : goal.returns-clause-later
returns-clause-later g c =
    let had = c.immortal.new.self in
    let asked = c.take_out-found.new.frame in
    later_both c.args.frame.now.seat.log had.seat.log c.release.new.self.seat.log
    (later_given c.in_ok-globals.ensures.given)
    (later_held had asked c.release.new.self c.take_out-found.ensures.later
    (let_go_quietly asked c.release.new.self c.in_ok-globals.globals
    (owns_after had asked c.in_ok-globals.globals c.take_out-found.result c.take_out-found.ensures.gains
    c.take_out-found.ensures.keeps c.in_ok-globals.ensures.gains.owned)
    c.release.ensures.released))
