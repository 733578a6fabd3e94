use Rattle.std.proofs.Common.{sym}
use Rattle.brc_count.proofs.law.living.Earlier.{later_both}
use Rattle.law_isolation.proofs.Later_Calls.{later_given}
use Rattle.brc_count.proofs.Quiet.{let_go_quietly}
use Rattle.brc_instructions.proofs.Follows_Of.{later_as_before, later_held, late_pair_put}
use Rattle.brc_instructions.proofs.Beside.{owns_beside}
use Rattle.brc_instructions.proofs.globals.taken_by_globals.Goals as goal

pub returns-in-Err-clause-later : goal.returns-in-Err-clause-later
returns-in-Err-clause-later g c = later_as_before c.args.frame.now c.immortal.new.self c.in-Err.ensures.unchanged

pub returns-in-Ok-dict_put-clause-later : goal.returns-in-Ok-dict_put-clause-later
returns-in-Ok-dict_put-clause-later g c =
    let had = c.immortal.new.self in
    let put = c.dict_put.new.frame in
    let globals = c.in-Ok.globals in
    let gains = c.in-Ok.ensures.gains in
    later_both c.args.frame.now.seat.log had.seat.log c.release.new.self.seat.log (later_given c.in-Ok.ensures.given)
    (later_held had put c.release.new.self
    (late_pair_put had put globals.place c.args.name c.args.given c.dict_put.result
    (gains.owns c.args.given c.requires.besides.owned) c.dict_put.ensures.put)
    (let_go_quietly put c.release.new.self globals
    (owns_beside had put c.args.given globals c.in-Ok-dict_put.old c.in-Ok-dict_put.ensures.owns
    (λ same. gains.apart c.args.given c.requires.besides.owned (sym same)) gains.owned)
    c.release.ensures.released))

pub returns-in-Err-dict_put-clause-later : goal.returns-in-Err-dict_put-clause-later
returns-in-Err-dict_put-clause-later g c =
    let had = c.immortal.new.self in
    let put = c.dict_put.new.frame in
    let globals = c.in-Ok.globals in
    let gains = c.in-Ok.ensures.gains in
    later_both c.args.frame.now.seat.log had.seat.log c.release-in-Err-dict_put.new.self.seat.log (later_given c.in-Ok.ensures.given)
    (later_held had put c.release-in-Err-dict_put.new.self
    (late_pair_put had put globals.place c.args.name c.args.given c.dict_put.result
    (gains.owns c.args.given c.requires.besides.owned) c.dict_put.ensures.put)
    (let_go_quietly put c.release-in-Err-dict_put.new.self globals
    (c.in-Err-dict_put.ensures.keeps.owns globals gains.owned)
    c.release-in-Err-dict_put.ensures.released))
