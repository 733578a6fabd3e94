use Rattle.std.proofs.Common.{subst}
use Rattle.brc_count.specs.block.Lent_Keys.{key_lent}
use Rattle.brc_things.specs.Seeking.{HasKeyAt, IsAbsent}
use Rattle.brc_things.specs.Plain_Dicts.{plain_place}
use Rattle.brc_things.proofs.Locked.{stood, refused_plainly}
use Rattle.brc_things.proofs.Placed.{place_since, place_absent}
use Rattle.brc_things.proofs.placing.place_locked.Goals as goal

pub returns-in-There-clause-reads : goal.returns-in-There-clause-reads
returns-in-There-clause-reads g c = λ before k since.
    place_since before c.args.frame.now c.end_keep.new.self k c.in-There.index c.in-There.entry c.args.block
    (key_lent c.args.key) (stood before c.args.frame.now k c.args.block since) c.end_keep.ensures.ended
    (subst (λ p. HasKeyAt p (key_lent c.args.key) c.in-There.index c.in-There.entry) c.payload.ensures
    c.in-There.ensures)

pub returns-in-Absent-clause-refused : goal.returns-in-Absent-clause-refused
returns-in-Absent-clause-refused g c = λ before k since.
    let absent = subst (λ p. IsAbsent p (key_lent c.args.key)) c.payload.ensures c.in-Absent.ensures in
    refused_plainly before c.args.frame.now c.end_keep.new.self k c.args.block
    (plain_place {A = g.row.A.Denot} (key_lent c.args.key)) _ (stood before c.args.frame.now k c.args.block since)
    c.end_keep.ensures.ended (place_absent (key_lent c.args.key) c.args.block.1 absent)
