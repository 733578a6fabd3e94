use Rattle.std.proofs.Common.{subst}
use Rattle.brc_count.specs.block.Lent_Keys.{key_lent}
use Rattle.brc_things.specs.Seeking.{HasKeyAt, IsAbsent}
use Rattle.brc_things.specs.Plain_Dicts.{plain_del}
use Rattle.brc_things.proofs.Shown.{entry_there, del_absent}
use Rattle.brc_things.proofs.Locked.{stood, refused_plainly}
use Rattle.brc_things.proofs.Since_Law.{ok_by, err_by}
use Rattle.brc_things.proofs.Valued_Plain.{dict_takes}
use Rattle.brc_things.proofs.dict_valued.del_value.Goals as goal

pub take_entry-requires-clause-there : goal.take_entry-requires-clause-there
take_entry-requires-clause-there g c =
    let there = subst (λ p. HasKeyAt p (key_lent c.args.key) c.in-There.index c.in-There.entry) c.payload.ensures
    c.in-There.ensures in
    entry_there c.args.block.1 (key_lent c.args.key) c.in-There.index c.in-There.entry there

pub returns-in-There-clause-takes : goal.returns-in-There-clause-takes
returns-in-There-clause-takes g c =
    let there = subst (λ p. HasKeyAt p (key_lent c.args.key) c.in-There.index c.in-There.entry) c.payload.ensures
    c.in-There.ensures in
    ok_by c.take_entry.result c.take_entry.ensures.taken (λ came by. by (plain_del {A = g.row.A.Denot} (key_lent c.args.key))
    (dict_takes (key_lent c.args.key) c.args.block.1 c.in-There.index c.in-There.entry there))

pub returns-in-There-clause-refused : goal.returns-in-There-clause-refused
returns-in-There-clause-refused g c =
    let there = subst (λ p. HasKeyAt p (key_lent c.args.key) c.in-There.index c.in-There.entry) c.payload.ensures
    c.in-There.ensures in
    err_by c.take_entry.result c.take_entry.ensures.refused (λ fault by. by (plain_del {A = g.row.A.Denot} (key_lent c.args.key))
    (dict_takes (key_lent c.args.key) c.args.block.1 c.in-There.index c.in-There.entry there))

pub returns-in-Absent-clause-refused : goal.returns-in-Absent-clause-refused
returns-in-Absent-clause-refused g c = λ before k since.
    let absent = subst (λ p. IsAbsent p (key_lent c.args.key)) c.payload.ensures c.in-Absent.ensures in
    refused_plainly before c.args.frame.now c.end_keep.new.self k c.args.block (plain_del {A = g.row.A.Denot} (key_lent c.args.key)) _
    (stood before c.args.frame.now k c.args.block since) c.end_keep.ensures.ended
    (del_absent (key_lent c.args.key) c.args.block.1 absent)
