use Rattle.std.proofs.Common.{arith, subst}
use Rattle.brc_count.specs.block.Lent_Keys.{key_lent}
use Rattle.brc_things.specs.Seeking.{HasKeyAt, IsAbsent}
use Rattle.brc_things.specs.Plain_Dicts.{plain_find}
use Rattle.brc_things.proofs.Shown.{entry_there, find_absent}
use Rattle.brc_things.proofs.Locked.{stood, few_entries, refused_plainly}
use Rattle.brc_things.proofs.Since_Law.{ok_by, err_by}
use Rattle.brc_things.proofs.Valued_Plain.{there_within}
use Rattle.brc_things.proofs.Shown.{find_there}
use Rattle.brc_things.proofs.dict_valued.look_value.Goals as goal

pub overflow_cast-index : goal.overflow_cast-index
overflow_cast-index g c =
    let there = subst (λ p. HasKeyAt p (key_lent c.args.key) c.in-There.index c.in-There.entry) c.payload.ensures
    c.in-There.ensures in
    omega (
      arith,
      there_within c.args.block.1 c.in-There.index c.in-There.entry
          (entry_there c.args.block.1 (key_lent c.args.key) c.in-There.index c.in-There.entry there),
      few_entries c.args.frame.now c.args.block.1 c.requires.has.locked c.requires.has.found,
    )

pub look_entry-requires-clause-there : goal.look_entry-requires-clause-there
look_entry-requires-clause-there g c =
    let there = subst (λ p. HasKeyAt p (key_lent c.args.key) c.in-There.index c.in-There.entry) c.payload.ensures
    c.in-There.ensures in
    entry_there c.args.block.1 (key_lent c.args.key) c.in-There.index c.in-There.entry there

pub returns-in-There-clause-looked : goal.returns-in-There-clause-looked
returns-in-There-clause-looked g c =
    let there = subst (λ p. HasKeyAt p (key_lent c.args.key) c.in-There.index c.in-There.entry) c.payload.ensures
    c.in-There.ensures in
    ok_by c.look_entry.result c.look_entry.ensures.looked (λ came by. by (plain_find {A = g.row.A.Denot} (key_lent c.args.key))
    (find_there (key_lent c.args.key) c.args.block.1 c.in-There.index c.in-There.entry there))

pub returns-in-There-clause-refused : goal.returns-in-There-clause-refused
returns-in-There-clause-refused g c =
    let there = subst (λ p. HasKeyAt p (key_lent c.args.key) c.in-There.index c.in-There.entry) c.payload.ensures
    c.in-There.ensures in
    err_by c.look_entry.result c.look_entry.ensures.refused (λ fault by. by (plain_find {A = g.row.A.Denot} (key_lent c.args.key))
    (find_there (key_lent c.args.key) c.args.block.1 c.in-There.index c.in-There.entry there))

pub returns-in-Absent-clause-refused : goal.returns-in-Absent-clause-refused
returns-in-Absent-clause-refused g c = λ before k since.
    let absent = subst (λ p. IsAbsent p (key_lent c.args.key)) c.payload.ensures c.in-Absent.ensures in
    refused_plainly before c.args.frame.now c.end_keep.new.self k c.args.block (plain_find {A = g.row.A.Denot} (key_lent c.args.key)) _
    (stood before c.args.frame.now k c.args.block since) c.end_keep.ensures.ended
    (find_absent (key_lent c.args.key) c.args.block.1 absent)
