use Rattle.std.proofs.Common.{arith, subst, ap}
use Rattle.std.specs.Result.{is_ok}
use Rattle.brc_count.specs.block.Lent_Keys.{key_lent}
use Rattle.brc_things.specs.Seeking.{HasKeyAt, IsAbsent}
use Rattle.brc_things.specs.Plain_Dicts.{plain_find}
use Rattle.brc_things.proofs.Shown.{find_there, find_absent, entry_there, cell_there, entry_within}
use Rattle.brc_things.proofs.Locked.{stood, stood_placed, found_placed, few_entries, entry_found, refused_plainly}
use Rattle.brc_things.proofs.Locked.{refused_for_want, refused_place, shares_since}
use Rattle.brc_things.proofs.dict_values.find_locked.Goals as goal

pub returns-in-Absent-clause-refused : goal.returns-in-Absent-clause-refused
returns-in-Absent-clause-refused g c = λ before k since.
    let absent = subst (λ p. IsAbsent p (key_lent c.args.key)) c.payload.ensures c.in-Absent.ensures in
    refused_plainly before c.args.frame.now c.end_keep.new.self k c.args.block (plain_find {A = g.row.A.Denot} (key_lent c.args.key)) _
    (stood before c.args.frame.now k c.args.block since) c.end_keep.ensures.ended
    (find_absent (key_lent c.args.key) c.args.block.1 absent)

pub returns-in-Err-clause-refused : goal.returns-in-Err-clause-refused
returns-in-Err-clause-refused g c = λ before k since.
    let there = subst (λ p. HasKeyAt p (key_lent c.args.key) c.in-There.index c.in-There.entry) c.payload.ensures
    c.in-There.ensures in
    let was = stood_placed before c.args.frame.now c.place.new.self k c.args.block since c.place.ensures.same in
    refused_place before c.args.frame.now c.end_keep-in-Err.new.self k (plain_find {A = g.row.A.Denot} (key_lent c.args.key)) c.in-Err.fault
    since.frame.len c.in-Err.ensures.refused
    (refused_for_want before c.place.new.self c.end_keep-in-Err.new.self k c.args.block (plain_find {A = g.row.A.Denot} (key_lent c.args.key)) was
    c.end_keep-in-Err.ensures.ended
    (ap is_ok (find_there (key_lent c.args.key) c.args.block.1 c.in-There.index c.in-There.entry there)))

pub overflow_cast-index : goal.overflow_cast-index
overflow_cast-index g c =
    let there = subst (λ p. HasKeyAt p (key_lent c.args.key) c.in-There.index c.in-There.entry) c.payload.ensures
    c.in-There.ensures in
    omega (
      arith,
      entry_within c.args.block.1 (key_lent c.args.key) c.in-There.index c.in-There.entry there,
      few_entries c.args.frame.now c.args.block.1 c.requires.locked c.requires.found,
    )

pub up_entry-given-requires-clause-entry : goal.up_entry-given-requires-clause-entry
up_entry-given-requires-clause-entry g c =
    let there = subst (λ p. HasKeyAt p (key_lent c.args.key) c.in-There.index c.in-There.entry) c.payload.ensures
    c.in-There.ensures in
    entry_found c.place.new.self c.args.block.1 c.in-There.index c.in-There.entry.cell
    (found_placed c.args.frame.now c.place.new.self _ c.place.ensures.same c.requires.found)
    (cell_there c.args.block.1 (key_lent c.args.key) c.in-There.index c.in-There.entry there)

pub returns-clause-shares : goal.returns-clause-shares
returns-clause-shares g c = λ before k since.
    let there = subst (λ p. HasKeyAt p (key_lent c.args.key) c.in-There.index c.in-There.entry) c.payload.ensures
    c.in-There.ensures in
    let was = stood_placed before c.args.frame.now c.place.new.self k c.args.block since c.place.ensures.same in
    shares_since before c.place.new.self c.up_entry-given.new.self c.end_keep-2.new.self k c.args.block
    (plain_find {A = g.row.A.Denot} (key_lent c.args.key)) c.in-There.index c.in-There.entry c.up_entry-given.result
    was c.up_entry-given.ensures.given c.up_entry-given.ensures.heap c.end_keep-2.ensures.ended
    c.end_keep-2.ensures.frame
    (entry_there c.args.block.1 (key_lent c.args.key) c.in-There.index c.in-There.entry there)
    (find_there (key_lent c.args.key) c.args.block.1 c.in-There.index c.in-There.entry there)
