use Rattle.std.proofs.Common.{arith, subst, sym, ◌∙◌, ap, remove}
use Rattle.brc_count.specs.block.Lent_Keys.{key_lent}
use Rattle.brc_count.specs.block.Payload.{noted_of, entries_of, keys_of, kind_of}
use Rattle.brc_count.specs.Locking.{contents_found}
use Rattle.brc_count.proofs.Keys_Shown.{keys_left}
use Rattle.brc_things.specs.Seeking.{HasKeyAt, IsAbsent}
use Rattle.brc_things.specs.Plain_Dicts.{plain_del}
use Rattle.brc_things.proofs.Shown.{del_there, del_may, del_absent, entry_there, cell_there, entry_within, entries_shown}
use Rattle.brc_things.proofs.Locked.{stood, stood_placed, found_placed, few_entries, entry_found, entries_are}
use Rattle.brc_things.proofs.Locked.{refused_plainly, refused_for_want, refused_place, takes_since}
use Rattle.brc_things.proofs.dict_values.del_locked.Goals as goal

pub returns-in-Absent-clause-refused : goal.returns-in-Absent-clause-refused
returns-in-Absent-clause-refused g c = λ before k since.
    let absent = subst (λ p. IsAbsent p (key_lent c.args.key)) c.payload.ensures c.in-Absent.ensures in
    refused_plainly before c.args.frame.now c.end_keep.new.self k c.args.block (plain_del {A = g.row.A.Denot} (key_lent c.args.key)) _
    (stood before c.args.frame.now k c.args.block since) c.end_keep.ensures.ended
    (del_absent (key_lent c.args.key) c.args.block.1 absent)

pub returns-in-Err-clause-refused : goal.returns-in-Err-clause-refused
returns-in-Err-clause-refused g c = λ before k since.
    let there = subst (λ p. HasKeyAt p (key_lent c.args.key) c.in-There.index c.in-There.entry) c.payload.ensures
    c.in-There.ensures in
    let was = stood_placed before c.args.frame.now c.place.new.self k c.args.block since c.place.ensures.same in
    refused_place before c.args.frame.now c.end_keep-in-Err.new.self k (plain_del {A = g.row.A.Denot} (key_lent c.args.key)) c.in-Err.fault
    since.frame.len c.in-Err.ensures.refused
    (refused_for_want before c.place.new.self c.end_keep-in-Err.new.self k c.args.block (plain_del {A = g.row.A.Denot} (key_lent c.args.key)) was
    c.end_keep-in-Err.ensures.ended
    (del_may (key_lent c.args.key) c.args.block.1 c.in-There.index c.in-There.entry there))

pub overflow_cast-place : goal.overflow_cast-place
overflow_cast-place g c =
    let there = subst (λ p. HasKeyAt p (key_lent c.args.key) c.in-There.index c.in-There.entry) c.payload.ensures
    c.in-There.ensures in
    omega (
      arith,
      entry_within c.args.block.1 (key_lent c.args.key) c.in-There.index c.in-There.entry there,
      few_entries c.args.frame.now c.args.block.1 c.requires.locked c.requires.found,
    )

pub remove-entry-requires : goal.remove-entry-requires
remove-entry-requires g c =
    let there = subst (λ p. HasKeyAt p (key_lent c.args.key) c.in-There.index c.in-There.entry) (c.payload.ensures
    ∙ sym c.payload_mut.ensures.value) c.in-There.ensures in
    record { within = entry_within c.payload_mut.result.now (key_lent c.args.key) c.in-There.index c.in-There.entry there }

pub end_take-requires-clause-entry : goal.end_take-requires-clause-entry
end_take-requires-clause-entry g c =
    let there = subst (λ p. HasKeyAt p (key_lent c.args.key) c.in-There.index c.in-There.entry) c.payload.ensures
    c.in-There.ensures in
    entry_found c.place.new.self c.args.block.1 c.in-There.index c.in-There.entry.cell
    (found_placed c.args.frame.now c.place.new.self _ c.place.ensures.same c.requires.found)
    (cell_there c.args.block.1 (key_lent c.args.key) c.in-There.index c.in-There.entry there)

pub end_take-requires-clause-entries : goal.end_take-requires-clause-entries
end_take-requires-clause-entries g c =
    entries_shown c.remove-entry.new.self ∙ c.remove-entry.ensures.left
    ∙ ap (λ p. remove (entries_of p) c.in-There.index) c.payload_mut.ensures.value
    ∙ ap (λ es. remove es c.in-There.index) (sym (entries_are c.place.new.self c.args.block.1
    (found_placed c.args.frame.now c.place.new.self _ c.place.ensures.same c.requires.found)))

pub end_take-requires-clause-keys : goal.end_take-requires-clause-keys
end_take-requires-clause-keys g c =
    keys_left c.args.block.1 c.remove-entry.new.self (contents_found c.place.new.self) c.in-There.index
    (found_placed c.args.frame.now c.place.new.self _ c.place.ensures.same c.requires.found)
    (c.remove-entry.ensures.keys ∙ ap (λ p. remove (keys_of p) c.in-There.index) c.payload_mut.ensures.value)

pub returns-clause-takes : goal.returns-clause-takes
returns-clause-takes g c = λ before k since.
    let there = subst (λ p. HasKeyAt p (key_lent c.args.key) c.in-There.index c.in-There.entry) c.payload.ensures
    c.in-There.ensures in
    let was = stood_placed before c.args.frame.now c.place.new.self k c.args.block since c.place.ensures.same in
    let lent = c.payload_mut.ensures.value in
    takes_since before c.place.new.self c.end_take.new.self k c.args.block c.remove-entry.new.self
    (plain_del {A = g.row.A.Denot} (key_lent c.args.key)) c.in-There.index c.in-There.entry c.end_take.result
    was c.end_take.ensures.ended
    (entry_there c.args.block.1 (key_lent c.args.key) c.in-There.index c.in-There.entry there)
    (del_there (key_lent c.args.key) c.args.block.1 c.remove-entry.new.self c.in-There.index c.in-There.entry there
    (c.remove-entry.ensures.kind ∙ ap kind_of lent)
    (c.remove-entry.ensures.keys ∙ ap (λ p. remove (keys_of p) c.in-There.index) lent)
    (c.remove-entry.ensures.noted_left ∙ ap (λ p. remove (noted_of p) c.in-There.index) lent))
    c.end_take.ensures.heap c.end_take.ensures.thread c.end_take.ensures.next c.end_take.ensures.vacant
    c.end_take.ensures.places c.end_take.ensures.len
