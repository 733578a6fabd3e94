use Rattle.std.proofs.Common.{◌<◌, ◌++◌, [], ◌∷◌, Some, None, subst, sym, ◌∙◌, ap, length}
use Rattle.brc_words.specs.declared.limits.TheConstants.{MOST_ENTRIES}
use Rattle.brc_words.specs.declared.entry.Entry.{Entry}
use Rattle.brc_words.specs.Notes.{noted}
use Rattle.brc_count.specs.block.Lent_Keys.{key_lent}
use Rattle.brc_count.specs.block.declared.payload.Payload.{Payload}
use Rattle.brc_count.specs.block.Payload.{noted_of, entries_of, keys_of, kind_of}
use Rattle.brc_count.specs.table.Shown.{contents_of}
use Rattle.brc_count.specs.Locking.{contents_found}
use Rattle.brc_things.specs.Plain_Dicts.{plain_put}
use Rattle.brc_things.specs.Putting.{RefusedRoomFor}
use Rattle.brc_things.proofs.Locked.{stood, ended_same, entries_are, entries_put, puts_since}
use Rattle.brc_things.proofs.Valued_Plain.{new_absent, new_keyed, new_pair}
use Rattle.brc_things.proofs.Valued_Law.{puts_scalar}
use Rattle.brc_things.proofs.Valued_Refusals.{append_unroomed}
use Rattle.brc_things.proofs.dict_valued.append_value.Goals as goal

pub returns-in-Err-clause-refused : goal.returns-in-Err-clause-refused
returns-in-Err-clause-refused g c = λ before k since.
    append_unroomed before c.args.frame.now c.end_keep.new.self k c.args.block (key_lent c.args.key) c.args.value
    c.in-Err.fault (stood before c.args.frame.now k c.args.block since) c.end_keep.ensures.ended c.requires.absent
    (subst (λ p. RefusedRoomFor (length (entries_of p)) c.in-Err.fault) c.payload.ensures c.in-Err.ensures.refused)

pub returns-in-Err-make_room-clause-refused : goal.returns-in-Err-make_room-clause-refused
returns-in-Err-make_room-clause-refused g c = λ before k since.
    let lent = c.payload_mut.ensures.value in
    append_unroomed before c.args.frame.now c.end_keep-in-Err-make_room.new.self k c.args.block (key_lent c.args.key)
    c.args.value c.in-Err-make_room.fault (stood before c.args.frame.now k c.args.block since)
    (ended_same c.args.frame.now c.end_keep-in-Err-make_room.new.self _ c.args.block c.make_room.new.payload
    c.end_keep-in-Err-make_room.ensures.ended (c.make_room.ensures.contents ∙ ap contents_of lent))
    c.requires.absent
    (subst (λ p. RefusedRoomFor (length (entries_of p)) c.in-Err-make_room.fault) lent c.in-Err-make_room.ensures.refused)

-- ---- a scalar

pub put_pair_reserved-requires-clause-absent : goal.put_pair_reserved-requires-clause-absent
put_pair_reserved-requires-clause-absent g c =
    new_absent (key_lent c.args.key) c.in-Ok.copy c.args.block.1 c.payload_mut-in-Scalar.result.now c.requires.absent c.in-Ok.ensures.copy
    (ap keys_of c.payload_mut-in-Scalar.ensures.value ∙ c.make_room.ensures.keys ∙ ap keys_of c.payload_mut.ensures.value)

pub end_put_none-requires-clause-few : goal.end_put_none-requires-clause-few
end_put_none-requires-clause-few g c =
    subst (λ es. length es < MOST_ENTRIES) (sym (entries_are c.args.frame.now c.args.block.1 c.requires.has.found))
    (subst (λ (p : Payload g.row.A.Denot). length (entries_of p) < MOST_ENTRIES) c.payload_mut.ensures.value
    c.in_default.ensures.few)

pub end_put_none-requires-clause-entries : goal.end_put_none-requires-clause-entries
end_put_none-requires-clause-entries g c =
    entries_put c.args.frame.now c.args.block.1 c.put_pair_reserved.new.self c.new-entry.result.cell 0
    c.requires.has.found
    (c.put_pair_reserved.ensures.put ∙ ap (λ es. es ++ c.new-entry.result.cell ∷ [])
    (ap entries_of c.payload_mut-in-Scalar.ensures.value ∙ c.make_room.ensures.entries
    ∙ ap entries_of c.payload_mut.ensures.value))
    (ap (λ (e : Entry). Some e.cell) c.new-entry.ensures)

pub end_put_none-requires-clause-keys : goal.end_put_none-requires-clause-keys
end_put_none-requires-clause-keys g c =
    new_keyed (contents_found c.args.frame.now) (key_lent c.args.key) c.in-Ok.copy c.args.block.1 c.payload_mut-in-Scalar.result.now
    c.put_pair_reserved.new.self c.requires.has.found c.requires.absent c.in-Ok.ensures.copy
    (ap keys_of c.payload_mut-in-Scalar.ensures.value ∙ c.make_room.ensures.keys ∙ ap keys_of c.payload_mut.ensures.value)
    c.put_pair_reserved.ensures.keys

pub returns-in-Scalar-clause-put : goal.returns-in-Scalar-clause-put
returns-in-Scalar-clause-put g c = λ before k since.
    rw c.in-Scalar.is
    (puts_scalar before c.args.frame.now c.end_put_none.new.self k c.args.none.now.place c.args.block
    c.put_pair_reserved.new.self (plain_put {A = g.row.A.Denot} (key_lent c.args.key) (noted 0 c.in-Scalar.note))
    (stood before c.args.frame.now k c.args.block since) c.end_put_none.ensures.ended c.end_put_none.ensures.frame
    (new_pair (key_lent c.args.key) c.in-Ok.copy (noted 0 c.in-Scalar.note) c.args.block.1 c.payload_mut-in-Scalar.result.now
    c.put_pair_reserved.new.self c.requires.absent c.in-Ok.ensures.copy
    (subst (λ (p : Payload g.row.A.Denot). length (entries_of p) < MOST_ENTRIES) c.payload_mut.ensures.value
    c.in_default.ensures.few)
    (ap kind_of c.payload_mut-in-Scalar.ensures.value ∙ c.make_room.ensures.kind ∙ ap kind_of c.payload_mut.ensures.value)
    (ap keys_of c.payload_mut-in-Scalar.ensures.value ∙ c.make_room.ensures.keys ∙ ap keys_of c.payload_mut.ensures.value)
    (ap noted_of c.payload_mut-in-Scalar.ensures.value ∙ c.make_room.ensures.noted ∙ ap noted_of c.payload_mut.ensures.value)
    c.put_pair_reserved.ensures.kind c.put_pair_reserved.ensures.keys
    (c.put_pair_reserved.ensures.noted ∙ ap (λ e. noted_of c.payload_mut-in-Scalar.result.now ++ e ∷ []) c.new-entry.ensures)))

-- ---- an object

pub put_pair_reserved-requires-in-Object-clause-absent : goal.put_pair_reserved-requires-in-Object-clause-absent
put_pair_reserved-requires-in-Object-clause-absent g c =
    new_absent (key_lent c.args.key) c.in-Ok.copy c.args.block.1 c.payload_mut-in-Object.result.now c.requires.absent c.in-Ok.ensures.copy
    (ap keys_of c.payload_mut-in-Object.ensures.value ∙ c.make_room.ensures.keys ∙ ap keys_of c.payload_mut.ensures.value)

pub end_put-requires-clause-few : goal.end_put-requires-clause-few
end_put-requires-clause-few g c =
    subst (λ es. length es < MOST_ENTRIES) (sym (entries_are c.args.frame.now c.args.block.1 c.requires.has.found))
    (subst (λ (p : Payload g.row.A.Denot). length (entries_of p) < MOST_ENTRIES) c.payload_mut.ensures.value
    c.in_default.ensures.few)

pub end_put-requires-clause-entries : goal.end_put-requires-clause-entries
end_put-requires-clause-entries g c = λ value at.
    entries_put c.args.frame.now c.args.block.1 c.put_pair_reserved-in-Object.new.self c.new-entry-in-Object.result.cell value
    c.requires.has.found
    (c.put_pair_reserved-in-Object.ensures.put ∙ ap (λ es. es ++ c.new-entry-in-Object.result.cell ∷ [])
    (ap entries_of c.payload_mut-in-Object.ensures.value ∙ c.make_room.ensures.entries
    ∙ ap entries_of c.payload_mut.ensures.value))
    (ap (λ (e : Entry). Some e.cell) c.new-entry-in-Object.ensures ∙ sym c.cell-cell.ensures.cell ∙ at)

pub end_put-requires-clause-keys : goal.end_put-requires-clause-keys
end_put-requires-clause-keys g c =
    new_keyed (contents_found c.args.frame.now) (key_lent c.args.key) c.in-Ok.copy c.args.block.1 c.payload_mut-in-Object.result.now
    c.put_pair_reserved-in-Object.new.self c.requires.has.found c.requires.absent c.in-Ok.ensures.copy
    (ap keys_of c.payload_mut-in-Object.ensures.value ∙ c.make_room.ensures.keys ∙ ap keys_of c.payload_mut.ensures.value)
    c.put_pair_reserved-in-Object.ensures.keys

pub returns-in-Object-clause-put : goal.returns-in-Object-clause-put
returns-in-Object-clause-put g c = λ before k since.
    rw c.in-Object.is
    (puts_since before c.args.frame.now c.end_put.new.self k c.in-Object.handle.place c.args.block
    c.put_pair_reserved-in-Object.new.self
    (λ cell. plain_put {A = g.row.A.Denot} (key_lent c.args.key) (noted cell c.in-Object.note)) None c.cell-cell.result
    (stood before c.args.frame.now k c.args.block since) c.end_put.ensures.ended c.cell-cell.ensures.cell
    (new_pair (key_lent c.args.key) c.in-Ok.copy (noted c.cell-cell.result c.in-Object.note) c.args.block.1 c.payload_mut-in-Object.result.now
    c.put_pair_reserved-in-Object.new.self c.requires.absent c.in-Ok.ensures.copy
    (subst (λ (p : Payload g.row.A.Denot). length (entries_of p) < MOST_ENTRIES) c.payload_mut.ensures.value
    c.in_default.ensures.few)
    (ap kind_of c.payload_mut-in-Object.ensures.value ∙ c.make_room.ensures.kind ∙ ap kind_of c.payload_mut.ensures.value)
    (ap keys_of c.payload_mut-in-Object.ensures.value ∙ c.make_room.ensures.keys ∙ ap keys_of c.payload_mut.ensures.value)
    (ap noted_of c.payload_mut-in-Object.ensures.value ∙ c.make_room.ensures.noted ∙ ap noted_of c.payload_mut.ensures.value)
    c.put_pair_reserved-in-Object.ensures.kind c.put_pair_reserved-in-Object.ensures.keys
    (c.put_pair_reserved-in-Object.ensures.noted ∙ ap (λ e. noted_of c.payload_mut-in-Object.result.now ++ e ∷ []) c.new-entry-in-Object.ensures))
    c.end_put.ensures.places c.end_put.ensures.len)
