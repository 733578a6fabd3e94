use Rattle.std.proofs.Common.{◌++◌, ◌∷◌, [], length, ◌<◌, sym, subst, ◌∙◌, ap}
use Rattle.brc_words.specs.declared.limits.TheConstants.{MOST_ENTRIES}
use Rattle.brc_words.specs.Notes.{noted}
use Rattle.brc_count.specs.block.declared.payload.Payload.{Payload}
use Rattle.brc_count.specs.block.Payload.{kind_of, noted_of, entries_of}
use Rattle.brc_count.specs.Locking.{contents_found}
use Rattle.brc_count.specs.table.Shown.{contents_of}
use Rattle.brc_things.specs.Plain_Values.{at_new}
use Rattle.brc_things.specs.Rows.{plain_put, NoRoom}
use Rattle.brc_things.proofs.Locked.{stood, ended_same, puts_since}
use Rattle.brc_things.proofs.Valued_Law.{puts_scalar}
use Rattle.brc_things.proofs.Valued_Plain.{alike_there, put_plainly}
use Rattle.brc_things.proofs.Valued_Refusals.{put_unroomed}
use Rattle.brc_things.proofs.valued.put_value.Goals as goal

pub returns-in-Scalar-clause-put : goal.returns-in-Scalar-clause-put
returns-in-Scalar-clause-put g c = λ call alike before k since.
    let room = c.in_default.ensures in
    let here = c.payload_mut.ensures.value in
    let there = c.payload_mut-in-Scalar.ensures.value in
    rw c.in-Scalar.is
    (puts_scalar before c.args.frame.now c.end_put_none.new.self k c.args.none.now.place c.args.block
    c.put_reserved.new.self (call (noted 0 c.in-Scalar.note))
    (stood before c.args.frame.now k c.args.block since) c.end_put_none.ensures.ended c.end_put_none.ensures.frame
    (alike_there (contents_found c.args.frame.now) c.args.block.1 call (at_new (plain_put c.args.kind))
    c.requires.has.found alike (noted 0 c.in-Scalar.note)
    ∙ put_plainly c.args.kind c.args.block.1 c.put_reserved.new.self (noted 0 c.in-Scalar.note) c.requires.row
    (ap kind_of (sym here) ∙ room.is)
    (subst (λ (p : Payload g.row.A.Denot). length (entries_of p) < MOST_ENTRIES) here room.few)
    (c.put_reserved.ensures.kind ∙ ap kind_of there ∙ room.kind ∙ ap kind_of here)
    (c.put_reserved.ensures.noted
    ∙ ap (λ (p : Payload g.row.A.Denot). noted_of p ++ c.new-entry.result ∷ []) there
    ∙ ap (λ es. es ++ c.new-entry.result ∷ []) (room.noted ∙ ap noted_of here)
    ∙ ap (λ e. noted_of c.args.block.1 ++ e ∷ []) c.new-entry.ensures)))

pub returns-in-Object-clause-put : goal.returns-in-Object-clause-put
returns-in-Object-clause-put g c = λ call alike before k since.
    let room = c.in_default.ensures in
    let here = c.payload_mut.ensures.value in
    let there = c.payload_mut-in-Object.ensures.value in
    rw c.in-Object.is
    (puts_since before c.args.frame.now c.end_put.new.self k c.in-Object.handle.place c.args.block
    c.put_reserved-in-Object.new.self (λ cell. call (noted cell c.in-Object.note)) _
    c.cell-cell.result
    (stood before c.args.frame.now k c.args.block since) c.end_put.ensures.ended c.cell-cell.ensures.cell
    (alike_there (contents_found c.args.frame.now) c.args.block.1 call (at_new (plain_put c.args.kind))
    c.requires.has.found alike (noted c.cell-cell.result c.in-Object.note)
    ∙ put_plainly c.args.kind c.args.block.1 c.put_reserved-in-Object.new.self
    (noted c.cell-cell.result c.in-Object.note) c.requires.row
    (ap kind_of (sym here) ∙ room.is)
    (subst (λ (p : Payload g.row.A.Denot). length (entries_of p) < MOST_ENTRIES) here room.few)
    (c.put_reserved-in-Object.ensures.kind ∙ ap kind_of there ∙ room.kind ∙ ap kind_of here)
    (c.put_reserved-in-Object.ensures.noted
    ∙ ap (λ (p : Payload g.row.A.Denot). noted_of p ++ c.new-entry-in-Object.result ∷ []) there
    ∙ ap (λ es. es ++ c.new-entry-in-Object.result ∷ []) (room.noted ∙ ap noted_of here)
    ∙ ap (λ e. noted_of c.args.block.1 ++ e ∷ []) c.new-entry-in-Object.ensures))
    c.end_put.ensures.places c.end_put.ensures.len)

pub returns-in-Err-clause-refused : goal.returns-in-Err-clause-refused
returns-in-Err-clause-refused g c = λ call alike before k since.
    let here = c.payload_mut.ensures.value in
    put_unroomed before c.args.frame.now c.end_keep.new.self k c.args.block c.args.kind c.args.value call
    c.in-Err.fault (stood before c.args.frame.now k c.args.block since)
    (ended_same c.args.frame.now c.end_keep.new.self _ c.args.block c.make_room.new.payload c.end_keep.ensures.ended
    (ap contents_of (c.in-Err.ensures.unchanged ∙ here)))
    c.requires.row
    (subst (λ (p : Payload g.row.A.Denot). NoRoom c.args.kind (kind_of p) (entries_of p) c.in-Err.fault) here
    c.in-Err.ensures.refused)
    (alike_there (contents_found c.args.frame.now) c.args.block.1 call (at_new (plain_put c.args.kind))
    c.requires.has.found alike)
