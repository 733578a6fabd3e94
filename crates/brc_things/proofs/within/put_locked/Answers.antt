use Rattle.std.proofs.Common.{◌<◌, ◌++◌, ◌∷◌, [], length, sym, ◌∙◌, ap, subst}
use Rattle.std.proofs.Common.{Some}
use Rattle.brc_words.specs.declared.entry.Entry.{Entry}
use Rattle.brc_words.specs.Notes.{nothing}
use Rattle.brc_words.specs.declared.limits.TheConstants.{MOST_ENTRIES}
use Rattle.brc_count.specs.block.declared.payload.Payload.{Payload}
use Rattle.brc_count.specs.block.Payload.{kind_of, noted_of, entries_of}
use Rattle.brc_count.specs.Locking.{contents_found}
use Rattle.brc_count.proofs.Keys_Shown.{keyless_put}
use Rattle.brc_things.proofs.Locked.{entries_put}
use Rattle.brc_things.proofs.Rows_Law.{row_keyless}
use Rattle.brc_things.proofs.Within_Law.{puts_in}
use Rattle.brc_things.proofs.within.put_locked.Goals as goal

pub end_put-requires-clause-entries : goal.end_put-requires-clause-entries
end_put-requires-clause-entries g c = λ value at.
    entries_put c.args.frame.now c.args.block.1 c.put_reserved.new.self c.bare-entry.result.cell value
    c.requires.has.found
    (c.put_reserved.ensures.put ∙ ap (λ es. es ++ c.bare-entry.result.cell ∷ [])
    (ap entries_of c.payload_mut-2.ensures.value ∙ c.in_default.ensures.entries
    ∙ ap entries_of c.payload_mut.ensures.value))
    (ap (λ (e : Entry). Some e.cell) c.bare-entry.ensures ∙ sym c.cell-cell.ensures.cell ∙ at)

pub end_put-requires-clause-keys : goal.end_put-requires-clause-keys
end_put-requires-clause-keys g c =
    let room = c.in_default.ensures in
    let here = c.payload_mut.ensures.value in
    let there = c.payload_mut-2.ensures.value in
    keyless_put c.args.block.1 c.put_reserved.new.self (contents_found c.args.frame.now) c.requires.has.found
    (λ dict. row_keyless c.args.kind c.requires.row (sym room.is ∙ ap kind_of here ∙ dict))
    (c.put_reserved.ensures.kind ∙ ap kind_of there ∙ room.kind ∙ ap kind_of here)

pub returns-clause-put : goal.returns-clause-put
returns-clause-put g c =
    let room = c.in_default.ensures in
    let here = c.payload_mut.ensures.value in
    let there = c.payload_mut-2.ensures.value in
    puts_in c.args.frame.now c.end_put.new.self c.args.kind c.args.value.place c.cell-cell.result nothing _
    c.args.block.1
    c.requires.row c.requires.has.locks_cell c.requires.has.found c.cell-cell.ensures.cell
    (ap kind_of (sym here) ∙ room.is) (subst (λ (p : Payload g.row.A.Denot). length (entries_of p) < MOST_ENTRIES)
    here room.few)
    (c.put_reserved.ensures.kind ∙ ap kind_of there ∙ room.kind ∙ ap kind_of here)
    (c.put_reserved.ensures.noted ∙ ap (λ (p : Payload g.row.A.Denot). noted_of p ++ c.bare-entry.result ∷ []) there
    ∙ ap (λ es. es ++ c.bare-entry.result ∷ []) (room.noted ∙ ap noted_of here)
    ∙ ap (λ e. noted_of c.args.block.1 ++ e ∷ []) c.bare-entry.ensures)
    c.end_put.ensures.ended c.end_put.ensures.places c.end_put.ensures.len
