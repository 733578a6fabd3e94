use Rattle.std.proofs.Common.{Some, slice_get, slice_set, sym, ◌∙◌, ap}
use Rattle.brc_words.specs.declared.entry.Entry.{Entry}
use Rattle.brc_words.specs.Notes.{nothing}
use Rattle.brc_count.specs.block.declared.payload.Payload.{Payload}
use Rattle.brc_count.specs.block.Payload.{kind_of, noted_of, entries_of, keys_of}
use Rattle.brc_count.specs.Locking.{contents_found}
use Rattle.brc_count.proofs.Keys_Shown.{keys_stay}
use Rattle.brc_things.proofs.Locked.{entries_set}
use Rattle.brc_things.proofs.Within_Law.{swaps_in}
use Rattle.brc_things.proofs.within.swap_locked.Goals as goal

pub end_swap-requires-clause-entries : goal.end_swap-requires-clause-entries
end_swap-requires-clause-entries g c = λ value at.
    entries_set c.args.frame.now c.args.block.1 c.set.new.self c.args.index c.bare-put.result.cell value
    c.requires.has.found
    (c.set.ensures.set ∙ ap (λ (p : Payload g.row.A.Denot). slice_set (entries_of p) c.args.index
    c.bare-put.result.cell) c.payload_mut.ensures.value)
    (ap (λ (e : Entry). Some e.cell) c.bare-put.ensures ∙ sym c.cell-cell.ensures.cell ∙ at)

pub end_swap-requires-clause-keys : goal.end_swap-requires-clause-keys
end_swap-requires-clause-keys g c =
    keys_stay c.args.block.1 c.set.new.self (contents_found c.args.frame.now) c.requires.has.found
    (c.set.ensures.keys ∙ ap keys_of c.payload_mut.ensures.value)

pub returns-in-Ok-clause-swapped : goal.returns-in-Ok-clause-swapped
returns-in-Ok-clause-swapped g c =
    let here = c.payload.ensures in
    let there = c.payload_mut.ensures.value in
    (swaps_in c.args.frame.now c.end_swap.new.self c.args.value.place c.cell-cell.result nothing c.args.index
    c.in-Ok.entry _
    c.args.block.1
    c.requires.has.locks_cell c.requires.has.found c.cell-cell.ensures.cell
    (ap kind_of (sym here) ∙ c.in-Ok.ensures.is)
    (ap (λ (p : Payload g.row.A.Denot). slice_get (noted_of p) c.args.index) (sym here) ∙ c.in-Ok.ensures.entry)
    (c.set.ensures.kind ∙ ap kind_of there)
    (c.set.ensures.noted ∙ ap (λ (p : Payload g.row.A.Denot). slice_set (noted_of p) c.args.index
    c.bare-put.result) there
    ∙ ap (slice_set (noted_of c.args.block.1) c.args.index) c.bare-put.ensures)
    c.end_swap.ensures.ended c.end_swap.ensures.places c.end_swap.ensures.len).0
