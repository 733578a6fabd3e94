use Rattle.std.proofs.Common.{◌<◌, Some, length, slice_set, sym, subst, ◌∙◌, ap}
use Rattle.brc_words.specs.declared.entry.Entry.{Entry}
use Rattle.brc_words.specs.Notes.{noted}
use Rattle.brc_count.specs.block.declared.payload.Payload.{Payload}
use Rattle.brc_count.specs.block.Payload.{kind_of, noted_of, entries_of, keys_of}
use Rattle.brc_count.specs.Frames.{FrameSeen}
use Rattle.brc_count.specs.Locking.{cell_in, contents_found}
use Rattle.brc_count.proofs.Keys_Shown.{keys_stay}
use Rattle.brc_words.proofs.Cells.{cells_there}
use Rattle.brc_things.proofs.Locked.{stood, stood_placed, found_placed, entry_found, entries_set, swaps_since}
use Rattle.brc_things.proofs.Valued_Law.{swaps_came, refused_scalar}
use Rattle.brc_things.proofs.Valued_Plain.{there_within}
use Rattle.brc_things.proofs.valued_entries.swap_counted.Goals as goal

-- ---- a scalar for an object

pub returns-in-Err-clause-refused : goal.returns-in-Err-clause-refused
returns-in-Err-clause-refused g c = λ call sets before k since.
    let may = sets.may (noted 0 c.in-Scalar.note) in
    rw c.in-Scalar.is
    (refused_scalar before c.args.frame.now c.place.new.self c.end_keep.new.self k c.args.block
    (call (noted 0 c.in-Scalar.note)) c.in-Err.fault c.args.entry may.0
    (stood_placed before c.args.frame.now c.place.new.self k c.args.block since c.place.ensures.same)
    c.end_keep.ensures.ended may.1 (c.requires.counted c.in-Scalar.note c.in-Scalar.is) since.frame.len c.in-Err.ensures.refused)

pub set_in-requires-clause-within : goal.set_in-requires-clause-within
set_in-requires-clause-within g c =
    subst (λ (p : Payload g.row.A.Denot). c.args.index < length (entries_of p))
    (sym c.payload_mut.ensures.value)
    (there_within c.args.block.1 c.args.index c.args.entry c.requires.there)

pub end_swap_fresh-old-requires-clause-entry : goal.end_swap_fresh-old-requires-clause-entry
end_swap_fresh-old-requires-clause-entry g c =
    entry_found c.place.new.self c.args.block.1 c.args.index c.args.entry.cell
    (found_placed c.args.frame.now c.place.new.self _ c.place.ensures.same c.requires.has.found)
    (cells_there (noted_of c.args.block.1) c.args.index c.args.entry c.requires.there)

pub end_swap_fresh-old-requires-clause-entries : goal.end_swap_fresh-old-requires-clause-entries
end_swap_fresh-old-requires-clause-entries g c =
    entries_set c.place.new.self c.args.block.1 c.set_in.new.payload c.args.index c.new.result.cell 0
    (found_placed c.args.frame.now c.place.new.self _ c.place.ensures.same c.requires.has.found)
    (c.set_in.ensures.set ∙ ap (λ (p : Payload g.row.A.Denot). slice_set (entries_of p) c.args.index c.new.result.cell)
    c.payload_mut.ensures.value)
    (ap (λ (e : Entry). Some e.cell) c.new.ensures)

pub end_swap_fresh-old-requires-clause-keys : goal.end_swap_fresh-old-requires-clause-keys
end_swap_fresh-old-requires-clause-keys g c =
    keys_stay c.args.block.1 c.set_in.new.payload (contents_found c.place.new.self) (found_placed c.args.frame.now c.place.new.self _ c.place.ensures.same c.requires.has.found)
    (c.set_in.ensures.keys ∙ ap keys_of c.payload_mut.ensures.value)

pub returns-in_default-clause-swapped : goal.returns-in_default-clause-swapped
returns-in_default-clause-swapped g c = λ call sets before k since.
    let lent = c.payload_mut.ensures.value in
    let swapped = c.end_swap_fresh-old.ensures.swapped in
    rw c.in-Scalar.is (
      c.end_swap_fresh-old.ensures.same,
      record {
        mid = swapped.mid;
        swaps = swaps_since before c.place.new.self swapped.mid k c.args.none.now.place c.args.block
            c.set_in.new.payload (λ cell. call (noted cell c.in-Scalar.note)) Some 0
            c.args.index c.args.entry
            (stood_placed before c.args.frame.now c.place.new.self k c.args.block since c.place.ensures.same)
            swapped.ended
            (ap (λ (f : FrameSeen g.row.A.Denot). cell_in f c.args.none.now.place) c.place.ensures.same
            ∙ c.requires.none.cell)
            c.requires.there
            (sets.sets (noted 0 c.in-Scalar.note) c.set_in.new.payload
            (c.set_in.ensures.kind ∙ ap kind_of lent) (c.set_in.ensures.keys ∙ ap keys_of lent)
            (c.set_in.ensures.noted ∙ ap (λ (p : Payload g.row.A.Denot). slice_set (noted_of p) c.args.index
            c.new.result) lent
            ∙ ap (slice_set (noted_of c.args.block.1) c.args.index) c.new.ensures))
            swapped.places swapped.len;
        object = (c.requires.counted c.in-Scalar.note c.in-Scalar.is);
        said = sym c.note.ensures;
        fresh = swapped.given;
      },
    )

-- ---- an object for either

pub set_in-requires-in-Object-clause-within : goal.set_in-requires-in-Object-clause-within
set_in-requires-in-Object-clause-within g c =
    subst (λ (p : Payload g.row.A.Denot). c.args.index < length (entries_of p))
    (sym c.payload_mut-in-Object.ensures.value)
    (there_within c.args.block.1 c.args.index c.args.entry c.requires.there)

pub end_swap-old-requires-clause-entry : goal.end_swap-old-requires-clause-entry
end_swap-old-requires-clause-entry g c =
    entry_found c.args.frame.now c.args.block.1 c.args.index c.args.entry.cell c.requires.has.found
    (cells_there (noted_of c.args.block.1) c.args.index c.args.entry c.requires.there)

pub end_swap-old-requires-clause-entries : goal.end_swap-old-requires-clause-entries
end_swap-old-requires-clause-entries g c = λ value at.
    entries_set c.args.frame.now c.args.block.1 c.set_in-in-Object.new.payload c.args.index c.new-in-Object.result.cell value
    c.requires.has.found
    (c.set_in-in-Object.ensures.set ∙ ap (λ (p : Payload g.row.A.Denot). slice_set (entries_of p) c.args.index c.new-in-Object.result.cell)
    c.payload_mut-in-Object.ensures.value)
    (ap (λ (e : Entry). Some e.cell) c.new-in-Object.ensures ∙ sym c.cell-cell.ensures.cell ∙ at)

pub end_swap-old-requires-clause-keys : goal.end_swap-old-requires-clause-keys
end_swap-old-requires-clause-keys g c =
    keys_stay c.args.block.1 c.set_in-in-Object.new.payload (contents_found c.args.frame.now) c.requires.has.found
    (c.set_in-in-Object.ensures.keys ∙ ap keys_of c.payload_mut-in-Object.ensures.value)

pub returns-in-Object-clause-swapped : goal.returns-in-Object-clause-swapped
returns-in-Object-clause-swapped g c = λ call sets before k since.
    let lent = c.payload_mut-in-Object.ensures.value in
    rw c.in-Object.is
    (swaps_came before c.end_swap-old.new.self c.came.new.frame k c.args.none.now c.in-Object.handle
    c.end_swap-old.result c.in-Object.note call c.came.result
    (swaps_since before c.args.frame.now c.end_swap-old.new.self k c.in-Object.handle.place c.args.block
    c.set_in-in-Object.new.payload (λ cell. call (noted cell c.in-Object.note)) Some
    c.cell-cell.result c.args.index c.args.entry
    (stood before c.args.frame.now k c.args.block since) c.end_swap-old.ensures.ended c.cell-cell.ensures.cell
    c.requires.there
    (sets.sets (noted c.cell-cell.result c.in-Object.note) c.set_in-in-Object.new.payload
    (c.set_in-in-Object.ensures.kind ∙ ap kind_of lent) (c.set_in-in-Object.ensures.keys ∙ ap keys_of lent)
    (c.set_in-in-Object.ensures.noted ∙ ap (λ (p : Payload g.row.A.Denot). slice_set (noted_of p) c.args.index
    c.new-in-Object.result) lent
    ∙ ap (slice_set (noted_of c.args.block.1) c.args.index) c.new-in-Object.ensures))
    c.end_swap-old.ensures.places c.end_swap-old.ensures.len)
    c.end_swap-old.ensures.same c.came.ensures.came)
