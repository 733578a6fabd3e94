use Rattle.std.proofs.Common.{Some, slice_set, refl, sym, ◌∙◌, ap}
use Rattle.brc_words.specs.declared.entry.Entry.{Entry}
use Rattle.brc_words.specs.Notes.{noted}
use Rattle.brc_count.specs.block.declared.payload.Payload.{Payload}
use Rattle.brc_count.specs.block.Payload.{kind_of, noted_of, entries_of, keys_of}
use Rattle.brc_count.specs.Locking.{contents_found}
use Rattle.brc_count.proofs.Keys_Shown.{keys_stay}
use Rattle.brc_words.proofs.Cells.{cells_there}
use Rattle.brc_things.proofs.Locked.{stood, entry_found, entries_set}
use Rattle.brc_things.proofs.Valued_Law.{sets_scalar}
use Rattle.brc_things.proofs.valued_entries.set_entry.Goals as goal

pub end_swap_none-requires-clause-entry : goal.end_swap_none-requires-clause-entry
end_swap_none-requires-clause-entry g c =
    entry_found c.args.frame.now c.args.block.1 c.args.index c.args.entry.cell c.requires.has.found
    (cells_there (noted_of c.args.block.1) c.args.index c.args.entry c.requires.there) ∙ ap Some c.if-entry-eq0.true

pub end_swap_none-requires-clause-entries : goal.end_swap_none-requires-clause-entries
end_swap_none-requires-clause-entries g c =
    entries_set c.args.frame.now c.args.block.1 c.set_in.new.payload c.args.index c.new.result.cell 0
    c.requires.has.found
    (c.set_in.ensures.set ∙ ap (λ (p : Payload g.row.A.Denot). slice_set (entries_of p) c.args.index c.new.result.cell)
    c.payload_mut.ensures.value)
    (ap (λ (e : Entry). Some e.cell) c.new.ensures)

pub end_swap_none-requires-clause-keys : goal.end_swap_none-requires-clause-keys
end_swap_none-requires-clause-keys g c =
    keys_stay c.args.block.1 c.set_in.new.payload (contents_found c.args.frame.now) c.requires.has.found
    (c.set_in.ensures.keys ∙ ap keys_of c.payload_mut.ensures.value)

pub returns-then-entry-eq0-clause-swapped : goal.returns-then-entry-eq0-clause-swapped
returns-then-entry-eq0-clause-swapped g c = λ call sets before k since.
    let lent = c.payload_mut.ensures.value in
    rw c.in-Scalar.is (
      refl,
      sets_scalar before c.args.frame.now c.end_swap_none.new.self k c.args.none.now.place c.args.block
          c.set_in.new.payload (call (noted 0 c.in-Scalar.note)) c.args.index c.args.entry c.note.result
          (stood before c.args.frame.now k c.args.block since) c.end_swap_none.ensures.ended
          c.end_swap_none.ensures.frame c.requires.there
          (sets.sets (noted 0 c.in-Scalar.note) c.set_in.new.payload
          (c.set_in.ensures.kind ∙ ap kind_of lent) (c.set_in.ensures.keys ∙ ap keys_of lent)
          (c.set_in.ensures.noted ∙ ap (λ (p : Payload g.row.A.Denot). slice_set (noted_of p) c.args.index
          c.new.result) lent
          ∙ ap (slice_set (noted_of c.args.block.1) c.args.index) c.new.ensures))
          c.if-entry-eq0.true (sym c.note.ensures),
    )
