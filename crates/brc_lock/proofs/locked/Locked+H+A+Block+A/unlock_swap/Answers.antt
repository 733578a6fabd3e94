use Rattle.std.proofs.Common.{refl, sym, ◌∙◌, ap, subst, slice_set}
use Rattle.brc_words.specs.declared.entry.Entry.{Entry}
use Rattle.brc_count.specs.Locking.{contents_found, entries_found, ChangesPlace}
use Rattle.brc_lock.proofs.Edited.{found_entry, replaced_found, keys_found_again, some_same}
use Rattle.brc_lock.proofs.locked.«Locked+H+A+Block+A».unlock_swap.Goals as goal

pub end_swap-requires-clause-entry : goal.end_swap-requires-clause-entry
end_swap-requires-clause-entry g c =
    found_entry c.args.self.block.1 c.payload.result.now (contents_found c.args.self.frame.now) c.args.index
    c.entry.result
    c.requires.holds.found c.payload.ensures c.entry.ensures
    ∙ c.in-Some.is

pub end_swap-requires-clause-entries : goal.end_swap-requires-clause-entries
end_swap-requires-clause-entries g c = λ k at.
    replaced_found c.args.self.block.1 c.payload_mut.result.now c.set_at.new.payload
    (contents_found c.args.self.frame.now) c.args.index c.bare-entry.result
    c.requires.holds.found c.payload_mut.ensures.value c.set_at.ensures
    ∙ ap (slice_set (entries_found c.args.self.frame.now) c.args.index)
    (ap (λ (e : Entry). e.cell) c.bare-entry.ensures ∙ some_same c.cell-cell.result k (sym c.cell-cell.ensures.cell ∙ at))

pub end_swap-requires-clause-keys : goal.end_swap-requires-clause-keys
end_swap-requires-clause-keys g c =
    keys_found_again c.args.self.block.1 c.payload_mut.result.now c.set_at.new.payload
    (contents_found c.args.self.frame.now) c.args.index c.bare-entry.result
    c.requires.holds.found c.payload_mut.ensures.value c.set_at.ensures

pub returns-clause-places : goal.returns-clause-places
returns-clause-places g c =
    subst (ChangesPlace c.args.self.frame.now c.end_swap.new.self c.args.value.place)
    (sym (found_entry c.args.self.block.1 c.payload.result.now _ c.args.index c.entry.result refl c.payload.ensures
    c.entry.ensures ∙ c.in-Some.is))
    c.end_swap.ensures.places
