use Rattle.std.proofs.Common.{Some, arith, subst, sym, ◌∙◌, ap, slice_set}
use Rattle.brc_count.specs.block.Lent_Keys.{key_lent}
use Rattle.brc_words.specs.declared.entry.Entry.{Entry}
use Rattle.brc_words.specs.Notes.{bare}
use Rattle.brc_count.specs.block.Payload.{noted_of, entries_of, keys_of, kind_of}
use Rattle.brc_count.specs.Locking.{contents_found}
use Rattle.brc_count.proofs.Keys_Shown.{keys_stay}
use Rattle.brc_things.specs.Plain_Dicts.{plain_put}
use Rattle.brc_things.specs.Seeking.{HasKeyAt}
use Rattle.brc_things.proofs.Shown.{put_there, entry_there, cell_there, entry_within, there_dict}
use Rattle.brc_things.proofs.Locked.{stood, few_entries, entry_found, entries_set, swaps_since}
use Rattle.brc_things.proofs.putting.replace_locked.Goals as goal

pub overflow_cast-place : goal.overflow_cast-place
overflow_cast-place g c =
    omega (
      arith,
      entry_within c.args.block.1 (key_lent c.args.key) c.args.index c.args.entry c.requires.there,
      few_entries c.args.frame.now c.args.block.1 c.requires.locked c.requires.found,
    )

pub set_pair-requires : goal.set_pair-requires
set_pair-requires g c =
    let there = subst (λ p. HasKeyAt p (key_lent c.args.key) c.args.index c.args.entry)
    (sym c.payload_mut.ensures.value)
    c.requires.there in
    record {
      dict = there_dict c.payload_mut.result.now (key_lent c.args.key) c.args.index c.args.entry there;
      within = entry_within c.payload_mut.result.now (key_lent c.args.key) c.args.index c.args.entry there;
    }

pub end_swap-requires-clause-entry : goal.end_swap-requires-clause-entry
end_swap-requires-clause-entry g c =
    entry_found c.args.frame.now c.args.block.1 c.args.index c.args.entry.cell c.requires.found
    (cell_there c.args.block.1 (key_lent c.args.key) c.args.index c.args.entry c.requires.there)

pub end_swap-requires-clause-entries : goal.end_swap-requires-clause-entries
end_swap-requires-clause-entries g c = λ value at.
    entries_set c.args.frame.now c.args.block.1 c.set_pair.new.payload c.args.index c.bare-put.result.cell value
    c.requires.found
    (c.set_pair.ensures.set ∙ ap (λ p. slice_set (entries_of p) c.args.index c.bare-put.result.cell)
    c.payload_mut.ensures.value)
    (ap (λ (e : Entry). Some e.cell) c.bare-put.ensures ∙ sym c.cell-cell.ensures.cell ∙ at)

pub end_swap-requires-clause-keys : goal.end_swap-requires-clause-keys
end_swap-requires-clause-keys g c =
    keys_stay c.args.block.1 c.set_pair.new.payload (contents_found c.args.frame.now) c.requires.found
    (c.set_pair.ensures.keys ∙ ap keys_of c.payload_mut.ensures.value)

pub returns-clause-put : goal.returns-clause-put
returns-clause-put g c = λ before k since.
    let lent = c.payload_mut.ensures.value in
    let there = c.requires.there in (
      c.end_swap.ensures.same,
      swaps_since before c.args.frame.now c.end_swap.new.self k c.args.value.place c.args.block c.set_pair.new.payload
          (λ cell. plain_put (key_lent c.args.key) (bare cell)) Some
          c.cell-cell.result c.args.index c.args.entry
          (stood before c.args.frame.now k c.args.block since) c.end_swap.ensures.ended c.cell-cell.ensures.cell
          (entry_there c.args.block.1 (key_lent c.args.key) c.args.index c.args.entry there)
          (put_there (key_lent c.args.key) (bare c.cell-cell.result) c.args.block.1 c.set_pair.new.payload c.args.index c.args.entry there
          (c.set_pair.ensures.kind ∙ ap kind_of lent) (c.set_pair.ensures.keys ∙ ap keys_of lent)
          (c.set_pair.ensures.noted ∙ ap (λ p. slice_set (noted_of p) c.args.index c.bare-put.result) lent
          ∙ ap (slice_set (noted_of c.args.block.1) c.args.index) c.bare-put.ensures))
          c.end_swap.ensures.places c.end_swap.ensures.len,
    )
