use Rattle.std.proofs.Common.{◌<◌, arith, length, remove, sym, ◌∙◌, ap, subst}
use Rattle.std.proofs.lemmas.Option.{slice_get_within}
use Rattle.brc_count.specs.block.declared.payload.Payload.{Payload}
use Rattle.brc_count.specs.block.Payload.{kind_of, noted_of, entries_of, keys_of}
use Rattle.brc_count.specs.Frames.{FrameSeen}
use Rattle.brc_count.specs.Locking.{contents_found}
use Rattle.brc_count.proofs.Keys_Shown.{keys_left}
use Rattle.brc_things.proofs.Within_Law.{few_entries, place_found, takes_out}
use Rattle.brc_things.proofs.within.take_locked.Goals as goal

pub returns-in-Err-clause-refused : goal.returns-in-Err-clause-refused
returns-in-Err-clause-refused g c =
    place_found c.args.frame.now c.args.kind c.args.index (λ cells. remove cells c.args.index)
    (contents_found c.args.frame.now) c.args.block.1 c.in-Err.fault
    c.requires.has.found (c.in-Err.ensures.refused (λ cells. remove cells c.args.index))

pub overflow_cast-place : goal.overflow_cast-place
overflow_cast-place g c =
    omega (
      arith,
      slice_get_within (entries_of c.args.block.1) c.args.index c.in-Ok.entry.cell c.in-Ok.ensures.cell,
      few_entries c.args.frame.now c.args.block c.requires.has,
    )

pub remove-entry-requires : goal.remove-entry-requires
remove-entry-requires g c = record {
  within = subst (λ (p : Payload g.row.A.Denot). c.args.index < length (entries_of p)) (sym c.payload_mut.ensures.value)
      (slice_get_within (entries_of c.args.block.1) c.args.index c.in-Ok.entry.cell c.in-Ok.ensures.cell);
}

pub end_take-requires-clause-keys : goal.end_take-requires-clause-keys
end_take-requires-clause-keys g c =
    keys_left c.args.block.1 c.remove-entry.new.self (contents_found c.entry_and_place.new.frame) c.args.index
    (ap (λ (f : FrameSeen g.row.A.Denot). contents_found f) c.in-Ok.ensures.same ∙ c.requires.has.found)
    (c.remove-entry.ensures.keys ∙ ap (λ (p : Payload g.row.A.Denot). remove (keys_of p) c.args.index)
    c.payload_mut.ensures.value)

pub returns-clause-taken : goal.returns-clause-taken
returns-clause-taken g c =
    let there = c.payload_mut.ensures.value in
    (takes_out c.args.frame.now c.entry_and_place.new.frame c.end_take.new.self c.args.kind c.args.index c.in-Ok.entry
    c.end_take.result _ c.args.block.1
    c.in-Ok.ensures.same c.requires.row c.requires.has.locks_cell c.requires.has.found
    c.in-Ok.ensures.is c.in-Ok.ensures.entry (c.remove-entry.ensures.kind ∙ ap kind_of there)
    (c.remove-entry.ensures.noted_left ∙ ap (λ (p : Payload g.row.A.Denot). remove (noted_of p) c.args.index) there)
    c.end_take.ensures.heap c.end_take.ensures.thread c.end_take.ensures.next c.end_take.ensures.vacant
    c.end_take.ensures.ended c.end_take.ensures.places c.end_take.ensures.len).0
