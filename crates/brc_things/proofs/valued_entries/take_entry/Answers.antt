use Rattle.std.proofs.Common.{ℕ, ◌≤◌, Some, arith, refl, subst, sym, slice_get, ◌∙◌, ap, remove}
use Rattle.brc_words.proofs.Cells.{cells_there}
use Rattle.brc_words.specs.declared.limits.TheConstants.{MOST_PLACES}
use Rattle.brc_count.specs.block.declared.payload.Payload.{Payload}
use Rattle.brc_count.specs.block.Payload.{noted_of, entries_of, keys_of, kind_of}
use Rattle.brc_count.specs.Locking.{contents_found}
use Rattle.brc_count.proofs.Keys_Shown.{keys_left}
use Rattle.brc_things.proofs.Shown.{entries_shown}
use Rattle.brc_things.proofs.Locked.{stood, stood_placed, found_placed, few_entries, entry_found, entries_are}
use Rattle.brc_things.proofs.Locked.{refused_for_want, refused_place, takes_since}
use Rattle.brc_things.proofs.Valued_Law.{takes_scalar}
use Rattle.brc_things.proofs.Valued_Plain.{there_within}
use Rattle.brc_things.proofs.valued_entries.take_entry.Goals as goal

pub overflow_cast-place : goal.overflow_cast-place
overflow_cast-place g c =
    omega (
      arith,
      there_within c.args.block.1 c.args.index c.args.entry c.requires.there,
      few_entries c.args.frame.now c.args.block.1 c.requires.has.locked c.requires.has.found,
    )

pub remove-entry-requires : goal.remove-entry-requires
remove-entry-requires g c = record {
  within = there_within c.payload_mut.result.now c.args.index c.args.entry
      (ap (λ p. slice_get (noted_of p) c.args.index) c.payload_mut.ensures.value ∙ c.requires.there);
}

pub remove-entry-requires-2 : goal.remove-entry-requires-2
remove-entry-requires-2 g c = record {
  within = there_within c.payload_mut-2.result.now c.args.index c.args.entry
      (ap (λ p. slice_get (noted_of p) c.args.index) c.payload_mut-2.ensures.value ∙ c.requires.there);
}

pub end_take_none-requires-clause-entry : goal.end_take_none-requires-clause-entry
end_take_none-requires-clause-entry g c =
    entry_found c.args.frame.now c.args.block.1 c.args.index c.args.entry.cell c.requires.has.found
    (cells_there (noted_of c.args.block.1) c.args.index c.args.entry c.requires.there) ∙ ap Some c.if-entry-eq0.true

pub end_take_none-requires-clause-entries : goal.end_take_none-requires-clause-entries
end_take_none-requires-clause-entries g c =
    entries_shown c.remove-entry.new.self ∙ c.remove-entry.ensures.left
    ∙ ap (λ p. remove (entries_of p) c.args.index) c.payload_mut.ensures.value
    ∙ ap (λ es. remove es c.args.index) (sym (entries_are c.args.frame.now c.args.block.1 c.requires.has.found))

pub end_take_none-requires-clause-keys : goal.end_take_none-requires-clause-keys
end_take_none-requires-clause-keys g c =
    keys_left c.args.block.1 c.remove-entry.new.self (contents_found c.args.frame.now) c.args.index
    c.requires.has.found
    (c.remove-entry.ensures.keys ∙ ap (λ p. remove (keys_of p) c.args.index) c.payload_mut.ensures.value)

pub end_take-given-requires-clause-entry : goal.end_take-given-requires-clause-entry
end_take-given-requires-clause-entry g c =
    entry_found c.place.new.self c.args.block.1 c.args.index c.args.entry.cell
    (found_placed c.args.frame.now c.place.new.self _ c.place.ensures.same c.requires.has.found)
    (cells_there (noted_of c.args.block.1) c.args.index c.args.entry c.requires.there)

pub end_take-given-requires-clause-entries : goal.end_take-given-requires-clause-entries
end_take-given-requires-clause-entries g c =
    entries_shown c.remove-entry-2.new.self ∙ c.remove-entry-2.ensures.left
    ∙ ap (λ p. remove (entries_of p) c.args.index) c.payload_mut-2.ensures.value
    ∙ ap (λ es. remove es c.args.index) (sym (entries_are c.place.new.self c.args.block.1
    (found_placed c.args.frame.now c.place.new.self _ c.place.ensures.same c.requires.has.found)))

pub end_take-given-requires-clause-keys : goal.end_take-given-requires-clause-keys
end_take-given-requires-clause-keys g c =
    keys_left c.args.block.1 c.remove-entry-2.new.self (contents_found c.place.new.self) c.args.index
    (found_placed c.args.frame.now c.place.new.self _ c.place.ensures.same c.requires.has.found)
    (c.remove-entry-2.ensures.keys ∙ ap (λ p. remove (keys_of p) c.args.index) c.payload_mut-2.ensures.value)

pub returns-then-not-has_vacant-clause-refused : goal.returns-then-not-has_vacant-clause-refused
returns-then-not-has_vacant-clause-refused g c = λ call takes before k since. (
  refused_for_want before c.args.frame.now c.end_keep.new.self k c.args.block call
      (stood before c.args.frame.now k c.args.block since) c.end_keep.ensures.ended takes.may,
  subst (λ (n : ℕ). MOST_PLACES ≤ n) since.frame.len (c.if-not-has_vacant.ensures.full refl),
)

pub returns-then-entry-eq0-clause-taken : goal.returns-then-entry-eq0-clause-taken
returns-then-entry-eq0-clause-taken g c = λ call takes before k since.
    let lent = c.payload_mut.ensures.value in
    takes_scalar before c.args.frame.now c.end_take_none.new.self k c.args.block c.remove-entry.new.self
    call c.args.index c.args.entry c.note.result
    (stood before c.args.frame.now k c.args.block since) c.end_take_none.ensures.ended c.end_take_none.ensures.frame
    c.requires.there
    (takes.takes c.remove-entry.new.self (c.remove-entry.ensures.kind ∙ ap kind_of lent)
    (c.remove-entry.ensures.keys ∙ ap (λ (p : Payload g.row.A.Denot). remove (keys_of p) c.args.index) lent)
    (c.remove-entry.ensures.noted_left ∙ ap (λ (p : Payload g.row.A.Denot). remove (noted_of p) c.args.index) lent))
    c.if-entry-eq0.true (sym c.note.ensures)

pub returns-in-Err-clause-refused : goal.returns-in-Err-clause-refused
returns-in-Err-clause-refused g c = λ call takes before k since.
    let was = stood_placed before c.args.frame.now c.place.new.self k c.args.block since c.place.ensures.same in
    refused_place before c.args.frame.now c.end_keep-in-Err.new.self k call c.in-Err.fault
    since.frame.len c.in-Err.ensures.refused
    (refused_for_want before c.place.new.self c.end_keep-in-Err.new.self k c.args.block call was
    c.end_keep-in-Err.ensures.ended takes.may)

pub returns-clause-taken : goal.returns-clause-taken
returns-clause-taken g c = λ call takes before k since.
    let lent = c.payload_mut-2.ensures.value in (
      takes_since before c.place.new.self c.end_take-given.new.self k c.args.block c.remove-entry-2.new.self
          call c.args.index c.args.entry c.end_take-given.result
          (stood_placed before c.args.frame.now c.place.new.self k c.args.block since c.place.ensures.same)
          c.end_take-given.ensures.ended c.requires.there
          (takes.takes c.remove-entry-2.new.self (c.remove-entry-2.ensures.kind ∙ ap kind_of lent)
          (c.remove-entry-2.ensures.keys ∙ ap (λ (p : Payload g.row.A.Denot). remove (keys_of p) c.args.index) lent)
          (c.remove-entry-2.ensures.noted_left
          ∙ ap (λ (p : Payload g.row.A.Denot). remove (noted_of p) c.args.index) lent))
          c.end_take-given.ensures.heap c.end_take-given.ensures.thread c.end_take-given.ensures.next
          c.end_take-given.ensures.vacant c.end_take-given.ensures.places c.end_take-given.ensures.len,
      c.if-entry-eq0.false,
      sym c.note-2.ensures,
    )
