use Rattle.std.proofs.Common.{◌-◌, arith, ap, sym, ◌∙◌, length, slice_get, remove}
use Rattle.brc_count.specs.block.Payload.{kind_of, entries_of, keys_of}
use Rattle.brc_count.specs.Locking.{contents_found}
use Rattle.brc_count.proofs.Keys_Shown.{keys_left}
use Rattle.brc_thread.proofs.Payloads.{entries_shown}
use Rattle.brc_thread.proofs.Takes.{entries_mid, takes_last}
use Rattle.brc_thread.proofs.clearing.take_last.Goals as goal

pub end_take-requires-clause-entry : goal.end_take-requires-clause-entry
end_take-requires-clause-entry g c =
    ap (λ es. slice_get es (c.len-len.result - 1))
    (entries_mid c.begin.new.self c.place.new.self c.in-Some.block.1 c.place.ensures.same c.in-Some.ensures.began.found)
    ∙ ap (λ p. slice_get (entries_of p) (c.len-len.result - 1)) (sym c.payload_mut.ensures.value)
    ∙ c.remove-entry.ensures.taken

pub end_take-requires-clause-entries : goal.end_take-requires-clause-entries
end_take-requires-clause-entries g c =
    entries_shown c.remove-entry.new.self ∙ c.remove-entry.ensures.left
    ∙ ap (λ p. remove (entries_of p) (c.len-len.result - 1)) c.payload_mut.ensures.value
    ∙ ap (λ es. remove es (c.len-len.result - 1))
    (sym (entries_mid c.begin.new.self c.place.new.self c.in-Some.block.1 c.place.ensures.same
    c.in-Some.ensures.began.found))

pub end_take-requires-clause-keys : goal.end_take-requires-clause-keys
end_take-requires-clause-keys g c =
    keys_left c.in-Some.block.1 c.remove-entry.new.self (contents_found c.place.new.self) (c.len-len.result - 1)
    (ap contents_found c.place.ensures.same ∙ c.in-Some.ensures.began.found)
    (c.remove-entry.ensures.keys ∙ ap (λ p. remove (keys_of p) (c.len-len.result - 1)) c.payload_mut.ensures.value)

pub returns-clause-takes : goal.returns-clause-takes
returns-clause-takes g c =
    let lent = c.payload_mut.ensures.value in
    takes_last c.args.frame.now c.begin.new.self c.place.new.self c.end_take.new.self c.args.handle.now.place
    c.in-Some.block c.remove-entry.new.self
    (c.len-len.result - 1) c.remove-entry.result.cell c.end_take.result
    c.in-Some.ensures.began c.begin.ensures.keeps c.begin.ensures.frame c.place.ensures.same c.end_take.ensures.ended
    (omega (arith, c.if-len-eq0.false, c.len-len.ensures, ap (λ p. length (entries_of p)) c.payload.ensures))
    (ap (λ p. slice_get (entries_of p) (c.len-len.result - 1)) (sym lent) ∙ c.remove-entry.ensures.taken)
    (c.remove-entry.ensures.left ∙ ap (λ p. remove (entries_of p) (c.len-len.result - 1)) lent)
    (c.remove-entry.ensures.kind ∙ ap kind_of lent)
    c.end_take.ensures.places
