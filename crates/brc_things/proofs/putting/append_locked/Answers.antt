use Rattle.std.proofs.Common.{All, ◌≢◌, ◌<◌, ◌++◌, [], ◌∷◌, Some, None, subst, sym, ◌∙◌, ap, length}
use Rattle.brc_words.specs.declared.limits.TheConstants.{MOST_ENTRIES}
use Rattle.brc_words.specs.declared.entry.Entry.{Entry}
use Rattle.brc_words.specs.Notes.{bare}
use Rattle.brc_count.specs.block.Payload.{noted_of, entries_of, keys_of, kind_of}
use Rattle.brc_count.specs.table.Shown.{contents_of}
use Rattle.brc_count.specs.Locking.{contents_found}
use Rattle.brc_count.proofs.Keys_Shown.{keyed_put}
use Rattle.brc_things.specs.Plain_Dicts.{plain_put}
use Rattle.brc_things.specs.Putting.{RefusedRoomFor}
use Rattle.brc_things.proofs.Standing.{others_than}
use Rattle.brc_things.proofs.Shown.{put_new}
use Rattle.brc_things.proofs.Locked.{stood, ended_same, refused_append, entries_put, puts_since}
use Rattle.brc_things.proofs.putting.append_locked.Goals as goal

pub returns-in-Err-clause-refused : goal.returns-in-Err-clause-refused
returns-in-Err-clause-refused g c = λ before k since value at.
    let lent = c.payload_mut.ensures.value in
    refused_append before c.args.frame.now c.end_keep.new.self k c.args.block c.args.key (bare value) c.in-Err.fault
    (stood before c.args.frame.now k c.args.block since)
    (ended_same c.args.frame.now c.end_keep.new.self _ c.args.block c.make_room.new.payload c.end_keep.ensures.ended
    (c.make_room.ensures.contents ∙ ap contents_of lent))
    c.requires.absent
    (subst (λ p. RefusedRoomFor (length (entries_of p)) c.in-Err.fault) lent c.in-Err.ensures.refused)

pub put_pair_reserved-requires-clause-absent : goal.put_pair_reserved-requires-clause-absent
put_pair_reserved-requires-clause-absent g c =
    let absent = c.requires.absent in
    subst (All (λ other. other ≢ c.args.key))
    (sym (ap keys_of c.payload_mut-2.ensures.value ∙ c.make_room.ensures.keys ∙ ap keys_of c.payload_mut.ensures.value
    ∙ ap keys_of absent.is))
    (others_than c.args.key absent.pairs.items absent.none)

pub end_put-requires-clause-entries : goal.end_put-requires-clause-entries
end_put-requires-clause-entries g c = λ value at.
    entries_put c.args.frame.now c.args.block.1 c.put_pair_reserved.new.self c.bare-entry.result.cell value c.requires.found
    (c.put_pair_reserved.ensures.put ∙ ap (λ es. es ++ c.bare-entry.result.cell ∷ [])
    (ap entries_of c.payload_mut-2.ensures.value ∙ c.make_room.ensures.entries
    ∙ ap entries_of c.payload_mut.ensures.value))
    (ap (λ (e : Entry). Some e.cell) c.bare-entry.ensures ∙ sym c.cell-cell.ensures.cell ∙ at)

pub end_put-requires-clause-keys : goal.end_put-requires-clause-keys
end_put-requires-clause-keys g c =
    let absent = c.requires.absent in
    keyed_put c.args.block.1 c.put_pair_reserved.new.self (contents_found c.args.frame.now) c.args.key c.requires.found
    (ap kind_of absent.is)
    (subst (All (λ other. other ≢ c.args.key)) (sym (ap keys_of absent.is))
    (others_than c.args.key absent.pairs.items absent.none))
    (c.put_pair_reserved.ensures.keys ∙ ap (λ ks. ks ++ c.args.key ∷ [])
    (ap keys_of c.payload_mut-2.ensures.value ∙ c.make_room.ensures.keys ∙ ap keys_of c.payload_mut.ensures.value))

pub returns-clause-put : goal.returns-clause-put
returns-clause-put g c = λ before k since.
    let lent = c.payload_mut.ensures.value in
    let again = c.payload_mut-2.ensures.value in
    puts_since before c.args.frame.now c.end_put.new.self k c.args.value.place c.args.block c.put_pair_reserved.new.self
    (λ cell. plain_put c.args.key (bare cell)) None c.cell-cell.result
    (stood before c.args.frame.now k c.args.block since) c.end_put.ensures.ended c.cell-cell.ensures.cell
    (put_new c.args.key (bare c.cell-cell.result) c.args.block.1 c.put_pair_reserved.new.self c.requires.absent
    (subst (λ p. length (entries_of p) < MOST_ENTRIES) lent c.in_default.ensures.few)
    (c.put_pair_reserved.ensures.kind ∙ ap kind_of again ∙ c.make_room.ensures.kind ∙ ap kind_of lent)
    (c.put_pair_reserved.ensures.keys ∙ ap (λ ks. ks ++ c.args.key ∷ []) (ap keys_of again ∙ c.make_room.ensures.keys
    ∙ ap keys_of lent))
    (c.put_pair_reserved.ensures.noted ∙ ap (λ es. es ++ c.bare-entry.result ∷ []) (ap noted_of again
    ∙ c.make_room.ensures.noted ∙ ap noted_of lent)
    ∙ ap (λ e. noted_of c.args.block.1 ++ e ∷ []) c.bare-entry.ensures))
    c.end_put.ensures.places c.end_put.ensures.len
