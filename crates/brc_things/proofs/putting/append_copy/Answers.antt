use Rattle.std.proofs.Common.{refl, subst, length}
use Rattle.brc_words.specs.Notes.{bare}
use Rattle.brc_words.specs.declared.key.Key.{Key}
use Rattle.brc_count.specs.block.Lent_Keys.{key_lent}
use Rattle.brc_count.specs.block.Payload.{entries_of}
use Rattle.brc_things.specs.Putting.{RefusedRoomFor, RefusedPut}
use Rattle.brc_things.proofs.Locked.{stood, ended_same, refused_append}
use Rattle.brc_things.proofs.putting.append_copy.Goals as goal

pub returns-in-Err-clause-refused : goal.returns-in-Err-clause-refused
returns-in-Err-clause-refused g c = λ before k since value at.
    refused_append before c.args.frame.now c.end_keep.new.self k c.args.block (key_lent c.args.key) (bare value) c.in-Err.fault
    (stood before c.args.frame.now k c.args.block since)
    (ended_same c.args.frame.now c.end_keep.new.self _ c.args.block c.args.block.1 c.end_keep.ensures.ended refl)
    c.requires.absent
    (subst (λ p. RefusedRoomFor (length (entries_of p)) c.in-Err.fault) c.payload.ensures c.in-Err.ensures.refused)

pub returns-in-Err-append_locked-clause-refused : goal.returns-in-Err-append_locked-clause-refused
returns-in-Err-append_locked-clause-refused g c = λ before k since.
    subst (λ (key : Key g.row.A.Denot). RefusedPut before c.append_locked.new.frame k key c.args.value
    c.in-Err-append_locked.field-0.fault) c.in-Ok.ensures.copy (c.in-Err-append_locked.ensures.refused before k since)
