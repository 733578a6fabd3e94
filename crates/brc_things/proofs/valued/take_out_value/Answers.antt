use Rattle.std.proofs.Common.{◌≡◌, ap, ◌∙◌, sym, subst, slice_get, remove}
use Rattle.brc_count.specs.block.Payload.{kind_of, noted_of}
use Rattle.brc_count.specs.law.declared.rule.contents.Contents.{Contents}
use Rattle.brc_things.specs.Rows.{plain_take, NoEntry}
use Rattle.brc_things.proofs.Locked.{stood}
use Rattle.brc_things.proofs.Since_Law.{ok_by, err_by}
use Rattle.brc_things.proofs.Valued_Plain.{row_takes}
use Rattle.brc_things.proofs.Valued_Refusals.{place_unfound}
use Rattle.brc_things.proofs.valued.take_out_value.Goals as goal

pub take_entry-requires-clause-there : goal.take_entry-requires-clause-there
take_entry-requires-clause-there g c =
    ap (λ p. slice_get (noted_of p) c.args.index) (sym c.payload.ensures) ∙ c.in-Ok.ensures.entry

pub returns-in-Ok-clause-taken : goal.returns-in-Ok-clause-taken
returns-in-Ok-clause-taken g c =
    ok_by c.take_entry.result c.take_entry.ensures.taken (λ came by call same. by call
    (row_takes c.args.kind c.args.block.1 c.args.index c.in-Ok.entry call c.requires.row
    (ap kind_of (sym c.payload.ensures) ∙ c.in-Ok.ensures.is)
    (ap (λ p. slice_get (noted_of p) c.args.index) (sym c.payload.ensures) ∙ c.in-Ok.ensures.entry)
    (subst (λ (f : Contents). call f ≡ plain_take c.args.kind c.args.index f) c.requires.has.found same)))

pub returns-in-Ok-clause-refused : goal.returns-in-Ok-clause-refused
returns-in-Ok-clause-refused g c =
    err_by c.take_entry.result c.take_entry.ensures.refused (λ fault by call same. by call
    (row_takes c.args.kind c.args.block.1 c.args.index c.in-Ok.entry call c.requires.row
    (ap kind_of (sym c.payload.ensures) ∙ c.in-Ok.ensures.is)
    (ap (λ p. slice_get (noted_of p) c.args.index) (sym c.payload.ensures) ∙ c.in-Ok.ensures.entry)
    (subst (λ (f : Contents). call f ≡ plain_take c.args.kind c.args.index f) c.requires.has.found same)))

pub returns-in-Err-clause-refused : goal.returns-in-Err-clause-refused
returns-in-Err-clause-refused g c = λ call same before k since.
    place_unfound before c.args.frame.now c.end_keep.new.self k c.args.block c.args.kind c.args.index
    (λ es. remove es c.args.index) call c.in-Err.fault (stood before c.args.frame.now k c.args.block since)
    c.end_keep.ensures.ended c.requires.row
    (subst (λ p. NoEntry c.args.kind c.args.index (kind_of p) (noted_of p) c.in-Err.fault) c.payload.ensures
    c.in-Err.ensures.refused)
    (subst (λ (f : Contents). call f ≡ plain_take c.args.kind c.args.index f) c.requires.has.found same)
