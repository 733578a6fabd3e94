use Rattle.std.proofs.Common.{ap, ◌∙◌, sym, subst, slice_get}
use Rattle.brc_words.specs.declared.kind.Kind.TheVariants as kinds
use Rattle.brc_count.specs.block.Payload.{kind_of, noted_of}
use Rattle.brc_count.specs.Locking.{contents_found}
use Rattle.brc_things.specs.Plain_Lists.{plain_set}
use Rattle.brc_things.specs.Plain_Values.{at_old}
use Rattle.brc_things.specs.Rows.{NoEntry}
use Rattle.brc_things.proofs.Locked.{stood}
use Rattle.brc_things.proofs.Since_Law.{ok_by, err_by}
use Rattle.brc_things.proofs.Valued_Plain.{alike_there, list_sets}
use Rattle.brc_things.proofs.Valued_Refusals.{set_unfound}
use Rattle.brc_things.proofs.valued.set_value.Goals as goal

pub set_entry-requires-clause-there : goal.set_entry-requires-clause-there
set_entry-requires-clause-there g c =
    ap (λ p. slice_get (noted_of p) c.args.index) (sym c.payload.ensures) ∙ c.in-Ok.ensures.entry

pub returns-in-Ok-clause-swapped : goal.returns-in-Ok-clause-swapped
returns-in-Ok-clause-swapped g c =
    ok_by c.set_entry.result c.set_entry.ensures.swapped (λ came by call alike. by call
    (list_sets c.args.block.1 c.args.index c.in-Ok.entry call (ap kind_of (sym c.payload.ensures) ∙ c.in-Ok.ensures.is)
    (ap (λ p. slice_get (noted_of p) c.args.index) (sym c.payload.ensures) ∙ c.in-Ok.ensures.entry)
    (alike_there (contents_found c.args.frame.now) c.args.block.1 call (at_old (plain_set c.args.index))
    c.requires.has.found alike)))

pub returns-in-Ok-clause-refused : goal.returns-in-Ok-clause-refused
returns-in-Ok-clause-refused g c =
    err_by c.set_entry.result c.set_entry.ensures.refused (λ handed by call alike. by call
    (list_sets c.args.block.1 c.args.index c.in-Ok.entry call (ap kind_of (sym c.payload.ensures) ∙ c.in-Ok.ensures.is)
    (ap (λ p. slice_get (noted_of p) c.args.index) (sym c.payload.ensures) ∙ c.in-Ok.ensures.entry)
    (alike_there (contents_found c.args.frame.now) c.args.block.1 call (at_old (plain_set c.args.index))
    c.requires.has.found alike)))

pub returns-in-Err-clause-refused : goal.returns-in-Err-clause-refused
returns-in-Err-clause-refused g c = λ call alike before k since.
    set_unfound before c.args.frame.now c.end_keep.new.self k c.args.block c.args.index c.args.value call
    c.in-Err.fault (stood before c.args.frame.now k c.args.block since) c.end_keep.ensures.ended
    (subst (λ p. NoEntry kinds.«List» c.args.index (kind_of p) (noted_of p) c.in-Err.fault) c.payload.ensures
    c.in-Err.ensures.refused)
    (alike_there (contents_found c.args.frame.now) c.args.block.1 call (at_old (plain_set c.args.index))
    c.requires.has.found alike)
