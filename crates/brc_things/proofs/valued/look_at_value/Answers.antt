use Rattle.std.proofs.Common.{ap, ◌∙◌, refl, sym, subst, slice_get}
use Rattle.brc_words.specs.declared.kind.Kind.TheVariants as kinds
use Rattle.brc_count.specs.block.Payload.{kind_of, noted_of}
use Rattle.brc_things.specs.Plain_Lists.{plain_get}
use Rattle.brc_things.specs.Rows.{NoEntry}
use Rattle.brc_things.proofs.Locked.{stood}
use Rattle.brc_things.proofs.Since_Law.{ok_by, err_by}
use Rattle.brc_things.proofs.Valued_Plain.{list_finds}
use Rattle.brc_things.proofs.Valued_Refusals.{place_unfound}
use Rattle.brc_things.proofs.valued.look_at_value.Goals as goal

pub look_entry-requires-clause-there : goal.look_entry-requires-clause-there
look_entry-requires-clause-there g c =
    ap (λ p. slice_get (noted_of p) c.args.index) (sym c.payload.ensures) ∙ c.in-Ok.ensures.entry

pub returns-in-Ok-clause-looked : goal.returns-in-Ok-clause-looked
returns-in-Ok-clause-looked g c =
    ok_by c.look_entry.result c.look_entry.ensures.looked (λ came by. by (plain_get c.args.index)
    (list_finds c.args.block.1 c.args.index c.in-Ok.entry (ap kind_of (sym c.payload.ensures) ∙ c.in-Ok.ensures.is)
    (ap (λ p. slice_get (noted_of p) c.args.index) (sym c.payload.ensures) ∙ c.in-Ok.ensures.entry)))

pub returns-in-Ok-clause-refused : goal.returns-in-Ok-clause-refused
returns-in-Ok-clause-refused g c =
    err_by c.look_entry.result c.look_entry.ensures.refused (λ fault by. by (plain_get c.args.index)
    (list_finds c.args.block.1 c.args.index c.in-Ok.entry (ap kind_of (sym c.payload.ensures) ∙ c.in-Ok.ensures.is)
    (ap (λ p. slice_get (noted_of p) c.args.index) (sym c.payload.ensures) ∙ c.in-Ok.ensures.entry)))

pub returns-in-Err-clause-refused : goal.returns-in-Err-clause-refused
returns-in-Err-clause-refused g c = λ before k since.
    place_unfound before c.args.frame.now c.end_keep.new.self k c.args.block kinds.«List» c.args.index
    (λ es. es) (plain_get c.args.index) c.in-Err.fault (stood before c.args.frame.now k c.args.block since)
    c.end_keep.ensures.ended refl
    (subst (λ p. NoEntry kinds.«List» c.args.index (kind_of p) (noted_of p) c.in-Err.fault) c.payload.ensures
    c.in-Err.ensures.refused)
    refl
