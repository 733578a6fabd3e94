use Rattle.std.proofs.Common.{ap, ◌∙◌, sym, subst, refl, slice_get}
use Rattle.brc_words.specs.declared.kind.Kind.TheVariants as kinds
use Rattle.brc_count.specs.block.Payload.{kind_of, noted_of}
use Rattle.brc_things.specs.Plain_Lists.{plain_get, plain_set}
use Rattle.brc_things.specs.Plain_Values.{at_old}
use Rattle.brc_things.specs.Rows.{NoEntry}
use Rattle.brc_things.proofs.Locked.{stood}
use Rattle.brc_things.proofs.Since_Law.{ok_by, err_by}
use Rattle.brc_things.proofs.Still_Law.{swap_unfound}
use Rattle.brc_things.proofs.Valued_Plain.{list_finds, list_sets}
use Rattle.brc_things.proofs.swap_if.list_swap.Goals as goal

pub swap_entry_if-requires-clause-there : goal.swap_entry_if-requires-clause-there
swap_entry_if-requires-clause-there g c =
    ap (λ p. slice_get (noted_of p) c.args.index) (sym c.payload.ensures) ∙ c.in-Ok.ensures.entry

pub returns-in-Ok-clause-swapped : goal.returns-in-Ok-clause-swapped
returns-in-Ok-clause-swapped g c =
    let is = ap kind_of (sym c.payload.ensures) ∙ c.in-Ok.ensures.is in
    let there = ap (λ p. slice_get (noted_of p) c.args.index) (sym c.payload.ensures) ∙ c.in-Ok.ensures.entry in
    ok_by c.swap_entry_if.result c.swap_entry_if.ensures.swapped (λ did by.
    by (plain_get c.args.index) (at_old (plain_set c.args.index))
    (list_finds c.args.block.1 c.args.index c.in-Ok.entry is there)
    (list_sets c.args.block.1 c.args.index c.in-Ok.entry (at_old (plain_set c.args.index)) is there (λ entry. refl)))

pub returns-in-Ok-clause-refused : goal.returns-in-Ok-clause-refused
returns-in-Ok-clause-refused g c =
    let is = ap kind_of (sym c.payload.ensures) ∙ c.in-Ok.ensures.is in
    let there = ap (λ p. slice_get (noted_of p) c.args.index) (sym c.payload.ensures) ∙ c.in-Ok.ensures.entry in
    err_by c.swap_entry_if.result c.swap_entry_if.ensures.refused (λ handed by.
    by (plain_get c.args.index) (at_old (plain_set c.args.index))
    (list_finds c.args.block.1 c.args.index c.in-Ok.entry is there)
    (list_sets c.args.block.1 c.args.index c.in-Ok.entry (at_old (plain_set c.args.index)) is there (λ entry. refl)))

pub returns-in-Err-clause-refused : goal.returns-in-Err-clause-refused
returns-in-Err-clause-refused g c = λ before k since.
    swap_unfound before c.args.frame.now c.end_keep.new.self k c.args.block c.args.index c.args.value c.args.expected
    c.in-Err.fault
    (subst (λ p. NoEntry kinds.«List» c.args.index (kind_of p) (noted_of p) c.in-Err.fault) c.payload.ensures
    c.in-Err.ensures.refused)
    (stood before c.args.frame.now k c.args.block since) c.end_keep.ensures.ended
