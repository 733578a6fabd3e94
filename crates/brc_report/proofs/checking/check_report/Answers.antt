use Rattle.std.proofs.Common.{◌∙◌, Some, ap, sym, subst}
use Rattle.std.specs.Option.{option_map}
use Rattle.brc_report.specs.Cycles.{AreCycles, holder_in}
use Rattle.brc_report.proofs.Unique.{cycles_unique}
use Rattle.brc_report.proofs.checking.check_report.Goals as goal

pub returns-clause-right : goal.returns-clause-right
returns-clause-right g c =
    let own = subst (AreCycles c.args.remains.now) (sym c.as_slice-2.ensures.value) c.in_ok-own-2.ensures.cycles in (
      λ same. record {
        contents_rise = sym c.is_contents.ensures ∙ c.if-not-is_contents.false;
        all_remains = sym c.in_ok-own.ensures.remains
            ∙ (ap (option_map (λ v. v.items)) c.in-Some.is
            ∙ ap Some (sym c.as_slice.ensures.value ∙ c.is_same_remains.ensures.0 c.if-not-is_same_remains.false));
        all_cycles = subst (AreCycles c.args.remains.now) (c.is_same_cycles.ensures.0 same) own;
      },
      λ right. c.is_same_cycles.ensures.1
          (cycles_unique (holder_in c.args.remains.now) c.args.remains.now _ c.args.cycles.now own right.all_cycles),
    )
