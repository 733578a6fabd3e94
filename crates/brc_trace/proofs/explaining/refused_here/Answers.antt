use Rattle.std.proofs.Common.{◌≡◌, ◌∙◌, Option, Some, true, refl, sym, subst, is_some}
use Rattle.std.specs.Prelude.{IfSome}
use Rattle.brc_trace.specs.declared.finer.Finer.{Finer}
use Rattle.brc_state.specs.Refusals.{refusal_of}
use Rattle.brc_trace.specs.Finer.{IsFinerSo}
use Rattle.brc_trace.proofs.FinerLaws.{finer_so, finer_told}
use Rattle.brc_trace.proofs.explaining.refused_here.Goals as goal

pub returns : goal.returns
returns g c =
    let world = c.args.world.now in
    let refusal = c.unwrap-refusal.result in
    let which : refusal_of world c.args.event ≡ Some refusal = sym c.refusal.ensures.which ∙ c.unwrap-refusal.ensures in
    record {
      line_is = refl;
      event_is = refl;
      refusal_is = which;
      standing_is = c.seen.ensures;
      finer_is = c.finer_of.ensures;
      finer_so = subst (λ (told : Option Finer). IfSome told (IsFinerSo world c.args.event)) (sym c.finer_of.ensures)
          (finer_so world c.args.event refusal);
      finer_told = λ parts. subst (λ (told : Option Finer). is_some told ≡ true) (sym c.finer_of.ensures)
          (finer_told world c.args.event refusal which parts);
    }
