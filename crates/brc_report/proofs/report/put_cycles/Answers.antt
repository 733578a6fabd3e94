use Rattle.std.proofs.Common.{◌++◌, ◌+◌, ℕ, List, drop, refl, ap, sym, ◌∙◌}
use Rattle.std.proofs.lemmas.Result.{err_from_is_err_and}
use Rattle.brc_text.proofs.PutLaws.{goes_on, fails}
use Rattle.brc_report.specs.Texts.{cycle_line, cycles_text}
use Rattle.brc_report.proofs.Writing.{pieces_left}
use Rattle.brc_report.proofs.report.put_cycles.Goals as goal

pub returns-in_err-put_cycle : goal.returns-in_err-put_cycle
returns-in_err-put_cycle g c =
    let p = err_from_is_err_and c.from_residual.result c.from_residual.ensures.1 in
    let split = pieces_left cycle_line cycles_text (λ x xs. refl) c.args.cycles.now c.loop-cycle.cycle-index
    c.cycle-item.result c.loop-cycle-test.true
    ∙ ap (λ (w : List ℕ). cycle_line w ++ cycles_text (drop (c.loop-cycle.cycle-index + 1) c.args.cycles.now))
    (sym c.cycle-item.is ∙ sym c.as_slice.ensures) in
    rw (p.1, p.2) (
      c.in_err-put_cycle.ensures.0,
      c.in_err-put_cycle.ensures.1 ++ cycles_text (drop (c.loop-cycle.cycle-index + 1) c.args.cycles.now),
      fails _ (cycles_text (drop (c.loop-cycle.cycle-index + 1) c.args.cycles.now)) c.loop-cycle.invariant split
          c.in_err-put_cycle.ensures.2,
    )

pub loop-cycle-preserved : goal.loop-cycle-preserved
loop-cycle-preserved g c =
    let split = pieces_left cycle_line cycles_text (λ x xs. refl) c.args.cycles.now c.loop-cycle.cycle-index
    c.cycle-item.result c.loop-cycle-test.true
    ∙ ap (λ (w : List ℕ). cycle_line w ++ cycles_text (drop (c.loop-cycle.cycle-index + 1) c.args.cycles.now))
    (sym c.cycle-item.is ∙ sym c.as_slice.ensures) in
    goes_on _ _ (cycles_text (drop (c.loop-cycle.cycle-index + 1) c.args.cycles.now)) c.loop-cycle.invariant split
    c.in_ok-put_cycle.ensures
