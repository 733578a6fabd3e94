use Rattle.std.proofs.Common.{sym, ap, ◌∙◌}
use Rattle.std.specs.Option.{option_map}
use Rattle.brc_report.specs.Cycles.{holder_in}
use Rattle.brc_report.specs.Holding.{remains_of}
use Rattle.brc_report.proofs.Spelling.{cycles_have_cells}
use Rattle.brc_heap.proofs.closing.report_of.Goals as goal

pub invariant_of-result : goal.invariant_of-result
invariant_of-result g c = record {
  remains_spelled = c.requires.spelled c.in-Some.remains.items
      (ap remains_of (sym c.as_slice.ensures.value) ∙ sym c.in-Ok.ensures.remains
      ∙ ap (option_map (λ remains. remains.items)) c.in-Some.is);
  cycles_spelled = cycles_have_cells (holder_in c.as_slice-2.result.now) c.as_slice-2.result.now
      c.in-Ok-find_cycles.cycles.items
      c.in-Ok-find_cycles.ensures.cycles;
}
