use Rattle.std.proofs.Common.{◌≡◌, drop}
use Rattle.brc_report.specs.Spelled.{all_have_cells}
use Rattle.brc_report.proofs.report.all_have_cells.Given as goal

abbrev pub invariant-loop-cycle : goal.invariant-loop-cycle
invariant-loop-cycle g l = all_have_cells (drop l.cycle-index l.cycles) ≡ all_have_cells l.cycles
