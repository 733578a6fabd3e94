-- A text spells what is found: cycles have cells.
use Rattle.std.proofs.Common.{◌≡◌, ℕ, List, [], ◌∷◌, true, length, Option, Some, None, ◌∙◌, ap, arith}
use Rattle.std.proofs.lemmas.Bool.{lt-ltb}
use Rattle.std.specs.Cmp.Derive.{both_true}
use Rattle.brc_report.specs.declared.content.Remain.{Remain}
use Rattle.brc_report.specs.Cycles.{CycleAt, CyclesAt, in_front}
use Rattle.brc_report.specs.Spelled.{has_cells, all_have_cells}

front_has_cells : (holder : ℕ → Option ℕ) (first : ℕ) (cycle : Option (List ℕ)) (rest : List (List ℕ))
    → CycleAt holder first cycle
    → all_have_cells rest ≡ true → all_have_cells (in_front cycle rest) ≡ true
front_has_cells holder first None rest at have = have
front_has_cells holder first (Some cycle) rest at have =
    both_true (ap has_cells at.1 ∙ lt-ltb 0 (length (first ∷ at.0)) (omega arith)) have

pub cycles_have_cells : (holder : ℕ → Option ℕ) (remains : List Remain) (cycles : List (List ℕ))
    → CyclesAt holder remains cycles → all_have_cells cycles ≡ true
cycles_have_cells holder [] cycles are = ap all_have_cells are
cycles_have_cells holder (remain ∷ remains) cycles are =
    ap all_have_cells are.2
    ∙ front_has_cells holder remain.cell are.0 are.1 are.3 (cycles_have_cells holder remains are.1 are.4)
