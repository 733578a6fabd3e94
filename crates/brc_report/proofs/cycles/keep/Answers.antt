use Rattle.std.proofs.Common.{ℕ, List, ◌==◌, Some, if◌then◌else◌, inl, refl, ap, subst, sym, ◌∙◌}
use Rattle.brc_report.specs.Tables.{at}
use Rattle.brc_report.specs.Walking.{IsTurned}
use Rattle.brc_report.proofs.Searching.{found_nowhere, kept_from, on_ok_map, tail_range}
use Rattle.brc_report.proofs.cycles.keep.Goals as goal

pub returns-in_default : goal.returns-in_default
returns-in_default g c =
    inl (found_nowhere c.args.path.now c.args.end (sym c.place_of.ensures ∙ c.in_default.is), λ cell. refl)

pub returns : goal.returns
returns g c =
    on_ok_map c.put.result
    (λ put. kept_from c.args.path.now c.args.end (at c.args.found.now) (at c.put.new.self) c.in-Some.place
    c.index-first.result.now c.in_ok-cycle.cycle.items (sym c.place_of.ensures ∙ c.in-Some.is)
    (subst (λ w. IsTurned w c.in_ok-cycle.cycle.items) (tail_range c.args.path.now c.in-Some.place)
    c.in_ok-cycle.ensures)
    c.index-first.ensures
    (λ cell. put cell
    ∙ ap (λ (w : List ℕ). if c.index-first.result.now == cell then Some w else at c.args.found.now cell) c.new.ensures))
    c.put.ensures
