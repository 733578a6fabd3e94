use Rattle.std.proofs.Common.{◌≡◌, ◌≤◌, [], vec_capacity, vec_len}
use Rattle.std.specs.Prelude.{vec_items}
use Rattle.std.specs.List.{All}
use Rattle.brc_run.specs.Runs.{IsReady, RootTakesIn}
use Rattle.brc_run.proofs.crew.register_all.Given as goal

abbrev pub invariant-loop : goal.invariant-loop
invariant-loop l =
    RootTakesIn l.fn.root l.root l.counter []
    × All (IsReady l.heap) (vec_items l.crew)
    × (vec_len l.crew ≡ l.counter) × (vec_capacity l.fn.crew ≤ vec_capacity l.crew)
