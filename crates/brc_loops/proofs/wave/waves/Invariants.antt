use Rattle.std.proofs.Common.{◌≡◌, ◌+◌, ◌*◌, true}
use Rattle.brc_thread.specs.Counting.{registrations, gatherings}
use Rattle.brc_loops.proofs.wave.waves.Given as goal

abbrev pub invariant-loop-before : goal.invariant-loop-before
invariant-loop-before g l =
    (l.root.table ≡ l.fn.root.table)
    × (l.all_whole ≡ true → gatherings l.root.view ≡ gatherings l.fn.root.view + l.before * l.crew)
    × (registrations l.root.view + gatherings l.fn.root.view
    ≡ registrations l.fn.root.view + gatherings l.root.view)
