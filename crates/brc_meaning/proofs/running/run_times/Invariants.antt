use Rattle.std.proofs.Common.{◌≡◌, ◌-◌}
use Rattle.brc_meaning.specs.Sections.{times_after}
use Rattle.brc_meaning.proofs.running.run_times.Given as goal

abbrev pub invariant-loop : goal.invariant-loop
invariant-loop g l = times_after (l.times - l.counter) l.lines l.state ≡ times_after l.times l.lines l.fn.state
