use Rattle.std.proofs.Common.{◌≡◌, drop}
use Rattle.brc_script.specs.Walks.{is_named}
use Rattle.brc_script.proofs.progress.is_named.Given as goal

abbrev pub invariant-loop-section : goal.invariant-loop-section
invariant-loop-section g l = is_named l.name (drop l.section-index l.sections) ≡ is_named l.name l.sections
