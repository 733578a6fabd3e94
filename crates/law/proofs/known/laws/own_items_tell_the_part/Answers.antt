use Rattle.law.proofs.known.Items_Law.{parts_are_told, meant_is_told}
use Rattle.law.proofs.known.Items_Runs.{events_run, run_items}
use Rattle.law.proofs.known.laws.own_items_tell_the_part.Goals as goal

pub returns : goal.returns
returns c = record { run = events_run; every = run_items; told = parts_are_told; meant = meant_is_told }
