use Rattle.std.proofs.Common.{◌≡◌, List, ℕ, Option, None, Result, Ok, Err}
use Rattle.std.specs.Prelude.{IfOk}
use Rattle.law.specs.world.Heap.{Heap}
use Rattle.brc_trace.specs.declared.explaining.Why.{Why}
use Rattle.brc_trace.specs.Replaying.{IsReplayed}
use Rattle.brc_trace.specs.Explaining.{Explains}
use Rattle.brc_trace.proofs.ExplainingLaws.{told_of_none}
use Rattle.brc_trace.proofs.explaining.explain.Goals as goal

none_is_told : {E : Type 0} (text : List ℕ) (world : Heap) (answer : Result (Option Why) E) → IsReplayed text world
    → IfOk answer (Explains text)
    → IfOk answer (λ why. why ≡ None)
none_is_told text world (Ok why) is told = told_of_none text world why is told
none_is_told text world (Err e) is told = tt

pub returns-clause-none : goal.returns-clause-none
returns-clause-none g c world is = none_is_told c.args.text.now world c.reason_of.result is c.reason_of.ensures
