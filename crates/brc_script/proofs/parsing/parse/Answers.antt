use Rattle.std.proofs.Common.{ℕ, List, Result, Ok, Err, subst}
use Rattle.std.specs.Prelude.{IfOk}
use Rattle.brc_words.specs.declared.fault.Fault.{Fault}
use Rattle.brc_script.specs.declared.script.Section.{Section}
use Rattle.brc_script.specs.Walks.{script_at, ReadsScript}
use Rattle.brc_script.specs.Texts.{IsTextOf}
use Rattle.brc_script.proofs.TextLaws.{text_takes}
use Rattle.brc_script.proofs.TextAgain.{text_again}
use Rattle.brc_script.proofs.parsing.parse.Goals as goal

read_is_spelled : {A : Type 0} (r : Result (List (Section A)) Fault) (text : List ℕ) → ReadsScript r (script_at text)
    → IfOk r (λ sections. IsTextOf text sections)
read_is_spelled (Ok sections) text h = text_takes text sections h
read_is_spelled (Err fault) text h = tt

pub returns-clause-found : goal.returns-clause-found
returns-clause-found g c = read_is_spelled c.script_of.result c.args.text.now c.script_of.ensures

pub returns-clause-only : goal.returns-clause-only
returns-clause-only g c sections is script = subst (ReadsScript c.script_of.result)
    (text_again c.args.text.now sections is script) c.script_of.ensures
