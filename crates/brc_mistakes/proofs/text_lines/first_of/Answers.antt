use Rattle.std.proofs.Common.{◌∙◌, ℕ, take, ap, sym}
use Rattle.std.proofs.lemmas.Bool.{eqb-true}
use Rattle.brc_script.specs.Walks.{lines_of}
use Rattle.brc_mistakes.proofs.LineLaws.{none_of_none}
use Rattle.brc_mistakes.proofs.text_lines.first_of.Goals as goal

pub returns-then-count-eq0 : goal.returns-then-count-eq0
returns-then-count-eq0 c = ap (λ (n : ℕ). take n (lines_of c.args.text.now)) c.if-count-eq0.true

pub returns-then-is_empty : goal.returns-then-is_empty
returns-then-is_empty c =
    none_of_none c.args.text.now c.args.count (eqb-true _ _ (sym c.is_empty.ensures ∙ c.if-is_empty.true))
