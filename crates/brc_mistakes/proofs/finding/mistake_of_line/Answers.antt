use Rattle.std.proofs.Common.{◌∙◌, sym}
use Rattle.std.proofs.lemmas.Bool.{eqb-true}
use Rattle.brc_mistakes.proofs.RuleLaws.{idle_empty, good_empty, good_comment, good_line}
use Rattle.brc_mistakes.proofs.finding.mistake_of_line.Goals as goal

pub returns-then-is_empty-clause-none : goal.returns-then-is_empty-clause-none
returns-then-is_empty-clause-none c =
    good_empty c.args.line.now
    (idle_empty c.args.line.now (eqb-true _ _ (sym c.is_empty.ensures ∙ c.if-is_empty.true)))

pub returns-then-is_comment-clause-none : goal.returns-then-is_comment-clause-none
returns-then-is_comment-clause-none c =
    good_comment c.mistake_of_comment.result c.args.line.now c.mistake_of_comment.ensures.none

pub returns-in-None-clause-none : goal.returns-in-None-clause-none
returns-in-None-clause-none c =
    good_line c.mistake_of_words.result c.args.line.now c.in-None.ensures.none c.mistake_of_words.ensures.none
