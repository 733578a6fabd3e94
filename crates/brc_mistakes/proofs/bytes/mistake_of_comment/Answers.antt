use Rattle.std.proofs.Common.{◌∙◌, sym}
use Rattle.brc_mistakes.proofs.RuleLaws.{idle_comment}
use Rattle.brc_mistakes.proofs.bytes.mistake_of_comment.Goals as goal

pub returns-then-are_low-clause-none : goal.returns-then-are_low-clause-none
returns-then-are_low-clause-none c =
    idle_comment c.args.line.now c.requires (sym c.are_low.ensures ∙ c.if-are_low.true)
