use Rattle.std.proofs.Common.{◌-◌, ◌∙◌, Option, List, ℕ, take, ap, sym}
use Rattle.brc_text.specs.Tokens.{or_else}
use Rattle.brc_script.specs.Walks.{lines_of}
use Rattle.brc_mistakes.specs.declared.line_opening.Opening.{Opening}
use Rattle.brc_mistakes.specs.Places.{last_turn}
use Rattle.brc_mistakes.proofs.LineLaws.{last_goes_on, last_ends}
use Rattle.brc_mistakes.proofs.places.last_turn.Goals as goal

pub loop-line-preserved : goal.loop-line-preserved
loop-line-preserved c =
    let lines : List (List ℕ) = take c.loop-line.left (lines_of c.loop-line.rest.now) in
    let more : List (List ℕ) = take (c.loop-line.left - 1) (lines_of c.in-Some.behind.now) in
    ap (λ (o : Option Opening). or_else (last_turn more) o)
    (c.latest-last.ensures ∙ ap (λ (o : Option Opening). or_else o c.loop-line.last) c.turn_of.ensures)
    ∙ last_goes_on lines more c.in-Some.line.now c.loop-line.last c.in-Some.ensures.1 ∙ c.loop-line.invariant

pub returns : goal.returns
returns c =
    sym (last_ends (take c.loop-line.left (lines_of c.loop-line.rest.now)) c.loop-line.last c.in_default.ensures)
    ∙ c.loop-line.invariant
