use Rattle.std.proofs.Common.{◌≡◌, ◌∙◌, ◌++◌, ◌∷◌, ℕ, List, [], Bool, length, ap, sym, refl, arith}
use Rattle.std.specs.List.{flat_map}
use Rattle.std.proofs.lemmas.Bool.{eqb-true}
use Rattle.std.proofs.lemmas.Result.{err_from_is_err_and}
use Rattle.brc_text.specs.Lines.{pieces}
use Rattle.brc_text.proofs.PutLaws.{goes_on, fails, ends}
use Rattle.brc_run.specs.Sections.{told_line, told_lines}
use Rattle.brc_run.proofs.section_lines.put_told_lines.Goals as goal

-- what is told of a text is its first line, and what is told behind it
next_line : (name text line behind : List ℕ) → (ended : Bool) × (pieces text ≡ (line, ended) ∷ pieces behind)
    → told_lines name text ≡ told_line name line ++ told_lines name behind
unfolding told_lines
next_line name text line behind first = ap (flat_map (λ (piece : List ℕ × Bool). told_line name piece.0)) first.1

no_line : (name text : List ℕ) → length text ≡ 0 → told_lines name text ≡ []
unfolding told_lines pieces
no_line name [] none = refl
no_line name (byte ∷ text) none = absurd (omega arith)

pub returns-in_err-put_told_line : goal.returns-in_err-put_told_line
returns-in_err-put_told_line g c =
    let p = err_from_is_err_and c.from_residual.result c.from_residual.ensures.1 in
    let split = next_line c.args.name.now c.loop-rest.rest.now c.first_line.result.0.now c.first_line.result.1.now
    c.first_line.ensures.line in
    let behind = told_lines c.args.name.now c.first_line.result.1.now in
    rw (p.1, p.2) (
      c.in_err-put_told_line.ensures.0,
      c.in_err-put_told_line.ensures.1 ++ behind,
      fails _ behind c.loop-rest.invariant split c.in_err-put_told_line.ensures.2,
    )

pub loop-rest-preserved : goal.loop-rest-preserved
loop-rest-preserved g c =
    let split = next_line c.args.name.now c.loop-rest.rest.now c.first_line.result.0.now c.first_line.result.1.now
    c.first_line.ensures.line in
    goes_on _ _ (told_lines c.args.name.now c.first_line.result.1.now) c.loop-rest.invariant split
    c.in_ok-put_told_line.ensures

pub returns : goal.returns
returns g c =
    ends c.loop-rest.invariant
    (no_line c.args.name.now c.loop-rest.rest.now (eqb-true _ _ (sym c.is_empty.ensures ∙ c.loop-rest-test.false)))
