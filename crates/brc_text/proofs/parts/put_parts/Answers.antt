use Rattle.std.proofs.Common.{◌≡◌, ◌<◌, ◌+◌, ◌++◌, ℕ, List, [], Bor, length, get_or, drop, drop-cons, add-one, ap, ◌∙◌}
use Rattle.std.proofs.Common.{sym}
use Rattle.std.proofs.lemmas.Result.{err_from_is_err_and}
use Rattle.brc_text.proofs.PutLaws.{goes_on, fails}
use Rattle.brc_text.specs.Parts.{joined}
use Rattle.brc_text.proofs.parts.put_parts.Goals as goal

-- what is left of the parts is the next one, and what is left behind it
next_part : (parts : List (Bor (List ℕ))) (i : ℕ) (other : Bor (List ℕ)) → i < length parts
    → joined (drop i parts) ≡ (get_or parts i other).now ++ joined (drop (i + 1) parts)
next_part parts i other within =
    ap joined (drop-cons parts i other within)
    ∙ ap (λ (n : ℕ). (get_or parts i other).now ++ joined (drop n parts)) (sym (add-one i))

pub returns-in_err-put_bytes : goal.returns-in_err-put_bytes
returns-in_err-put_bytes g c =
    let p = err_from_is_err_and c.from_residual.result c.from_residual.ensures.1 in
    let split = next_part c.args.parts.now c.loop-part.part-index (record { ref_ptr = (0, 0); now = [] })
    c.loop-part-test.true in
    let behind = joined (drop (c.loop-part.part-index + 1) c.args.parts.now) in
    rw (p.1, p.2) (
      c.in_err-put_bytes.ensures.0,
      c.in_err-put_bytes.ensures.1 ++ behind,
      fails _ behind c.loop-part.invariant split c.in_err-put_bytes.ensures.2,
    )

pub loop-part-preserved : goal.loop-part-preserved
loop-part-preserved g c =
    let split = next_part c.args.parts.now c.loop-part.part-index (record { ref_ptr = (0, 0); now = [] })
    c.loop-part-test.true in
    goes_on _ _ (joined (drop (c.loop-part.part-index + 1) c.args.parts.now)) c.loop-part.invariant split
    c.in_ok-put_bytes.ensures
