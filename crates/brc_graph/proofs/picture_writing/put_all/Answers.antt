use Rattle.std.proofs.Common.{◌++◌, ◌+◌, drop, refl, ap, sym, ◌∙◌}
use Rattle.std.proofs.lemmas.Result.{err_from_is_err_and}
use Rattle.brc_text.proofs.PutLaws.{goes_on, fails}
use Rattle.brc_report.proofs.Writing.{pieces_left}
use Rattle.brc_graph.specs.Pictures.{drawn_text, drawn_texts}
use Rattle.brc_graph.proofs.picture_writing.put_all.Goals as goal

pub returns-in_err-put_drawn : goal.returns-in_err-put_drawn
returns-in_err-put_drawn g c =
    let p = err_from_is_err_and c.from_residual.result c.from_residual.ensures.1 in
    let behind = drawn_texts (drop (c.loop-drawn.drawn-index + 1) c.args.all.now) in
    let split = pieces_left drawn_text drawn_texts (λ x xs. refl) c.args.all.now c.loop-drawn.drawn-index
    c.drawn-item.result c.loop-drawn-test.true
    ∙ ap (λ d. drawn_text d ++ behind) (sym c.drawn-item.is) in
    rw (p.1, p.2) (
      c.in_err-put_drawn.ensures.0,
      c.in_err-put_drawn.ensures.1 ++ behind,
      fails _ behind c.loop-drawn.invariant split c.in_err-put_drawn.ensures.2,
    )

pub loop-drawn-preserved : goal.loop-drawn-preserved
loop-drawn-preserved g c =
    let behind = drawn_texts (drop (c.loop-drawn.drawn-index + 1) c.args.all.now) in
    let split = pieces_left drawn_text drawn_texts (λ x xs. refl) c.args.all.now c.loop-drawn.drawn-index
    c.drawn-item.result c.loop-drawn-test.true
    ∙ ap (λ d. drawn_text d ++ behind) (sym c.drawn-item.is) in
    goes_on _ _ behind c.loop-drawn.invariant split c.in_ok-put_drawn.ensures
