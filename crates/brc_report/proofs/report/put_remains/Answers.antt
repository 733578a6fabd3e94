use Rattle.std.proofs.Common.{◌++◌, ◌+◌, drop, refl}
use Rattle.std.proofs.lemmas.Result.{err_from_is_err_and}
use Rattle.brc_words.specs.declared.kind.Kind.TheVariants as kinds
use Rattle.brc_text.proofs.PutLaws.{goes_on, fails}
use Rattle.brc_report.specs.Texts.{remain_line, remains_text}
use Rattle.brc_report.proofs.Writing.{pieces_left}
use Rattle.brc_report.proofs.report.put_remains.Goals as goal

pub returns-in_err-put_remain : goal.returns-in_err-put_remain
returns-in_err-put_remain g c =
    let p = err_from_is_err_and c.from_residual.result c.from_residual.ensures.1 in
    let split = pieces_left remain_line remains_text (λ x xs. refl) c.args.remains.now c.loop-remain.remain-index
    (record { cell = 0; kind = kinds.Int; held_by = 0 }) c.loop-remain-test.true in
    rw (p.1, p.2) (
      c.in_err-put_remain.ensures.0,
      c.in_err-put_remain.ensures.1 ++ remains_text (drop (c.loop-remain.remain-index + 1) c.args.remains.now),
      fails _ (remains_text (drop (c.loop-remain.remain-index + 1) c.args.remains.now)) c.loop-remain.invariant split
          c.in_err-put_remain.ensures.2,
    )

pub loop-remain-preserved : goal.loop-remain-preserved
loop-remain-preserved g c =
    let split = pieces_left remain_line remains_text (λ x xs. refl) c.args.remains.now c.loop-remain.remain-index
    (record { cell = 0; kind = kinds.Int; held_by = 0 }) c.loop-remain-test.true in
    goes_on _ _ (remains_text (drop (c.loop-remain.remain-index + 1) c.args.remains.now)) c.loop-remain.invariant split
    c.in_ok-put_remain.ensures
