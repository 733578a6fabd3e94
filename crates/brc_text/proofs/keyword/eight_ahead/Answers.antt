use Rattle.std.proofs.Common.{◌≡◌, ◌∙◌, ◌<◌, ◌+◌, ◌*◌, ℕ, ap, arith}
use Rattle.brc_text.specs.Keywords.{packed, bytes_ahead}
use Rattle.brc_text.proofs.KeywordLaws.{packed_more, one_fits, eight_fit}
use Rattle.brc_text.proofs.keyword.eight_ahead.Goals as goal

pub overflow_mul-key : goal.overflow_mul-key
overflow_mul-key c =
    let few : c.loop-at.at < 8 = omega (arith, c.loop-at-test.true) in
    let fits = eight_fit c.loop-at.at _ few (one_fits c.loop-at.at c.loop-at.key 0 few c.loop-at.invariant.fits
    (omega arith)) in
    record { fits = omega (arith, fits) }

pub overflow_add-key : goal.overflow_add-key
overflow_add-key c =
    let few : c.loop-at.at < 8 = omega (arith, c.loop-at-test.true) in
    record {
      fits = eight_fit c.loop-at.at _ few
          (one_fits c.loop-at.at c.loop-at.key _ few c.loop-at.invariant.fits c.byte_ahead.type_inv);
    }

pub loop-at-preserved : goal.loop-at-preserved
loop-at-preserved c =
    let few : c.loop-at.at < 8 = omega (arith, c.loop-at-test.true) in
    record {
      so_far = ap (λ (n : ℕ). c.loop-at.key * 256 + n) c.byte_ahead.ensures
          ∙ packed_more c.args.text.now c.loop-at.at c.loop-at.key c.loop-at.invariant.so_far;
      fits = one_fits c.loop-at.at c.loop-at.key _ few c.loop-at.invariant.fits c.byte_ahead.type_inv;
    }

pub returns : goal.returns
returns c =
    let at : c.loop-at.at ≡ 8 = omega (arith, c.loop-at-test.false, c.loop-at.auto.at-end) in
    c.loop-at.invariant.so_far ∙ ap (λ (n : ℕ). packed 0 (bytes_ahead n c.args.text.now)) at
