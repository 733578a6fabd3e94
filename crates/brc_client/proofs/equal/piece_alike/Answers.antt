use Rattle.std.proofs.Common.{arith, ◌+◌, ◌<◌, ◌≤◌, length}
use Rattle.std.proofs.lemmas.Result.{err_from_is_err_and}
use Rattle.brc_client.specs.Equal.{OtherRefused}
use Rattle.brc_client.proofs.Alike.{refused, found_one, shows_both, differ_in_bytes, alike_in_bytes}
use Rattle.brc_client.proofs.equal.piece_alike.Goals as goal

pub returns-in_err-other_len-clause-compared : goal.returns-in_err-other_len-clause-compared
returns-in_err-other_len-clause-compared c =
    let p = err_from_is_err_and c.from_residual-in_err-other_len.result c.from_residual-in_err-other_len.ensures.1 in
    let (text, looks) = found_one _ _ _ c.in_ok-len.ensures.looked in
    rw (p.1, p.2) (OtherRefused c.try_bytes_shown.new.frame text looks (refused _ _ _ c.in_err-other_len.ensures.looked))

pub returns-then-ne-clause-compared : goal.returns-then-ne-clause-compared
returns-then-ne-clause-compared c =
    differ_in_bytes (shows_both c.try_bytes_shown.new.frame _ _ c.requires.rooms c.in_ok-len.ensures.looked
    c.in_ok-other_len.ensures.looked) c.if-len-other_len.false c.min-shown.result
    (omega (arith, c.min-shown.ensures, c.saturating_sub-left.ensures, c.try_bytes_shown.auto.to)) c.if-ne.ensures

pub returns-then-left-room-clause-compared : goal.returns-then-left-room-clause-compared
returns-then-left-room-clause-compared c =
    alike_in_bytes (shows_both c.try_bytes_shown.new.frame _ _ c.requires.rooms c.in_ok-len.ensures.looked
    c.in_ok-other_len.ensures.looked) c.if-len-other_len.false c.min-shown.result
    (omega (arith, c.min-shown.ensures, c.saturating_sub-left.ensures, c.try_bytes_shown.auto.to)) c.if-ne.ensures
    (λ n. c.args.from + length c.args.room.now < n)
    (omega (arith, c.if-left-room.true, c.saturating_sub-left.ensures, c.try_bytes_shown.auto.to))

pub returns-clause-compared : goal.returns-clause-compared
returns-clause-compared c =
    alike_in_bytes (shows_both c.try_bytes_shown.new.frame _ _ c.requires.rooms c.in_ok-len.ensures.looked
    c.in_ok-other_len.ensures.looked) c.if-len-other_len.false c.min-shown.result
    (omega (arith, c.min-shown.ensures, c.saturating_sub-left.ensures, c.try_bytes_shown.auto.to)) c.if-ne.ensures
    (λ n. n ≤ c.args.from + length c.args.room.now)
    (omega (arith, c.if-left-room.false, c.saturating_sub-left.ensures, c.try_bytes_shown.auto.to))
