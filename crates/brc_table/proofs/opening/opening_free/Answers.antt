use Rattle.std.proofs.Common.{ℕ, ◌^◌, ◌≤◌, arith}
use lib.Pow.{pow_mono}
use Rattle.brc_table.proofs.opening.opening_free.Goals as goal

pub overflow_sub-result : goal.overflow_sub-result
overflow_sub-result c =
    let lo : ℕ = c.bits_below-2.result in
    let hi : ℕ = c.bits_below.result in
    let fewer : lo ≤ hi = omega (arith, c.requires.some, c.bits_below.ensures, c.bits_below-2.ensures) in
    let less : 2 ^ lo ≤ 2 ^ hi = pow_mono fewer in
    omega (arith, less, c.ones.ensures, c.ones-2.ensures)
