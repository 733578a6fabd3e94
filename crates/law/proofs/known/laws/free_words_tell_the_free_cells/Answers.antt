use Rattle.std.proofs.Common.{◌+◌, ◌*◌, length, ap, ◌∙◌, arith}
use Rattle.std.specs.Int.{bit_at}
use Rattle.law.specs.world.Heap.{cell_at}
use Rattle.law.specs.known.Free_Words.{is_free_cell}
use Rattle.law.proofs.known.Free_Law.{told_bit, told_below, live_shown}
use Rattle.law.proofs.known.laws.free_words_tell_the_free_cells.Goals as goal

pub returns-clause-free : goal.returns-clause-free
returns-clause-free c = λ h k i number low shows. ap (λ n. bit_at n i) shows
    ∙ told_bit (λ j. is_free_cell h (k * 64 + j)) 64 i low

pub returns-clause-small : goal.returns-clause-small
returns-clause-small c = λ h k number shows. omega (arith, shows, told_below (λ j. is_free_cell h (k * 64 + j)) 64)

pub returns-clause-owner : goal.returns-clause-owner
returns-clause-owner c = λ h d number live shows. live_shown (length h.rows) (cell_at h d).owner number live shows
