use Rattle.std.proofs.Common.{◌<◌, ◌++◌, [], ◌∷◌, drop}
use Rattle.arrayvec.specs.ArrayVec.{array_vec_len}
use Rattle.brc_text.specs.Puts.{PutsUpTo}
use Rattle.brc_text.specs.Headed.{spaced_numbers, numbers_line}
use Rattle.brc_text.proofs.headed.put_numbers_line.Given as goal

abbrev pub invariant-loop-number : goal.invariant-loop-number
invariant-loop-number g l = record {
  puts : PutsUpTo (g.W.Write.contents l.fn.writer) (g.W.Write.contents l.writer) (numbers_line l.head l.numbers)
      (l.text.items ++ (spaced_numbers (drop l.number-index l.numbers) ++ 10 ∷ []));
  room : array_vec_len l.text < 176;
}
