use Rattle.brc_table.proofs.Laying.{CountsLaid, FreeLaid}
use Rattle.brc_table.proofs.opening.opening_words.Given as goal

abbrev pub invariant-loop-cell : goal.invariant-loop-cell
invariant-loop-cell g l = CountsLaid l.cells l.cell l.made.items

abbrev pub invariant-loop-word : goal.invariant-loop-word
invariant-loop-word g l = FreeLaid l.cells l.word l.made.items
