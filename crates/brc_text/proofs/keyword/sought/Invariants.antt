use Rattle.std.proofs.Common.{◌≡◌, drop}
use Rattle.std.specs.List.{find}
use Rattle.brc_text.specs.Keywords.{stands_ahead}
use Rattle.brc_text.proofs.keyword.sought.Given as goal

abbrev pub invariant-loop-word : goal.invariant-loop-word
invariant-loop-word l = find (stands_ahead l.text) (drop l.word-index l.words) ≡ find (stands_ahead l.text) l.words
