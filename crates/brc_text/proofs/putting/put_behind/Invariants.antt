use Rattle.std.proofs.Common.{◌≡◌, ◌≤◌, ◌+◌, ◌*◌, ◌++◌, ◌∷◌, take}
use Rattle.std.specs.List.{flat_map}
use Rattle.arrayvec.specs.ArrayVec.{array_vec_len}
use Rattle.brc_text.specs.Tokens.{token}
use Rattle.brc_text.proofs.putting.put_behind.Given as goal

abbrev pub invariant-loop-word : goal.invariant-loop-word
invariant-loop-word g l = record {
  spelled : l.text.items ≡ l.initial.text.items ++ flat_map (λ word. 32 ∷ token word) (take l.word-index l.words);
  room : array_vec_len l.text ≤ array_vec_len l.initial.text + 22 * l.word-index;
}
