use Rattle.std.proofs.Common.{◌≡◌, ◌≤◌, ◌+◌, ◌*◌, ◌++◌, ◌∷◌, take}
use Rattle.std.specs.List.{flat_map}
use Rattle.arrayvec.specs.ArrayVec.{array_vec_len}
use Rattle.brc_text.specs.Excerpts.{shown}
use Rattle.brc_text.proofs.quoting.put_quoted.Given as goal

abbrev pub invariant-loop-byte : goal.invariant-loop-byte
invariant-loop-byte g l = record {
  spelled : l.text.items ≡ 34 ∷ flat_map shown (take l.byte-index l.bytes);
  room : array_vec_len l.text ≤ 1 + 4 * l.byte-index;
}
