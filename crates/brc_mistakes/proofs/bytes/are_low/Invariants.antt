use Rattle.std.proofs.Common.{◌≡◌, drop}
use Rattle.std.specs.List.{list_all}
use Rattle.brc_script.specs.Rows.{is_low}
use Rattle.brc_mistakes.proofs.bytes.are_low.Given as goal

abbrev pub invariant-loop-byte : goal.invariant-loop-byte
invariant-loop-byte l = list_all is_low (drop l.byte-index l.bytes) ≡ list_all is_low l.bytes
