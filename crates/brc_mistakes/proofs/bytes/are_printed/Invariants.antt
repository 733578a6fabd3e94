use Rattle.std.proofs.Common.{◌≡◌, drop}
use Rattle.std.specs.List.{list_all}
use Rattle.brc_script.specs.Instructions.{is_printed}
use Rattle.brc_mistakes.proofs.bytes.are_printed.Given as goal

abbrev pub invariant-loop-byte : goal.invariant-loop-byte
invariant-loop-byte l = list_all is_printed (drop l.byte-index l.bytes) ≡ list_all is_printed l.bytes
