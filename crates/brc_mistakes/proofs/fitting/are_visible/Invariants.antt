use Rattle.std.proofs.Common.{◌≡◌, drop}
use Rattle.std.specs.List.{list_all}
use Rattle.brc_script.specs.Instructions.{is_visible}
use Rattle.brc_mistakes.proofs.fitting.are_visible.Given as goal

abbrev pub invariant-loop-byte : goal.invariant-loop-byte
invariant-loop-byte l = list_all is_visible (drop l.byte-index l.bytes) ≡ list_all is_visible l.bytes
