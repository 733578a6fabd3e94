use Rattle.std.proofs.Common.{◌≡◌, ◌++◌, drop}
use Rattle.std.specs.Option.{option_map}
use Rattle.brc_report.specs.Holding.{remains_of, remains_among}
use Rattle.brc_report.proofs.holders.find_remains.Given as goal

abbrev pub invariant-loop-content : goal.invariant-loop-content
invariant-loop-content g l =
    option_map (λ rest. l.remains.items ++ rest) (remains_among l.contents (drop l.content-index l.contents))
    ≡ remains_of l.contents
