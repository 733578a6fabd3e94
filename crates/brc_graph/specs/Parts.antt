-- The parts of a text, in their order.
use Rattle.std.specs.Prelude.{Bool, true, false, Option, Some, None}
use Rattle.brc_graph.specs.declared.first_word.FirstWord.{FirstWord}
use Rattle.brc_graph.specs.declared.first_word.FirstWord.TheVariants as words
use Rattle.brc_graph.specs.declared.part.TextPart.{TextPart}
use Rattle.brc_graph.specs.declared.part.TextPart.TheVariants as parts

-- with a ledger a report begins, without lines above it or below what sections printed
abbrev pub in_report : FirstWord → Option TextPart
in_report words.Ledger = Some parts.Remains
in_report _ = None

-- a text begins with the edition of a world, with its first line, or with a report
abbrev pub at_start : FirstWord → Option TextPart
at_start words.Edition = Some parts.Edition
at_start words.World = Some parts.World
at_start word = in_report word

-- cycles stand below all remains
abbrev pub among_cycles : FirstWord → Option TextPart
among_cycles words.Cycle = Some parts.Cycles
among_cycles _ = None

abbrev pub among_remains : FirstWord → Option TextPart
among_remains words.Remain = Some parts.Remains
among_remains word = among_cycles word

abbrev pub below_edition : FirstWord → Option TextPart
below_edition words.World = Some parts.World
below_edition _ = None

-- the ledger ends a world; the other lines of a world stand in any order
abbrev pub in_world : FirstWord → Option TextPart
in_world words.Ledger = Some parts.Ended
in_world words.Remain = None
in_world words.Cycle = None
in_world words.Edition = None
in_world words.World = None
in_world _ = Some parts.World

-- where the next line stands, if one with this first word may stand here
abbrev pub after : TextPart → FirstWord → Option TextPart
after parts.Start word = at_start word
after parts.Printed word = in_report word
after parts.Remains word = among_remains word
after parts.Cycles word = among_cycles word
after parts.Edition word = below_edition word
after parts.World word = in_world word
after parts.Ended word = None

-- what sections printed stands above a report, and above nothing else
abbrev pub may_be_printed : TextPart → Bool
may_be_printed parts.Start = true
may_be_printed parts.Printed = true
may_be_printed _ = false

-- a text may end here
abbrev pub is_whole : TextPart → Bool
is_whole parts.Remains = true
is_whole parts.Cycles = true
is_whole parts.Ended = true
is_whole _ = false
