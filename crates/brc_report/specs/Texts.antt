-- The text of a report.
use Rattle.std.specs.Prelude.{ℕ, ◌++◌, List, [], ◌∷◌, codes}
use Rattle.brc_words.specs.declared.kind.Kind.{Kind}
use Rattle.brc_words.specs.declared.kind.Kind.TheVariants as kinds
use Rattle.brc_text.specs.declared.keyword.Keyword.{Keyword}
use Rattle.brc_text.specs.declared.keyword.Keyword.TheVariants as words
use Rattle.brc_text.specs.declared.token.Token.TheVariants as tokens
use Rattle.brc_text.specs.Lines.{line}
use Rattle.brc_text.specs.Headed.{headed_line, numbers_line}
use Rattle.brc_report.specs.declared.content.Remain.{Remain}
use Rattle.brc_report.specs.declared.report.Ledger.{Ledger}

-- the words of kinds; None, False and True are no remains, and have none
abbrev pub kind_word : Kind → Keyword
kind_word kinds.Int = words.Int
kind_word kinds.Text = words.Text
kind_word kinds.List = words.List
kind_word kinds.Dict = words.Dict
kind_word kinds.Mailbox = words.Mailbox
kind_word kinds.Nothing = words.Dash
kind_word kinds.False = words.Dash
kind_word kinds.True = words.Dash

-- `ledger ALLOCS FREES LIVE`
abbrev pub ledger_line : Ledger → ℕ → List ℕ
ledger_line ledger live =
    line (tokens.Word words.Ledger ∷ tokens.Number ledger.allocs ∷ tokens.Number ledger.frees ∷ tokens.Number live ∷ [])

-- `remain CELL KIND HELDBY`
abbrev pub remain_line : Remain → List ℕ
remain_line remain =
    headed_line (codes "remain") (tokens.Number remain.cell ∷ tokens.Word (kind_word remain.kind)
    ∷ tokens.Number remain.held_by ∷ [])

abbrev pub remains_text : List Remain → List ℕ
remains_text [] = []
remains_text (remain ∷ remains) = remain_line remain ++ remains_text remains

-- `cycle C C ..`
abbrev pub cycle_line : List ℕ → List ℕ
cycle_line cells = numbers_line (codes "cycle") cells

abbrev pub cycles_text : List (List ℕ) → List ℕ
cycles_text [] = []
cycles_text (cycle ∷ cycles) = cycle_line cycle ++ cycles_text cycles

-- the whole text
unfoldable pub report_text : Ledger → ℕ → List Remain → List (List ℕ) → List ℕ
report_text ledger live remains cycles = ledger_line ledger live ++ (remains_text remains ++ cycles_text cycles)
