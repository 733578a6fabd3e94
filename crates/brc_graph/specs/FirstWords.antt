-- The words with which lines begin.
use Rattle.std.specs.Prelude.{ℕ, List, Option, codes, find}
use Rattle.std.specs.Str.{bytes_eq}
use Rattle.brc_graph.specs.declared.first_word.FirstWord.{FirstWord}
use Rattle.brc_graph.specs.declared.first_word.FirstWord.TheVariants as words
use Rattle.brc_graph.specs.declared.first_word.TheConstants.{FIRST_WORDS}

-- each word as it stands in a text
abbrev pub first_word : FirstWord → List ℕ
first_word words.Ledger = codes "ledger"
first_word words.Remain = codes "remain"
first_word words.Cycle = codes "cycle"
first_word words.Edition = codes "edition"
first_word words.World = codes "world"
first_word words.Thread = codes "thread"
first_word words.Hand = codes "hand"
first_word words.Locked = codes "locked"
first_word words.Frame = codes "frame"
first_word words.Queued = codes "queued"
first_word words.Popped = codes "popped"
first_word words.Work = codes "work"
first_word words.Entry = codes "entry"
first_word words.Object = codes "object"

-- the word that the bytes spell
unfoldable pub first_word_at : List ℕ → Option FirstWord
first_word_at bytes = find (λ word. bytes_eq (first_word word) bytes) FIRST_WORDS
