-- What one line is, and what is drawn for it.
use Rattle.std.specs.Prelude.{ℕ, ◌&&◌, if◌then◌else◌, List, Option, Some, None}
use Rattle.brc_words.specs.declared.limits.TheConstants.{FIRST_MORTAL, FEWEST_CELLS, MOST_CELLS, MOST_LOCAL, MOST_THREADS}
use Rattle.brc_text.specs.declared.keyword.Keyword.{Keyword}
use Rattle.brc_text.specs.declared.keyword.Keyword.TheVariants as keywords
use Rattle.brc_text.specs.Numbers.{number_at}
use Rattle.brc_text.specs.Tokens.{◌>>=◌}
use Rattle.brc_text.specs.Lines.{cut}
use Rattle.brc_graph.specs.declared.cells.TheConstants.{HIGHEST_CELL}
use Rattle.brc_graph.specs.declared.line.TheConstants.{KINDS, STATUSES, PHASES, STATES, HIGHEST_INDEX, HIGHEST_PLACE}
use Rattle.brc_graph.specs.declared.drawn.Drawn.{Drawn}
use Rattle.brc_graph.specs.declared.drawn.Drawn.TheVariants as drawn
use Rattle.brc_graph.specs.declared.first_word.FirstWord.{FirstWord}
use Rattle.brc_graph.specs.declared.first_word.FirstWord.TheVariants as words
use Rattle.brc_graph.specs.declared.part.TextPart.{TextPart}
use Rattle.brc_graph.specs.declared.part.TextPart.TheVariants as parts
use Rattle.brc_graph.specs.FirstWords.{first_word_at}
use Rattle.brc_graph.specs.Operands.{within, word_among, local_at, count_at, ahead}
use Rattle.brc_graph.specs.Cells.{cells_at}
use Rattle.brc_graph.specs.Names.{is_printed}
use Rattle.brc_graph.specs.Parts.{after, may_be_printed}

-- ---- operands in a row

-- `T C`
unfoldable pub lying_at : List ℕ → Option (ℕ × ℕ)
lying_at rest = do
  thread ← ahead (within 1 MOST_THREADS) rest
  cell ← within 0 HIGHEST_CELL thread.1
  Some (thread.0, cell)

-- `T K C`
unfoldable pub placed_at : List ℕ → Option (ℕ × ℕ × ℕ)
placed_at rest = do
  thread ← ahead (within 1 MOST_THREADS) rest
  place ← ahead (within 0 HIGHEST_PLACE) thread.1
  cell ← within 0 HIGHEST_CELL place.1
  Some (thread.0, place.0, cell)

-- `T STATUS`
unfoldable pub thread_at : List ℕ → Option (ℕ × Keyword)
thread_at rest = do
  thread ← ahead (within 1 MOST_THREADS) rest
  status ← word_among STATUSES thread.1
  Some (thread.0, status)

-- `T PHASE C`
unfoldable pub hand_at : List ℕ → Option (ℕ × Keyword × ℕ)
hand_at rest = do
  thread ← ahead (within 1 MOST_THREADS) rest
  phase ← ahead (word_among PHASES) thread.1
  cell ← within 0 HIGHEST_CELL phase.1
  Some (thread.0, phase.0, cell)

-- `C I X`: entry I of C is X
unfoldable pub entry_at : List ℕ → Option (ℕ × ℕ × ℕ)
entry_at rest = do
  cell ← ahead (within 0 HIGHEST_CELL) rest
  index ← ahead (within 0 HIGHEST_INDEX) cell.1
  entry ← within 0 HIGHEST_CELL index.1
  Some (cell.0, index.0, entry)

-- `CELL KIND HOLDER`
unfoldable pub remain_at : List ℕ → Option (ℕ × Keyword × ℕ)
remain_at rest = do
  cell ← ahead (within FIRST_MORTAL HIGHEST_CELL) rest
  kind ← ahead (word_among KINDS) cell.1
  holder ← within 0 HIGHEST_CELL kind.1
  Some (cell.0, kind.0, holder)

-- `CELLS LIMIT`
unfoldable pub world_at : List ℕ → Option (ℕ × ℕ)
world_at rest = do
  cells ← ahead (within FEWEST_CELLS MOST_CELLS) rest
  limit ← within 1 MOST_LOCAL cells.1
  Some (cells.0, limit)

-- `ALLOCS FREES LIVE`: the last of them
unfoldable pub ledger_at : List ℕ → Option ℕ
ledger_at rest = do
  allocs ← ahead number_at rest
  frees ← ahead number_at allocs.1
  number_at frees.1

-- `OWNER LOCAL COUNT STATE TOTAL`: the last of them
unfoldable pub counts_at : List ℕ → Option ℕ
counts_at rest = do
  owner ← ahead (within 0 MOST_THREADS) rest
  local ← ahead local_at owner.1
  count ← ahead count_at local.1
  state ← ahead (word_among STATES) count.1
  count_at state.1

-- `CELL KIND`, and the counts
unfoldable pub object_at : List ℕ → Option (ℕ × Keyword)
object_at rest = do
  cell ← ahead (within FIRST_MORTAL HIGHEST_CELL) rest
  kind ← ahead (word_among KINDS) cell.1
  total ← counts_at kind.1
  Some (cell.0, kind.0)

-- ---- what is drawn

module _ {A : Type 0} where
  -- a hand has a reference where it has asked, found the queue word closed, or merges in place of an owner that left
  abbrev pub hand_drawn : ℕ → Keyword → ℕ → Drawn A
  hand_drawn thread keywords.Asked cell = drawn.Held thread keywords.Asked cell
  hand_drawn thread keywords.Shut cell = drawn.Held thread keywords.Shut cell
  hand_drawn thread keywords.Taking cell = drawn.Held thread keywords.Taking cell
  hand_drawn thread keywords.Held cell = drawn.Held thread keywords.Held cell
  hand_drawn thread _ cell = drawn.Nothing

  -- by the first word of the line and what stands behind it
  abbrev pub plain_at : FirstWord → List ℕ → Option (Drawn A)
  plain_at words.Ledger rest = ledger_at rest >>= λ live. Some drawn.Nothing
  plain_at words.Remain rest = remain_at rest >>= λ o. Some (drawn.Remain o.0 o.1 o.2)
  plain_at words.Cycle rest = None
  plain_at words.Edition rest = within 2 2 rest >>= λ edition. Some drawn.Nothing
  plain_at words.World rest = world_at rest >>= λ o. Some drawn.Nothing
  plain_at words.Thread rest = thread_at rest >>= λ o. Some (drawn.Thread o.0 o.1)
  plain_at words.Hand rest = hand_at rest >>= λ o. Some (hand_drawn o.0 o.1 o.2)
  plain_at words.Locked rest = placed_at rest >>= λ o. Some drawn.Nothing
  plain_at words.Frame rest = placed_at rest >>= λ o. Some (drawn.Frame o.0 o.1 o.2)
  plain_at words.Queued rest = lying_at rest >>= λ o. Some (drawn.Held o.0 keywords.Queued o.1)
  plain_at words.Popped rest = lying_at rest >>= λ o. Some (drawn.Held o.0 keywords.Popped o.1)
  plain_at words.Work rest = lying_at rest >>= λ o. Some drawn.Nothing
  plain_at words.Entry rest = entry_at rest >>= λ o. Some (drawn.Entry o.0 o.1 o.2)
  plain_at words.Object rest = object_at rest >>= λ o. Some (drawn.Object o.0 o.1)

  abbrev pub drawn_at : FirstWord → List ℕ → Option (Drawn A)
  drawn_at words.Cycle rest = cells_at rest >>= λ cells. Some (drawn.Cycle cells)
  drawn_at word rest = plain_at word rest

  -- by the first word: it may stand here, and what stands behind it has its form
  unfoldable pub worded_at : TextPart → List ℕ → Option (TextPart × Drawn A)
  worded_at part line = do
    rest ← (cut 32 line).1
    word ← first_word_at (cut 32 line).0
    next ← after part word
    shown ← drawn_at word rest
    Some (next, shown)

  -- where the next line stands, and what is drawn for this one: nothing for what a section printed
  unfoldable pub step_at : TextPart → List ℕ → Option (TextPart × Drawn A)
  step_at part line =
      if may_be_printed part && is_printed line then Some (parts.Printed, drawn.Nothing) else worded_at part line
