-- What is drawn of the report of a heap, and of what sections printed above it.
use Rattle.std.specs.Prelude.{◌≡◌, ◌≤◌, ◌<◌, ◌^◌, ◌++◌, ℕ, true, List, [], ◌∷◌, length, map}
use Rattle.std.specs.List.{flat_map, AllByRecursion}
use Rattle.brc_words.specs.Kinds.{is_mortal}
use Rattle.brc_words.specs.declared.limits.TheConstants.{FIRST_MORTAL, MOST_CELLS}
use Rattle.brc_text.specs.Lines.{lacks}
use Rattle.brc_report.specs.declared.content.Remain.{Remain}
use Rattle.brc_report.specs.declared.report.Ledger.{Ledger}
use Rattle.brc_report.specs.Texts.{kind_word}
use Rattle.brc_graph.specs.declared.drawn.Drawn.{Drawn}
use Rattle.brc_graph.specs.declared.drawn.Drawn.TheVariants as drawn
use Rattle.brc_graph.specs.Names.{is_printed}

-- a mortal object in a cell of the largest heap, and a holder there
pub record IsOfHeap (remain : Remain) : Type 0 where
  pub mortal : FIRST_MORTAL ≤ remain.cell
  pub cell : remain.cell < MOST_CELLS
  pub holder : remain.held_by < MOST_CELLS
  pub kind : is_mortal remain.kind ≡ true

-- some cells of the largest heap, no more than it has
pub record AreOfHeap (cells : List ℕ) : Type 0 where
  pub some : 0 < length cells
  pub few : length cells ≤ MOST_CELLS
  pub each : AllByRecursion (λ cell. cell < MOST_CELLS) cells

-- the remains and cycles are of a heap, and the numbers of its ledger have a spelling
pub record IsHeapReport (ledger : Ledger) (live : ℕ) (remains : List Remain) (cycles : List (List ℕ)) : Type 0 where
  pub allocs : ledger.allocs < 2 ^ 64
  pub frees : ledger.frees < 2 ^ 64
  pub lives : live < 2 ^ 64
  pub remain : AllByRecursion IsOfHeap remains
  pub cycle : AllByRecursion AreOfHeap cycles

-- a line that a section printed
pub record IsPrinted (line : List ℕ) : Type 0 where
  pub no_feed : lacks 10 line ≡ true
  pub named : is_printed line ≡ true

-- the lines, each with its line feed
abbrev pub printed_text : List (List ℕ) → List ℕ
printed_text lines = flat_map (λ line. line ++ (10 ∷ [])) lines

module _ {A : Type 0} where
  abbrev pub remain_drawn : Remain → Drawn A
  remain_drawn remain = drawn.Remain remain.cell (kind_word remain.kind) remain.held_by

  abbrev pub cycle_drawn : List ℕ → Drawn A
  cycle_drawn cells = drawn.Cycle cells

  -- nothing is drawn for what sections printed
  abbrev pub printed_drawn : List (List ℕ) → List (Drawn A)
  printed_drawn lines = map (λ line. drawn.Nothing) lines

  -- nothing for the ledger, then each remain, and then each cycle
  abbrev pub report_drawn : List Remain → List (List ℕ) → List (Drawn A)
  report_drawn remains cycles = drawn.Nothing ∷ (map remain_drawn remains ++ map cycle_drawn cycles)
