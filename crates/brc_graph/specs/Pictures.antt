-- The text of a picture, in DOT.
use Rattle.std.specs.Prelude.{ℕ, ◌++◌, List, [], ◌∷◌, codes, decimal}
use Rattle.std.specs.List.{flat_map}
use Rattle.brc_text.specs.declared.keyword.Keyword.{Keyword}
use Rattle.brc_text.specs.Keywords.{keyword}
use Rattle.brc_text.specs.Headed.{numbers_line}
use Rattle.brc_graph.specs.declared.drawn.Drawn.{Drawn}
use Rattle.brc_graph.specs.declared.drawn.Drawn.TheVariants as drawn

-- texts as one, one behind the other
abbrev pub together : List (List ℕ) → List ℕ
together texts = flat_map (λ text. text) texts

-- ---- single lines

-- `  CELL [label="CELL KIND"]`
abbrev pub object_parts : ℕ → Keyword → List (List ℕ)
object_parts cell kind =
    codes "  " ∷ decimal cell ∷ codes " [label=\"" ∷ decimal cell ∷ codes " " ∷ keyword kind ∷ codes "\"]\n" ∷ []

-- `  HOLDER -> CELL`
abbrev pub link_parts : ℕ → ℕ → List (List ℕ)
link_parts holder cell = codes "  " ∷ decimal holder ∷ codes " -> " ∷ decimal cell ∷ codes "\n" ∷ []

abbrev pub object_text : ℕ → Keyword → List ℕ
object_text cell kind = together (object_parts cell kind)

-- the object, and the link from its holder
abbrev pub remain_text : ℕ → Keyword → ℕ → List ℕ
remain_text cell kind holder = together (object_parts cell kind ++ link_parts holder cell)

-- `  tT [label="thread T STATUS", shape=box]`, of the words in it
abbrev pub thread_line : List ℕ → List ℕ → List ℕ
thread_line thread status =
    together (codes "  t" ∷ thread ∷ codes " [label=\"thread " ∷ thread ∷ codes " " ∷ status
    ∷ codes "\", shape=box]\n" ∷ [])

abbrev pub thread_text : ℕ → Keyword → List ℕ
thread_text thread status = thread_line (decimal thread) (keyword status)

-- `  tT -> CELL [label="frame K"]`, of the words in it
abbrev pub frame_line : List ℕ → List ℕ → List ℕ → List ℕ
frame_line thread place cell =
    together (codes "  t" ∷ thread ∷ codes " -> " ∷ cell ∷ codes " [label=\"frame " ∷ place ∷ codes "\"]\n" ∷ [])

abbrev pub frame_text : ℕ → ℕ → ℕ → List ℕ
frame_text thread place cell = frame_line (decimal thread) (decimal place) (decimal cell)

-- `  tT -> CELL [label="WORD"]`
abbrev pub held_text : ℕ → Keyword → ℕ → List ℕ
held_text thread by cell =
    together (codes "  t" ∷ decimal thread ∷ codes " -> " ∷ decimal cell ∷ codes " [label=\"" ∷ keyword by
    ∷ codes "\"]\n" ∷ [])

-- `  CELL -> ENTRY [label="I"]`
abbrev pub entry_text : ℕ → ℕ → ℕ → List ℕ
entry_text cell index entry =
    together (codes "  " ∷ decimal cell ∷ codes " -> " ∷ decimal entry ∷ codes " [label=\"" ∷ decimal index
    ∷ codes "\"]\n" ∷ [])

-- ---- cycles

-- `  subgraph cluster_CELL {`, and that it is a cycle
abbrev pub ring_head : ℕ → List ℕ
ring_head first = together (codes "  subgraph cluster_" ∷ decimal first ∷ codes " {\n    label=\"cycle\"\n" ∷ [])

-- a box round the cells, named by the first
unfoldable pub ring_text : ℕ → List ℕ → List ℕ
ring_text first cells = ring_head first ++ (numbers_line (codes "   ") cells ++ codes "  }\n")

abbrev pub cycle_text : List ℕ → List ℕ
cycle_text [] = []
cycle_text (first ∷ others) = ring_text first (first ∷ others)

-- ---- the whole

module _ {A : Type 0} where
  abbrev pub drawn_text : Drawn A → List ℕ
  drawn_text drawn.Nothing = []
  drawn_text (drawn.Object cell kind) = object_text cell kind
  drawn_text (drawn.Remain cell kind holder) = remain_text cell kind holder
  drawn_text (drawn.Cycle cells) = cycle_text cells
  drawn_text (drawn.Thread thread status) = thread_text thread status
  drawn_text (drawn.Frame thread place cell) = frame_text thread place cell
  drawn_text (drawn.Held thread by cell) = held_text thread by cell
  drawn_text (drawn.Entry cell index entry) = entry_text cell index entry

  abbrev pub drawn_texts : List (Drawn A) → List ℕ
  drawn_texts [] = []
  drawn_texts (first ∷ others) = drawn_text first ++ drawn_texts others

  -- the globals, which hold what nothing else may hold, and what is drawn for each line
  unfoldable pub graph_text : List (Drawn A) → List ℕ
  graph_text all =
      codes "digraph brc {\n  265 [label=\"265 globals\"]\n" ++ (drawn_texts all ++ codes "}\n")
