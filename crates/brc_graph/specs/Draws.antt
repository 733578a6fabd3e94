-- A picture from bytes to bytes.
use Rattle.std.specs.Prelude.{◌≡◌, ◌⊎◌, ℕ, List, [], ◌++◌, Option, Result, Ok, Err, IfSome}
use Rattle.std.specs.declared.alloc.Global.{Global}
use Rattle.std.specs.Io.KnownBytes.{Appends, Keeps}
use Rattle.brc_words.specs.declared.fault.Fault.{Fault}
use Rattle.brc_words.specs.declared.fault.Fault.TheVariants as faults
use Rattle.brc_graph.specs.declared.drawn.Drawn.{Drawn}
use Rattle.brc_graph.specs.declared.undrawn.Undrawn.{Undrawn}
use Rattle.brc_graph.specs.declared.undrawn.Undrawn.TheVariants as undrawn
use Rattle.brc_graph.specs.Reading.{graph_at}
use Rattle.brc_graph.specs.Pictures.{graph_text}
use Rattle.brc_graph.specs.Boxes.{HasBoxes}

-- want of memory, or else a stream that fails
abbrev pub undrawn_of : Fault → Undrawn
undrawn_of faults.OutOfMemory = undrawn.OutOfMemory
undrawn_of _ = undrawn.Io

-- the text is of this graph, which has its cycles then
pub record IsGraphOf (input : Option (List ℕ)) (boxed : List (Drawn Global)) : Type 0 where
  pub graph : List (Drawn Global)
  pub read : IfSome input (λ text. graph_at text ≡ Ok graph)
  pub boxes : HasBoxes graph boxed

-- the whole picture of the text's graph is written
pub record IsDrawn (input old new : Option (List ℕ)) : Type 0 where
  pub boxed : List (Drawn Global)
  pub graph : IsGraphOf input boxed
  pub written : Appends old new (graph_text boxed)

-- its picture is written up to what is left of it
pub record IsHalfDrawn (input : Option (List ℕ)) (front : List ℕ) : Type 0 where
  pub boxed : List (Drawn Global)
  pub graph : IsGraphOf input boxed
  pub left : List ℕ
  pub text : graph_text boxed ≡ front ++ left

-- What comes of it, by the answer. Nothing is written unless the text has a graph; a read or a write that fails ends it,
-- the write after a front of the picture.
abbrev pub Draws : Option (List ℕ) → Option (List ℕ) → Option (List ℕ) → Result (Unit {0}) Undrawn → Type 0
Draws input old new (Ok done) = IsDrawn input old new
Draws input old new (Err (undrawn.BadLine line)) =
    Keeps old new × IfSome input (λ text. graph_at {A = Global} text ≡ Err line)
Draws input old new (Err undrawn.OutOfMemory) = Keeps old new
Draws input old new (Err undrawn.Io) =
    (front : List ℕ) × Appends old new front × ((front ≡ []) ⊎ IsHalfDrawn input front)
