-- A `repeat` is its lines written out, and a section all lines that its pieces are.
use Rattle.std.proofs.Common.{◌≡◌, ◌∙◌, ℕ, zero, suc, List, [], ◌∷◌, ◌++◌, Result, Ok, Err, refl, ap}
use Rattle.std.specs.List.{repeat}
use Rattle.brc_script.specs.declared.script.Piece.{Piece}
use Rattle.brc_script.specs.declared.script.Piece.TheVariants as pieces
use Rattle.brc_script.specs.declared.script.Section.{Section}
use Rattle.brc_script.specs.Instructions.{NumberedLine}
use Rattle.brc_meaning.specs.declared.state.State.{State}
use Rattle.brc_meaning.specs.Outcomes.{◌>>=◌}
use Rattle.brc_meaning.specs.States.{start}
use Rattle.brc_meaning.specs.Sections.{SectionStop, line_after, lines_after, times_after, pieces_after, written_out}
use Rattle.brc_meaning.specs.Sections.{told}
use Rattle.brc_meaning.specs.Sections.{meaning}

module _ {X Y Z E : Type 0} where
  -- two things after one, or one after the other
  bind_twice : (r : Result X E) (f : X → Result Y E) (g : Y → Result Z E) → (r >>= f >>= g) ≡ (r >>= λ x. f x >>= g)
  bind_twice (Ok x) f g = refl
  bind_twice (Err e) f g = refl

module _ {X Y E : Type 0} where
  -- the same after each
  bind_same : (r : Result X E) (f g : X → Result Y E) → ((x : X) → f x ≡ g x) → (r >>= f) ≡ (r >>= g)
  bind_same (Ok x) f g same = same x
  bind_same (Err e) f g same = refl

module _ {A : Type 0} where
  pub lines_append : (lines later : List (NumberedLine A)) (s : State A)
      → (lines_after lines s >>= λ next. lines_after later next) ≡ lines_after (lines ++ later) s
  lines_append [] later s = refl
  lines_append (line ∷ lines) later s =
      bind_twice (line_after line s) (λ next. lines_after lines next) (λ next. lines_after later next)
      ∙ bind_same (line_after line s) (λ next. lines_after lines next >>= λ last. lines_after later last)
      (λ next. lines_after (lines ++ later) next) (λ next. lines_append lines later next)

  times_written_out : (times : ℕ) (lines : List (NumberedLine A)) (s : State A)
      → times_after times lines s ≡ lines_after (repeat times lines) s
  times_written_out zero lines s = refl
  times_written_out (suc times) lines s =
      bind_same (lines_after lines s) (λ next. times_after times lines next)
      (λ next. lines_after (repeat times lines) next) (λ next. times_written_out times lines next)
      ∙ lines_append lines (repeat times lines) s

  pieces_written_out : (pieces : List (Piece A)) (s : State A)
      → pieces_after pieces s ≡ lines_after (written_out pieces) s
  pieces_written_out [] s = refl
  pieces_written_out (pieces.One line ∷ later) s =
      bind_same (line_after line s) (λ next. pieces_after later next) (λ next. lines_after (written_out later) next)
      (λ next. pieces_written_out later next)
  pieces_written_out (pieces.Repeat times lines ∷ later) s =
      bind_same (times_after times lines s) (λ next. pieces_after later next)
      (λ next. lines_after (written_out later) next) (λ next. pieces_written_out later next)
      ∙ ap (λ (r : Result (State A) (SectionStop A)). r >>= λ next. lines_after (written_out later) next)
      (times_written_out times lines s)
      ∙ lines_append (repeat times lines) (written_out later) s

  pub section_written_out : (section : Section A)
      → meaning section ≡ told (lines_after (written_out section.pieces) start)
  section_written_out section = ap told (pieces_written_out section.pieces start)
