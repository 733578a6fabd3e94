-- The objects that are held, one line after another, and boxes, one cycle after another.
use Rattle.std.proofs.Common.{◌≡◌, ◌<◌, ◌+◌, ◌++◌, ℕ, suc, List, [], ◌∷◌, Option, Some, None, refl, sym, ◌∙◌, ap}
use Rattle.std.proofs.Common.{length, get_or, drop, drop-cons, append_assoc, add-one}
use Rattle.brc_report.specs.declared.content.Remain.{Remain}
use Rattle.brc_report.specs.Cycles.{in_front}
use Rattle.brc_graph.specs.declared.drawn.Drawn.{Drawn}
use Rattle.brc_graph.specs.Boxes.{object_of, holder_in, held_object, held_among}

-- what stands behind a list goes behind its rest
front_both : {X : Type 0} (first : Option X) (rest : List X) → in_front first [] ++ rest ≡ in_front first rest
front_both None rest = refl
front_both (Some one) rest = refl

module _ {A : Type 0} where
  -- what is held of the lines from a place on, by the line that stands there
  abbrev here : List (Drawn A) → Drawn A → List (Drawn A) → List Remain
  here lines line rest = held_among lines (line ∷ rest)

  among_here : (lines : List (Drawn A)) (i : ℕ) (line : Drawn A) → i < length lines → line ≡ get_or lines i line
      → held_among lines (drop i lines) ≡ here lines line (drop (i + 1) lines)
  among_here lines i line within is =
      rw add-one
      (ap (held_among lines) (drop-cons lines i line within)
      ∙ ap (λ (first : Drawn A). held_among lines (first ∷ drop (suc i) lines)) (sym is))

  pub more_held : (lines : List (Drawn A)) (i : ℕ) (line : Drawn A) (items new total : List Remain)
      → i < length lines → line ≡ get_or lines i line
      → new ≡ items ++ in_front (held_object (holder_in lines) (object_of line)) []
      → items ++ held_among lines (drop i lines) ≡ total
      → new ++ held_among lines (drop (i + 1) lines) ≡ total
  more_held lines i line items new total within is more so =
      let first : Option Remain = held_object (holder_in lines) (object_of line) in
      let rest : List Remain = held_among lines (drop (i + 1) lines) in
      rw more
      (append_assoc items (in_front first []) rest
      ∙ ap (λ (l : List Remain). items ++ l) (front_both first rest ∙ sym (among_here lines i line within is)) ∙ so)
