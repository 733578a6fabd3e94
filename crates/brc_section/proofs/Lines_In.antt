-- The lines of a list of pieces are those of each that stands in it, as a loop over them comes to it.
use Rattle.std.proofs.Common.{arith, ◌≡◌, ℕ, zero, suc, ◌<◌, List, [], ◌∷◌, length, get_or, inl, inr, refl, sym, subst}
use Rattle.brc_script.specs.declared.script.Piece.{Piece}
use Rattle.brc_script.specs.declared.script.Piece.TheVariants as pieces
use Rattle.brc_script.specs.Instructions.{NumberedLine}
use Rattle.brc_section.specs.Ends.{IsLineIn, IsLineOf}

module _ {A : Type 0} where
  of_first : (piece : Piece A) (later : List (Piece A)) (number : ℕ) → IsLineOf number (piece ∷ [])
      → IsLineOf number (piece ∷ later)
  of_first (pieces.One line) later number is = elim is [ inl here ↦ inl here | inr other ↦ absurd other ]
  of_first (pieces.Repeat times lines) later number is = elim is [ inl here ↦ inl here | inr other ↦ absurd other ]

  of_later : (piece : Piece A) (later : List (Piece A)) (number : ℕ) → IsLineOf number later
      → IsLineOf number (piece ∷ later)
  of_later (pieces.One line) later number is = inr is
  of_later (pieces.Repeat times lines) later number is = inr is

  of_one : (all : List (Piece A)) (k : ℕ) (else : Piece A) (number : ℕ) → k < length all
      → IsLineOf number (get_or all k else ∷ []) → IsLineOf number all
  of_one [] k else number inside is = absurd (omega (arith, inside))
  of_one (first ∷ later) zero else number inside is = of_first first later number is
  of_one (first ∷ later) (suc k) else number inside is =
      let below : k < length later = omega (arith, inside)
      in of_later first later number (of_one later k else number below is)

  -- a line of a piece is one of all the pieces among which it stands
  pub piece_at : (all : List (Piece A)) (k : ℕ) (piece : Piece A) (number : ℕ) → k < length all
      → piece ≡ get_or all k piece
      → IsLineOf number (piece ∷ []) → IsLineOf number all
  piece_at all k piece number inside at is =
      of_one all k piece number inside (subst (λ (p : Piece A). IsLineOf number (p ∷ [])) at is)

  in_these : (all : List (NumberedLine A)) (k : ℕ) (else : NumberedLine A) → k < length all
      → IsLineIn (get_or all k else).number all
  in_these [] k else inside = absurd (omega (arith, inside))
  in_these (first ∷ later) zero else inside = inl refl
  in_these (first ∷ later) (suc k) else inside =
      let below : k < length later = omega (arith, inside)
      in inr (in_these later k else below)

  -- a line that stands among these is one of them
  pub line_at : (all : List (NumberedLine A)) (k : ℕ) (line : NumberedLine A) (number : ℕ) → k < length all
      → line ≡ get_or all k line
      → line.number ≡ number → IsLineIn number all
  line_at all k line number inside at numbered =
      let there : IsLineIn (get_or all k line).number all = in_these all k line inside
      in let here : IsLineIn line.number all = subst (λ (l : NumberedLine A). IsLineIn l.number all) (sym at) there
      in subst (λ (n : ℕ). IsLineIn n all) numbered here
