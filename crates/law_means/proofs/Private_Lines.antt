-- A private section's lines, written out, share nothing.
use Rattle.std.proofs.Common.{◌≡◌, ℕ, zero, suc, ◌||◌, not, Bool, true, false, List, [], ◌∷◌, refl, sym}
use Rattle.std.specs.List.{All, repeat, list_any}
use Rattle.std.proofs.lemmas.Bool.{true≢false}
use Rattle.std.proofs.lemmas.List.Elements.{All-nil, All-cons, All-append}
use Rattle.brc_script.specs.declared.script.Piece.{Piece}
use Rattle.brc_script.specs.declared.script.Piece.TheVariants as pieces
use Rattle.brc_script.specs.declared.script.Section.{Section}
use Rattle.brc_script.specs.Instructions.{NumberedLine, is_shared}
use Rattle.brc_script.specs.Scripts.{line_shares, shares, is_private}
use Rattle.brc_meaning.specs.Sections.{written_out}

neither : (a b : Bool) → (a || b) ≡ false → (a ≡ false) × (b ≡ false)
neither true b is = absurd (true≢false is)
neither false b is = (refl, is)

no_longer : (b : Bool) → not b ≡ true → b ≡ false
no_longer true is = absurd (true≢false (sym is))
no_longer false is = refl

module _ {A : Type 0} where
  abbrev Shares : NumberedLine A → Type 0
  Shares line = is_shared line.instruction ≡ false

  of_lines : (lines : List (NumberedLine A)) → list_any line_shares lines ≡ false → All Shares lines
  of_lines [] none = All-nil Shares
  of_lines (line ∷ lines) none =
      let parts = neither (line_shares line) (list_any line_shares lines) none in
      All-cons Shares line lines parts.0 (of_lines lines parts.1)

  of_turns : (times : ℕ) (lines : List (NumberedLine A)) → All Shares lines → All Shares (repeat times lines)
  of_turns zero lines all = All-nil Shares
  of_turns (suc times) lines all = All-append Shares lines (repeat times lines) all (of_turns times lines all)

  of_pieces : (pieces : List (Piece A)) → list_any shares pieces ≡ false → All Shares (written_out pieces)
  of_pieces [] none = All-nil Shares
  of_pieces (pieces.One line ∷ later) none =
      let parts = neither (line_shares line) (list_any shares later) none in
      All-cons Shares line (written_out later) parts.0 (of_pieces later parts.1)
  of_pieces (pieces.Repeat times lines ∷ later) none =
      let parts = neither (list_any line_shares lines) (list_any shares later) none in
      All-append Shares (repeat times lines) (written_out later) (of_turns times lines (of_lines lines parts.0))
      (of_pieces later parts.1)

  pub private_lines : (section : Section A) → is_private section ≡ true → All Shares (written_out section.pieces)
  private_lines section is = of_pieces section.pieces (no_longer (list_any shares section.pieces) is)
