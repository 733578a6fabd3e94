-- One more piece, and one more turn of a `repeat`.
use Rattle.std.proofs.Common.{◌≡◌, ◌∙◌, ℕ, suc, ◌+◌, ◌-◌, ◌<◌, List, length, get_or, drop, Ok, Err, refl, ap, arith}
use Rattle.std.proofs.lemmas.List.{at_drop_more}
use Rattle.brc_script.specs.declared.script.Piece.{Piece}
use Rattle.brc_script.specs.declared.script.Section.{Section}
use Rattle.brc_script.specs.Instructions.{NumberedLine}
use Rattle.brc_meaning.specs.declared.state.State.{State}
use Rattle.brc_meaning.specs.States.{start}
use Rattle.brc_meaning.specs.Sections.{SectionStop, lines_after, times_after, piece_after, pieces_after, told, meaning}

-- a turn that is left is the first of those
left_turn : (times turn : ℕ) → turn < times → times - turn ≡ suc (times - (turn + 1))
left_turn times turn less = omega arith

module _ {A : Type 0} where
  pub piece_stops : (pieces : List (Piece A)) (at : ℕ) (piece : Piece A) (s : State A) (stop : SectionStop A)
      → at < length pieces → piece ≡ get_or pieces at piece → piece_after piece s ≡ Err stop
      → pieces_after (drop at pieces) s ≡ Err stop
  piece_stops pieces at piece s stop within is went =
      at_drop_more (λ (later : List (Piece A)). pieces_after later s) pieces at piece within ∙ rw (← is, went) refl

  pub turn_stops : (times turn : ℕ) (lines : List (NumberedLine A)) (s : State A) (stop : SectionStop A)
      → turn < times → lines_after lines s ≡ Err stop → times_after (times - turn) lines s ≡ Err stop
  turn_stops times turn lines s stop less went = rw (left_turn times turn less, went) refl

  pub turn_goes : (times turn : ℕ) (lines : List (NumberedLine A)) (s next : State A)
      → turn < times → lines_after lines s ≡ Ok next
      → times_after (times - turn) lines s ≡ times_after (times - (turn + 1)) lines next
  turn_goes times turn lines s next less went = rw (left_turn times turn less, went) refl

  -- a section that was stopped
  pub stopped_so : (section : Section A) (pieces : List (Piece A)) (first : State A) (stop : SectionStop A)
      → pieces ≡ section.pieces → first ≡ start → pieces_after pieces first ≡ Err stop
      → meaning section ≡ told (Err stop)
  stopped_so section pieces first stop these starts went =
      let so : pieces_after section.pieces start ≡ Err stop = rw (← these, ← starts) went in ap told so
