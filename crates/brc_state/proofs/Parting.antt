-- What a step's parts say of it: a step that doesn't unlock is its parts, and only one that fills a place needs memory.
use Rattle.std.proofs.Common.{◌≡◌, ℕ, List, Option, true, false, is_some, refl, sym}
use Rattle.std.proofs.lemmas.Bool.{true≢false}
use Rattle.law.specs.declared.world.cell.Cell.{Cell}
use Rattle.law.specs.declared.world.event.Change.{Change}
use Rattle.law.specs.declared.world.event.Step.{Step}
use Rattle.law.specs.declared.world.event.Step.TheVariants.{Birth, LocalUp, SharedUp, Unlock}
use Rattle.law.specs.world.Steps.{is_unlock, filled_place, gone, born_cell, frame_with, entries_with, frame_after}
use Rattle.law.specs.world.Steps.{entries_after}
use Rattle.brc_state.specs.Memory.{needs_memory}

pub frame_by_parts : (s : Step) (c : ℕ) (x : Cell) (entries : List ℕ) (frame : List (Option ℕ)) → is_unlock s ≡ false
    → frame_with (filled_place s) (gone s x) c frame ≡ frame_after s c x entries frame
frame_by_parts (Unlock change) c x entries frame plain = absurd (true≢false plain)
frame_by_parts _ c x entries frame plain = refl

pub entries_by_parts : (s : Step) (c : ℕ) (x : Cell) (frame : List (Option ℕ)) (lists : List (List ℕ))
    → is_unlock s ≡ false
    → entries_with (born_cell s) (gone s x) lists ≡ entries_after s c x frame lists
entries_by_parts (Unlock change) c x frame lists plain = absurd (true≢false plain)
entries_by_parts _ c x frame lists plain = refl

pub fills_by_memory : (s : Step) → is_some (filled_place s) ≡ true → needs_memory s ≡ true
fills_by_memory (Birth d kind k) fills = refl
fills_by_memory (LocalUp source k) fills = refl
fills_by_memory (SharedUp source k) fills = refl
fills_by_memory _ fills = absurd (true≢false (sym fills))

-- a step that is told apart from every unlock
pub plain_step : (s : Step) → ((change : Change) → s ≡ Unlock change → ⊥) → is_unlock s ≡ false
plain_step (Unlock change) other = absurd (other change refl)
plain_step _ other = refl
