-- Notes that are told where reasons are asked for.
use Rattle.std.proofs.Common.{◌≡◌, ◌⊎◌, ℕ, Bool, true, false, List, Option, Ok, refl, inl, inr}
use Rattle.brc_program.specs.Errors.{TellsNotes}
use Rattle.brc_program.specs.Performing.{EndsBy}

-- where nobody asks, nothing stands on standard error
pub ends_noted : (asks : Bool) (old new : Option (List ℕ)) (status ended : ℕ)
    → (asks ≡ false → (new ≡ old) × (ended ≡ status))
    → ((new ≡ old) × (ended ≡ status)) ⊎ TellsNotes old new status ended
    → EndsBy (asks ≡ true) old new (Ok status) ended
ends_noted false old new status ended quiet told = inl (quiet refl)
ends_noted true old new status ended quiet (inl same) = inl same
ends_noted true old new status ended quiet (inr notes) = inr (refl, notes)
