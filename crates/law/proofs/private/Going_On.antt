-- Which cells are private after one more item.
use Rattle.std.proofs.Common.{◌≡◌, ℕ, Bool, true, List, Option, refl, sym}
use Rattle.std.proofs.lemmas.Bool.{true≢false}
use Rattle.law.specs.declared.world.event.Step.{Step}
use Rattle.law.specs.declared.world.event.Step.TheVariants.{Birth, Free, Unlock, Offer}
use Rattle.law.specs.private.Private.{is_plain, private_by}

-- a step that neither bears nor frees nor unlocks nor hands over leaves them
pub same_set : (frame : List (Option ℕ)) (into : Option ℕ) (s : Step) (set : ℕ → Bool) (c : ℕ) → is_plain s ≡ true
    → private_by frame into s set c ≡ set c
same_set frame into (Birth d kind k) set c plain = absurd (true≢false (sym plain))
same_set frame into (Free d) set c plain = absurd (true≢false (sym plain))
same_set frame into (Unlock change) set c plain = absurd (true≢false (sym plain))
same_set frame into (Offer d) set c plain = absurd (true≢false (sym plain))
same_set frame into s set c plain = refl
