-- Items by which a thread only lets go, gives back and looks.
use Rattle.std.specs.Prelude.{◌≡◌, ℕ, ◌==◌, ◌&&◌, Bool, true, false, List, ◌∷◌}
use Rattle.law.specs.declared.world.event.Step.{Step}
use Rattle.law.specs.declared.world.event.Step.TheVariants.{Birth, Free, Unlock, LocalUp, SharedUp, Offer}
use Rattle.law.specs.declared.rule.told.Moved.{Moved}
use Rattle.law.specs.declared.rule.told.Moved.TheVariants as moves
use Rattle.law.specs.declared.rule.told.LogItem.{LogItem}
use Rattle.law.specs.declared.rule.told.LogItem.TheVariants.{Stepped}

-- the step neither bears, nor unlocks, nor fills a place, nor hands over
abbrev pub only_lets_go : Step → Bool
only_lets_go (Birth c kind k) = false
only_lets_go (Unlock change) = false
only_lets_go (LocalUp source k) = false
only_lets_go (SharedUp source k) = false
only_lets_go (Offer d) = false
only_lets_go _ = true

abbrev pub puts_nothing : Moved → Bool
puts_nothing (moves.Put c contents) = false
puts_nothing _ = true

-- such a step, which puts nothing home, or a note
abbrev pub is_quiet : LogItem → Bool
is_quiet (Stepped s number moved) = only_lets_go s && puts_nothing moved
is_quiet x = true

-- it gives the cell back
abbrev pub frees : LogItem → ℕ → Bool
frees (Stepped (Free d) number moved) c = d == c
frees x c = false

-- the second log is the first with such items after it
pub data Quietly (old : List LogItem) : List LogItem → Type 0 where
  NoItem : Quietly old old
  OneMore : (x : LogItem) (log : List LogItem) → Quietly old log → is_quiet x ≡ true → Quietly old (x ∷ log)
