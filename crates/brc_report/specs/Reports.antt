-- When a report is right.
use Rattle.std.specs.Prelude.{◌≡◌, ◌&&◌, ◌==◌, ℕ, List, [], ◌∷◌, Bool, true, false, nat_lt, Some}
use Rattle.brc_words.specs.declared.limits.TheConstants.{GLOBALS}
use Rattle.brc_report.specs.declared.content.Content.{Content}
use Rattle.brc_report.specs.declared.content.Remain.{Remain}
use Rattle.brc_report.specs.Holding.{remains_of}
use Rattle.brc_report.specs.Cycles.{AreCycles}

module _ {A : Type 0} where
  -- the cells rise, and are above that one
  abbrev pub rises : ℕ → List (Content A) → Bool
  rises last [] = true
  rises last (content ∷ contents) = nat_lt last content.cell && rises content.cell contents

  -- the globals are first, and the cells rise from there
  abbrev pub are_contents : List (Content A) → Bool
  are_contents [] = false
  are_contents (first ∷ contents) = rises first.cell contents && (first.cell == GLOBALS)

  -- the remains and cycles are those of the contents, which begin with the globals and rise
  pub record IsReport (remains : List Remain) (cycles : List (List ℕ)) (contents : List (Content A)) : Type 0 where
    pub contents_rise : are_contents contents ≡ true
    pub all_remains : remains_of contents ≡ Some remains
    pub all_cycles : AreCycles remains cycles
