-- What a table leaves when it is taken apart.
use Rattle.std.specs.Prelude.{◌≡◌, ℕ, List, [], ◌∷◌, length, Option, Some, None}
use mathlib.Core.Option.{some}
use lib.ListN.{get_elem?}
use Rattle.atomic_table.specs.Table.{State}
use Rattle.brc_block.specs.declared.payload.Payload.{Payload}
use Rattle.law.specs.declared.rule.view.View.{View}
use Rattle.law.specs.rule.Rule.{Kept}
use Rattle.brc_table.specs.Shown.{shows}

module _ {A : Type 0} where
  -- the slots from the first on that has a block
  abbrev pub from_block : List (Option (ℕ × Payload A)) → List (Option (ℕ × Payload A))
  from_block [] = []
  from_block (None ∷ slots) = from_block slots
  from_block (Some block ∷ slots) = Some block ∷ slots

  -- The slots of a table in its last state, which keeps the rule, and in which the root knows what it knows. A slot
  -- that was at home has its value.
  pub record Remains (n limit id : ℕ) (root : View) (slots : List (Option (ℕ × Payload A))) : Type 0 where
    pub state : State (Option (ℕ × Payload A)) View
    pub kept : Kept shows n limit state
    pub seen : get_elem? state.views id ≡ some root
    pub deep : length state.homes ≡ length slots
    pub each_home : (c : ℕ) (slot : Option (ℕ × Payload A)) → get_elem? state.homes c ≡ some (some slot)
        → get_elem? slots c ≡ some slot
