-- What the yardstick says of a move.
use Rattle.std.specs.Prelude.{◌≡◌, Bool, true, false}
use Rattle.brc_model.specs.declared.moves.Exchange.{Exchange}
use Rattle.brc_model.specs.declared.moves.Exchange.TheVariants.{Put, Take, Swap}
use Rattle.brc_model.specs.declared.moves.Move.{Move}
use Rattle.brc_model.specs.declared.moves.Move.TheVariants.{Born, Add, Remove, Pass, Change, Dies}
use Rattle.brc_model.specs.declared.world.Refused.{Refused}
use Rattle.brc_model.specs.declared.world.Refused.TheVariants.{NotAllowed, Memory}
use Rattle.brc_model.specs.Holders.{Map, Allowed}

-- the change may say more than was said before
abbrev pub grows : Exchange → Bool
grows (Put place cell) = true
grows (Take index place cell) = false
grows (Swap index place cell old) = true

-- the moves that may ask for memory: nothing that ends, lets go, hands over or takes out does
abbrev pub may_ask_memory : {A : Type 0} → Move A → Bool
may_ask_memory (Born object kind holder) = true
may_ask_memory (Add object holder) = true
may_ask_memory (Remove object holder) = false
may_ask_memory (Pass list) = false
may_ask_memory (Change cell place change) = grows change
may_ask_memory (Dies object) = false

-- why a move was refused: the map doesn't allow it, or it does and there was no memory
abbrev pub IsReasonOfMove : {A : Type 0} → Map → Move A → Refused → Type 0
IsReasonOfMove m move NotAllowed = ¬ Allowed m move
IsReasonOfMove m move Memory = Allowed m move × (may_ask_memory move ≡ true)
