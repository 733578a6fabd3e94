-- What a block or a list of blocks ends as, where a payload is lent to be changed.
use Rattle.std.specs.Prelude.{ℕ, List, [], ◌∷◌, Option}
use Rattle.std.specs.Borrow.{Lends, LendsIf, Fml, RattleType, MutBor}
use Rattle.std.specs.declared.alloc.Allocator.{Ghosts}
use Rattle.brc_block.specs.declared.payload.Payload.{Payload}
use Rattle.brc_block.specs.contracts.block.Block as block
use Rattle.brc_block.specs.contracts.worklist.Worklist as worklist
use Rattle.brc_block.specs.contracts.payload.Payload as payload

-- the front block with another payload
abbrev pub with_front : {P : Type 0} → List (ℕ × P) → P → List (ℕ × P)
with_front [] p = []
with_front (block ∷ below) p = (block.0, p) ∷ below

module _ (A : RattleType) (alloc : Ghosts A.Denot) where
  -- the block keeps its cell, and holds what was last written
  abbrev pub lends_payload : MutBor (ℕ × Payload A.Denot) → MutBor (Payload A.Denot) → Fml
  lends_payload b r = Lends (block.the_row A alloc) (payload.the_row A alloc) b r (λ p. (b.now.0, p))

  -- the front does, and where there is none the list stays empty
  abbrev pub lends_front : MutBor (List (ℕ × Payload A.Denot)) → Option (MutBor (Payload A.Denot)) → Fml
  lends_front w r = LendsIf (worklist.the_row A alloc) (payload.the_row A alloc) w r (with_front w.now) w.now
