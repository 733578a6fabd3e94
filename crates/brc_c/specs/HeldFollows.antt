-- What C's variable ends as, where its thing is lent.
use base.Fml.{Fml}
use denote.Ref.{MutBor}
use denote.Follow.{follows}
use Rattle.brc_c.specs.contracts.held.Held as thing
use Rattle.brc_c.specs.contracts.slots.CThread as slot

-- the variable with another thing
abbrev pub thing_with : slot.the_row.Denot → thing.the_row.Denot → slot.the_row.Denot
thing_with b w = record { at = b.at; alloc = b.alloc; value = w }

abbrev pub thing_follows : MutBor slot.the_row.Denot → MutBor thing.the_row.Denot → Fml
thing_follows b r = follows slot.the_row thing.the_row b.ghost_name r.ghost_name (thing_with b.now)
