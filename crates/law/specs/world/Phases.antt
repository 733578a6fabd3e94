-- The phases of a hand: what a thread does with the cell in its hand, and what follows from that alone.
use Rattle.std.specs.Prelude.{Bool, true, false}
use Rattle.law.specs.declared.world.row.Phase.{Phase}
use Rattle.law.specs.declared.world.row.Phase.TheVariants as phases
use Rattle.law.specs.declared.world.row.Role.{Role}
use Rattle.law.specs.declared.world.row.Role.TheVariants as roles

-- the one table of phases
abbrev pub role_of : Phase → Role
role_of phases.Claimed = roles.Owns
role_of phases.Counted = roles.Owns
role_of phases.Ready = roles.Owns
role_of phases.Zero = roles.Owns
role_of phases.Over = roles.Owns
role_of phases.Untied = roles.Owns
role_of phases.Asked = roles.Carries
role_of phases.Shut = roles.Carries
role_of phases.Taking = roles.Adopts
role_of phases.Held = roles.Carries
role_of phases.Popping = roles.Pops
role_of phases.Offered = roles.Offers
role_of phases.Yielding = roles.Owns

-- the hand has a reference of its own
abbrev pub refers : Role → Bool
refers roles.Carries = true
refers roles.Adopts = true
refers _ = false

abbrev pub has_reference : Phase → Bool
has_reference p = refers (role_of p)

-- the hand is about to bear, merge or bury its cell
abbrev pub merges : Role → Bool
merges roles.Carries = false
merges roles.Offers = false
merges _ = true

abbrev pub is_gripping : Phase → Bool
is_gripping p = merges (role_of p)

-- only an active thread has such a hand: a birth, a merge at zero, or a handing over
abbrev pub owns : Role → Bool
owns roles.Owns = true
owns roles.Offers = true
owns _ = false

abbrev pub is_active_phase : Phase → Bool
is_active_phase p = owns (role_of p)

-- a reference that the shared word may count down: an asked one, a shut one, or one of a merged object
abbrev pub ends : Role → Bool
ends roles.Carries = true
ends _ = false

abbrev pub is_ending : Phase → Bool
is_ending p = ends (role_of p)

-- the owner's hand says that the object was asked for, though no reference is on its way
abbrev pub offers : Role → Bool
offers roles.Offers = true
offers _ = false

abbrev pub is_offering : Phase → Bool
is_offering p = offers (role_of p)
