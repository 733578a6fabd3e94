-- What the frame owns beside the value of a put.
use Rattle.std.proofs.Common.{◌≢◌, Option, Some, None}
use Rattle.brc_count.specs.Frames.{FrameSeen, HandleSeen, Owns}
use Rattle.brc_things.specs.Putting.{OwnsPut}

module _ {A : Type 0} where
  -- a put into a dictionary leaves it all but the value
  pub owns_beside : (old new : FrameSeen A) (value h : HandleSeen) (answer : Option HandleSeen)
      → OwnsPut old new value answer → value.place ≢ h.place → Owns old h → Owns new h
  owns_beside old new value h None loses apart owns = loses.owns h owns apart
  owns_beside old new value h (Some given) keeps apart owns = keeps.owns h owns
