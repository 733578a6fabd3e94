-- There was no memory for what C's variable leads to: nobody was registered, and nothing changed.
use Rattle.std.proofs.Common.{Option, Some, None, refl, inr}
use Rattle.brc_words.specs.declared.fault.Fault.TheVariants as faults
use Rattle.brc_heap.specs.Desk.{SightSeen}
use Rattle.brc_client.specs.declared.status.Status.TheVariants as statuses
use Rattle.brc_client.specs.declared.thread.Stage.{Stage}
use Rattle.brc_client.specs.declared.thread.Stage.TheVariants as stages
use Rattle.brc_client.specs.declared.owner.OwnerStage.{OwnerStage}
use Rattle.brc_client.specs.declared.owner.OwnerStage.TheVariants as owners
use Rattle.brc_client.specs.Desks.{DeskSeen}
use Rattle.brc_client.specs.Ends.{RegisterRefused, SameOwner, SameStage}

pub no_room : (desk : Option DeskSeen) (seen : Option SightSeen)
    → RegisterRefused desk seen (statuses.Fault faults.OutOfMemory)
no_room None seen = inr refl
no_room (Some desk) seen = tt

pub same_owner : (owner : OwnerStage) → SameOwner owner owner
same_owner (owners.Open opened) = refl
same_owner (owners.Closed last) = refl
same_owner (owners.Gone seen) = refl

pub same_stage : (stage : Stage) → SameStage stage stage
same_stage (stages.Works client) = record { frame = refl; handles = refl; numbers = refl; none = refl }
same_stage (stages.Leaves left) = refl
same_stage (stages.Ends done) = refl
same_stage (stages.Gathered seen) = refl
same_stage stages.Gone = refl
