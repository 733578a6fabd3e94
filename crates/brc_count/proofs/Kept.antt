-- A frame that was only looked at, or locked and unlocked.
use Rattle.std.proofs.Common.{refl, ◌∙◌}
use Rattle.brc_count.specs.Frames.{FrameSeen}
use Rattle.brc_count.specs.Locking.{KeepsThread, KeepsFrame}

module _ {A : Type 0} where
  pub thread_kept : (frame : FrameSeen A) → KeepsThread frame frame
  thread_kept frame = record {
    heap = refl;
    thread = refl;
    stage = refl;
    popped = refl;
    works = refl;
    from = refl;
    near = refl;
  }

  pub thread_kept_on : {old mid new : FrameSeen A} → KeepsThread old mid → KeepsThread mid new → KeepsThread old new
  thread_kept_on first second = record {
    heap = second.heap ∙ first.heap;
    thread = second.thread ∙ first.thread;
    stage = second.stage ∙ first.stage;
    popped = second.popped ∙ first.popped;
    works = second.works ∙ first.works;
    from = second.from ∙ first.from;
    near = second.near ∙ first.near;
  }

  pub frame_kept : (frame : FrameSeen A) → KeepsFrame frame frame
  frame_kept frame = record { places = λ k. refl; len = refl; spare = refl; next = refl }

  pub frame_kept_on : {old mid new : FrameSeen A} → KeepsFrame old mid → KeepsFrame mid new → KeepsFrame old new
  frame_kept_on first second = record {
    places = λ k. second.places k ∙ first.places k;
    len = second.len ∙ first.len;
    spare = second.spare ∙ first.spare;
    next = second.next ∙ first.next;
  }
