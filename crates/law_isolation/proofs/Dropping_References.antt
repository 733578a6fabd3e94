-- What a frame and its registers mean once a reference is let go, blocks are worked on, or the thread polls.
use Rattle.std.proofs.Common.{◌≡◌, ◌≢◌, ℕ, List, Option, Some, None, IfSome, sym}
use Rattle.brc_count.specs.Frames.{FrameSeen, HandleSeen, ReleasedOf, Turns, KeepsHandles}
use Rattle.brc_count.specs.Polling.{Polled}
use Rattle.brc_handles.specs.Handles.{slot, IsApart}
use Rattle.brc_meaning.specs.declared.reference.Reference.{Reference}
use Rattle.brc_meaning.specs.declared.state.State.{State}
use Rattle.brc_count.specs.law.living.Living.{OwnLog}
use Rattle.law_isolation.specs.Means.{Means, MeansBesides}
use Rattle.law_isolation.specs.Keeping.{KeepsPlace, KeepsRegisters}
use Rattle.law_isolation.proofs.Quiet_Frames.{all_kept, means_quietly, besides_quietly}
use Rattle.law_isolation.proofs.Registers_Kept.{besides_means}
use Rattle.brc_count.proofs.Quiet.{release_quietly, turns_quietly, polled_quietly}

module _ {A : Type 0} where
  -- registers that are apart from the place that is vacated
  apart_kept : (old new : FrameSeen A) (registers : List (Option HandleSeen)) (gone : HandleSeen) (c : ℕ)
      → ReleasedOf old new gone.place c → IsApart gone registers → KeepsRegisters old new registers
  apart_kept old new registers gone c released apart r = each (slot registers r) (apart r)
    where
      each : (o : Option HandleSeen) → IfSome o (λ h. gone.place ≢ h.place) → IfSome o (KeepsPlace old new)
      each None off = tt
      each (Some h) off = released.others h.place (λ same. off (sym same))

  -- a handle that no register has is let go
  pub means_let_go : (base : ℕ) (old new : FrameSeen A) (registers : List (Option HandleSeen)) (s : State A)
      (gone : HandleSeen) (c : ℕ)
      → Means base old registers s → ReleasedOf old new gone.place c → IsApart gone registers → new.heap ≡ old.heap
      → OwnLog new.heap.cells new.seat.log
      → Means base new registers s
  means_let_go base old new registers s gone c means released apart same own =
      means_quietly base old new registers s means same (release_quietly old new gone.place c released) own
      (apart_kept old new registers gone c released apart)

  pub means_dropped : (base : ℕ) (old new : FrameSeen A) (registers : List (Option HandleSeen)) (s : State A)
      (loose : HandleSeen) (reference : Reference) (c : ℕ)
      → MeansBesides base old registers s loose reference → ReleasedOf old new loose.place c → IsApart loose registers
      → new.heap ≡ old.heap → OwnLog new.heap.cells new.seat.log
      → Means base new registers s
  means_dropped base old new registers s loose reference c means =
      means_let_go base old new registers s loose c (besides_means base old registers s loose reference means)

  -- ... while another one is loose too
  pub besides_dropped : (base : ℕ) (old new : FrameSeen A) (registers : List (Option HandleSeen)) (s : State A)
      (loose gone : HandleSeen) (reference : Reference) (c : ℕ)
      → MeansBesides base old registers s loose reference → ReleasedOf old new gone.place c → IsApart gone registers
      → gone.place ≢ loose.place → new.heap ≡ old.heap → OwnLog new.heap.cells new.seat.log
      → MeansBesides base new registers s loose reference
  besides_dropped base old new registers s loose gone reference c means released apart other same own =
      besides_quietly base old new registers s loose reference means same
      (release_quietly old new gone.place c released) own (apart_kept old new registers gone c released apart)
      (released.others loose.place (λ is. other (sym is)))

  -- turns of the work on dead blocks
  pub means_worked : (base : ℕ) (old new : FrameSeen A) (registers : List (Option HandleSeen)) (s : State A) (turns : ℕ)
      → Means base old registers s → Turns old turns new → KeepsHandles old new → OwnLog new.heap.cells new.seat.log
      → Means base new registers s
  means_worked base old new registers s turns means goes keeps own =
      means_quietly base old new registers s means keeps.heap (turns_quietly old turns new goes) own
      (all_kept old new registers keeps.places)

  pub besides_worked : (base : ℕ) (old new : FrameSeen A) (registers : List (Option HandleSeen)) (s : State A)
      (loose : HandleSeen) (reference : Reference) (turns : ℕ)
      → MeansBesides base old registers s loose reference → Turns old turns new → KeepsHandles old new
      → OwnLog new.heap.cells new.seat.log → MeansBesides base new registers s loose reference
  besides_worked base old new registers s loose reference turns means goes keeps own =
      besides_quietly base old new registers s loose reference means keeps.heap (turns_quietly old turns new goes) own
      (all_kept old new registers keeps.places) (keeps.places loose.place)

  -- a poll
  pub means_polled : (base : ℕ) (old new : FrameSeen A) (registers : List (Option HandleSeen)) (s : State A) (told : ℕ)
      → Means base old registers s → Polled old new told → KeepsHandles old new → OwnLog new.heap.cells new.seat.log
      → Means base new registers s
  means_polled base old new registers s told means polled keeps own =
      means_quietly base old new registers s means keeps.heap (polled_quietly old new told polled) own
      (all_kept old new registers keeps.places)

  pub besides_polled : (base : ℕ) (old new : FrameSeen A) (registers : List (Option HandleSeen)) (s : State A)
      (loose : HandleSeen) (reference : Reference) (told : ℕ)
      → MeansBesides base old registers s loose reference → Polled old new told → KeepsHandles old new
      → OwnLog new.heap.cells new.seat.log → MeansBesides base new registers s loose reference
  besides_polled base old new registers s loose reference told means polled keeps own =
      besides_quietly base old new registers s loose reference means keeps.heap (polled_quietly old new told polled) own
      (all_kept old new registers keeps.places) (keeps.places loose.place)
