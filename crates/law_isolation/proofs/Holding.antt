-- What a frame and its registers mean once a register has another handle, and the one that it had is released.
use Rattle.std.proofs.Common.{◌≡◌, ℕ, ◌<◌, List, Option, Some, None, slice_set, slice_index_or, sym, subst}
use Rattle.brc_count.specs.Frames.{FrameSeen, HandleSeen, ReleasedOf}
use Rattle.brc_handles.specs.Handles.{slot, IsApart}
use Rattle.brc_meaning.specs.declared.reference.Reference.{Reference}
use Rattle.brc_meaning.specs.declared.state.State.{State}
use Rattle.brc_meaning.specs.States.{with_register}
use Rattle.brc_count.specs.law.living.Living.{OwnLog}
use Rattle.law_isolation.specs.Means.{Means, MeansBesides, SIXTEEN}
use Rattle.law_isolation.proofs.Registers_Kept.{means_held, besides_held, means_taken}
use Rattle.law_isolation.proofs.Dropping_References.{means_dropped}

module _ {A : Type 0} where
  -- it had none
  pub holds_into_empty : (base : ℕ) (frame : FrameSeen A) (registers now : List (Option HandleSeen)) (s : State A)
      (to : ℕ) (handle : HandleSeen) (reference : Reference)
      → MeansBesides base frame registers s handle reference → to < SIXTEEN → now ≡ slice_set registers to (Some handle)
      → Means base frame now (with_register to (Some reference) s)
  holds_into_empty base frame registers now s to handle reference means below is =
      subst (λ after. Means base frame after (with_register to (Some reference) s)) (sym is)
      (means_held base frame registers s to handle reference means below)

  -- it had one, which is released
  pub holds_and_releases : (base : ℕ) (old new : FrameSeen A) (registers now : List (Option HandleSeen)) (s : State A)
      (to : ℕ) (handle gone : HandleSeen) (reference : Reference) (c : ℕ)
      → MeansBesides base old registers s handle reference → slot registers to ≡ Some gone
      → now ≡ slice_set registers to (Some handle) → IsApart gone now
      → ReleasedOf old new gone.place c → new.heap ≡ old.heap → OwnLog new.heap.cells new.seat.log
      → Means base new now (with_register to (Some reference) s)
  holds_and_releases base old new registers now s to handle gone reference c means had is apart released same own =
      let held : (was : Reference) × (slice_index_or s.registers to None ≡ Some was) × MeansBesides base old
      (slice_set registers to (Some handle)) (with_register to (Some reference) s) gone was =
      besides_held base old registers s to handle gone reference means had in
      means_dropped base old new now (with_register to (Some reference) s) gone held.0 c
      (subst (λ after. MeansBesides base old after (with_register to (Some reference) s) gone held.0) (sym is) held.2)
      released apart same own

  -- it has none from then on
  pub empties_and_releases : (base : ℕ) (old new : FrameSeen A) (registers now : List (Option HandleSeen)) (s : State A)
      (from : ℕ) (gone : HandleSeen) (c : ℕ)
      → Means base old registers s → slot registers from ≡ Some gone → now ≡ slice_set registers from None
      → IsApart gone now
      → ReleasedOf old new gone.place c → new.heap ≡ old.heap → OwnLog new.heap.cells new.seat.log
      → (reference : Reference) × (slice_index_or s.registers from None ≡ Some reference) × Means base new now
      (with_register from None s)
  empties_and_releases base old new registers now s from gone c means had is apart released same own =
      let taken : (reference : Reference) × (slice_index_or s.registers from None ≡ Some reference)
      × MeansBesides base old (slice_set registers from None) (with_register from None s) gone reference =
      means_taken base old registers s from gone means had in (
        taken.0,
        taken.1,
        means_dropped base old new now (with_register from None s) gone taken.0 c
            (subst (λ after. MeansBesides base old after (with_register from None s) gone taken.0) (sym is) taken.2)
            released apart same own,
      )
