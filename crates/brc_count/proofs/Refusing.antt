-- When a frame has no place left for a handle.
use Rattle.std.proofs.Common.{◌≡◌, ◌≤◌, ℕ, subst, sym}
use Rattle.brc_words.specs.declared.fault.Fault.{Fault}
use Rattle.brc_words.specs.declared.fault.Fault.TheVariants as faults
use Rattle.brc_words.specs.declared.limits.TheConstants.{MOST_PLACES}
use Rattle.brc_count.specs.Frames.{FrameSeen, IsFull, Refused}

module _ {A : Type 0} where
  full_alike : (old new : FrameSeen A) → new.len ≡ old.len → IsFull new → IsFull old
  full_alike old new len full = subst (λ (n : ℕ). MOST_PLACES ≤ n) len full

  -- two frames with as many handles are refused one more alike
  pub refused_alike : (old new : FrameSeen A) (fault : Fault) → new.len ≡ old.len → Refused new fault
      → Refused old fault
  refused_alike old new faults.FrameFull len full = full_alike old new len full
  refused_alike old new faults.OutOfMemory len few = λ full. few (full_alike new old (sym len) full)
  refused_alike old new _ len none = absurd none
