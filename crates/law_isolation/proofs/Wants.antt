-- A handle, or an object, is refused for want alone.
use Rattle.std.proofs.Common.{◌≡◌, ℕ, true, Option, Some, None, refl}
use Rattle.brc_words.specs.declared.fault.Fault.{Fault}
use Rattle.brc_words.specs.declared.fault.Fault.TheVariants as faults
use Rattle.brc_count.specs.Frames.{FrameSeen, Refused}
use Rattle.brc_count.specs.Making.{RefusedMaking}
use Rattle.brc_things.specs.Makers.{RefusedTo}
use Rattle.law_isolation.specs.Goes.{is_want}

module _ {A : Type 0} where
  pub refused_for_want : (old : FrameSeen A) (fault : Fault) → Refused old fault → is_want fault ≡ true
  refused_for_want old faults.FrameFull is = refl
  refused_for_want old faults.OutOfMemory is = refl
  refused_for_want old _ is = absurd is

  pub making_refused_for_want : (old new : FrameSeen A) (fault : Fault) → RefusedMaking old new fault
      → is_want fault ≡ true
  making_refused_for_want old new faults.FrameFull is = refl
  making_refused_for_want old new faults.LedgerFull is = refl
  making_refused_for_want old new faults.OutOfMemory is = refl
  making_refused_for_want old new faults.HeapFull is = refl
  making_refused_for_want old new _ is = absurd is

  pub integer_refused_for_want : (old new : FrameSeen A) (cell : Option ℕ) (fault : Fault)
      → RefusedTo old new cell fault → is_want fault ≡ true
  integer_refused_for_want old new (Some c) fault is = refused_for_want old fault is.0
  integer_refused_for_want old new None fault is = making_refused_for_want old new fault is
