-- The log after a look at an object is later than the one before it, whatever the call answered.
use Rattle.std.proofs.Common.{ℕ, ℤ, List, Result, Ok, Err}
use Rattle.brc_words.specs.declared.fault.Fault.{Fault}
use Rattle.brc_words.specs.declared.fault.Fault.TheVariants as faults
use Rattle.brc_words.specs.declared.kind.Kind.{Kind}
use Rattle.brc_count.specs.law.declared.rule.contents.Contents.{Contents}
use Rattle.brc_count.specs.Frames.{FrameSeen}
use Rattle.brc_things.specs.Called.{Late}
use Rattle.brc_things.specs.Looking.{RefusedLook, RefusedCopy, LenOf, IntOf, BytesOf, KindOf}
use Rattle.brc_count.specs.law.living.Later.{IsLater}
use Rattle.law_isolation.proofs.Later_Calls.{later_looks, later_late}
use Rattle.brc_instructions.proofs.Follows_Of.{later_busy}

module _ {A : Type 0} where
  later_look : (old new : FrameSeen A) (k : ℕ) (fits : Contents → Type 0) (fault : Fault)
      → RefusedLook old new k fits fault
      → IsLater old.seat.log new.seat.log
  later_look old new k fits faults.Busy why = later_busy old new k why
  later_look old new k fits faults.WrongKind why = later_looks why.1
  later_look old new k fits fault why = absurd why

  later_copy : (old new : FrameSeen A) (k : ℕ) (fits : Contents → Type 0) (fault : Fault)
      → RefusedCopy old new k fits fault
      → IsLater old.seat.log new.seat.log
  later_copy old new k fits faults.Busy why = later_busy old new k why
  later_copy old new k fits faults.OutOfMemory why = later_looks why.1
  later_copy old new k fits faults.WrongKind why = later_looks why.1
  later_copy old new k fits fault why = absurd why

  told_len : (old new : FrameSeen A) (k : ℕ) (result : Result ℕ Fault) → LenOf old new k result
      → IsLater old.seat.log new.seat.log
  told_len old new k (Ok len) is = later_looks is.found.1
  told_len old new k (Err fault) is = later_look old new k _ fault is.refused

  told_int : (old new : FrameSeen A) (k : ℕ) (result : Result ℤ Fault) → IntOf old new k result
      → IsLater old.seat.log new.seat.log
  told_int old new k (Ok number) is = later_looks is.found
  told_int old new k (Err fault) is = later_look old new k _ fault is.refused

  told_text : (old new : FrameSeen A) (k : ℕ) (result : Result (List ℕ) Fault) → BytesOf old new k result
      → IsLater old.seat.log new.seat.log
  told_text old new k (Ok text) is = later_looks is.found
  told_text old new k (Err fault) is = later_copy old new k _ fault is.refused

  -- ---- after some lost tries

  module _ (old new : FrameSeen A) (k : ℕ) where
    pub later_kind : (kind : Kind) → Late old k (λ mid. KindOf mid new k (Ok kind)) → IsLater old.seat.log new.seat.log
    later_kind kind = later_late new (λ mid is. later_looks is.found.1)

    pub later_len : (result : Result ℕ Fault) → Late old k (λ mid. LenOf mid new k result)
        → IsLater old.seat.log new.seat.log
    later_len result = later_late new (λ mid. told_len mid new k result)

    pub later_int : (result : Result ℤ Fault) → Late old k (λ mid. IntOf mid new k result)
        → IsLater old.seat.log new.seat.log
    later_int result = later_late new (λ mid. told_int mid new k result)

    pub later_text : (result : Result (List ℕ) Fault) → Late old k (λ mid. BytesOf mid new k result)
        → IsLater old.seat.log new.seat.log
    later_text result = later_late new (λ mid. told_text mid new k result)
