-- Tries that found an object locked.
use Rattle.std.proofs.Common.{ℕ}
use Rattle.brc_count.specs.Frames.{FrameSeen}
use Rattle.brc_count.specs.Locking.{KeepsThread, KeepsFrame}
use Rattle.brc_count.proofs.Kept.{thread_kept, thread_kept_on, frame_kept, frame_kept_on}
use Rattle.brc_things.specs.Waiting.{Waits, NoTry, OneMore}

module _ {A : Type 0} where
  -- lost tries change nothing
  pub waits_thread : {old : FrameSeen A} {k : ℕ} {mid : FrameSeen A} → Waits old k mid → KeepsThread old mid
  waits_thread NoTry = thread_kept _
  waits_thread (OneMore mid new waits busy) = thread_kept_on (waits_thread waits) busy.keeps

  pub waits_frame : {old : FrameSeen A} {k : ℕ} {mid : FrameSeen A} → Waits old k mid → KeepsFrame old mid
  waits_frame NoTry = frame_kept _
  waits_frame (OneMore mid new waits busy) = frame_kept_on (waits_frame waits) busy.frame

  -- tries that follow other tries
  pub waits_on : {old mid : FrameSeen A} {k : ℕ} {new : FrameSeen A} → Waits old k mid → Waits mid k new
      → Waits old k new
  waits_on first NoTry = first
  waits_on first (OneMore mid new waits busy) = OneMore mid new (waits_on first waits) busy
