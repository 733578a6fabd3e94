-- What holds since the locking, whatever frame it began from, holds of the call.
use Rattle.std.proofs.Common.{ℕ, Result, Ok, Err, ◌∙◌}
use Rattle.std.specs.Result.{IfOk, IfErr}
use Rattle.brc_words.specs.declared.fault.Fault.{Fault}
use Rattle.brc_count.specs.block.declared.payload.Payload.{Payload}
use Rattle.brc_count.specs.declared.handed.HandedBack.{HandedBack}
use Rattle.brc_count.specs.Frames.{FrameSeen}
use Rattle.brc_count.specs.Locking.{KeepsThread, KeepsFrame}
use Rattle.brc_things.specs.Waiting.{BeginsLate}
use Rattle.brc_count.proofs.Kept.{thread_kept_on, frame_kept_on}
use Rattle.brc_things.specs.Called.{Looked, HandsOut, TakesIn, TakesInPlaced}
use Rattle.brc_things.specs.Changing.{KeepsAllPlaces}
use Rattle.brc_things.specs.Since.{JustLocked, Since}

-- what an answer says, by what it says besides; so of a refusal
pub ok_by : {T E : Type 0} {P Q : T → Type 0} (result : Result T E) → IfOk result P → ((answer : T) → P answer → Q answer)
    → IfOk result Q
ok_by (Ok answer) says by = by answer says
ok_by (Err refused) says by = tt

pub err_by : {T E : Type 0} {P Q : E → Type 0} (result : Result T E) → IfErr result P → ((refused : E) → P refused → Q refused)
    → IfErr result Q
err_by (Ok answer) says by = tt
err_by (Err refused) says by = by refused says

module _ {A : Type 0} where
  -- a locking that waited, from the frame that its lost tries left
  pub locked_late : (old now : FrameSeen A) (k : ℕ) (block : ℕ × Payload A) (late : BeginsLate old now k block)
      → JustLocked late.mid now k block
  locked_late old now k block late = record { began = late.began; keeps = late.keeps; frame = late.frame }

  places_on : {before now new : FrameSeen A} → KeepsFrame before now → KeepsAllPlaces now new
      → KeepsAllPlaces before new
  places_on first second = record {
    places = λ j. second.places j ∙ first.places j;
    len = second.len ∙ first.len;
    next = second.next ∙ first.next;
  }

  pub looked : {T : Type 0} (before now new : FrameSeen A) (k : ℕ) (block : ℕ × Payload A) (done : FrameSeen A → ℕ
      → T → Type 0)
      (why : FrameSeen A → ℕ → Fault → Type 0) (result : Result T Fault) → JustLocked before now k block
      → KeepsThread now new → KeepsFrame now new
      → IfOk result (λ answer. Since now block (λ b j. done b j answer))
      → IfErr result (λ fault. Since now block (λ b j. why b j fault))
      → Looked before new (done before k) (why before k) result
  looked before now new k block done why (Ok answer) since thread frame did refused =
      record {
        thread = thread_kept_on since.keeps thread;
        frame = frame_kept_on since.frame frame;
        found = did before k since;
        refused = tt;
      }
  looked before now new k block done why (Err fault) since thread frame did refused =
      record {
        thread = thread_kept_on since.keeps thread;
        frame = frame_kept_on since.frame frame;
        found = tt;
        refused = refused before k since;
      }

  pub hands_out : {T : Type 0} (before now new : FrameSeen A) (k : ℕ) (block : ℕ × Payload A) (done : FrameSeen A → ℕ
      → T → Type 0)
      (why : FrameSeen A → ℕ → Fault → Type 0) (result : Result T Fault) → JustLocked before now k block
      → KeepsThread now new
      → IfOk result (λ given. Since now block (λ b j. done b j given)) → IfErr result (λ fault. KeepsAllPlaces now new)
      → IfErr result (λ fault. Since now block (λ b j. why b j fault))
      → HandsOut before new (done before k) (why before k) result
  hands_out before now new k block done why (Ok given) since thread did places refused =
      record { thread = thread_kept_on since.keeps thread; did = did before k since; places = tt; refused = tt }
  hands_out before now new k block done why (Err fault) since thread did places refused =
      record {
        thread = thread_kept_on since.keeps thread;
        did = tt;
        places = places_on since.frame places;
        refused = refused before k since;
      }

  pub takes_in : {T V : Type 0} (before now new : FrameSeen A) (k : ℕ) (block : ℕ × Payload A) (done : FrameSeen A → ℕ
      → T → Type 0)
      (why : FrameSeen A → ℕ → Fault → Type 0) (result : Result T (HandedBack V)) → JustLocked before now k block
      → KeepsThread now new
      → IfOk result (λ answer. Since now block (λ b j. done b j answer)) → IfErr result (λ handed. KeepsFrame now new)
      → IfErr result (λ handed. Since now block (λ b j. why b j handed.fault))
      → TakesIn before new (done before k) (why before k) result
  takes_in before now new k block done why (Ok answer) since thread did frame refused =
      record { thread = thread_kept_on since.keeps thread; did = did before k since; frame = tt; refused = tt }
  takes_in before now new k block done why (Err handed) since thread did frame refused =
      record {
        thread = thread_kept_on since.keeps thread;
        did = tt;
        frame = frame_kept_on since.frame frame;
        refused = refused before k since;
      }

  pub takes_in_placed : {T V : Type 0} (before now new : FrameSeen A) (k : ℕ) (block : ℕ × Payload A) (done : FrameSeen A → ℕ
      → T → Type 0)
      (why : FrameSeen A → ℕ → Fault → Type 0) (result : Result T (HandedBack V)) → JustLocked before now k block
      → KeepsThread now new
      → IfOk result (λ answer. Since now block (λ b j. done b j answer)) → IfErr result (λ handed. KeepsAllPlaces now new)
      → IfErr result (λ handed. Since now block (λ b j. why b j handed.fault))
      → TakesInPlaced before new (done before k) (why before k) result
  takes_in_placed before now new k block done why (Ok answer) since thread did places refused =
      record { thread = thread_kept_on since.keeps thread; did = did before k since; places = tt; refused = tt }
  takes_in_placed before now new k block done why (Err handed) since thread did places refused =
      record {
        thread = thread_kept_on since.keeps thread;
        did = tt;
        places = places_on since.frame places;
        refused = refused before k since;
      }
