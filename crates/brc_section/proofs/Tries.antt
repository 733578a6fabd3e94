-- A try that found nothing leaves what frame and registers mean, and so do a poll and work after it.
use Rattle.std.proofs.Common.{◌≡◌, ◌∙◌, ℕ, false, List, Option, Result, Ok, Err, IfErr, Bor, inl, inr}
use Rattle.std.proofs.Common.{refl, sym, ap, subst}
use Rattle.brc_words.specs.declared.fault.Fault.{Fault}
use Rattle.brc_words.specs.declared.fault.Fault.TheVariants as faults
use Rattle.brc_words.specs.declared.key.Key.{Key}
use Rattle.brc_script.specs.declared.instruction.Instruction.{Instruction}
use Rattle.brc_count.specs.table.Seated.{TableSeen}
use Rattle.brc_count.specs.Frames.{FrameSeen, HandleSeen, KeepsHandles, Turns}
use Rattle.brc_count.specs.Polling.{Polled}
use Rattle.brc_meaning.specs.Steps.{after}
use Rattle.brc_count.specs.law.living.Living.{OwnLog}
use Rattle.brc_count.specs.law.living.Later.{IsLater}
use Rattle.brc_count.proofs.law.living.Earlier.{own_earlier, later_same, later_both, quietly_later}
use Rattle.law_isolation.specs.Goes.{is_want, LedAsMeant}
use Rattle.law_isolation.specs.Asked.{Follows}
use Rattle.brc_count.proofs.Quiet.{turns_quietly, polled_quietly}
use Rattle.law_isolation.proofs.Dropping_References.{means_polled, means_worked}
use Rattle.brc_section.specs.declared.waiting.AwaitedHere.{AwaitedHere}
use Rattle.brc_section.specs.declared.waiting.AwaitedHere.TheVariants as awaits
use Rattle.brc_instructions.specs.Causes.{Caused}
use Rattle.brc_instructions.proofs.Causes_Of.{caused_from}
use Rattle.brc_section.specs.Waiting.{FoundNothing, WantsForLetter}
use Rattle.brc_section.specs.Tries.{StaysMeant}

nothing_is_no_want : (tried : Result (Unit {0}) Fault) → FoundNothing tried
    → (fault : Fault) × (tried ≡ Err fault) × (is_want fault ≡ false)
nothing_is_no_want tried (inl is) = (faults.NoSuchKey, is, refl)
nothing_is_no_want tried (inr is) = (faults.NoSuchPlace, is, refl)

module _ {A : Type 0} where
  own_at : (old new : FrameSeen A) → new.heap ≡ old.heap → IsLater old.seat.log new.seat.log
      → OwnLog new.heap.cells new.seat.log
      → OwnLog old.heap.cells old.seat.log
  own_at old new heap later own =
      subst (λ (h : TableSeen). OwnLog h.cells old.seat.log) heap
      (own_earlier new.heap.cells old.seat.log new.seat.log later own)

  pub stays_here : (frame : FrameSeen A) (registers : List (Option HandleSeen))
      → StaysMeant frame registers frame registers
  stays_here frame registers = record {
    heap = refl;
    later = later_same frame.seat.log;
    means = λ base s own means. means;
  }

  -- a poll, and work
  pub goes_on : (old frame polled new : FrameSeen A) (told turns : ℕ) → IsLater old.seat.log frame.seat.log
      → Polled frame polled told → Turns polled turns new → IsLater old.seat.log new.seat.log
  goes_on old frame polled new told turns later polls worked =
      later_both old.seat.log frame.seat.log new.seat.log later
      (later_both frame.seat.log polled.seat.log new.seat.log
      (quietly_later frame.seat.log polled.seat.log (polled_quietly frame polled told polls))
      (quietly_later polled.seat.log new.seat.log (turns_quietly polled turns new worked)))

  pub stays_on : (old frame polled new : FrameSeen A) (before registers : List (Option HandleSeen)) (told turns : ℕ)
      → StaysMeant old before frame registers → Polled frame polled told → KeepsHandles frame polled
      → Turns polled turns new → KeepsHandles polled new
      → StaysMeant old before new registers
  stays_on old frame polled new before registers told turns stays polls kept worked keeps =
      let on : IsLater frame.seat.log polled.seat.log = quietly_later frame.seat.log polled.seat.log
      (polled_quietly frame polled told polls)
      in let more : IsLater polled.seat.log new.seat.log = quietly_later polled.seat.log new.seat.log
      (turns_quietly polled turns new worked)
      in record {
        heap = keeps.heap ∙ kept.heap ∙ stays.heap;
        later = later_both old.seat.log frame.seat.log new.seat.log stays.later
            (later_both frame.seat.log polled.seat.log new.seat.log on more);
        means = λ base s own means.
            let at_poll : OwnLog polled.heap.cells polled.seat.log = own_at polled new keeps.heap more own
            in let at_frame : OwnLog frame.heap.cells frame.seat.log = own_at frame polled kept.heap on at_poll
            in means_worked base polled new registers s turns
            (means_polled base frame polled registers s told (stays.means base s at_frame means) polls kept at_poll)
            worked keeps own;
      }

  -- a try that found nothing
  pub stays_tried : (old frame new : FrameSeen A) (before registers now : List (Option HandleSeen))
      (instruction : Instruction A)
      (tried : Result (Unit {0}) Fault) → StaysMeant old before frame registers → new.heap ≡ frame.heap
      → IsLater frame.seat.log new.seat.log
      → Follows frame new registers now instruction tried → FoundNothing tried → StaysMeant old before new now
  stays_tried old frame new before registers now instruction tried stays heap later follows nothing =
      let fault = nothing_is_no_want tried nothing
      in record {
        heap = heap ∙ stays.heap;
        later = later_both old.seat.log frame.seat.log new.seat.log stays.later later;
        means = λ base s own means.
            let goes : LedAsMeant base new now s (after instruction s) (Err fault.0)
            = subst (LedAsMeant base new now s (after instruction s)) fault.1
            (follows base s own (stays.means base s (own_at frame new heap later own) means))
            in (goes fault.2).1;
      }

  -- the last try tells
  pub follows_on : (old frame new : FrameSeen A) (before registers now : List (Option HandleSeen))
      (instruction : Instruction A)
      (tried : Result (Unit {0}) Fault) → StaysMeant old before frame registers → new.heap ≡ frame.heap
      → IsLater frame.seat.log new.seat.log
      → Follows frame new registers now instruction tried → Follows old new before now instruction tried
  follows_on old frame new before registers now instruction tried stays heap later follows base s own means =
      follows base s own (stays.means base s (own_at frame new heap later own) means)

module _ {A : Type 0} where
  -- the register in which a letter is awaited
  abbrev letter_in : AwaitedHere A → ℕ
  letter_in (awaits.Name key) = 0
  letter_in (awaits.Letter mailbox) = mailbox

  -- a fault with its cause has it where a letter is awaited
  pub for_letter : (awaited : AwaitedHere A) (old new : FrameSeen A) (tried : Result (Unit {0}) Fault)
      → IfErr tried (Caused old new) → IfErr tried (WantsForLetter awaited old new)
  for_letter awaited old new (Ok done) why = tt
  for_letter awaited old new (Err fault) why = λ mailbox is. why

  -- who waits for a name waits for no letter
  pub no_letter : (awaited : AwaitedHere A) {key : Bor (Key A)} (old new : FrameSeen A)
      (tried : Result (Unit {0}) Fault)
      → awaited ≡ awaits.Name key → IfErr tried (WantsForLetter awaited old new)
  no_letter awaited old new (Ok done) name = tt
  no_letter awaited {key = key} old new (Err fault) name = λ mailbox is.
      absurd (let bad : awaits.Name key ≡ awaits.Letter mailbox = sym name ∙ is in cc)

  pub letters_cause : (old new : FrameSeen A) (mailbox : ℕ) (tried : Result (Unit {0}) Fault)
      → IfErr tried (WantsForLetter (awaits.Letter mailbox) old new) → IfErr tried (Caused old new)
  letters_cause old new mailbox (Ok done) why = tt
  letters_cause old new mailbox (Err fault) why = why mailbox refl

  -- what went before the tries is no matter
  pub letter_from : (awaited : AwaitedHere A) (old mid new : FrameSeen A) (tried : Result (Unit {0}) Fault)
      → mid.heap ≡ old.heap → IsLater old.seat.log mid.seat.log
      → IfErr tried (WantsForLetter awaited mid new) → IfErr tried (WantsForLetter awaited old new)
  letter_from awaited old mid new (Ok done) heap later why = tt
  letter_from awaited old mid new (Err fault) heap later why =
      λ mailbox is. caused_from old mid new fault heap later (why mailbox is)

  pub same_letter : (a b : ℕ) (awaited : AwaitedHere A) → awaited ≡ awaits.Letter a → awaited ≡ awaits.Letter b → a ≡ b
  same_letter a b awaited one other = sym (ap letter_in one) ∙ ap letter_in other
