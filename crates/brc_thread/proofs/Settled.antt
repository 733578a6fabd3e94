-- Polls and turns of work, joined.
use Rattle.std.proofs.Common.{◌≡◌, ℕ, [], ◌∙◌, IsTrue, nat_eq, subst}
use Rattle.std.proofs.lemmas.Bool.{eqb-true}
use Rattle.brc_count.specs.law.living.Quiet.{Quietly, NoItem}
use Rattle.brc_count.proofs.law.living.Quiet_Items.{quietly_joined}
use Rattle.brc_count.proofs.Quiet.{turns_quietly, polled_quietly}
use Rattle.brc_count.specs.Frames.{FrameSeen, Turns}
use Rattle.brc_count.specs.Polling.{Polled}
use Rattle.brc_thread.specs.Settling.{PollsAndWorks, Nothing, Worked, Polls, Settles}

module _ {A : Type 0} where
  -- one row of them after another
  pub goes_on : {old mid new : FrameSeen A} → PollsAndWorks old mid → PollsAndWorks mid new → PollsAndWorks old new
  goes_on first Nothing = first
  goes_on first (Worked n between new second turns) = Worked n between new (goes_on first second) turns
  goes_on first (Polls told between new second polled) = Polls told between new (goes_on first second) polled

  -- what settles after some of them has settled
  pub settles_late : {old mid new : FrameSeen A} → PollsAndWorks old mid → Settles mid new → Settles old new
  settles_late first settled = record {
    mid = settled.mid;
    before = goes_on first settled.before;
    last = settled.last;
    done = settled.done;
  }

  -- turns of work, and then a poll that was told nothing with no dead block left
  pub settled_now : (old mid new : FrameSeen A) (told n : ℕ) → IsTrue (nat_eq told 0) → Turns old n mid
      → Polled mid new told
      → (told ≡ 0 → new.works ≡ mid.works) → mid.works ≡ [] → Settles old new
  settled_now old mid new told n nothing turns polled quiet done =
      let none : told ≡ 0 = eqb-true told 0 nothing in record {
        mid = mid;
        before = Worked n old mid Nothing turns;
        last = subst (Polled mid new) none polled;
        done = quiet none ∙ done;
      }

  -- by all of them the thread only lets go
  pub goes_quietly : (old new : FrameSeen A) → PollsAndWorks old new → Quietly old.seat.log new.seat.log
  goes_quietly old _ Nothing = NoItem
  goes_quietly old new (Worked n mid _ before turns) = quietly_joined old.seat.log mid.seat.log new.seat.log
      (goes_quietly old mid before) (turns_quietly mid n new turns)
  goes_quietly old new (Polls told mid _ before polled) = quietly_joined old.seat.log mid.seat.log new.seat.log
      (goes_quietly old mid before) (polled_quietly mid new told polled)

  pub settles_quietly : (old new : FrameSeen A) → Settles old new → Quietly old.seat.log new.seat.log
  settles_quietly old new settled =
      quietly_joined old.seat.log settled.mid.seat.log new.seat.log (goes_quietly old settled.mid settled.before)
      (polled_quietly settled.mid new 0 settled.last)
