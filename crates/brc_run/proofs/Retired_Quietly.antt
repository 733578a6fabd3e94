-- As a thread retires its log goes on, nothing is born, and nothing is put home. Before it hands over it only lets go,
-- and after that, too; a hand-over begins with an Offer, by which an object is private no more.
use Rattle.std.proofs.Common.{◌≡◌, ℕ, List, ◌∷◌, Option, refl, sym, ap, subst, ◌∙◌}
use Rattle.brc_count.specs.law.declared.rule.contents.Contents.{Contents}
use Rattle.brc_count.specs.law.declared.rule.told.Moved.TheVariants.{Nothing}
use Rattle.brc_count.specs.law.declared.rule.told.LogItem.{LogItem}
use Rattle.brc_count.specs.law.declared.rule.told.LogItem.TheVariants.{Stepped}
use Rattle.brc_count.specs.law.declared.world.event.LastDropped.TheVariants as lasts
use Rattle.brc_count.specs.law.declared.world.event.Step.TheVariants.{Close, Offer, Untie, MergeAdd, LastDown}
use Rattle.brc_count.specs.law.living.Quiet.{Quietly, NoItem, OneMore}
use Rattle.brc_count.specs.law.living.Later.{IsLater}
use Rattle.brc_count.proofs.law.living.Earlier.{later_same, later_one, later_both, quietly_later}
use Rattle.brc_count.proofs.law.living.Quiet_Items.{quietly_joined}
use Rattle.law_isolation.proofs.Quiet_Lives.{allocs_quietly}
use Rattle.brc_count.specs.law.rule.Seen.{part_seen}
use Rattle.brc_count.specs.block.declared.payload.Payload.{Payload}
use Rattle.brc_count.specs.table.Seated.{SeatSeen}
use Rattle.brc_count.specs.biased.Released.{HandsOver}
use Rattle.brc_count.proofs.biased.Quiet.{ends_quietly}
use Rattle.brc_count.specs.Closing as closing
use Rattle.brc_count.specs.Closing.{ClosesWords, HandsEach, GoesOut, TurnedLeaving, TurnsLeaving}
use Rattle.brc_count.specs.Frames.{FrameSeen}
use Rattle.brc_count.proofs.Quiet.{GoesQuietly, turned_quietly, turns_quietly, polled_quietly}
use Rattle.brc_thread.specs.Retiring.{RetiresAs}
use Rattle.brc_thread.specs.Settling as settling
use Rattle.brc_thread.specs.Settling.{PollsAndWorks, Settles}
use Rattle.brc_thread.specs.Threads.{RetiredSeen}
use Rattle.brc_run.specs.Runs.{left_in}
use Rattle.brc_run.proofs.Cleared.{quietly_left}

-- the log goes on, no object is born, and nothing is put home
pub record BearsNothing (before log : List LogItem) : Type 0 where
  pub later : IsLater before log
  pub allocs : (n : ℕ) → (part_seen n log).row.allocs ≡ (part_seen n before).row.allocs
  pub puts : (c : ℕ) (there : Contents) → left_in log c there ≡ left_in before c there

quietly_bears : (before log : List LogItem) → Quietly before log → BearsNothing before log
quietly_bears before log quiet = record {
  later = quietly_later before log quiet;
  allocs = λ n. allocs_quietly n before log quiet;
  puts = λ c there. quietly_left before log c there quiet;
}

bears_both : (before mid log : List LogItem) → BearsNothing before mid → BearsNothing mid log → BearsNothing before log
bears_both before mid log first second = record {
  later = later_both before mid log first.later second.later;
  allocs = λ n. second.allocs n ∙ first.allocs n;
  puts = λ c there. second.puts c there ∙ first.puts c there;
}

bears_same : (log : List LogItem) → BearsNothing log log
bears_same log = record { later = later_same log; allocs = λ n. refl; puts = λ c there. refl }

closes_quietly : (before : List LogItem) (n : ℕ) (log : List LogItem) → ClosesWords before n log → Quietly before log
closes_quietly before _ _ closing.NoWord = NoItem
closes_quietly before _ _ (closing.Closed k bits log more) =
    OneMore (Stepped (Close k) bits Nothing) log (closes_quietly before k log more) refl

module _ {A : Type 0} where
  goes_quietly : (old new : FrameSeen A) → PollsAndWorks old new → GoesQuietly old new
  goes_quietly old _ settling.Nothing = NoItem
  goes_quietly old new (settling.Worked n mid _ before turns) =
      quietly_joined old.seat.log mid.seat.log new.seat.log (goes_quietly old mid before)
      (turns_quietly mid n new turns)
  goes_quietly old new (settling.Polls told mid _ before polled) =
      quietly_joined old.seat.log mid.seat.log new.seat.log (goes_quietly old mid before)
      (polled_quietly mid new told polled)

  settles_quietly : (old new : FrameSeen A) → Settles old new → GoesQuietly old new
  settles_quietly old new settled =
      quietly_joined old.seat.log settled.mid.seat.log new.seat.log (goes_quietly old settled.mid settled.before)
      (polled_quietly settled.mid new 0 settled.last)

  turned_leaving : (old new : FrameSeen A) → TurnedLeaving old new → GoesQuietly old new
  turned_leaving old new (closing.EntryDealt c popped down) =
      ends_quietly (LastDown (lasts.Popped c)) c down.block old.seat.log new.seat.log refl down.events
  turned_leaving old new (closing.BlockTurned none turned) = turned_quietly old new turned

  turns_leaving : (old : FrameSeen A) (n : ℕ) (new : FrameSeen A) → TurnsLeaving old n new → GoesQuietly old new
  turns_leaving old _ _ closing.NoTurn = NoItem
  turns_leaving old _ new (closing.OneMore n mid _ more turned) =
      quietly_joined old.seat.log mid.seat.log new.seat.log (turns_leaving old n mid more)
      (turned_leaving mid new turned)

  -- an Offer ends what was private, so it isn't quiet; but it bears nothing
  hands_over : (c : ℕ) (block : Option (ℕ × Payload A)) (before log : List LogItem) → HandsOver c block before log
      → BearsNothing before log
  hands_over c block before log hands =
      let offered : List LogItem = Stepped (Offer c) hands.offered Nothing ∷ before in
      let untied : List LogItem = Stepped (Untie c) 0 Nothing ∷ offered in
      bears_both before offered log (record {
        later = later_one (Stepped (Offer c) hands.offered Nothing) before before (later_same before);
        allocs = λ n. refl;
        puts = λ c there. refl;
      })
      (quietly_bears offered log
      (quietly_joined offered untied log (OneMore (Stepped (Untie c) 0 Nothing) offered NoItem refl)
      (ends_quietly (MergeAdd c) c block untied log refl hands.ends)))

  hands_each : (old : FrameSeen A) (c : ℕ) (new : FrameSeen A) → HandsEach old c new
      → BearsNothing old.seat.log new.seat.log
  hands_each old _ _ closing.NoneYet = bears_same old.seat.log
  hands_each old _ new (closing.NotOwned c _ before none) = hands_each old c new before
  hands_each old _ new (closing.Handed c mid _ before some one) =
      bears_both old.seat.log mid.seat.log new.seat.log (hands_each old c mid before)
      (hands_over c one.block mid.seat.log new.seat.log one.told)

  goes_out : (old new : FrameSeen A) → GoesOut old new → BearsNothing old.seat.log new.seat.log
  goes_out old new goes =
      bears_both old.seat.log goes.mid.seat.log new.seat.log (hands_each old old.heap.cells goes.mid goes.hands)
      (quietly_bears goes.mid.seat.log new.seat.log (closes_quietly goes.mid.seat.log _ new.seat.log goes.closes))

  pub retired_bears : (mutator : FrameSeen A) (retired : RetiredSeen A) → RetiresAs mutator retired
      → BearsNothing mutator.seat.log retired.seat.log
  retired_bears mutator retired so =
      let done = so.finishes.done in
      let log : retired.seat.log ≡ done.seat.log = ap (λ (s : SeatSeen A). s.log) so.finishes.seat in
      subst (BearsNothing mutator.seat.log) (sym log)
      (bears_both mutator.seat.log so.settled.seat.log done.seat.log
      (quietly_bears mutator.seat.log so.settled.seat.log (settles_quietly mutator so.settled so.settles))
      (bears_both so.settled.seat.log so.left.seat.log done.seat.log (goes_out so.settled so.left so.goes)
      (quietly_bears so.left.seat.log done.seat.log (turns_leaving so.left so.finishes.turns done so.finishes.works))))
