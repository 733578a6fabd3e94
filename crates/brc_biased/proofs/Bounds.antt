-- Each list of a release has at most `MOST_EVENTS` events and one lost exchange.
use Rattle.std.proofs.Common.{ℕ, ◌+◌, ◌≤◌, Bool, List, Option, ap, arith}
use Rattle.brc_table.specs.block.declared.payload.Payload.{Payload}
use Rattle.brc_table.specs.law.declared.world.event.Dropped.{Dropped}
use Rattle.brc_table.specs.law.declared.world.event.Step.{Step}
use Rattle.brc_table.specs.law.declared.rule.told.LogItem.{LogItem}
use Rattle.brc_biased.specs.Bounded.{steps_in, losses_in, IsBounded}
use Rattle.brc_biased.specs.Released.{EndsByStep, EndedOwn, SeenZero, MergedAtZero, Asked}
use Rattle.brc_biased.specs.Released.{AskedNobodys, AskedQueued, AskedShut, Asks, AskedLate, AskTurned, GoesShared}
use Rattle.brc_biased.specs.Released.{SharedRisen, SharedCounted, SharedNoCount, SharedMoved, GoesOwn, OwnCounted}
use Rattle.brc_biased.specs.Released.{OwnEnded, Released, ReleaseImmortal, ReleaseOwn, ReleaseSeen, ReleaseShared}

-- so many events more at most, and so many lost exchanges
record Within (steps losses : ℕ) (before log : List LogItem) : Type 0 where
  pub steps_are : steps_in log ≤ steps_in before + steps
  pub losses_are : losses_in log ≤ losses_in before + losses

module _ {A : Type 0} {c : ℕ} {block : Option (ℕ × Payload A)} {log : List LogItem} where
  ends_within : {s : Step} {before : List LogItem} → EndsByStep s c block before log → Within 1 0 before log
  ends_within e = record {
    steps_are = omega (arith, ap steps_in e.told);
    losses_are = omega (arith, ap losses_in e.told);
  }

  own_end_within : {before : List LogItem} → EndedOwn c block before log → Within 3 0 before log
  own_end_within (SeenZero there e) = let w = ends_within e in
      record { steps_are = omega (arith, w.steps_are); losses_are = omega (arith, w.losses_are) }
  own_end_within (MergedAtZero seen e) = let w = ends_within e in
      record { steps_are = omega (arith, w.steps_are); losses_are = omega (arith, w.losses_are) }

  asked_within : {before : List LogItem} → Asked c block before log → Within 2 0 before log
  asked_within (AskedNobodys e) = let w = ends_within e in
      record { steps_are = omega (arith, w.steps_are); losses_are = omega (arith, w.losses_are) }
  asked_within (AskedQueued owner queue notify some taken none told) =
      record { steps_are = omega (arith, ap steps_in told); losses_are = omega (arith, ap losses_in told) }
  asked_within (AskedShut owner queue some shut e) = let w = ends_within e in
      record { steps_are = omega (arith, w.steps_are); losses_are = omega (arith, w.losses_are) }

  module _ {drop : Dropped} where
    asks_within : {before : List LogItem} → Asks drop c block before log → Within 3 0 before log
    asks_within (AskedLate found late e) = let w = ends_within e in
        record { steps_are = omega (arith, w.steps_are); losses_are = omega (arith, w.losses_are) }
    asks_within (AskTurned found turned e) = let w = asked_within e in
        record { steps_are = omega (arith, w.steps_are); losses_are = omega (arith, w.losses_are) }

    shared_within : {before : List LogItem} → GoesShared drop c block before log → Within 3 1 before log
    shared_within (SharedRisen word risen e) = let w = ends_within e in
        record { steps_are = omega (arith, w.steps_are); losses_are = omega (arith, w.losses_are) }
    shared_within (SharedCounted word default none told) =
        record { steps_are = omega (arith, ap steps_in told); losses_are = omega (arith, ap losses_in told) }
    shared_within (SharedNoCount word default low e) = let w = asks_within e in
        record { steps_are = omega (arith, w.steps_are); losses_are = omega (arith, w.losses_are) }
    shared_within (SharedMoved word found default some moved e) = let w = asks_within e in
        record { steps_are = omega (arith, w.steps_are); losses_are = omega (arith, w.losses_are) }

    own_within : {n : ℕ} {before : List LogItem} → GoesOwn n drop c block before log → Within 4 0 before log
    own_within (OwnCounted more none told) =
        record { steps_are = omega (arith, ap steps_in told); losses_are = omega (arith, ap losses_in told) }
    own_within (OwnEnded last e) = let w = own_end_within e in
        record { steps_are = omega (arith, w.steps_are); losses_are = omega (arith, w.losses_are) }

    pub bounded : {n : ℕ} {seen : Bool} {before : List LogItem} → Released n drop c seen block before log
        → IsBounded before log
    bounded (ReleaseImmortal found immortal none told) =
        record { steps = omega (arith, ap steps_in told); losses = omega (arith, ap losses_in told) }
    bounded (ReleaseOwn mortal some e) = let w = own_within e in
        record { steps = omega (arith, w.steps_are); losses = omega (arith, w.losses_are) }
    bounded (ReleaseSeen mortal none seen e) = let w = ends_within e in
        record { steps = omega (arith, w.steps_are); losses = omega (arith, w.losses_are) }
    bounded (ReleaseShared mortal none seen e) = let w = shared_within e in
        record { steps = omega (arith, w.steps_are); losses = omega (arith, w.losses_are) }
