-- Counting up an entry of a locked object leaves the thread as it is.
use Rattle.std.proofs.Common.{◌≡◌, ℕ, inl, inr, arith, List, [], ◌∷◌, Option, Some, None, refl, ◌∙◌, ap}
use Rattle.std.proofs.lemmas.Bool.{cases_lt}
use Rattle.brc_words.specs.declared.limits.TheConstants.{FIRST_MORTAL}
use Rattle.brc_count.specs.law.declared.world.event.Source.{Source}
use Rattle.brc_count.specs.law.declared.world.event.Step.TheVariants.{LocalUp, SharedUp}
use Rattle.brc_count.specs.law.known.Items.{Part, part_by, meant}
use Rattle.brc_count.specs.law.declared.rule.told.Moved.TheVariants.{Nothing}
use Rattle.brc_count.specs.law.declared.rule.told.LogItem.{LogItem}
use Rattle.brc_count.specs.law.declared.rule.told.LogItem.TheVariants.{Stepped}
use Rattle.brc_count.specs.law.rule.Seen.{part_seen, counts_seen}
use Rattle.brc_count.specs.table.Seated.{TableSeen}
use Rattle.brc_count.specs.Frames.{FrameSeen, HandleSeen, GivenHandle, CountsUp}
use Rattle.brc_count.specs.Locking.{KeepsThread}

-- counting up is one step
data OneUp (source : Source) (k : ℕ) (before log : List LogItem) : Type 0 where
  OnLocal : (found : ℕ) → log ≡ Stepped (LocalUp source k) found Nothing ∷ before → OneUp source k before log
  OnShared : (found : ℕ) → log ≡ Stepped (SharedUp source k) found Nothing ∷ before → OneUp source k before log

one_up : {A : Type 0} (old new : FrameSeen A) (source : Source) (k c : ℕ) → CountsUp old new source k c
    → OneUp source k old.seat.log new.seat.log
one_up old new source k c up = elim (cases_lt c FIRST_MORTAL) [
  | inl low ↦ OnLocal (up.immortal low).found (up.immortal low).told
  | inr mortal ↦ elim (cases_lt 0 (counts_seen old.heap.cells old.seat.log c)) [
    | inl some ↦ elim (cases_lt (counts_seen old.heap.cells old.seat.log c) old.heap.local_limit) [
      | inl below ↦ OnLocal _ (up.own mortal (record { some_count = some; below = below }))
      | inr full ↦ let shared = up.shared mortal (λ here. absurd (omega (arith, here.below, full))) in
          OnShared shared.found shared.told
    ]
    | inr none ↦ let shared = up.shared mortal (λ here. absurd (omega (arith, here.some_count, none))) in
        OnShared shared.found shared.told
  ]
]

local_pops_none : (n : ℕ) (source : Source) (k found : ℕ) (part : Part) (o : Option ℕ)
    → (part_by n part (LocalUp source k) found [] o).popped ≡ part.popped
local_pops_none n source k found part None = refl
local_pops_none n source k found part (Some c) = refl

shared_pops_none : (n : ℕ) (source : Source) (k found : ℕ) (part : Part) (o : Option ℕ)
    → (part_by n part (SharedUp source k) found [] o).popped ≡ part.popped
shared_pops_none n source k found part None = refl
shared_pops_none n source k found part (Some c) = refl

pops_none : (n : ℕ) (source : Source) (k : ℕ) (before log : List LogItem) → OneUp source k before log
    → (part_seen n log).popped ≡ (part_seen n before).popped
pops_none n source k before log (OnLocal found told) = ap (λ l. (part_seen n l).popped) told
    ∙ local_pops_none n source k found (part_seen n before) (meant (part_seen n before) (LocalUp source k))
pops_none n source k before log (OnShared found told) = ap (λ l. (part_seen n l).popped) told
    ∙ shared_pops_none n source k found (part_seen n before) (meant (part_seen n before) (SharedUp source k))

pub given_keeps : {A : Type 0} (old new : FrameSeen A) (source : Source) (c : ℕ) (given : HandleSeen)
    → GivenHandle old new source c given
    → new.heap ≡ old.heap → KeepsThread old new
given_keeps old new source c given gives heap = record {
  heap = heap;
  thread = gives.seat.1;
  stage = gives.rest.stage;
  popped = ap (λ (h : TableSeen). (part_seen h.cells new.seat.log).popped) heap
      ∙ pops_none old.heap.cells source given.place old.seat.log new.seat.log
      (one_up old new source given.place c gives.counted);
  works = gives.works;
  from = gives.rest.from;
  near = gives.rest.near;
}
