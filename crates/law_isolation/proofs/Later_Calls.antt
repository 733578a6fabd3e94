-- What a call did stands after what was done before it.
use Rattle.std.proofs.Common.{arith, ◌≡◌, ◌≤◌, ◌<◌, ℕ, List, [], ◌∷◌, ◌++◌, Option, Some, None, Result, Ok, Err, ◌⊎◌}
use Rattle.std.proofs.Common.{inl, inr, refl, sym, subst}
use Rattle.std.proofs.lemmas.Bool.Decides.{leb_tells}
use Rattle.brc_words.specs.declared.entry.Entry.{Entry}
use Rattle.brc_words.specs.declared.fault.Fault.{Fault}
use Rattle.brc_words.specs.declared.fault.Fault.TheVariants as faults
use Rattle.brc_words.specs.declared.limits.TheConstants.{FIRST_MORTAL}
use Rattle.brc_count.specs.law.declared.world.event.Change.{Change}
use Rattle.brc_count.specs.law.declared.world.event.Source.{Source}
use Rattle.brc_count.specs.law.declared.rule.contents.Contents.{Contents}
use Rattle.brc_count.specs.law.declared.rule.told.LogItem.{LogItem}
use Rattle.brc_count.specs.Frames.{FrameSeen, HandleSeen, GivenHandle, CountsUp, IsAsBefore}
use Rattle.brc_count.specs.biased.Up.{CountsHere}
use Rattle.brc_count.specs.biased.Seeking.{ClaimsAround, PassesOver}
use Rattle.brc_count.specs.Making.{Made}
use Rattle.brc_count.specs.law.rule.Seen.{counts_seen}
use Rattle.brc_things.specs.Waiting.{Waits, IsBusy}
use Rattle.brc_count.specs.Locking.{Changes}
use Rattle.brc_things.specs.Called.{Late}
use Rattle.brc_things.specs.Changing.{PlainCall, CallPuts, Swaps, CallTakes, Shares, RefusedPlainly}
use Rattle.brc_things.specs.Changing.{RefusedForWant}
use Rattle.brc_things.specs.Looking.{LooksAt}
use Rattle.brc_count.specs.law.living.Later.{IsLater}
use Rattle.brc_count.proofs.law.living.Earlier.{later_same, later_one, later_both, later_is}

-- the thread counts the cell on its local word, or doesn't
here_or : (n limit : ℕ) (log : List LogItem) (c : ℕ) → (CountsHere n limit log c) ⊎ (¬ CountsHere n limit log c)
here_or n limit log c = elim (leb_tells 1 (counts_seen n log c)) [
  | inl some ↦ elim (leb_tells limit (counts_seen n log c)) [
    | inl at_limit ↦ inr (λ here. omega (arith, here.below, at_limit.1))
    | inr below ↦ inl (record { some_count = omega (arith, some.1); below = below.1 })
  ]
  | inr none ↦ inr (λ here. omega (arith, here.some_count, none.1))
]

-- one step more
one_more : (old : List LogItem) (x : LogItem) (new : List LogItem) → new ≡ x ∷ old → IsLater old new
one_more old x new is = later_is old new (x ∷ old) is (later_one x old old (later_same old))

module _ {A : Type 0} where
  pub later_waits : {old : FrameSeen A} {k : ℕ} {new : FrameSeen A} → Waits old k new
      → IsLater old.seat.log new.seat.log
  later_waits {old = old} Waits.NoTry = later_same old.seat.log
  later_waits {old = old} {new = new} (Waits.OneMore mid _ waits busy) =
      later_is old.seat.log new.seat.log _ busy.busy.note (later_one _ old.seat.log mid.seat.log (later_waits waits))

  pub later_changes : {old new : FrameSeen A} {k : ℕ} {found : Contents} {change : Change} {put : Contents}
      → Changes old new k found change put → IsLater old.seat.log new.seat.log
  later_changes {old = old} {new = new} changes =
      later_is old.seat.log new.seat.log _ changes.events
      (later_one _ old.seat.log _ (later_one _ old.seat.log old.seat.log (later_same old.seat.log)))

  pub later_looks : {old new : FrameSeen A} {k : ℕ} {found : Contents} → LooksAt old new k found
      → IsLater old.seat.log new.seat.log
  later_looks {old = old} {new = new} looks =
      later_is old.seat.log new.seat.log _ looks.events
      (later_one _ old.seat.log _ (later_one _ old.seat.log old.seat.log (later_same old.seat.log)))

  counted : (old new : FrameSeen A) (source : Source) (k c : ℕ) → CountsUp old new source k c
      → IsLater old.seat.log new.seat.log
  counted old new source k c up = elim (leb_tells FIRST_MORTAL c) [
    | inr immortal ↦ one_more old.seat.log _ new.seat.log (up.immortal immortal.1).told
    | inl mortal ↦ elim (here_or old.heap.cells old.heap.local_limit old.seat.log c) [
      | inl own ↦ one_more old.seat.log _ new.seat.log (up.own mortal.1 own)
      | inr others ↦ one_more old.seat.log _ new.seat.log (up.shared mortal.1 others).told
    ]
  ]

  pub later_given : {old new : FrameSeen A} {source : Source} {c : ℕ} {given : HandleSeen}
      → GivenHandle old new source c given
      → IsLater old.seat.log new.seat.log
  later_given {old = old} {new = new} {source = source} {c = c} {given = given} is =
      counted old new source given.place c is.counted

  pub later_made : {old new : FrameSeen A} {put : Contents} {given : HandleSeen} → Made old new put given
      → IsLater old.seat.log new.seat.log
  later_made {old = old} {new = new} made =
      let looked : IsLater old.seat.log made.claimed.mid =
      record { items = made.claimed.passed.looks; is = made.claimed.passed.above }
      in let claimed : IsLater old.seat.log made.mid = later_is old.seat.log made.mid _ made.claimed.told
      (later_one _ old.seat.log made.claimed.mid looked)
      in later_is old.seat.log new.seat.log _ made.told
      (later_one _ old.seat.log _ (later_one _ old.seat.log _ (later_one _ old.seat.log made.mid claimed)))

  pub later_shares : {old new : FrameSeen A} {k : ℕ} {call : PlainCall Entry} {given : HandleSeen}
      → Shares old new k call given
      → IsLater old.seat.log new.seat.log
  later_shares {old = old} {new = new} is =
      let locks : IsLater old.seat.log is.locked.seat.log = one_more old.seat.log _ is.locked.seat.log is.locks
      in let unlocks : IsLater is.shared.seat.log new.seat.log = one_more is.shared.seat.log _ new.seat.log is.unlocks
      in later_both old.seat.log is.locked.seat.log new.seat.log locks
      (later_both is.locked.seat.log is.shared.seat.log new.seat.log (later_given is.gives) unlocks)

  -- after some lost tries
  pub later_late : {old : FrameSeen A} (new : FrameSeen A) {k : ℕ} {done : FrameSeen A → Type 0}
      → ((mid : FrameSeen A) → done mid → IsLater mid.seat.log new.seat.log) → Late old k done
      → IsLater old.seat.log new.seat.log
  later_late {old = old} new then late =
      later_both old.seat.log late.0.seat.log new.seat.log (later_waits late.1) (then late.0 late.2)
