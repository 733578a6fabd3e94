-- What each kind of step asks of its seat's log, and of nothing else.
use Rattle.std.specs.Prelude.{◌≡◌, ◌≢◌, ◌⊎◌, ℕ, ◌%◌, ◌<◌, ◌≤◌, ◌||◌, Bool, true, false, List, [], Some, None}
use Rattle.brc_words.specs.declared.limits.TheConstants.{FIRST_MORTAL, MOST_THREADS}
use Rattle.brc_words.specs.declared.look.TheConstants.{MERGED_BITS, ONE_COUNT}
use Rattle.law.specs.declared.world.event.Source.{Source}
use Rattle.law.specs.declared.world.event.Dropped.{Dropped}
use Rattle.law.specs.declared.world.event.Change.{Change}
use Rattle.law.specs.declared.world.event.Step.{Step}
use Rattle.law.specs.declared.world.event.Step.TheVariants.{Claim, Birth, LocalUp, LocalDown, SharedUp, LastDown, Untie}
use Rattle.law.specs.declared.world.event.Step.TheVariants.{MergeAdd, Enqueue, Close, Nudge, Unlock}
use Rattle.law.specs.declared.world.event.LastDropped.TheVariants as lasts
use Rattle.brc_words.specs.Kinds.{is_container}
use Rattle.law.specs.world.Steps.{is_active, is_keep, entries_changed}
use Rattle.law.specs.world.Heap.{words_for}
use Rattle.law.specs.declared.world.row.Hand.TheVariants as hands
use Rattle.law.specs.declared.world.row.Phase.TheVariants as phases
use Rattle.law.specs.declared.known.word.Field.TheVariants.{Owner, Shared}
use Rattle.law.specs.known.Items.{meant}
use Rattle.law.specs.known.Owners_Seen.{has_seen_owner}
use Rattle.brc_words.specs.declared.kind.Kind.{Kind}
use Rattle.law.specs.declared.rule.contents.Contents.{Contents}
use Rattle.law.specs.declared.rule.told.LogItem.{LogItem}
use Rattle.law.specs.rule.Keys.{KeysGo}
use Rattle.law.specs.rule.Logs.{kind_in, entries_in, log_items}
use Rattle.law.specs.rule.Seen.{part_seen, counts_seen, risen_seen, contents_locked, own_may}
use Rattle.law.specs.rule.Noted.{noted, newest_step, counted_before}

-- an own object whose count may rise
pub record MayRaise (n limit : ℕ) (log : List LogItem) (source : Source) (k c count : ℕ) : Type 0 where
  pub own : own_may n (part_seen n log) (LocalUp source k) ≡ true
  pub cell : meant (part_seen n log) (LocalUp source k) ≡ Some c
  pub mortal : FIRST_MORTAL ≤ c
  pub counted : counts_seen n log c ≡ count
  pub some_count : 0 < count
  pub below : count < limit

pub record MayRaiseImmortal (n : ℕ) (log : List LogItem) (source : Source) (k c : ℕ) : Type 0 where
  pub own : own_may n (part_seen n log) (LocalUp source k) ≡ true
  pub cell : meant (part_seen n log) (LocalUp source k) ≡ Some c
  pub immortal : c < FIRST_MORTAL

-- an own object
pub record MayLower (n : ℕ) (log : List LogItem) (drop : Dropped) (c count : ℕ) : Type 0 where
  pub own : own_may n (part_seen n log) (LocalDown drop) ≡ true
  pub cell : meant (part_seen n log) (LocalDown drop) ≡ Some c
  pub mortal : FIRST_MORTAL ≤ c
  pub counted : counts_seen n log c ≡ count
  pub some_count : 0 < count

pub record MayLowerImmortal (n : ℕ) (log : List LogItem) (drop : Dropped) (c : ℕ) : Type 0 where
  pub own : own_may n (part_seen n log) (LocalDown drop) ≡ true
  pub cell : meant (part_seen n log) (LocalDown drop) ≡ Some c
  pub immortal : c < FIRST_MORTAL

-- an object on whose local word the thread doesn't count, or has counted up to the limit
pub record MayRaiseShared (n limit : ℕ) (log : List LogItem) (source : Source) (k c : ℕ) : Type 0 where
  pub own : own_may n (part_seen n log) (SharedUp source k) ≡ true
  pub cell : meant (part_seen n log) (SharedUp source k) ≡ Some c
  pub mortal : FIRST_MORTAL ≤ c
  pub counted : (counts_seen n log c ≡ 0) ⊎ (limit ≤ counts_seen n log c)

-- a reference to an object on whose local word the thread doesn't count
pub record MayRelease (n : ℕ) (log : List LogItem) (s : Step) (c : ℕ) : Type 0 where
  pub own : own_may n (part_seen n log) s ≡ true
  pub cell : meant (part_seen n log) s ≡ Some c
  pub mortal : FIRST_MORTAL ≤ c
  pub counted : counts_seen n log c ≡ 0

-- the thread's own part allows a step on the cell in its hand, or on one that it names itself
pub record MayCarry (n : ℕ) (log : List LogItem) (s : Step) (c : ℕ) : Type 0 where
  pub own : own_may n (part_seen n log) s ≡ true
  pub cell : meant (part_seen n log) s ≡ Some c

-- a reference to an object that the thread has seen queued or merged
pub record EndsRisen (n : ℕ) (log : List LogItem) (drop : Dropped) (c : ℕ) : Type 0 where
  pub own : own_may n (part_seen n log) (LastDown (lasts.Dropped drop)) ≡ true
  pub cell : meant (part_seen n log) (LastDown (lasts.Dropped drop)) ≡ Some c
  pub mortal : FIRST_MORTAL ≤ c
  pub counted : counts_seen n log c ≡ 0
  pub risen : risen_seen n log drop c ≡ true

-- a mortal cell to make an object in
pub record MayClaimCell (n : ℕ) (log : List LogItem) (c : ℕ) : Type 0 where
  pub own : own_may n (part_seen n log) (Claim c) ≡ true
  pub mortal : FIRST_MORTAL ≤ c

-- a block that is put home as a new object of the cell
pub record MayBear (n : ℕ) (log : List LogItem) (block : ℕ × Contents) (kind : Kind) (k c : ℕ) : Type 0 where
  pub own : own_may n (part_seen n log) (Birth c kind k) ≡ true
  pub of_cell : block.0 ≡ c
  pub kind_is : kind_in block.1 ≡ kind
  pub empty : entries_in block.1 ≡ []

-- The block of the locked object, changed as the unlock says: it is of the kind that the locking found, and has the
-- entries and the keys that the change makes of those found; where nothing changes it is as it was found.
pub record MayUnlock (n : ℕ) (log : List LogItem) (block : ℕ × Contents) (found : Contents) (change : Change)
    (c : ℕ) : Type 0 where
  pub own : own_may n (part_seen n log) (Unlock change) ≡ true
  pub cell : meant (part_seen n log) (Unlock change) ≡ Some c
  pub of_cell : block.0 ≡ c
  pub was_found : contents_locked log ≡ Some found
  pub container : (is_keep change || is_container (kind_in found)) ≡ true
  pub same_kind : kind_in block.1 ≡ kind_in found
  pub entries : entries_in block.1 ≡ entries_changed change (part_seen n log).frame (entries_in found)
  pub keys : KeysGo change found block.1
  pub kept : is_keep change ≡ true → block.1 ≡ found

-- the thread's own part allows a step on a word that is no cell's
pub record MayStep (n : ℕ) (log : List LogItem) (s : Step) : Type 0 where
  pub own : own_may n (part_seen n log) s ≡ true

-- The next queue word. A thread that closes the first counts nothing any more: what it still owns is dead, and its own
-- to take apart.
pub record MayClose (n : ℕ) (log : List LogItem) (k : ℕ) : Type 0 where
  pub own : own_may n (part_seen n log) (Close k) ≡ true
  pub none : (c : ℕ) → FIRST_MORTAL ≤ c → c < n → counts_seen n log c ≡ 0

-- a thread that was found as an owner, and one of its queue words
pub record MayNudge (n : ℕ) (log : List LogItem) (q k : ℕ) : Type 0 where
  pub own : own_may n (part_seen n log) (Nudge q k) ≡ true
  pub seen : has_seen_owner (log_items log) q ≡ true
  pub some_thread : 0 < q
  pub few : q ≤ MOST_THREADS
  pub word : k < words_for n

-- ---- steps by a note: a look at a word of the cell, and no step of the thread's own since

-- a popped entry of an object that is noted as merged
pub record EndsPopped (n : ℕ) (log : List LogItem) (c number : ℕ) : Type 0 where
  pub own : own_may n (part_seen n log) (LastDown (lasts.Popped c)) ≡ true
  pub found : noted Shared c log ≡ Some number
  pub merged : number % ONE_COUNT ≡ MERGED_BITS

-- a popped entry of an object that the thread has just merged
pub record EndsAdded (n : ℕ) (log : List LogItem) (c : ℕ) : Type 0 where
  pub own : own_may n (part_seen n log) (LastDown (lasts.Popped c)) ≡ true
  pub added : newest_step log ≡ Some (MergeAdd c)

-- a popped entry, once the thread isn't active any more: what it owned it has handed over, so the object is merged
pub record EndsLeft (n : ℕ) (log : List LogItem) (c : ℕ) : Type 0 where
  pub own : own_may n (part_seen n log) (LastDown (lasts.Popped c)) ≡ true
  pub left : is_active (part_seen n log).row.stage ≡ false

-- a reference that a closed queue word didn't take: the object's owner has handed it over
pub record EndsShut (n : ℕ) (log : List LogItem) (c : ℕ) : Type 0 where
  pub own : own_may n (part_seen n log) (LastDown lasts.Hand) ≡ true
  pub hand : (part_seen n log).row.hand ≡ hands.Busy phases.Shut c

-- a reference that was asked for, of an object that is noted as nobody's
pub record EndsNobodys (n : ℕ) (log : List LogItem) (c : ℕ) : Type 0 where
  pub own : own_may n (part_seen n log) (LastDown lasts.Hand) ≡ true
  pub cell : meant (part_seen n log) (LastDown lasts.Hand) ≡ Some c
  pub found : noted Owner c log ≡ Some 0

-- an own object whose count is 0, and which others counted or asked for
pub record UntiesOver (n : ℕ) (log : List LogItem) (c : ℕ) : Type 0 where
  pub own : own_may n (part_seen n log) (Untie c) ≡ true
  pub hand : (part_seen n log).row.hand ≡ hands.Busy phases.Over c

-- An own object of which the thread has a count, to be handed over. That no thread has it to take apart, the count says.
pub record Offers (n : ℕ) (log : List LogItem) (c : ℕ) : Type 0 where
  pub active : is_active (part_seen n log).row.stage ≡ true
  pub unlocked : (part_seen n log).row.locked ≡ None
  pub hand : (part_seen n log).row.hand ≡ hands.Free
  pub mortal : FIRST_MORTAL ≤ c
  pub some_count : 0 < counts_seen n log c

-- an own object that the thread has offered
pub record UntiesOffered (n : ℕ) (log : List LogItem) (c : ℕ) : Type 0 where
  pub own : own_may n (part_seen n log) (Untie c) ≡ true
  pub hand : (part_seen n log).row.hand ≡ hands.Busy phases.Offered c

-- a popped entry of an object that is noted as not merged
pub record UntiesPopped (n : ℕ) (log : List LogItem) (c number : ℕ) : Type 0 where
  pub own : own_may n (part_seen n log) (Untie c) ≡ true
  pub active : is_active (part_seen n log).row.stage ≡ true
  pub hand : (part_seen n log).row.hand ≡ hands.Free
  pub found : noted Shared c log ≡ Some number
  pub unmerged : number % ONE_COUNT ≢ MERGED_BITS

-- an object of which the thread has popped a reference and that it has just made nobody's, with the count that its log
-- told before
pub record AddsLocal (n : ℕ) (log : List LogItem) (c local : ℕ) : Type 0 where
  pub own : own_may n (part_seen n log) (MergeAdd c) ≡ true
  pub hand : (part_seen n log).row.hand ≡ hands.Busy phases.Popping c
  pub untied : newest_step log ≡ Some (Untie c)
  pub counted : FIRST_MORTAL ≤ c → counted_before n c log ≡ local

-- an object that the thread hands over and has just made nobody's, with the count that its log told before
pub record MayYield (n : ℕ) (log : List LogItem) (c local : ℕ) : Type 0 where
  pub own : own_may n (part_seen n log) (MergeAdd c) ≡ true
  pub hand : (part_seen n log).row.hand ≡ hands.Busy phases.Yielding c
  pub untied : newest_step log ≡ Some (Untie c)
  pub counted : FIRST_MORTAL ≤ c → counted_before n c log ≡ local

-- an object that the thread has asked for, and that is noted as thread q's
pub record Enqueues (n : ℕ) (log : List LogItem) (c q : ℕ) : Type 0 where
  pub own : own_may n (part_seen n log) (Enqueue c) ≡ true
  pub found : noted Owner c log ≡ Some q
  pub owned : 0 < q
  pub thread : q ≤ MOST_THREADS
