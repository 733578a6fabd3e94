-- What is seen of a client that has numbers and no handles, and what a number names.
use Rattle.std.specs.Prelude.{◌≡◌, ◌≢◌, ◌<◌, ⊤, ℕ, List, Option, Some, None, length, get_or}
use Rattle.std.specs.declared.alloc.Global.{Global}
use Rattle.brc_heap.specs.Desk.{SightSeen}
use Rattle.brc_count.specs.Frames.{FrameSeen, HandleSeen, Owns}
use Rattle.brc_count.specs.Owned.{Keeps, Loses}
use Rattle.brc_handles.specs.Handles.{slot, IsApart}
use Rattle.brc_handles.specs.Standing.{Stands}
use Rattle.brc_client.specs.declared.status.Status.{Status}
use Rattle.brc_client.specs.declared.status.Status.TheVariants as statuses
use Rattle.brc_client.specs.Numbers.{NumbersSeen, number_at, place_in, stamp_in, once_more}

-- The thread's frame; the handle in each place, if one is there; the numbers of the places; the heap's root as
-- it was seen when the thread forked last, if it did; and the handle to None that is kept for scalars, once one went in.
pub record ClientSeen : Type 0 where
  pub frame : FrameSeen Global
  pub handles : List (Option HandleSeen)
  pub numbers : NumbersSeen
  pub seen : Option SightSeen
  pub none : Option HandleSeen

-- how many handles are kept beside those of the places
abbrev pub kept_count : Option HandleSeen → ℕ
kept_count None = 0
kept_count (Some _) = 1

-- the frame has the one that is kept, which is in none of the places
abbrev pub KeptBeside : FrameSeen Global → List (Option HandleSeen) → Option HandleSeen → Type 0
KeptBeside frame handles None = ⊤
KeptBeside frame handles (Some kept) = Owns frame kept × (kept.place < 65536) × IsApart kept handles

-- the one that was kept is released, if there was one
abbrev pub KeptGoes : FrameSeen Global → Option HandleSeen → FrameSeen Global → Type 0
KeptGoes old None new = new ≡ old
KeptGoes old (Some kept) new = Loses old new kept

-- What a client keeps from call to call: its frame has the handles that are there, the one that is kept and no others,
-- nothing is locked, and each handle lies in the place that has its own number in the frame.
pub record IsClient (frame : FrameSeen Global) (handles : List (Option HandleSeen)) (none : Option HandleSeen)
    : Type 0 where
  pub stands : Stands (kept_count none) frame handles
  pub kept : KeptBeside frame handles none
  pub lies : (k : ℕ) (h : HandleSeen) → slot handles k ≡ Some h → h.place ≡ k
  pub places : length handles ≡ 65536

-- The number names this handle. It lies in the place that the number says, and the number is spelled as that place is.
pub record NamesIn (handles : List (Option HandleSeen)) (numbers : NumbersSeen) (number : ℕ) (handle : HandleSeen)
    : Type 0 where
  pub there : slot handles (place_in number) ≡ Some handle
  pub spelled : number ≡ number_at numbers (place_in number)

abbrev pub NamesOneIn : List (Option HandleSeen) → NumbersSeen → ℕ → Type 0
NamesOneIn handles numbers number = (handle : HandleSeen) × NamesIn handles numbers number handle

-- Why it names none. Foreign: it is of another registration, or none. Stale: what it named is there no more, or never
-- was.
abbrev pub NamesNoneIn : List (Option HandleSeen) → NumbersSeen → ℕ → Status → Type 0
NamesNoneIn handles numbers number statuses.Foreign = stamp_in number ≢ numbers.stamp
NamesNoneIn handles numbers number statuses.Stale =
    (stamp_in number ≡ numbers.stamp) × (NamesOneIn handles numbers number → ⊥)
NamesNoneIn handles numbers number _ = ⊥

-- the same of a client
abbrev pub NamesAs : ClientSeen → ℕ → HandleSeen → Type 0
NamesAs client = NamesIn client.handles client.numbers

abbrev pub Names : ClientSeen → ℕ → Type 0
Names client = NamesOneIn client.handles client.numbers

abbrev pub NamesNone : ClientSeen → ℕ → Status → Type 0
NamesNone client = NamesNoneIn client.handles client.numbers

-- ---- from before a call to behind it

-- Each number names what it named, or nothing, as before; and what the frame owned it owns still.
pub record KeepsNumbers (old new : ClientSeen) : Type 0 where
  pub handles : new.handles ≡ old.handles
  pub numbers : new.numbers ≡ old.numbers
  pub none : new.none ≡ old.none
  pub frame : Keeps old.frame new.frame

-- the same client, whatever was seen of the heap's root
pub record SameClient (old new : ClientSeen) : Type 0 where
  pub frame : new.frame ≡ old.frame
  pub handles : new.handles ≡ old.handles
  pub numbers : new.numbers ≡ old.numbers
  pub none : new.none ≡ old.none

-- each number that named a handle names it still
abbrev pub KeepsNames : ClientSeen → ClientSeen → Type 0
KeepsNames old new = (n : ℕ) (h : HandleSeen) → NamesAs old n h → NamesAs new n h

-- each but one does, and that one names none
pub record SpendsName (old new : ClientSeen) (spent : ℕ) : Type 0 where
  pub none : Names new spent → ⊥
  pub others : (n : ℕ) (h : HandleSeen) → n ≢ spent → NamesAs old n h → NamesAs new n h

-- how often a place was vacated, once what it had is gone
abbrev pub vacated : Option HandleSeen → ℕ → ℕ
vacated None uses = uses
vacated (Some _) uses = once_more uses

-- Each place that had a handle was vacated once more, and no other was.
pub record SpendsEach (handles : List (Option HandleSeen)) (was is : NumbersSeen) : Type 0 where
  pub stamp : is.stamp ≡ was.stamp
  pub of : is.of ≡ was.of
  pub uses : (k : ℕ) → k < 65536 → get_or is.uses k 0 ≡ vacated (slot handles k) (get_or was.uses k 0)
