-- Which handles a frame owns after a call, from what the call does to its places.
use Rattle.std.proofs.Common.{◌≡◌, ◌≢◌, ℕ, ◌+◌, ◌<◌, true, Option, Some, None, is_some, refl, sym, ◌∙◌, ap}
use Rattle.brc_table.specs.law.declared.world.event.Source.{Source}
use Rattle.brc_count.specs.Frames.{FrameSeen, HandleSeen, Owns, GivenHandle, ReleasedOf}
use Rattle.brc_count.specs.Locking.{cell_in, KeepsThread, KeepsFrame, ChangesPlace}
use Rattle.brc_count.specs.Owned.{Keeps, Gains, Loses}
use Rattle.brc_words.specs.declared.limits.TheConstants.{MOST_PLACES}

none_filled : {X : Type 0} {o : Option X} → is_some o ≡ true → o ≡ None → ⊥
none_filled filled none = cc

-- a place without a reference is none that has one
pub vacant_else : {X : Type 0} (cell : ℕ → Option X) (j k : ℕ) → is_some (cell j) ≡ true → cell k ≡ None → k ≢ j
vacant_else cell j k filled vacant = λ same. none_filled filled (ap cell (sym same) ∙ vacant)

pub flipped : {j k : ℕ} → j ≢ k → k ≢ j
flipped else = λ same. else (sym same)

-- what is filled has a cell
pub filled_with : (o : Option ℕ) → is_some o ≡ true → (c : ℕ) × (o ≡ Some c)
filled_with (Some c) filled = (c, refl)
filled_with None filled = cc

module _ {A : Type 0} where
  -- ---- a call after others

  pub keeps_all : (frame : FrameSeen A) → Keeps frame frame
  keeps_all frame = record { heap = refl; len = refl; owns = λ h owns. owns }

  pub keeps_on : {old mid new : FrameSeen A} → Keeps old mid → Keeps mid new → Keeps old new
  keeps_on first second = record {
    heap = second.heap ∙ first.heap;
    len = second.len ∙ first.len;
    owns = λ h owns. second.owns h (first.owns h owns);
  }

  -- ---- a place that is as it was is owned as it was

  pub owns_still : (old new : FrameSeen A) (h : HandleSeen) → new.heap ≡ old.heap → new.seat.thread ≡ old.seat.thread
      → cell_in new h.place ≡ cell_in old h.place → Owns old h → Owns new h
  owns_still old new h heap thread same owns = record {
    heap = owns.heap ∙ sym heap;
    thread = owns.thread ∙ sym thread;
    filled = ap is_some same ∙ owns.filled;
  }

  pub owns_kept : (old new : FrameSeen A) (h : HandleSeen) → KeepsThread old new → KeepsFrame old new → Owns old h
      → Owns new h
  owns_kept old new h thread frame owns = owns_still old new h thread.heap thread.thread (frame.places h.place) owns

  pub frame_keeps : (old new : FrameSeen A) → KeepsThread old new → KeepsFrame old new → Keeps old new
  frame_keeps old new thread frame =
      record { heap = thread.heap; len = frame.len; owns = λ h owns. owns_kept old new h thread frame owns }

  -- ---- one place changes

  -- a handle's reference went into an object
  pub put_loses : (old new : FrameSeen A) (gone : HandleSeen) → KeepsThread old new
      → ChangesPlace old new gone.place None
      → new.len + 1 ≡ old.len → Loses old new gone
  put_loses old new gone thread places len = record {
    heap = thread.heap;
    len = len;
    owns = λ h owns else. owns_still old new h thread.heap thread.thread (places.others h.place (flipped else)) owns;
  }

  -- a place that had no reference has one now
  gains_place : (old new : FrameSeen A) (given : HandleSeen) (c : ℕ) → given.heap ≡ old.heap
      → given.thread ≡ old.seat.thread
      → new.heap ≡ old.heap → new.seat.thread ≡ old.seat.thread → new.len ≡ old.len + 1 → given.place < MOST_PLACES
      → cell_in old given.place ≡ None
      → cell_in new given.place ≡ Some c → ((k : ℕ) → k ≢ given.place → cell_in new k ≡ cell_in old k)
      → Gains old new given
  gains_place old new given c own_heap own heap thread len room vacant has others =
      let apart : (h : HandleSeen) → Owns old h → given.place ≢ h.place =
      λ h owns. vacant_else (cell_in old) h.place given.place owns.filled vacant in
      record {
        heap = heap;
        len = len;
        owns = λ h owns. owns_still old new h heap thread (others h.place (flipped (apart h owns))) owns;
        owned = record { heap = own_heap ∙ sym heap; thread = own ∙ sym thread; filled = ap is_some has };
        room = room;
        apart = apart;
      }

  -- a reference came out of an object
  pub taken_gains : (old new : FrameSeen A) (given : HandleSeen) (c : ℕ) → KeepsThread old new → given.heap ≡ old.heap
      → given.thread ≡ old.seat.thread → given.place < MOST_PLACES → cell_in old given.place ≡ None
      → ChangesPlace old new given.place (Some c)
      → new.len ≡ old.len + 1 → Gains old new given
  taken_gains old new given c thread own_heap own room vacant places len =
      gains_place old new given c own_heap own thread.heap thread.thread len room vacant places.has places.others

  -- a new handle has a reference
  pub given_gains : (old new : FrameSeen A) (source : Source) (c : ℕ) (given : HandleSeen) → new.heap ≡ old.heap
      → GivenHandle old new source c given → Gains old new given
  given_gains old new source c given heap g =
      gains_place old new given c g.heap g.thread heap g.seat.1 g.len g.room g.vacant g.has g.others

  -- a handle's reference goes
  pub released_loses : (old new : FrameSeen A) (gone : HandleSeen) (c : ℕ) → new.heap ≡ old.heap
      → new.seat.thread ≡ old.seat.thread
      → new.len + 1 ≡ old.len → ReleasedOf old new gone.place c → Loses old new gone
  released_loses old new gone c heap thread len goes = record {
    heap = heap;
    len = len;
    owns = λ h owns else. owns_still old new h heap thread (goes.others h.place (flipped else)) owns;
  }

  -- ---- a handle's place is filled, so that what is said of its cell holds

  pub release_loses : (old new : FrameSeen A) (gone : HandleSeen) → new.heap ≡ old.heap
      → new.seat.thread ≡ old.seat.thread
      → new.len + 1 ≡ old.len → Owns old gone
      → ((c : ℕ) → cell_in old gone.place ≡ Some c → ReleasedOf old new gone.place c)
      → Loses old new gone
  release_loses old new gone heap thread len owns goes =
      let has = filled_with (cell_in old gone.place) owns.filled in released_loses old new gone has.0 heap thread len
      (goes has.0 has.1)
