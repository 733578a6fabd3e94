-- A call on an object that is locked, as one from the frame that the locking began from.
use Rattle.std.proofs.Common.{◌≡◌, ◌+◌, ◌≤◌, ◌++◌, ℕ, true, [], ◌∷◌, Option, Some, None, Ok, Err, sym, ◌∙◌, ap}
use Rattle.std.proofs.Common.{subst, length, slice_get, slice_set}
use Rattle.std.specs.Result.{is_ok}
use Rattle.brc_words.specs.declared.entry.Entry.{Entry}
use Rattle.brc_words.specs.declared.fault.Fault.{Fault}
use Rattle.brc_words.specs.declared.fault.Fault.TheVariants as faults
use Rattle.brc_words.specs.declared.limits.TheConstants.{MOST_ENTRIES}
use Rattle.brc_count.specs.block.declared.payload.Payload.{Payload}
use Rattle.brc_count.specs.block.Payload.{noted_of, entries_of}
use Rattle.brc_count.specs.law.declared.world.event.Change.{Change}
use Rattle.brc_count.specs.law.declared.world.event.Change.TheVariants.{Keep, Put, Take, Swap}
use Rattle.brc_count.specs.law.declared.world.event.Source.TheVariants as sources
use Rattle.brc_count.specs.law.declared.world.event.Step.TheVariants.{Unlock}
use Rattle.brc_count.specs.law.declared.rule.contents.Contents.{Contents}
use Rattle.brc_count.specs.law.declared.rule.told.Moved.TheVariants as moves
use Rattle.brc_count.specs.law.declared.rule.told.LogItem.TheVariants.{Stepped}
use Rattle.brc_count.specs.law.rule.Logs.{entries_in}
use Rattle.brc_count.specs.table.Shown.{contents_of}
use Rattle.brc_count.specs.Frames.{FrameSeen, HandleSeen, GivenHandle, Refused, IsAsBefore}
use Rattle.brc_count.specs.Locking.{Changes}
use Rattle.brc_count.specs.Locking.{IsLocked, Began, UnlockedBy, KeepsThread, KeepsFrame, ChangesPlace, cell_in}
use Rattle.brc_count.specs.Locking.{contents_found, entries_found}
use Rattle.brc_count.proofs.Refusing.{refused_alike}
use Rattle.brc_things.specs.Changing.{PlainCall, KeepsAllPlaces, CallPuts, Swaps, CallTakes, Shares}
use Rattle.brc_things.specs.Changing.{RefusedPlainly}
use Rattle.brc_things.specs.Changing.{RefusedForWant, RefusedPlace}
use Rattle.brc_count.proofs.Kept.{thread_kept_on}
use Rattle.brc_things.specs.Since.{JustLocked}
use Rattle.brc_things.specs.Plain_Dicts.{dict_of, plain_put}
use Rattle.brc_things.specs.Putting.{RefusedRoomFor, RefusedPair}
use Rattle.brc_things.specs.Seeking.{IsAbsent}
use Rattle.brc_things.proofs.Shown.{noted_shown, entries_shown, put_full, put_may}
use Rattle.brc_words.specs.declared.key.Key.{Key}
use Rattle.brc_things.proofs.Sharing.{given_keeps}

-- the object was locked; since then a place more may need no memory
pub record Stood {A : Type 0} (before now : FrameSeen A) (k : ℕ) (block : ℕ × Payload A) : Type 0 where
  pub began : Began before now k block
  pub keeps : KeepsThread before now
  pub places : KeepsAllPlaces before now

module _ {A : Type 0} where
  pub stood : (before now : FrameSeen A) (k : ℕ) (block : ℕ × Payload A) → JustLocked before now k block
      → Stood before now k block
  stood before now k block since = record {
    began = since.began;
    keeps = since.keeps;
    places = record { places = since.frame.places; len = since.frame.len; next = since.frame.next };
  }

  with_room : (before now : FrameSeen A) (room k : ℕ) (block : ℕ × Payload A) → Stood before now k block
      → Stood before (record now { spare = room }) k block
  with_room before now room k block was = record {
    began = record {
      cell = was.began.cell;
      event = was.began.event;
      locked = was.began.locked;
      locks_place = was.began.locks_place;
      locks_cell = was.began.locks_cell;
      found = was.began.found;
      own = was.began.own;
    };
    keeps = record {
      heap = was.keeps.heap;
      thread = was.keeps.thread;
      stage = was.keeps.stage;
      popped = was.keeps.popped;
      works = was.keeps.works;
      from = was.keeps.from;
      near = was.keeps.near;
    };
    places = record { places = was.places.places; len = was.places.len; next = was.places.next };
  }

  pub stood_placed : (before now mid : FrameSeen A) (k : ℕ) (block : ℕ × Payload A) → JustLocked before now k block
      → IsAsBefore now mid
      → Stood before mid k block
  stood_placed before now mid k block since same =
      let P : FrameSeen A → Type 0 = λ f. Stood before f k block in
      subst P (sym same) (with_room before now mid.spare k block (stood before now k block since))

  -- what was found has the block's entries
  pub entries_are : (now : FrameSeen A) (payload : Payload A) → contents_found now ≡ contents_of payload
      → entries_found now ≡ entries_of payload
  entries_are now payload found = ap entries_in found ∙ entries_shown payload

  pub found_placed : (now mid : FrameSeen A) (found : Contents) → IsAsBefore now mid → contents_found now ≡ found
      → contents_found mid ≡ found
  found_placed now mid found same is = ap contents_found same ∙ is

  -- a locked object hasn't too many
  pub few_entries : (now : FrameSeen A) (payload : Payload A) → IsLocked now → contents_found now ≡ contents_of payload
      → length (entries_of payload) ≤ MOST_ENTRIES
  few_entries now payload locked found = subst (λ es. length es ≤ MOST_ENTRIES) (entries_are now payload found)
      locked.few

  -- so the entry that was sought is found there
  pub entry_found : (now : FrameSeen A) (payload : Payload A) (index cell : ℕ)
      → contents_found now ≡ contents_of payload
      → slice_get (entries_of payload) index ≡ Some cell → slice_get (entries_found now) index ≡ Some cell
  entry_found now payload index cell found entry = ap (λ es. slice_get es index) (entries_are now payload found) ∙ entry

  -- ---- what was done

  pub changes_since : (before now new : FrameSeen A) (k : ℕ) (block : ℕ × Payload A) (left : Payload A)
      (change : Change)
      → Stood before now k block → UnlockedBy now new change (block.0, left)
      → Changes before new k (contents_of block.1) change (contents_of left)
  changes_since before now new k block left change was ended = record {
    cell = block.0;
    of_place = was.began.cell;
    events = ended.event ∙ ap (λ log. Stepped (Unlock change) 0 (moves.Put block.0 (contents_of left)) ∷ log)
        was.began.event;
    unlocked = ended.unlocked;
    keeps = thread_kept_on was.keeps ended.keeps;
  }

  pub places_since : (before now new : FrameSeen A) (p : ℕ) (cell : Option ℕ) → KeepsAllPlaces before now
      → ChangesPlace now new p cell
      → ChangesPlace before new p cell
  places_since before now new p cell same places = record {
    has = places.has;
    others = λ j else. places.others j else ∙ same.places j;
  }

  pub refused_plainly : {R : Type 0} (before now new : FrameSeen A) (k : ℕ) (block : ℕ × Payload A) (call : PlainCall R)
      (fault : Fault)
      → Stood before now k block → UnlockedBy now new Keep block → call (contents_of block.1) ≡ Err fault
      → RefusedPlainly before new k call fault
  refused_plainly before now new k block call fault was ended plain = record {
    found = contents_of block.1;
    looks = changes_since before now new k block block.1 Keep was ended;
    plain = plain;
  }

  pub refused_for_want : {R : Type 0} (before now new : FrameSeen A) (k : ℕ) (block : ℕ × Payload A)
      (call : PlainCall R)
      → Stood before now k block → UnlockedBy now new Keep block → is_ok (call (contents_of block.1)) ≡ true
      → RefusedForWant before new k call
  refused_for_want before now new k block call was ended plain = record {
    found = contents_of block.1;
    looks = changes_since before now new k block block.1 Keep was ended;
    plain = plain;
  }

  -- a place was refused
  pub refused_place : {R : Type 0} (before now new : FrameSeen A) (k : ℕ) (call : PlainCall R) (fault : Fault)
      → now.len ≡ before.len → Refused now fault → RefusedForWant before new k call
      → RefusedPlace before new k call fault
  refused_place before now new k call faults.FrameFull len why want =
      (want, refused_alike before now faults.FrameFull len why)
  refused_place before now new k call faults.OutOfMemory len why want =
      (want, refused_alike before now faults.OutOfMemory len why)
  refused_place before now new k call _ len none want = absurd none

  -- ---- what the calls that succeed did

  abbrev pub takes_since : (before now new : FrameSeen A) (k : ℕ) (block : ℕ × Payload A) (left : Payload A)
      (call : PlainCall Entry) (index : ℕ) (cell : Entry) (given : HandleSeen)
      → Stood before now k block → UnlockedBy now new (Take index given.place) (block.0, left)
      → slice_get (noted_of block.1) index ≡ Some cell → call (contents_of block.1) ≡ Ok (cell, contents_of left)
      → given.heap ≡ now.heap → given.thread ≡ now.seat.thread → given.place ≡ now.next → cell_in now given.place ≡ None
      → ChangesPlace now new given.place (Some cell.cell) → new.len ≡ now.len + 1
      → CallTakes before new k call given
  takes_since before now new k block left call index cell given was ended entry plain heap thread next vacant places
      len = record {
        found = contents_of block.1;
        put = contents_of left;
        index = index;
        entry = cell;
        at_index = ap (λ es. slice_get es index) (noted_shown block.1) ∙ entry;
        plain = plain;
        changes = changes_since before now new k block left (Take index given.place) was ended;
        heap = heap ∙ was.keeps.heap;
        thread = thread ∙ was.keeps.thread;
        next = next ∙ was.places.next;
        vacant = sym (was.places.places given.place) ∙ vacant;
        places = places_since before now new given.place (Some cell.cell) was.places places;
        len = len ∙ ap (λ n. n + 1) was.places.len;
      }

  abbrev pub shares_since : (before now shared new : FrameSeen A) (k : ℕ) (block : ℕ × Payload A) (call : PlainCall Entry)
      (index : ℕ) (cell : Entry) (given : HandleSeen)
      → Stood before now k block → GivenHandle now shared (sources.Entry index) cell.cell given → shared.heap ≡ now.heap
      → UnlockedBy shared new Keep block → KeepsFrame shared new
      → slice_get (noted_of block.1) index ≡ Some cell → call (contents_of block.1) ≡ Ok (cell, contents_of block.1)
      → Shares before new k call given
  shares_since before now shared new k block call index cell given was gives heap ended frame entry plain = record {
    found = contents_of block.1;
    index = index;
    entry = cell;
    at_index = ap (λ es. slice_get es index) (noted_shown block.1) ∙ entry;
    plain = plain;
    cell = block.0;
    of_place = was.began.cell;
    locked = now;
    same_heap = was.keeps.heap;
    shared = shared;
    shared_heap = heap ∙ was.keeps.heap;
    locks = was.began.event;
    gives = gives;
    unlocks = ended.event;
    before = was.places;
    after = frame;
    unlocked = ended.unlocked;
    keeps = thread_kept_on was.keeps
        (thread_kept_on (given_keeps now shared (sources.Entry index) cell.cell given gives heap) ended.keeps);
  }

  pub puts_since : {R : Type 0} (before now new : FrameSeen A) (k v : ℕ) (block : ℕ × Payload A) (left : Payload A)
      (call : ℕ → PlainCall R) (answer : R) (value : ℕ)
      → Stood before now k block → UnlockedBy now new (Put v) (block.0, left)
      → cell_in now v ≡ Some value → call value (contents_of block.1) ≡ Ok (answer, contents_of left)
      → ChangesPlace now new v None → new.len + 1 ≡ now.len
      → CallPuts before new k v call answer
  puts_since before now new k v block left call answer value was ended of_value plain places len = record {
    value = value;
    of_value = sym (was.places.places v) ∙ of_value;
    found = contents_of block.1;
    put = contents_of left;
    plain = plain;
    changes = changes_since before now new k block left (Put v) was ended;
    places = places_since before now new v None was.places places;
    len = len ∙ was.places.len;
  }

  abbrev pub swaps_since : {R : Type 0} (before now new : FrameSeen A) (k v : ℕ) (block : ℕ × Payload A) (left : Payload A)
      (call : ℕ → PlainCall R) (answer : Entry → R)
      (value index : ℕ) (cell : Entry)
      → Stood before now k block → UnlockedBy now new (Swap index v) (block.0, left)
      → cell_in now v ≡ Some value → slice_get (noted_of block.1) index ≡ Some cell
      → call value (contents_of block.1) ≡ Ok (answer cell, contents_of left)
      → ChangesPlace now new v (Some cell.cell) → new.len ≡ now.len
      → Swaps before new k v call answer
  swaps_since before now new k v block left call answer value index cell was ended of_value entry plain places
      len = record {
        value = value;
        of_value = sym (was.places.places v) ∙ of_value;
        found = contents_of block.1;
        put = contents_of left;
        index = index;
        entry = cell;
        at_index = ap (λ es. slice_get es index) (noted_shown block.1) ∙ entry;
        plain = plain;
        changes = changes_since before now new k block left (Swap index v) was ended;
        places = places_since before now new v (Some cell.cell) was.places places;
        len = len ∙ was.places.len;
      }

-- ---- puts

same_cell : {a b : ℕ} → Some a ≡ Some b → a ≡ b
same_cell same = cc

module _ {A : Type 0} where
  -- what an unlocking put home is what was found
  pub ended_same : (now new : FrameSeen A) (change : Change) (block : ℕ × Payload A) (left : Payload A)
      → UnlockedBy now new change (block.0, left)
      → contents_of left ≡ contents_of block.1 → UnlockedBy now new change block
  ended_same now new change block left ended same = record {
    event = ended.event ∙ ap (λ put. Stepped (Unlock change) 0 (moves.Put block.0 put) ∷ now.seat.log) same;
    unlocked = ended.unlocked;
    keeps = ended.keeps;
  }

  -- room for a new key was refused
  pub refused_append : (before now new : FrameSeen A) (k : ℕ) (block : ℕ × Payload A) (key : Key A) (value : Entry)
      (fault : Fault)
      → Stood before now k block → UnlockedBy now new Keep block → IsAbsent block.1 key
      → RefusedRoomFor (length (entries_of block.1)) fault
      → RefusedPair before new k (plain_put key value) fault
  refused_append before now new k block key value faults.Full was ended absent full =
      refused_plainly before now new k block (plain_put key value) faults.Full was ended
      (put_full key value block.1 absent full)
  refused_append before now new k block key value faults.OutOfMemory was ended absent few = record {
    found = contents_of block.1;
    put = dict_of (absent.pairs.items ++ (key, value) ∷ []);
    looks = changes_since before now new k block block.1 Keep was ended;
    plain = put_may key value block.1 absent few;
  }
  refused_append before now new k block key value _ was ended absent none = absurd none

  -- the entries that a put leaves, by the cell of the value
  pub entries_put : (now : FrameSeen A) (old left : Payload A) (cell value : ℕ) → contents_found now ≡ contents_of old
      → entries_of left ≡ entries_of old ++ cell ∷ [] → Some cell ≡ Some value
      → entries_in (contents_of left) ≡ entries_found now ++ value ∷ []
  entries_put now old left cell value found more same =
      entries_shown left ∙ more ∙ ap (λ es. es ++ cell ∷ []) (sym (entries_are now old found))
      ∙ ap (λ c. entries_found now ++ c ∷ []) (same_cell same)

  pub entries_set : (now : FrameSeen A) (old left : Payload A) (index cell value : ℕ)
      → contents_found now ≡ contents_of old
      → entries_of left ≡ slice_set (entries_of old) index cell → Some cell ≡ Some value
      → entries_in (contents_of left) ≡ slice_set (entries_found now) index value
  entries_set now old left index cell value found set same =
      entries_shown left ∙ set ∙ ap (λ es. slice_set es index cell) (sym (entries_are now old found))
      ∙ ap (slice_set (entries_found now) index) (same_cell same)
