-- A locking and what is done within it, as one call.
use Rattle.std.proofs.Common.{◌≡◌, ℕ, ◌+◌, ◌∷◌, List, Option, Some, None, true, is_ok, sym, ◌∙◌, ap, subst}
use Rattle.std.proofs.Common.{Result, Ok, Err}
use Rattle.std.specs.Result.{IfOk, IfErr, OnOk, OnErr}
use Rattle.brc_words.specs.declared.entry.Entry.{Entry}
use Rattle.brc_words.specs.declared.fault.Fault.{Fault}
use Rattle.brc_words.specs.declared.fault.Fault.TheVariants as faults
use Rattle.brc_count.specs.block.declared.payload.Payload.{Payload}
use Rattle.brc_count.specs.law.declared.world.event.Change.{Change}
use Rattle.brc_count.specs.law.declared.world.event.Change.TheVariants.{Keep, Put, Take, Swap}
use Rattle.brc_count.specs.law.declared.world.event.Step.TheVariants.{Lock, Unlock}
use Rattle.brc_count.specs.law.declared.rule.contents.Contents.{Contents}
use Rattle.brc_count.specs.law.declared.rule.told.Moved.TheVariants as moves
use Rattle.brc_count.specs.law.declared.rule.told.LogItem.{LogItem}
use Rattle.brc_count.specs.law.declared.rule.told.LogItem.TheVariants.{Stepped}
use Rattle.brc_count.specs.table.Seated.{SeatSeen}
use Rattle.brc_count.specs.table.Shown.{contents_of}
use Rattle.brc_count.specs.declared.handed.HandedBack.{HandedBack}
use Rattle.brc_count.specs.Frames.{FrameSeen, HandleSeen}
use Rattle.brc_count.specs.Locking.{Changes}
use Rattle.brc_count.specs.Locking.{Began, KeepsThread, KeepsFrame, ChangesPlace, contents_found}
use Rattle.brc_count.proofs.Refusing.{refused_alike}
use Rattle.brc_things.specs.Called.{HandsOut}
use Rattle.brc_things.specs.Changing.{PlainCall, KeepsAllPlaces, CallPuts, Swaps, CallTakes, Shares}
use Rattle.brc_things.specs.Changing.{RefusedPlainly}
use Rattle.brc_things.specs.Changing.{RefusedForWant, RefusedCall, RefusedEntry, RefusedPlace}
use Rattle.brc_count.proofs.Kept.{thread_kept_on, frame_kept_on}
use Rattle.brc_things.specs.List_Calls.{PutsValue, SwapsValue, TakesEntry, SharesEntry}
use Rattle.brc_things.specs.Within.{EndsWith, PutsIn, SwapsIn, TakesOut, SharesOut, RefusesPlainly, RefusesEntry}
use Rattle.brc_things.specs.Within.{RefusesPlace}

some_is : {a b : ℕ} → Some a ≡ Some b → a ≡ b
some_is same = cc

module _ {A : Type 0} where
  -- ---- the places, after a locking

  changes_after : (old locked new : FrameSeen A) (k : ℕ) (cell : Option ℕ) → KeepsFrame old locked
      → ChangesPlace locked new k cell → ChangesPlace old new k cell
  changes_after old locked new k cell frame changes = record {
    has = changes.has;
    others = λ j other. changes.others j other ∙ frame.places j;
  }

  places_after : (old locked new : FrameSeen A) → KeepsFrame old locked → KeepsAllPlaces locked new
      → KeepsAllPlaces old new
  places_after old locked new frame places = record {
    places = λ k. places.places k ∙ frame.places k;
    len = places.len ∙ frame.len;
    next = places.next ∙ frame.next;
  }

  -- ---- the events of a whole call

  began_ends : (old locked new : FrameSeen A) (k : ℕ) (block : ℕ × Payload A) (change : Change) (put : Contents)
      → Began old locked k block → KeepsThread old locked → EndsWith locked new change put
      → Changes old new k (contents_found locked) change put
  began_ends old locked new k block change put began thread ends =
      let cell : ends.block.0 ≡ block.0 = some_is (sym ends.locks_cell ∙ began.locks_cell) in
      let unlocks : Contents → ℕ → List LogItem
      → List LogItem = λ p c log. Stepped (Unlock change) 0 (moves.Put c p) ∷ log in
      record {
        cell = block.0;
        of_place = began.cell;
        events = ends.ended.event ∙ ap (λ c. unlocks (contents_of ends.block.1) c locked.seat.log) cell
            ∙ ap (λ p. unlocks p block.0 locked.seat.log) ends.holds
            ∙ ap (unlocks put block.0)
            (began.event ∙ ap (λ p. Stepped (Lock k) 0 (moves.Found block.0 p) ∷ old.seat.log)
            (sym began.found));
        unlocked = ends.ended.unlocked;
        keeps = thread_kept_on thread ends.ended.keeps;
      }

-- ---- what succeeded

module _ {A R : Type 0} where
  puts_all : (old locked new : FrameSeen A) (k v : ℕ) (block : ℕ × Payload A) (call : ℕ → PlainCall R) (answer : R)
      → Began old locked k block
      → KeepsThread old locked → KeepsFrame old locked → PutsIn locked new v call answer
      → CallPuts old new k v call answer
  puts_all old locked new k v block call answer began thread frame puts = record {
    value = puts.value;
    of_value = sym (frame.places v) ∙ puts.of_value;
    found = contents_found locked;
    put = puts.put;
    plain = puts.plain;
    changes = began_ends old locked new k block (Put v) puts.put began thread puts.ends;
    places = changes_after old locked new v None frame puts.places;
    len = puts.len ∙ frame.len;
  }

  swaps_all : (old locked new : FrameSeen A) (k v : ℕ) (block : ℕ × Payload A) (call : ℕ → PlainCall R) (answer : Entry → R)
      → Began old locked k block
      → KeepsThread old locked → KeepsFrame old locked → SwapsIn locked new v call answer
      → Swaps old new k v call answer
  swaps_all old locked new k v block call answer began thread frame swaps = record {
    value = swaps.value;
    of_value = sym (frame.places v) ∙ swaps.of_value;
    found = contents_found locked;
    put = swaps.put;
    index = swaps.index;
    entry = swaps.entry;
    at_index = swaps.at_index;
    plain = swaps.plain;
    changes = began_ends old locked new k block (Swap swaps.index v) swaps.put began thread swaps.ends;
    places = changes_after old locked new v (Some swaps.entry.cell) frame swaps.places;
    len = swaps.len ∙ frame.len;
  }

module _ {A : Type 0} where
  takes_all : (old locked new : FrameSeen A) (k : ℕ) (block : ℕ × Payload A) (within call : PlainCall Entry)
      (given : HandleSeen)
      → call (contents_found locked) ≡ within (contents_found locked) → Began old locked k block
      → KeepsThread old locked → KeepsFrame old locked
      → TakesOut locked new within given → CallTakes old new k call given
  takes_all old locked new k block within call given same began thread frame takes = record {
    found = contents_found locked;
    put = takes.put;
    index = takes.index;
    entry = takes.entry;
    at_index = takes.at_index;
    plain = same ∙ takes.plain;
    changes = began_ends old locked new k block (Take takes.index given.place) takes.put began thread takes.ends;
    heap = takes.heap ∙ thread.heap;
    thread = takes.thread ∙ thread.thread;
    next = takes.next ∙ frame.next;
    vacant = sym (frame.places given.place) ∙ takes.vacant;
    places = changes_after old locked new given.place (Some takes.entry.cell) frame takes.places;
    len = takes.len ∙ ap (λ n. n + 1) frame.len;
  }

  shares_all : (old locked new : FrameSeen A) (k : ℕ) (block : ℕ × Payload A) (call : PlainCall Entry) (given : HandleSeen)
      → Began old locked k block
      → KeepsThread old locked → KeepsFrame old locked → KeepsThread locked new → SharesOut locked new call given
      → Shares old new k call given
  shares_all old locked new k block call given began thread frame thread_on shares =
      let ends = shares.ends in
      let found = contents_found locked in
      let cell : ends.block.0 ≡ block.0 = some_is (sym ends.locks_cell ∙ shares.same_cell ∙ began.locks_cell) in
      record {
        found = found;
        index = shares.index;
        entry = shares.entry;
        at_index = shares.at_index;
        plain = shares.plain;
        cell = block.0;
        of_place = began.cell;
        locked = shares.ready;
        shared = shares.shared;
        same_heap = shares.same_heap ∙ thread.heap;
        shared_heap = shares.shared_heap ∙ thread.heap;
        locks = ap (λ (s : SeatSeen A). s.log) shares.same_seat ∙ began.event
            ∙ ap (λ p. Stepped (Lock k) 0 (moves.Found block.0 p) ∷ old.seat.log) (sym began.found);
        gives = shares.gives;
        unlocks = ends.ended.event
            ∙ ap (λ c. Stepped (Unlock Keep) 0 (moves.Put c (contents_of ends.block.1)) ∷ shares.shared.seat.log) cell
            ∙ ap (λ p. Stepped (Unlock Keep) 0 (moves.Put block.0 p) ∷ shares.shared.seat.log) ends.holds;
        before = places_after old locked shares.ready frame shares.before;
        after = shares.after;
        unlocked = ends.ended.unlocked;
        keeps = thread_kept_on thread thread_on;
      }

-- ---- what was refused

module _ {A R : Type 0} where
  plainly : (old new : FrameSeen A) (k : ℕ) (call : PlainCall R) (found : Contents) → Changes old new k found Keep found
      → (fault : Fault)
      → call found ≡ Err fault → RefusedPlainly old new k call fault
  plainly old new k call found looks fault is = record { found = found; looks = looks; plain = is }

  for_want : (old new : FrameSeen A) (k : ℕ) (call : PlainCall R) (found : Contents)
      → Changes old new k found Keep found
      → is_ok (call found) ≡ true → RefusedForWant old new k call
  for_want old new k call found looks is = record { found = found; looks = looks; plain = is }

  call_refused : (old new : FrameSeen A) (k : ℕ) (call : PlainCall R) (found : Contents)
      → Changes old new k found Keep found → (fault : Fault)
      → RefusesPlainly (call found) fault → RefusedCall old new k call fault
  call_refused old new k call found looks faults.Busy why = absurd why
  call_refused old new k call found looks fault why = plainly old new k call found looks fault why

  entry_refused : (old new : FrameSeen A) (k : ℕ) (call : PlainCall R) (found : Contents)
      → Changes old new k found Keep found → (fault : Fault)
      → RefusesEntry (call found) fault → RefusedEntry old new k call fault
  entry_refused old new k call found looks faults.Busy why = absurd why
  entry_refused old new k call found looks faults.OutOfMemory why = for_want old new k call found looks why
  entry_refused old new k call found looks fault why = plainly old new k call found looks fault why

  place_refused : (old locked new : FrameSeen A) (k : ℕ) (call : PlainCall R) (found : Contents) → KeepsFrame old locked
      → Changes old new k found Keep found → (fault : Fault) → RefusesPlace locked (call found) fault
      → RefusedPlace old new k call fault
  place_refused old locked new k call found frame looks faults.Busy why = absurd why
  place_refused old locked new k call found frame looks faults.FrameFull why =
      (for_want old new k call found looks why.0, refused_alike old locked faults.FrameFull frame.len why.1)
  place_refused old locked new k call found frame looks faults.OutOfMemory why =
      (for_want old new k call found looks why.0, refused_alike old locked faults.OutOfMemory frame.len why.1)
  place_refused old locked new k call found frame looks fault why = plainly old new k call found looks fault why

-- ---- a whole call, by its shape: of a form with `try_` from the frame before it, of one that waits from the one after
-- its lost tries

module _ {A : Type 0} where
  pub puts_value : (v : ℕ) (call : ℕ → PlainCall (Unit {0})) (r : Result (Unit {0}) (HandedBack HandleSeen))
      (locked new : FrameSeen A)
      {old : FrameSeen A} {k : ℕ} {block : ℕ × Payload A} → Began old locked k block → KeepsThread old locked
      → KeepsFrame old locked → KeepsThread locked new
      → OnOk r (PutsIn locked new v call tt) → OnErr r (KeepsFrame locked new)
      → OnErr r (EndsWith locked new Keep (contents_found locked))
      → IfErr r (λ handed. (c : ℕ) → RefusesEntry (call c (contents_found locked)) handed.fault)
      → PutsValue old new k v call r
  puts_value v call (Ok done) locked new began thread frame then puts same kept why = record {
    thread = thread_kept_on thread then;
    did = puts_all _ _ _ _ v _ call tt began thread frame puts;
    frame = tt;
    refused = tt;
  }
  puts_value v call (Err handed) locked new began thread frame then puts same kept why = record {
    thread = thread_kept_on thread then;
    did = tt;
    frame = frame_kept_on frame same;
    refused = λ c is. entry_refused _ _ _ (call c) _ (began_ends _ _ _ _ _ Keep _ began thread kept)
        handed.fault (why c);
  }

  pub swaps_value : (v : ℕ) (call : ℕ → PlainCall Entry) (r : Result HandleSeen (HandedBack HandleSeen))
      (locked new : FrameSeen A)
      {old : FrameSeen A} {k : ℕ} {block : ℕ × Payload A} → Began old locked k block → KeepsThread old locked
      → KeepsFrame old locked → KeepsThread locked new
      → OnOk r (SwapsIn locked new v call (λ entry. entry)) → OnErr r (KeepsFrame locked new)
      → OnErr r (EndsWith locked new Keep (contents_found locked))
      → IfErr r (λ handed. (c : ℕ) → RefusesPlainly (call c (contents_found locked)) handed.fault)
      → SwapsValue old new k v call r
  swaps_value v call (Ok same_handle) locked new began thread frame then swaps same kept why = record {
    thread = thread_kept_on thread then;
    did = swaps_all _ _ _ _ v _ call (λ entry. entry) began thread frame swaps;
    frame = tt;
    refused = tt;
  }
  swaps_value v call (Err handed) locked new began thread frame then swaps same kept why = record {
    thread = thread_kept_on thread then;
    did = tt;
    frame = frame_kept_on frame same;
    refused = λ c is. call_refused _ _ _ (call c) _ (began_ends _ _ _ _ _ Keep _ began thread kept)
        handed.fault (why c);
  }

  refused_out : (done : HandleSeen → Type 0) (call : PlainCall Entry) (fault : Fault) (locked new : FrameSeen A)
      {old : FrameSeen A} {k : ℕ} {block : ℕ × Payload A} → Began old locked k block → KeepsThread old locked
      → KeepsFrame old locked → KeepsThread locked new
      → KeepsAllPlaces locked new → EndsWith locked new Keep (contents_found locked)
      → RefusesPlace locked (call (contents_found locked)) fault
      → HandsOut old new done (RefusedPlace old new k call) (Err fault)
  refused_out done call fault locked new began thread frame then places kept why = record {
    thread = thread_kept_on thread then;
    did = tt;
    places = places_after _ _ _ frame places;
    refused = place_refused _ _ _ _ call _ frame (began_ends _ _ _ _ _ Keep _ began thread kept) fault why;
  }

  -- the two plain calls are one on what was found
  pub takes_entry : (within call : PlainCall Entry) (r : Result HandleSeen Fault) (locked new : FrameSeen A)
      {old : FrameSeen A} {k : ℕ} {block : ℕ × Payload A}
      → call (contents_found locked) ≡ within (contents_found locked)
      → Began old locked k block → KeepsThread old locked → KeepsFrame old locked → KeepsThread locked new
      → IfOk r (TakesOut locked new within) → OnErr r (KeepsAllPlaces locked new)
      → OnErr r (EndsWith locked new Keep (contents_found locked))
      → IfErr r (RefusesPlace locked (within (contents_found locked))) → TakesEntry old new k call r
  takes_entry within call (Ok given) locked new is began thread frame then takes places kept why = record {
    thread = thread_kept_on thread then;
    did = takes_all _ _ _ _ _ within call given is began thread frame takes;
    places = tt;
    refused = tt;
  }
  takes_entry within call (Err fault) locked new {old = old} {k = k} is began thread frame then takes places kept why =
      refused_out (CallTakes old new k call) call fault locked new began thread frame then places kept
      (subst (λ o. RefusesPlace locked o fault) (sym is) why)

  pub shares_entry : (call : PlainCall Entry) (r : Result HandleSeen Fault) (locked new : FrameSeen A)
      {old : FrameSeen A} {k : ℕ} {block : ℕ × Payload A} → Began old locked k block → KeepsThread old locked
      → KeepsFrame old locked → KeepsThread locked new
      → IfOk r (SharesOut locked new call) → OnErr r (KeepsAllPlaces locked new)
      → OnErr r (EndsWith locked new Keep (contents_found locked))
      → IfErr r (RefusesPlace locked (call (contents_found locked))) → SharesEntry old new k call r
  shares_entry call (Ok given) locked new began thread frame then shares places kept why = record {
    thread = thread_kept_on thread then;
    did = shares_all _ _ _ _ _ call given began thread frame then shares;
    places = tt;
    refused = tt;
  }
  shares_entry call (Err fault) locked new {old = old} {k = k} began thread frame then shares places kept why =
      refused_out (Shares old new k call) call fault locked new began thread frame then places kept why
