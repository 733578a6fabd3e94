-- From why a call is refused to what was wanting, and on to later frames.
use Rattle.std.proofs.Common.{◌≡◌, ◌≤◌, ◌∙◌, ℕ, ℤ, List, Option, Some, None}
use Rattle.std.proofs.Common.{Result, Ok, Err, IfErr, refl, sym, ap, subst, true≢false}
use Rattle.brc_words.specs.declared.entry.Entry.{Entry}
use Rattle.brc_words.specs.Notes.{bare}
use Rattle.brc_words.specs.declared.fault.Fault.{Fault}
use Rattle.brc_words.specs.declared.fault.Fault.TheVariants as faults
use Rattle.brc_words.specs.declared.key.Key.{Key}
use Rattle.brc_words.specs.declared.limits.TheConstants.{MOST_PLACES, MOST_BIRTHS}
use Rattle.brc_count.specs.law.declared.rule.contents.Contents.{Contents}
use Rattle.brc_count.specs.law.declared.rule.told.LogItem.{LogItem}
use Rattle.brc_count.specs.declared.handed.HandedBack.{HandedBack}
use Rattle.brc_count.specs.Frames.{FrameSeen, HandleSeen, Owns, Refused, IsAsBefore, ledger_seen}
use Rattle.brc_count.specs.Locking.{cell_in}
use Rattle.brc_count.specs.Making.{RefusedMaking}
use Rattle.brc_things.specs.Makers.{RefusedTo}
use Rattle.brc_things.specs.Called.{Late}
use Rattle.brc_things.specs.Changing.{PlainCall, RefusedPlainly, RefusedCall, RefusedEntry, RefusedPlace}
use Rattle.brc_things.specs.Looking.{RefusedLook, RefusedCopy, LenOf, IntOf, BytesOf}
use Rattle.brc_things.specs.List_Calls.{PutsValue, SwapsValue, TakesEntry, SharesEntry}
use Rattle.brc_things.specs.Dict_Calls.{DictPut}
use Rattle.brc_things.specs.Plain_Dicts.{plain_put}
use Rattle.brc_things.specs.Putting.{RefusedPair}
use Rattle.brc_count.specs.law.living.Later.{IsLater}
use Rattle.brc_count.specs.law.living.Quiet.{Quietly}
use Rattle.brc_count.proofs.law.living.Earlier.{later_same, later_both, quietly_later}
use Rattle.law_isolation.proofs.Quiet_Lives.{allocs_quietly}
use Rattle.brc_instructions.specs.Causes.{NoneWasFree, WantsNoRoom, Caused}
use Rattle.brc_instructions.proofs.Plain_Refusals.{NeedsNoRoom}
use Rattle.brc_instructions.proofs.Follows_Of.{cell_still}

-- ---- a search among more items

none_from : (n : ℕ) (old mid new : List LogItem) → IsLater old mid → NoneWasFree n mid new → NoneWasFree n old new
none_from n old mid new later none = record {
  before = none.before;
  after = none.after;
  began = later_both old mid none.before later none.began;
  searched = none.searched;
  ended = none.ended;
}

none_on : (n : ℕ) (old mid new : List LogItem) → NoneWasFree n old mid → IsLater mid new → NoneWasFree n old new
none_on n old mid new none later = record {
  before = none.before;
  after = none.after;
  began = none.began;
  searched = none.searched;
  ended = later_both none.after mid new none.ended later;
}

module _ {A : Type 0} where
  -- a fault that wants no room has no cause to tell
  pub uncaused : (old new : FrameSeen A) (fault : Fault) → WantsNoRoom fault → Caused old new fault
  uncaused old new faults.HeapFull none = absurd (true≢false none)
  uncaused old new faults.FrameFull none = absurd (true≢false none)
  uncaused old new faults.LedgerFull none = absurd (true≢false none)
  uncaused old new _ none = tt

  pub uncaused_in : {T : Type 0} (old new : FrameSeen A) (result : Result T Fault) → IfErr result WantsNoRoom
      → IfErr result (Caused old new)
  uncaused_in old new (Ok done) none = tt
  uncaused_in old new (Err fault) none = uncaused old new fault none

  pub uncaused_memory : (old new : FrameSeen A) (fault : Fault) → fault ≡ faults.OutOfMemory → Caused old new fault
  uncaused_memory old new fault is = subst (Caused old new) (sym is) tt

  -- ---- a frame before, and one after

  pub caused_from : (old mid new : FrameSeen A) (fault : Fault) → mid.heap ≡ old.heap
      → IsLater old.seat.log mid.seat.log
      → Caused mid new fault → Caused old new fault
  caused_from old mid new faults.HeapFull heap later caused =
      none_from old.heap.cells old.seat.log mid.seat.log new.seat.log later
      (subst (λ h. NoneWasFree h.cells mid.seat.log new.seat.log) heap caused)
  caused_from old mid new faults.FrameFull heap later caused = caused
  caused_from old mid new faults.LedgerFull heap later caused = caused
  caused_from old mid new _ heap later caused = tt

  pub caused_from_in : {T : Type 0} (old mid new : FrameSeen A) (result : Result T Fault) → mid.heap ≡ old.heap
      → IsLater old.seat.log mid.seat.log
      → IfErr result (Caused mid new) → IfErr result (Caused old new)
  caused_from_in old mid new (Ok done) heap later caused = tt
  caused_from_in old mid new (Err fault) heap later caused = caused_from old mid new fault heap later caused

  -- nothing is born quietly
  pub born_quietly : (mid new : FrameSeen A) → new.heap ≡ mid.heap → Quietly mid.seat.log new.seat.log
      → MOST_BIRTHS ≤ (ledger_seen mid).allocs → MOST_BIRTHS ≤ (ledger_seen new).allocs
  born_quietly mid new heap quiet most =
      let same : (ledger_seen new).allocs ≡ (ledger_seen mid).allocs =
      allocs_quietly new.heap.cells mid.seat.log new.seat.log quiet
      ∙ ap (λ h. (ledger_seen (record mid { heap = h })).allocs) heap
      in subst (λ (n : ℕ). MOST_BIRTHS ≤ n) (sym same) most

  pub none_quietly : (old mid new : FrameSeen A) → Quietly mid.seat.log new.seat.log
      → NoneWasFree old.heap.cells old.seat.log mid.seat.log → NoneWasFree old.heap.cells old.seat.log new.seat.log
  none_quietly old mid new quiet none = none_on old.heap.cells old.seat.log mid.seat.log new.seat.log none
      (quietly_later mid.seat.log new.seat.log quiet)

  pub caused_on : (old mid new : FrameSeen A) (fault : Fault) → new.heap ≡ mid.heap → new.len ≡ mid.len
      → Quietly mid.seat.log new.seat.log
      → Caused old mid fault → Caused old new fault
  caused_on old mid new faults.HeapFull heap len quiet caused = none_quietly old mid new quiet caused
  caused_on old mid new faults.FrameFull heap len quiet caused = subst (λ (n : ℕ). MOST_PLACES ≤ n) (sym len) caused
  caused_on old mid new faults.LedgerFull heap len quiet caused = born_quietly mid new heap quiet caused
  caused_on old mid new _ heap len quiet caused = tt

  -- ---- objects that are made, and handles

  pub caused_handle : (old new : FrameSeen A) (fault : Fault) → Refused old fault → IsAsBefore old new
      → Caused old new fault
  caused_handle old new faults.HeapFull why same = absurd why
  caused_handle old new faults.LedgerFull why same = absurd why
  caused_handle old new faults.FrameFull why same =
      subst (λ (f : FrameSeen A). MOST_PLACES ≤ f.len) (sym same) why
  caused_handle old new _ why same = tt

  pub caused_making : (old new : FrameSeen A) (fault : Fault) → RefusedMaking old new fault → Caused old new fault
  caused_making old new faults.HeapFull why = record {
    before = old.seat.log;
    after = new.seat.log;
    began = later_same old.seat.log;
    searched = why.2.passed;
    ended = later_same new.seat.log;
  }
  caused_making old new faults.FrameFull why = caused_handle old new faults.FrameFull why.0 why.1
  caused_making old new faults.LedgerFull why =
      subst (λ (f : FrameSeen A). MOST_BIRTHS ≤ (ledger_seen f).allocs) (sym why.2) why.1
  caused_making old new _ why = tt

  pub caused_to : (old new : FrameSeen A) (cell : Option ℕ) (fault : Fault) → RefusedTo old new cell fault
      → Caused old new fault
  caused_to old new (Some c) fault why = caused_handle old new fault why.0 why.1
  caused_to old new None fault why = caused_making old new fault why

  -- ---- calls on an object

  -- the plain call was refused so
  plainly : {R : Type 0} {mid new : FrameSeen A} {k : ℕ} (call : PlainCall R) (fault : Fault) → NeedsNoRoom call
      → RefusedPlainly mid new k call fault → WantsNoRoom fault
  plainly call fault needs why = subst (λ (r : Result _ Fault). IfErr r WantsNoRoom) why.plain (needs why.found)

  place_caused : {R : Type 0} (old mid new : FrameSeen A) (k : ℕ) (call : PlainCall R) (fault : Fault)
      → NeedsNoRoom call
      → new.len ≡ mid.len → RefusedPlace mid new k call fault → Caused old new fault
  place_caused old mid new k call faults.HeapFull needs len why = absurd (true≢false (plainly call _ needs why))
  place_caused old mid new k call faults.LedgerFull needs len why = absurd (true≢false (plainly call _ needs why))
  place_caused old mid new k call faults.FrameFull needs len why =
      subst (λ (n : ℕ). MOST_PLACES ≤ n) (sym len) why.1
  place_caused old mid new k call _ needs len why = tt

  pub takes_caused : (old new : FrameSeen A) (k : ℕ) (call : PlainCall Entry) (result : Result HandleSeen Fault)
      → NeedsNoRoom call
      → Late old k (λ mid. TakesEntry mid new k call result) → IfErr result (Caused old new)
  takes_caused old new k call (Ok given) needs late = tt
  takes_caused old new k call (Err fault) needs late =
      place_caused old late.0 new k call fault needs late.2.places.len late.2.refused

  pub shares_caused : (old new : FrameSeen A) (k : ℕ) (call : PlainCall Entry) (result : Result HandleSeen Fault)
      → NeedsNoRoom call
      → Late old k (λ mid. SharesEntry mid new k call result) → IfErr result (Caused old new)
  shares_caused old new k call (Ok given) needs late = tt
  shares_caused old new k call (Err fault) needs late =
      place_caused old late.0 new k call fault needs late.2.places.len late.2.refused

  -- ---- calls that want no room

  entry_room : {R : Type 0} (mid new : FrameSeen A) (k : ℕ) (call : PlainCall R) (fault : Fault) → NeedsNoRoom call
      → RefusedEntry mid new k call fault → WantsNoRoom fault
  entry_room mid new k call faults.Busy needs why = refl
  entry_room mid new k call faults.OutOfMemory needs why = refl
  entry_room mid new k call fault needs why = plainly call fault needs why

  call_room : {R : Type 0} (mid new : FrameSeen A) (k : ℕ) (call : PlainCall R) (fault : Fault) → NeedsNoRoom call
      → RefusedCall mid new k call fault → WantsNoRoom fault
  call_room mid new k call faults.Busy needs why = refl
  call_room mid new k call fault needs why = plainly call fault needs why

  pair_room : (mid new : FrameSeen A) (k : ℕ) (call : PlainCall (Option Entry)) (fault : Fault) → NeedsNoRoom call
      → RefusedPair mid new k call fault → WantsNoRoom fault
  pair_room mid new k call faults.Busy needs why = refl
  pair_room mid new k call faults.OutOfMemory needs why = refl
  pair_room mid new k call fault needs why = plainly call fault needs why

  pub puts_room : (old new : FrameSeen A) (k : ℕ) (value : HandleSeen) (call : ℕ → PlainCall (Unit {0}))
      (result : Result (Unit {0}) (HandedBack HandleSeen)) → ((c : ℕ) → NeedsNoRoom (call c)) → Owns old value
      → Late old k (λ mid. PutsValue mid new k value.place call result)
      → IfErr result (λ handed. WantsNoRoom handed.fault)
  puts_room old new k value call (Ok done) needs owns late = tt
  puts_room old new k value call (Err handed) needs owns late =
      let at : (c : ℕ) × (cell_in late.0 value.place ≡ Some c) = cell_still old k value
      (λ mid. PutsValue mid new k value.place call (Err handed)) owns late in
      entry_room late.0 new k (call at.0) handed.fault (needs at.0) (late.2.refused at.0 at.1)

  pub swaps_room : (old new : FrameSeen A) (k : ℕ) (value : HandleSeen) (call : ℕ → PlainCall Entry)
      (result : Result HandleSeen (HandedBack HandleSeen)) → ((c : ℕ) → NeedsNoRoom (call c)) → Owns old value
      → Late old k (λ mid. SwapsValue mid new k value.place call result)
      → IfErr result (λ handed. WantsNoRoom handed.fault)
  swaps_room old new k value call (Ok given) needs owns late = tt
  swaps_room old new k value call (Err handed) needs owns late =
      let at : (c : ℕ) × (cell_in late.0 value.place ≡ Some c) = cell_still old k value
      (λ mid. SwapsValue mid new k value.place call (Err handed)) owns late in
      call_room late.0 new k (call at.0) handed.fault (needs at.0) (late.2.refused at.0 at.1)

  pub pair_put_room : {V : Type 0} (old new : FrameSeen A) (k : ℕ) (key : Key A) (value : HandleSeen)
      (handed : HandedBack V) → ((c : ℕ) → NeedsNoRoom (plain_put key (bare c))) → Owns old value
      → Late old k (λ mid. DictPut mid new k key value (Err handed))
      → WantsNoRoom handed.fault
  pair_put_room old new k key value handed needs owns late =
      let at : (c : ℕ) × (cell_in late.0 value.place ≡ Some c) = cell_still old k value
      (λ mid. DictPut mid new k key value (Err handed)) owns late in
      pair_room late.0 new k (plain_put key (bare at.0)) handed.fault (needs at.0) (late.2.refused at.0 at.1)

  look_room : (mid new : FrameSeen A) (k : ℕ) (fits : Contents → Type 0) (fault : Fault)
      → RefusedLook mid new k fits fault
      → WantsNoRoom fault
  look_room mid new k fits faults.Busy why = refl
  look_room mid new k fits faults.WrongKind why = refl
  look_room mid new k fits fault why = absurd why

  copy_room : (mid new : FrameSeen A) (k : ℕ) (fits : Contents → Type 0) (fault : Fault)
      → RefusedCopy mid new k fits fault
      → WantsNoRoom fault
  copy_room mid new k fits faults.Busy why = refl
  copy_room mid new k fits faults.WrongKind why = refl
  copy_room mid new k fits faults.OutOfMemory why = refl
  copy_room mid new k fits fault why = absurd why

  pub len_room : (old new : FrameSeen A) (k : ℕ) (result : Result ℕ Fault)
      → Late old k (λ mid. LenOf mid new k result) → IfErr result WantsNoRoom
  len_room old new k (Ok len) late = tt
  len_room old new k (Err fault) late = look_room late.0 new k _ fault late.2.refused

  pub int_room : (old new : FrameSeen A) (k : ℕ) (result : Result ℤ Fault)
      → Late old k (λ mid. IntOf mid new k result) → IfErr result WantsNoRoom
  int_room old new k (Ok number) late = tt
  int_room old new k (Err fault) late = look_room late.0 new k _ fault late.2.refused

  pub text_room : (old new : FrameSeen A) (k : ℕ) (result : Result (List ℕ) Fault)
      → Late old k (λ mid. BytesOf mid new k result) → IfErr result WantsNoRoom
  text_room old new k (Ok text) late = tt
  text_room old new k (Err fault) late = copy_room late.0 new k _ fault late.2.refused
