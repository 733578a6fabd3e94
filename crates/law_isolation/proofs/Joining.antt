-- What calls of one form make of what is meant, from the frame before lost tries to the one after the call.
use Rattle.std.proofs.Common.{◌≡◌, ◌≢◌, ◌∙◌, refl, sym, subst, ℕ, ℤ, Bool, true, false, List, Option, Some, None}
use Rattle.std.proofs.Common.{IfSome, Result, Ok, Err, IfOk, IfErr}
use Rattle.std.proofs.lemmas.Option.{same_Some}
use Rattle.brc_words.specs.declared.entry.Entry.{Entry}
use Rattle.brc_words.specs.declared.fault.Fault.{Fault}
use Rattle.brc_words.specs.declared.fault.Fault.TheVariants as faults
use Rattle.brc_count.specs.law.declared.world.event.Change.TheVariants as changes
use Rattle.brc_count.specs.law.declared.rule.contents.Contents.{Contents}
use Rattle.brc_count.specs.declared.handed.HandedBack.{HandedBack}
use Rattle.brc_count.specs.Frames.{FrameSeen, HandleSeen}
use Rattle.brc_count.specs.Locking.{KeepsFrame, cell_in}
use Rattle.brc_handles.specs.Handles.{slot, IsApart}
use Rattle.brc_things.specs.Waiting.{Waits}
use Rattle.brc_things.proofs.Waited.{waits_frame}
use Rattle.brc_things.specs.Called.{Late}
use Rattle.brc_things.specs.Changing.{PlainCall, CallPuts, Swaps, CallTakes, Shares, RefusedPlainly, RefusedCall}
use Rattle.brc_things.specs.Changing.{RefusedEntry, RefusedPlace, KeepsAllPlaces}
use Rattle.brc_things.specs.List_Calls.{PutsValue, SwapsValue, TakesEntry, SharesEntry}
use Rattle.brc_meaning.specs.declared.reference.Reference.{Reference}
use Rattle.brc_meaning.specs.declared.object.Object.{Object}
use Rattle.brc_meaning.specs.declared.object.Object.TheVariants as objects
use Rattle.brc_meaning.specs.declared.state.State.{State}
use Rattle.brc_meaning.specs.Wholes.{Each}
use Rattle.brc_meaning.proofs.WholeCalls.{IsKept}
use Rattle.brc_count.specs.law.living.Living.{OwnLog}
use Rattle.law_isolation.specs.Means.{cell_meant, IsMeant, HasAt, ShowsState, Means, MeansBesides}
use Rattle.law_isolation.specs.Goes.{is_want}
use Rattle.law_isolation.specs.Calls.{ComesAsMeant, GivesNone, GivesOne, HandsMeant, HandedMeant, TakesMeant}
use Rattle.law_isolation.specs.Calls.{SwapsMeant}
use Rattle.law_isolation.proofs.Matching.{ObjectCall, Matches, no_cell, one_cell}
use Rattle.law_isolation.proofs.Left_Alone.{waits_leave}
use Rattle.law_isolation.proofs.Showing.{KeepsPlacesOf, has_kept, shows_left, vacant_apart}
use Rattle.law_isolation.proofs.Turning.{Turns, changes_turn, shares_turn}
use Rattle.law_isolation.proofs.Coming.{Went, refused, went, gives_none, gives_one}

-- ---- refusals that aren't for want

module _ {A R : Type 0} (old new : FrameSeen A) (k : ℕ) (call : PlainCall R) where
  pub plainly_called : (fault : Fault) → fault ≢ faults.Busy → RefusedCall old new k call fault
      → RefusedPlainly old new k call fault
  plainly_called faults.Busy busy why = absurd (busy refl)
  plainly_called fault busy why = why

  pub plainly_entered : (fault : Fault) → fault ≢ faults.Busy → is_want fault ≡ false
      → RefusedEntry old new k call fault → RefusedPlainly old new k call fault
  plainly_entered faults.Busy busy want why = absurd (busy refl)
  plainly_entered faults.OutOfMemory busy want why = absurd (let bad : true ≡ false = want in cc)
  plainly_entered fault busy want why = why

  pub plainly_placed : (fault : Fault) → fault ≢ faults.Busy → is_want fault ≡ false → RefusedPlace old new k call fault
      → RefusedPlainly old new k call fault
  plainly_placed faults.Busy busy want why = absurd (busy refl)
  plainly_placed faults.FrameFull busy want why = absurd (let bad : true ≡ false = want in cc)
  plainly_placed faults.OutOfMemory busy want why = absurd (let bad : true ≡ false = want in cc)
  plainly_placed fault busy want why = why

-- ---- places

each_slot : (P : HandleSeen → Type 0) (o : Option HandleSeen) → ((h : HandleSeen) → P h) → IfSome o P
each_slot P None all = tt
each_slot P (Some h) all = all h

module _ {A : Type 0} where
  pub all_places : (old new : FrameSeen A) (registers : List (Option HandleSeen))
      → ((k : ℕ) → cell_in new k ≡ cell_in old k) → KeepsPlacesOf old new registers
  all_places old new registers same r = each_slot (λ h. cell_in new h.place ≡ cell_in old h.place) (slot registers r)
      (λ h. same h.place)

  other_slot : (old new : FrameSeen A) (k : ℕ) (o : Option HandleSeen)
      → ((j : ℕ) → j ≢ k → cell_in new j ≡ cell_in old j)
      → IfSome o (λ h. k ≢ h.place) → IfSome o (λ h. cell_in new h.place ≡ cell_in old h.place)
  other_slot old new k None others apart = tt
  other_slot old new k (Some h) others apart = others h.place (λ same. apart (sym same))

  -- a handle that is apart from the registers' changes none of theirs
  pub other_places : (old new : FrameSeen A) (registers : List (Option HandleSeen)) (value : HandleSeen)
      → IsApart value registers
      → ((j : ℕ) → j ≢ value.place → cell_in new j ≡ cell_in old j) → KeepsPlacesOf old new registers
  other_places old new registers value apart others r = other_slot old new value.place
      (slot registers r) others (apart r)

module _ {A : Type 0} (base : ℕ) (old new : FrameSeen A) (registers : List (Option HandleSeen)) (s : State A)
    (own : OwnLog new.heap.cells new.seat.log)
    (container : ℕ) (h : HandleSeen) (in_register : slot registers container ≡ Some h) (call : ObjectCall A)
    (no_int : (number : ℤ) → call (objects.Int number) ≡ Err faults.WrongKind) where
  shows_waited : (cells : ℕ → ℕ) (part : ℕ → Bool) (k : ℕ) (mid : FrameSeen A) → Waits old k mid
      → ShowsState base cells part old registers s → ShowsState base cells part mid registers s
  shows_waited cells part k mid waits shows =
      shows_left base cells part old mid registers s shows (waits_leave waits)
      (all_places old mid registers (waits_frame waits).places)

  -- ---- a value goes in

  module _ (value : HandleSeen) (reference : Reference) (means : MeansBesides base old registers s value reference)
      (apart : IsApart value registers)
      (keeps : (part : ℕ → Bool) → IsMeant part reference → (object : Object A) → Each (IsMeant part) object
      → IfOk (call object) (IsKept (IsMeant part) (Each (IsMeant part)))) where
    has_waited : (k : ℕ) (mid : FrameSeen A) → Waits old k mid
        → HasAt mid.heap.cells mid.seat.log means.cells means.part value.place reference
    has_waited k mid waits = has_kept old mid means.cells means.part value.place reference
        ((waits_frame waits).places value.place) means.has

    shown_mid : (k : ℕ) (mid : FrameSeen A) → Waits old k mid → ShowsState base means.cells means.part mid registers s
    shown_mid k mid waits = shows_waited means.cells means.part k mid waits means.shows

    -- the value that a call was made with is the reference's cell
    value_is : (mid : FrameSeen A) (v : ℕ) → cell_in mid value.place ≡ Some v
        → HasAt mid.heap.cells mid.seat.log means.cells means.part value.place reference
        → v ≡ cell_meant means.cells reference
    value_is mid v of_value has = same_Some v (cell_meant means.cells reference) (sym of_value ∙ has.cell)

    -- a refusal hands the value back
    pub handed_back : {R V : Type 0} (plain : PlainCall R) (answered : R → Option ℕ)
        → Matches means.cells call plain answered → (mid : FrameSeen A) → Waits old h.place mid → KeepsFrame mid new
        → (handed : HandedBack V) → (is_want handed.fault ≡ false → RefusedPlainly mid new h.place plain handed.fault)
        → HandedMeant call container base new registers s value reference handed
    handed_back plain answered matches mid waits keeps_frame handed why want =
        let turned = refused base means.cells means.part mid new registers s (shown_mid h.place mid waits) own container
        h in_register call (all_places mid new registers keeps_frame.places) plain answered matches handed.fault
        (why want) in (
          turned.0,
          record {
            cells = means.cells;
            part = means.part;
            shows = turned.1;
            has = has_kept mid new means.cells means.part value.place reference (keeps_frame.places value.place)
                (has_waited h.place mid waits);
          },
        )

    -- the value went in
    pub put_in : {R : Type 0} (plain : ℕ → PlainCall R) (answered : R → Option ℕ) (answer : R) → answered answer ≡ None
        → Matches means.cells call (plain (cell_meant means.cells reference)) answered → (mid : FrameSeen A)
        → Waits old h.place mid
        → CallPuts mid new h.place value.place plain answer → GivesNone call container base new registers s
    put_in plain answered answer none matches mid waits did =
        let is_value : did.value ≡ cell_meant means.cells reference = value_is mid did.value did.of_value
        (has_waited h.place mid waits) in
        let places : KeepsPlacesOf mid new registers = other_places mid new registers value apart did.places.others in
        let turn : Turns mid new h.place did.found did.put = changes_turn mid new h.place did.found did.put
        (changes.Put value.place) own did.changes in
        let done : Went base means.cells means.part mid new registers s (shown_mid h.place mid waits) own container h
        in_register call places (answered answer) =
        went base means.cells means.part mid new registers s (shown_mid h.place mid waits) own container h in_register
        call places no_int (keeps means.part means.has.meant)
        (plain (cell_meant means.cells reference)) answered matches did.found did.put answer
        (subst (λ v. plain v did.found ≡ Ok (answer, did.put)) is_value did.plain) turn in
        gives_none base means.cells means.part mid new registers s (shown_mid h.place mid waits) own container h
        in_register call places
        (subst (Went base means.cells means.part mid new registers s (shown_mid h.place mid waits) own container h
        in_register call places) none done)

    -- the value was exchanged for an entry
    pub swapped_in : {R : Type 0} (plain : ℕ → PlainCall R) (answered : R → Option ℕ) (answer : Entry → R)
        → ((entry : Entry) → answered (answer entry) ≡ Some entry.cell)
        → Matches means.cells call (plain (cell_meant means.cells reference)) answered → (mid : FrameSeen A)
        → Waits old h.place mid
        → Swaps mid new h.place value.place plain answer → GivesOne call container base new registers s value
    swapped_in plain answered answer one matches mid waits did =
        let is_value : did.value ≡ cell_meant means.cells reference = value_is mid did.value did.of_value
        (has_waited h.place mid waits) in
        let places : KeepsPlacesOf mid new registers = other_places mid new registers value apart did.places.others in
        let turn : Turns mid new h.place did.found did.put = changes_turn mid new h.place did.found did.put
        (changes.Swap did.index value.place) own did.changes in
        let done : Went base means.cells means.part mid new registers s (shown_mid h.place mid waits) own container h
        in_register call places (answered (answer did.entry)) =
        went base means.cells means.part mid new registers s (shown_mid h.place mid waits) own container h in_register
        call places no_int (keeps means.part means.has.meant)
        (plain (cell_meant means.cells reference)) answered matches did.found did.put (answer did.entry)
        (subst (λ v. plain v did.found ≡ Ok (answer did.entry, did.put)) is_value did.plain) turn in
        gives_one base means.cells means.part mid new registers s (shown_mid h.place mid waits) own container h
        in_register call places value did.entry.cell did.places.has
        (subst (Went base means.cells means.part mid new registers s (shown_mid h.place mid waits) own container h
        in_register call places) (one did.entry) done)

    pub puts_means : (plain : ℕ → PlainCall (Unit {0}))
        → Matches means.cells call (plain (cell_meant means.cells reference)) no_cell
        → (result : Result (Unit {0}) (HandedBack HandleSeen))
        → Late old h.place (λ mid. PutsValue mid new h.place value.place plain result)
        → IfErr result (λ handed. handed.fault ≢ faults.Busy)
        → TakesMeant call container base new registers s value reference result
    puts_means plain matches (Ok done) late busy = put_in plain no_cell tt refl matches late.0 late.1 late.2.did
    puts_means plain matches (Err handed) late busy =
        handed_back (plain (cell_meant means.cells reference)) no_cell matches late.0 late.1 late.2.frame handed
        (λ want. plainly_entered late.0 new h.place (plain (cell_meant means.cells reference)) handed.fault busy want
        (late.2.refused (cell_meant means.cells reference) (has_waited h.place late.0 late.1).cell))

    pub swaps_means : (plain : ℕ → PlainCall Entry)
        → Matches means.cells call (plain (cell_meant means.cells reference)) one_cell
        → (result : Result HandleSeen (HandedBack HandleSeen))
        → Late old h.place (λ mid. SwapsValue mid new h.place value.place plain result)
        → IfOk result (λ given. given ≡ value) → IfErr result (λ handed. handed.fault ≢ faults.Busy)
        → SwapsMeant call container base new registers s value reference result
    swaps_means plain matches (Ok given) late same busy =
        subst (GivesOne call container base new registers s) (sym same)
        (swapped_in plain one_cell (λ entry. entry) (λ entry. refl) matches late.0 late.1 late.2.did)
    swaps_means plain matches (Err handed) late same busy =
        handed_back (plain (cell_meant means.cells reference)) one_cell matches late.0 late.1 late.2.frame handed
        (λ want. plainly_called late.0 new h.place (plain (cell_meant means.cells reference)) handed.fault busy
        (late.2.refused (cell_meant means.cells reference) (has_waited h.place late.0 late.1).cell))

  -- ---- a reference comes out

  module _ (means : Means base old registers s)
      (keeps : (part : ℕ → Bool) (object : Object A) → Each (IsMeant part) object
      → IfOk (call object) (IsKept (IsMeant part) (Each (IsMeant part))))
      (plain : PlainCall Entry) (matches : Matches means.cells call plain one_cell) where
    shown_then : (k : ℕ) (mid : FrameSeen A) → Waits old k mid → ShowsState base means.cells means.part mid registers s
    shown_then k mid waits = shows_waited means.cells means.part k mid waits means.shows

    -- a refusal leaves all as it was
    pub left_there : (mid : FrameSeen A) → Waits old h.place mid → KeepsAllPlaces mid new → (fault : Fault)
        → RefusedPlainly mid new h.place plain fault
        → ComesAsMeant call container s (Err fault) × Means base new registers s
    left_there mid waits keeps_places fault why =
        let turned = refused base means.cells means.part mid new registers s (shown_then h.place mid waits) own
        container h in_register call (all_places mid new registers keeps_places.places) plain one_cell matches
        fault why in
        (turned.0, record { cells = means.cells; part = means.part; shows = turned.1 })

    took_out : (mid : FrameSeen A) → Waits old h.place mid → (given : HandleSeen) → KeepsPlacesOf mid new registers
        → (found put : Contents) (entry : Entry) → plain found ≡ Ok (entry, put)
        → Turns mid new h.place found put → cell_in new given.place ≡ Some entry.cell
        → GivesOne call container base new registers s given
    took_out mid waits given places found put entry is turn has =
        gives_one base means.cells means.part mid new registers s (shown_then h.place mid waits) own container h
        in_register call places given entry.cell has
        (went base means.cells means.part mid new registers s (shown_then h.place mid waits) own container h in_register
        call places no_int (keeps means.part) plain one_cell matches found put entry is turn)

    pub takes_means : (result : Result HandleSeen Fault)
        → Late old h.place (λ mid. TakesEntry mid new h.place plain result)
        → IfErr result (λ fault. fault ≢ faults.Busy) → HandsMeant call container base new registers s result
    takes_means (Ok given) late busy =
        let mid : FrameSeen A = late.0 in
        let did : CallTakes mid new h.place plain given = late.2.did in
        took_out mid late.1 given
        (vacant_apart base means.cells means.part mid new registers s (shown_then h.place mid late.1) given.place
        did.vacant did.places.others)
        did.found did.put did.entry did.plain
        (changes_turn mid new h.place did.found did.put (changes.Take did.index given.place) own did.changes)
        did.places.has
    takes_means (Err fault) late busy = λ want.
        left_there late.0 late.1 late.2.places fault
        (plainly_placed late.0 new h.place plain fault busy want late.2.refused)

    pub shares_means : (result : Result HandleSeen Fault)
        → Late old h.place (λ mid. SharesEntry mid new h.place plain result)
        → IfErr result (λ fault. fault ≢ faults.Busy) → HandsMeant call container base new registers s result
    shares_means (Ok given) late busy =
        let mid : FrameSeen A = late.0 in
        let did : Shares mid new h.place plain given = late.2.did in
        took_out mid late.1 given
        (vacant_apart base means.cells means.part mid new registers s (shown_then h.place mid late.1) given.place
        (sym (did.before.places given.place) ∙ did.gives.vacant)
        (λ j off. did.after.places j ∙ did.gives.others j off ∙ did.before.places j))
        did.found did.found did.entry did.plain (shares_turn mid new h.place plain given own did)
        (did.after.places given.place ∙ did.gives.has)
    shares_means (Err fault) late busy = λ want.
        left_there late.0 late.1 late.2.places fault
        (plainly_placed late.0 new h.place plain fault busy want late.2.refused)
