-- What answers of several instructions share: from a call's clauses to what the frame and the registers mean after it.
use Rattle.std.proofs.Common.{◌≡◌, ◌≢◌, ◌∙◌, ℕ, ℤ, true, false, List, Option, Some, None, is_some, Result, Ok, Err}
use Rattle.std.proofs.Common.{slice_index_or, slice_set, MatchOption, refl, sym, ap, subst}
use Rattle.std.specs.Prelude.{IfSome}
use Rattle.brc_words.specs.declared.entry.Entry.{Entry}
use Rattle.brc_words.specs.Notes.{bare}
use Rattle.brc_words.specs.declared.fault.Fault.{Fault}
use Rattle.brc_words.specs.declared.fault.Fault.TheVariants as faults
use Rattle.brc_words.specs.declared.key.Key.{Key}
use Rattle.brc_script.specs.declared.instruction.Instruction.TheVariants as instructions
use Rattle.brc_count.specs.law.declared.rule.contents.Contents.{Contents}
use Rattle.brc_count.specs.law.declared.rule.contents.Contents.TheVariants as contents
use Rattle.brc_count.specs.declared.handed.HandedBack.{HandedBack}
use Rattle.brc_count.specs.Frames.{FrameSeen, HandleSeen, Owns, IsAsBefore, ReleasedOf, place_seen}
use Rattle.brc_count.specs.Locking.{Busy, cell_in}
use Rattle.brc_count.specs.Making.{Made, RefusedMaking}
use Rattle.brc_things.specs.Makers.{Answered, RefusedTo, small_cell}
use Rattle.brc_handles.specs.Handles.{slot, OwnsEach, IsApart}
use Rattle.brc_things.specs.Called.{Late}
use Rattle.brc_things.specs.Changing.{PlainCall, RefusedCall, RefusedEntry, RefusedPlace}
use Rattle.brc_things.specs.List_Calls.{PutsValue, SwapsValue, TakesEntry, SharesEntry}
use Rattle.brc_things.specs.Dict_Calls.{DictPut}
use Rattle.brc_things.specs.Plain_Dicts.{plain_put}
use Rattle.brc_things.specs.Putting.{RefusedPair}
use Rattle.brc_meaning.specs.declared.reference.Reference.{Reference}
use Rattle.brc_meaning.specs.declared.object.Object.{Object}
use Rattle.brc_meaning.specs.declared.state.State.{State}
use Rattle.brc_meaning.specs.Outcomes.{◌>>=◌}
use Rattle.brc_meaning.specs.States.{held, holding, called, with_register}
use Rattle.brc_meaning.specs.Steps.{after}
use Rattle.brc_count.specs.law.living.Living.{OwnLog}
use Rattle.brc_count.specs.law.living.Later.{IsLater}
use Rattle.brc_count.specs.law.living.Quiet.{Quietly}
use Rattle.brc_count.proofs.law.living.Earlier.{own_earlier, later_same, later_one, later_both, later_is, quietly_later}
use Rattle.law_isolation.specs.Means.{Means, MeansBesides}
use Rattle.law_isolation.specs.Goes.{is_want}
use Rattle.law_isolation.specs.Calls.{with_objects, ComesAsMeant, GivesOne}
use Rattle.law_isolation.specs.Asked.{asking, AsksNone, AsksOne}
use Rattle.law_isolation.proofs.Later_Calls.{later_waits, later_changes, later_given, later_made, later_shares}
use Rattle.law_isolation.proofs.Asked_Of.{asks, called_of, emptied, asks_emptied, set_twice, put_back}
use Rattle.law_isolation.proofs.Registers_Kept.{held_is, means_taken}
use Rattle.law_isolation.proofs.Making_Things.{means_text, means_list, means_dict, means_mailbox, means_integer}
use Rattle.law_isolation.proofs.Making_Things.{integer_held}
use Rattle.law_isolation.proofs.Holding.{empties_and_releases}
use Rattle.law_isolation.proofs.Quiet_Frames.{waited}
use Rattle.brc_instructions.specs.declared.making.Empty.{Empty}
use Rattle.brc_instructions.specs.declared.making.Empty.TheVariants as empties
use Rattle.brc_instructions.specs.Calls.{contents_of, makes}

-- nothing is said of a refusal for want
pub unless_want : {P : Type 0} (fault : Fault) → is_want fault ≡ true → is_want fault ≡ false → P
unless_want fault want own = absurd (let bad : true ≡ false = sym want ∙ own in cc)

module _ {A : Type 0} where
  -- ---- handles

  -- the frame owns the handle of a register
  pub owned_at : (frame : FrameSeen A) (registers : List (Option HandleSeen)) (k : ℕ) {h : HandleSeen}
      → OwnsEach frame registers → slot registers k ≡ Some h → Owns frame h
  owned_at frame registers k owned is = subst (λ (found : Option HandleSeen). IfSome found (Owns frame)) is (owned k)

  -- a place of which it owns the handle has a cell
  pub cell_of : {frame : FrameSeen A} {h : HandleSeen} → Owns frame h
      → (c : ℕ) × (place_seen frame.heap.cells frame.seat.log h.place ≡ Some c)
  cell_of {frame = frame} {h = h} owns = by (place_seen frame.heap.cells frame.seat.log h.place) refl owns.filled
    where
      by : (found : Option ℕ) → place_seen frame.heap.cells frame.seat.log h.place ≡ found → is_some found ≡ true
          → (c : ℕ) × (place_seen frame.heap.cells frame.seat.log h.place ≡ Some c)
      by None is filled = absurd (let bad : false ≡ true = filled in cc)
      by (Some c) is filled = (c, is)

  -- so a release of it is one of that cell
  pub released_of : {old new : FrameSeen A} {gone : HandleSeen} → Owns old gone
      → ((c : ℕ) → place_seen old.heap.cells old.seat.log gone.place ≡ Some c → ReleasedOf old new gone.place c)
      → (c : ℕ) × ReleasedOf old new gone.place c
  released_of owns released = let at = cell_of owns in (at.0, released at.0 at.1)

  -- ---- later logs

  pub later_as_before : (old new : FrameSeen A) → IsAsBefore old new → IsLater old.seat.log new.seat.log
  later_as_before old new same = subst (λ (frame : FrameSeen A). IsLater old.seat.log frame.seat.log) (sym same)
      (later_same old.seat.log)

  -- a handle goes into a register at the end
  pub later_held : (old mid new : FrameSeen A) → IsLater old.seat.log mid.seat.log → Quietly mid.seat.log new.seat.log
      → IsLater old.seat.log new.seat.log
  later_held old mid new first quiet = later_both old.seat.log mid.seat.log new.seat.log first
      (quietly_later mid.seat.log new.seat.log quiet)

  pub later_busy : (old new : FrameSeen A) (k : ℕ) → Busy old new k → IsLater old.seat.log new.seat.log
  later_busy old new k busy = later_is old.seat.log new.seat.log _ busy.note
      (later_one _ old.seat.log old.seat.log (later_same old.seat.log))

  pub later_refused_call : {R : Type 0} (old new : FrameSeen A) (k : ℕ) (call : PlainCall R) (fault : Fault)
      → RefusedCall old new k call fault → IsLater old.seat.log new.seat.log
  later_refused_call old new k call faults.Busy why = later_busy old new k why
  later_refused_call old new k call fault why = later_changes why.looks

  pub later_refused_entry : {R : Type 0} (old new : FrameSeen A) (k : ℕ) (call : PlainCall R) (fault : Fault)
      → RefusedEntry old new k call fault → IsLater old.seat.log new.seat.log
  later_refused_entry old new k call faults.Busy why = later_busy old new k why
  later_refused_entry old new k call faults.OutOfMemory why = later_changes why.looks
  later_refused_entry old new k call fault why = later_changes why.looks

  pub later_refused_place : {R : Type 0} (old new : FrameSeen A) (k : ℕ) (call : PlainCall R) (fault : Fault)
      → RefusedPlace old new k call fault → IsLater old.seat.log new.seat.log
  later_refused_place old new k call faults.Busy why = later_busy old new k why
  later_refused_place old new k call faults.FrameFull why = later_changes why.0.looks
  later_refused_place old new k call faults.OutOfMemory why = later_changes why.0.looks
  later_refused_place old new k call fault why = later_changes why.looks

  later_takes : (old new : FrameSeen A) (k : ℕ) (call : PlainCall Entry) (result : Result HandleSeen Fault)
      → TakesEntry old new k call result → IsLater old.seat.log new.seat.log
  later_takes old new k call (Ok given) is = later_changes is.did.changes
  later_takes old new k call (Err fault) is = later_refused_place old new k call fault is.refused

  later_shared : (old new : FrameSeen A) (k : ℕ) (call : PlainCall Entry) (result : Result HandleSeen Fault)
      → SharesEntry old new k call result → IsLater old.seat.log new.seat.log
  later_shared old new k call (Ok given) is = later_shares is.did
  later_shared old new k call (Err fault) is = later_refused_place old new k call fault is.refused

  later_puts : (old new : FrameSeen A) (k v c : ℕ) (call : ℕ → PlainCall (Unit {0}))
      (result : Result (Unit {0}) (HandedBack HandleSeen)) → cell_in old v ≡ Some c
      → PutsValue old new k v call result → IsLater old.seat.log new.seat.log
  later_puts old new k v c call (Ok done) at is = later_changes is.did.changes
  later_puts old new k v c call (Err handed) at is = later_refused_entry old new k (call c) handed.fault
      (is.refused c at)

  later_swaps : (old new : FrameSeen A) (k v c : ℕ) (call : ℕ → PlainCall Entry)
      (result : Result HandleSeen (HandedBack HandleSeen)) → cell_in old v ≡ Some c
      → SwapsValue old new k v call result → IsLater old.seat.log new.seat.log
  later_swaps old new k v c call (Ok given) at is = later_changes is.did.changes
  later_swaps old new k v c call (Err handed) at is = later_refused_call old new k (call c) handed.fault
      (is.refused c at)

  -- what the place of a value has, once some tries are lost
  pub cell_still : (old : FrameSeen A) (k : ℕ) (value : HandleSeen) (done : FrameSeen A → Type 0) → Owns old value
      → (late : Late old k done)
      → (c : ℕ) × (cell_in late.0 value.place ≡ Some c)
  cell_still old k value done owns late =
      let at = cell_of owns in (at.0, (waited old k late.0 late.1).places value.place ∙ at.1)

  pub late_takes : (old new : FrameSeen A) (k : ℕ) (call : PlainCall Entry) (result : Result HandleSeen Fault)
      → Late old k (λ mid. TakesEntry mid new k call result) → IsLater old.seat.log new.seat.log
  late_takes old new k call result late =
      later_both old.seat.log late.0.seat.log new.seat.log (later_waits late.1)
      (later_takes late.0 new k call result late.2)

  pub late_shares : (old new : FrameSeen A) (k : ℕ) (call : PlainCall Entry) (result : Result HandleSeen Fault)
      → Late old k (λ mid. SharesEntry mid new k call result) → IsLater old.seat.log new.seat.log
  late_shares old new k call result late =
      later_both old.seat.log late.0.seat.log new.seat.log (later_waits late.1)
      (later_shared late.0 new k call result late.2)

  pub late_puts : (old new : FrameSeen A) (k : ℕ) (value : HandleSeen) (call : ℕ → PlainCall (Unit {0}))
      (result : Result (Unit {0}) (HandedBack HandleSeen)) → Owns old value
      → Late old k (λ mid. PutsValue mid new k value.place call result) → IsLater old.seat.log new.seat.log
  late_puts old new k value call result owns late =
      let at : (c : ℕ) × (cell_in late.0 value.place ≡ Some c) = cell_still old k value
      (λ mid. PutsValue mid new k value.place call result) owns late in
      later_both old.seat.log late.0.seat.log new.seat.log (later_waits late.1)
      (later_puts late.0 new k value.place at.0 call result at.1 late.2)

  pub late_swaps : (old new : FrameSeen A) (k : ℕ) (value : HandleSeen) (call : ℕ → PlainCall Entry)
      (result : Result HandleSeen (HandedBack HandleSeen)) → Owns old value
      → Late old k (λ mid. SwapsValue mid new k value.place call result) → IsLater old.seat.log new.seat.log
  late_swaps old new k value call result owns late =
      let at : (c : ℕ) × (cell_in late.0 value.place ≡ Some c) = cell_still old k value
      (λ mid. SwapsValue mid new k value.place call result) owns late in
      later_both old.seat.log late.0.seat.log new.seat.log (later_waits late.1)
      (later_swaps late.0 new k value.place at.0 call result at.1 late.2)

  later_refused_pair : (old new : FrameSeen A) (k : ℕ) (call : PlainCall (Option Entry)) (fault : Fault)
      → RefusedPair old new k call fault → IsLater old.seat.log new.seat.log
  later_refused_pair old new k call faults.Busy why = later_busy old new k why
  later_refused_pair old new k call faults.OutOfMemory why = later_changes why.looks
  later_refused_pair old new k call fault why = later_changes why.looks

  later_pair_put : {V : Type 0} (old new : FrameSeen A) (k : ℕ) (key : Key A) (value : HandleSeen) (c : ℕ)
      (result : Result (Option HandleSeen) (HandedBack V)) → cell_in old value.place ≡ Some c
      → DictPut old new k key value result → IsLater old.seat.log new.seat.log
  later_pair_put old new k key value c (Ok None) at is = later_changes is.did.changes
  later_pair_put old new k key value c (Ok (Some given)) at is = later_changes is.did.1.changes
  later_pair_put old new k key value c (Err handed) at is =
      later_refused_pair old new k (plain_put key (bare c)) handed.fault (is.refused c at)

  pub late_pair_put : {V : Type 0} (old new : FrameSeen A) (k : ℕ) (key : Key A) (value : HandleSeen)
      (result : Result (Option HandleSeen) (HandedBack V)) → Owns old value
      → Late old k (λ mid. DictPut mid new k key value result) → IsLater old.seat.log new.seat.log
  late_pair_put old new k key value result owns late =
      let at : (c : ℕ) × (cell_in late.0 value.place ≡ Some c) = cell_still old k value
      (λ mid. DictPut mid new k key value result) owns late in
      later_both old.seat.log late.0.seat.log new.seat.log (later_waits late.1)
      (later_pair_put late.0 new k key value at.0 result at.1 late.2)

  pub later_refused_making : (old new : FrameSeen A) (fault : Fault) → RefusedMaking old new fault
      → IsLater old.seat.log new.seat.log
  later_refused_making old new faults.FrameFull is = later_as_before old new is.1
  later_refused_making old new faults.LedgerFull is = later_as_before old new is.2
  later_refused_making old new faults.OutOfMemory is = later_as_before old new is.2
  later_refused_making old new faults.HeapFull is = record { items = is.2.passed.looks; is = is.2.passed.above }
  later_refused_making old new _ is = absurd is

  pub later_refused_to : (old new : FrameSeen A) (cell : Option ℕ) (fault : Fault) → RefusedTo old new cell fault
      → IsLater old.seat.log new.seat.log
  later_refused_to old new (Some c) fault is = later_as_before old new is.1
  later_refused_to old new None fault is = later_refused_making old new fault is

  pub later_answered : (old new : FrameSeen A) (cell : Option ℕ) (put : Contents) (given : HandleSeen)
      → Answered old new cell put given → IsLater old.seat.log new.seat.log
  later_answered old new (Some c) put given is = later_given is
  later_answered old new None put given is = later_made is

  -- ---- own logs

  -- before a later call the log was the thread's own too
  pub own_at : (mid new : FrameSeen A) → new.heap ≡ mid.heap → IsLater mid.seat.log new.seat.log
      → OwnLog new.heap.cells new.seat.log → OwnLog mid.heap.cells mid.seat.log
  own_at mid new same later own =
      subst (λ heap. OwnLog heap.cells mid.seat.log) same
      (own_earlier new.heap.cells mid.seat.log new.seat.log later own)

  -- and before the handle went into a register
  pub own_before : (mid new : FrameSeen A) → new.heap ≡ mid.heap → Quietly mid.seat.log new.seat.log
      → OwnLog new.heap.cells new.seat.log → OwnLog mid.heap.cells mid.seat.log
  own_before mid new same quiet own = own_at mid new same (quietly_later mid.seat.log new.seat.log quiet) own

  -- what `hold` says of any state
  abbrev pub HoldsInto : FrameSeen A → FrameSeen A → List (Option HandleSeen) → List (Option HandleSeen) → ℕ
      → HandleSeen → Type 0
  HoldsInto mid new before now to given =
      (base : ℕ) (s : State A) (reference : Reference) → OwnLog new.heap.cells new.seat.log
      → MeansBesides base mid before s given reference
      → Means base new now (with_register to (Some reference) s)

  -- the instruction led there
  abbrev pub Led : ℕ → FrameSeen A → List (Option HandleSeen) → Result (State A) Fault → Type 0
  Led base new now meant = (next : State A) × (meant ≡ Ok next) × Means base new now next

  -- it was refused so
  abbrev pub Left : ℕ → FrameSeen A → List (Option HandleSeen) → State A → Result (State A) Fault → Fault → Type 0
  Left base new now s meant fault = (meant ≡ Err fault) × Means base new now s

  -- ---- registers alone

  pub copies : (base : ℕ) (mid new : FrameSeen A) (before now : List (Option HandleSeen)) (s : State A) (to from : ℕ)
      (given : HandleSeen)
      → (reference : Reference) × (slice_index_or s.registers from None ≡ Some reference) × MeansBesides base mid before
      s given reference
      → OwnLog new.heap.cells new.seat.log → HoldsInto mid new before now to given
      → Led base new now (after (instructions.Copy to from) s)
  copies base mid new before now s to from given more own holds = (
    with_register to (Some more.0) s,
    ap (λ (r : Result Reference Fault). r >>= λ reference. Ok (with_register to (Some reference) s))
        (held_is s.registers from more.0 more.1),
    holds base s more.0 own more.2,
  )

  pub drops : (base : ℕ) (old new : FrameSeen A) (before now : List (Option HandleSeen)) (s : State A) (from : ℕ)
      (gone : HandleSeen) (c : ℕ)
      → Means base old before s → slot before from ≡ Some gone → now ≡ slice_set before from None → IsApart gone now
      → ReleasedOf old new gone.place c → new.heap ≡ old.heap → OwnLog new.heap.cells new.seat.log
      → Led base new now (after (instructions.Drop from) s)
  drops base old new before now s from gone c means had is apart released same own =
      let emptied_now : (reference : Reference) × (slice_index_or s.registers from None ≡ Some reference)
      × Means base new now (with_register from None s) =
      empties_and_releases base old new before now s from gone c means had is apart released same own in (
        with_register from None s,
        ap (λ (r : Result Reference Fault). r >>= λ reference. Ok (with_register from None s))
            (held_is s.registers from emptied_now.0 emptied_now.1),
        emptied_now.2,
      )

  -- ---- objects that are made

  module _ (base : ℕ) (old mid new : FrameSeen A) (before now : List (Option HandleSeen)) (s : State A) (to : ℕ)
      (given : HandleSeen)
      (means : Means base old before s) (same : mid.heap ≡ old.heap) (same_new : new.heap ≡ mid.heap)
      (quiet : Quietly mid.seat.log new.seat.log)
      (own : OwnLog new.heap.cells new.seat.log) (holds : HoldsInto mid new before now to given) where
    own_mid : OwnLog mid.heap.cells mid.seat.log
    own_mid = own_before mid new same_new quiet own

    pub makes_int : (number : ℤ) → Answered old mid (small_cell number) (contents.Int number) given
        → Led base new now (after (instructions.Int to number) s)
    makes_int number answered =
        let made = means_integer base old mid before s given means same own_mid number answered in
        (_, refl, subst (Means base new now) (integer_held number to s) (holds base _ _ own made))

    pub makes_text : (bytes : List ℕ) → Made old mid (contents.Text bytes) given
        → Led base new now (after (instructions.Text to bytes) s)
    makes_text bytes made = (
      _,
      refl,
      holds base _ _ own (means_text base old mid before s given means same own_mid bytes made),
    )

    pub makes_empty : (empty : Empty) → Made old mid (contents_of empty) given
        → Led base new now (after (makes empty to) s)
    makes_empty empties.List made = (
      _,
      refl,
      holds base _ _ own (means_list base old mid before s given means same own_mid made),
    )
    makes_empty empties.Dict made = (
      _,
      refl,
      holds base _ _ own (means_dict base old mid before s given means same own_mid made),
    )
    makes_empty empties.Mailbox made = (
      _,
      refl,
      holds base _ _ own (means_mailbox base old mid before s given means same own_mid made),
    )

  -- ---- a reference comes out

  module _ (call : Object A → Result (Option Reference × Object A) Fault) (container to base : ℕ) where
    pub called_gives : (mid new : FrameSeen A) (before now : List (Option HandleSeen)) (s : State A)
        (given : HandleSeen)
        → GivesOne call container base mid before s given → OwnLog new.heap.cells new.seat.log
        → HoldsInto mid new before now to given
        → Led base new now (called call container to s)
    called_gives mid new before now s given one own holds = (
      with_register to (Some one.reference) (with_objects one.made s),
      called_of call container to s (Ok (Some one.reference, one.made)) (asks one.comes),
      holds base (with_objects one.made s) one.reference own one.means,
    )

    pub called_refused : (frame : FrameSeen A) (registers : List (Option HandleSeen)) (s : State A) (fault : Fault)
        → ComesAsMeant call container s (Err fault) × Means base frame registers s
        → Left base frame registers s (called call container to s) fault
    called_refused frame registers s fault refused = (
      called_of call container to s (Err fault) (asks refused.0),
      refused.1,
    )

  -- ---- a value goes in

  module _ (call : Reference → Object A → Result (Option Reference × Object A) Fault) (container value base : ℕ)
      (old : FrameSeen A) (before taken : List (Option HandleSeen)) (s : State A) (given : HandleSeen)
      (apart : container ≢ value) (means : Means base old before s) (had : slot before value ≡ Some given)
      (is : taken ≡ slice_set before value None) where
    -- the value is out of its register
    abbrev Out : Type 0
    Out = (reference : Reference) × (slice_index_or s.registers value None ≡ Some reference) × MeansBesides base old
        taken (emptied value s) given reference

    out : Out
    out =
        let found : (reference : Reference) × (slice_index_or s.registers value None ≡ Some reference)
        × MeansBesides base old (slice_set before value None) (emptied value s) given reference =
        means_taken base old before s value given means had in (
          found.0,
          found.1,
          subst (λ registers. MeansBesides base old registers (emptied value s) given found.0)
              (sym is) found.2,
        )

    -- the instruction comes to what the call comes to
    comes_to : (reference : Reference) (outcome : Result (Option Reference × List (Object A)) Fault)
        → slice_index_or s.registers value None ≡ Some reference
        → asking (call reference) container (emptied value s) ≡ outcome
        → (held value s.registers >>= λ reference. called (call reference) container value s)
        ≡ (outcome >>= λ done. Ok
        (record { registers = holding value done.0 s.registers; objects = done.1; printed = s.printed }))
    comes_to reference outcome refers comes =
        ap (λ (r : Result Reference Fault). r >>= λ reference. called (call reference) container value s)
        (held_is s.registers value reference refers)
        ∙ called_of (call reference) container value s outcome
        (sym (asks_emptied (call reference) container value s apart) ∙ comes)

    pub took : (new : FrameSeen A) → OwnLog new.heap.cells new.seat.log
        → ((base : ℕ) (s : State A) (reference : Reference) → OwnLog new.heap.cells new.seat.log
        → MeansBesides base old taken s given reference
        → AsksNone (call reference) container base new taken s)
        → Led base new taken (held value s.registers >>= λ reference. called (call reference) container value s)
    took new own told =
        let now : Out = out in
        let done : AsksNone (call now.0) container base new taken (emptied value s) =
        told base (emptied value s) now.0 own now.2 in
        (with_objects done.made (emptied value s), comes_to now.0 (Ok (None, done.made)) now.1 done.comes, done.means)

    pub swapped : (mid new : FrameSeen A) (now : List (Option HandleSeen)) (back : HandleSeen)
        → OwnLog mid.heap.cells mid.seat.log → OwnLog new.heap.cells new.seat.log
        → ((base : ℕ) (s : State A) (reference : Reference) → OwnLog mid.heap.cells mid.seat.log
        → MeansBesides base old taken s given reference
        → AsksOne (call reference) container base mid taken s back)
        → HoldsInto mid new taken now value back
        → Led base new now (held value s.registers >>= λ reference. called (call reference) container value s)
    swapped mid new registers back own_mid own told holds =
        let now : Out = out in
        let done : AsksOne (call now.0) container base mid taken (emptied value s) back =
        told base (emptied value s) now.0 own_mid now.2 in
        let means_now : Means base new registers
        (with_register value (Some done.reference) (with_objects done.made (emptied value s))) =
        holds base (with_objects done.made (emptied value s)) done.reference own done.means in (
          record {
            registers = holding value (Some done.reference) s.registers;
            objects = done.made;
            printed = s.printed;
          },
          comes_to now.0 (Ok (Some done.reference, done.made)) now.1 done.comes,
          subst (λ plain. Means base new registers
              (record { registers = plain; objects = done.made; printed = s.printed }))
              (set_twice s.registers value None (Some done.reference)) means_now,
        )

    pub handed_back : (mid new : FrameSeen A) (now : List (Option HandleSeen)) (back : HandleSeen) (fault : Fault)
        → OwnLog mid.heap.cells mid.seat.log → OwnLog new.heap.cells new.seat.log
        → back ≡ given
        → ((base : ℕ) (s : State A) (reference : Reference) → OwnLog mid.heap.cells mid.seat.log
        → MeansBesides base old taken s given reference
        → is_want fault ≡ false → (asking (call reference) container s ≡ Err fault) × MeansBesides base mid taken s
        given reference)
        → HoldsInto mid new taken now value back
        → is_want fault ≡ false → Left base new now s
        (held value s.registers >>= λ reference. called (call reference) container value s) fault
    handed_back mid new registers back fault own_mid own same told holds want =
        let now : Out = out in
        let refused : (asking (call now.0) container (emptied value s) ≡ Err fault) × MeansBesides base mid taken
        (emptied value s) given now.0 =
        told base (emptied value s) now.0 own_mid now.2 want in
        let means_now : Means base new registers (with_register value (Some now.0) (emptied value s)) =
        holds base (emptied value s) now.0 own (subst (λ h. MeansBesides base mid taken (emptied value s) h now.0)
        (sym same) refused.1) in (
          comes_to now.0 (Err fault) now.1 refused.0,
          subst (Means base new registers) (put_back value now.0 s now.1)
              means_now,
        )

  -- ---- what a put answers

  module _ (call : Object A → Result (Option Reference × Object A) Fault) (container base : ℕ) (new : FrameSeen A)
      (registers : List (Option HandleSeen)) (s : State A) where
    abbrev Answers : Option HandleSeen → Type 0
    Answers answer = MatchOption answer (AsksNone call container base new registers s)
        (AsksOne call container base new registers s)

    pub put_none : (answer : Option HandleSeen) → answer ≡ None → Answers answer
        → AsksNone call container base new registers s
    put_none answer is asks = subst Answers is asks

    pub put_one : (answer : Option HandleSeen) (given : HandleSeen) → answer ≡ Some given → Answers answer
        → AsksOne call container base new registers s given
    put_one answer given is asks = subst Answers is asks
