-- Why a call by values was refused, from what its steps say.
use Rattle.std.proofs.Common.{◌≡◌, ◌≢◌, ◌≤◌, ◌∷◌, [], ◌++◌, ℕ, Bool, true, false, List, Some, None, Result, Ok, Err}
use Rattle.std.proofs.Common.{inl, refl, sym, ◌∙◌, ap, subst, length, slice_get, slice_set, if◌then◌else◌}
use Rattle.std.proofs.lemmas.Bool.{le-ltb, true≢false}
use Rattle.brc_words.specs.declared.entry.Entry.{Entry}
use Rattle.brc_words.specs.declared.fault.Fault.{Fault}
use Rattle.brc_words.specs.declared.fault.Fault.TheVariants as faults
use Rattle.brc_words.specs.declared.key.Key.{Key}
use Rattle.brc_words.specs.declared.kind.Kind.{Kind}
use Rattle.brc_words.specs.declared.kind.Kind.TheVariants as kinds
use Rattle.brc_words.specs.declared.limits.TheConstants.{MOST_ENTRIES}
use Rattle.brc_words.specs.Notes.{noted}
use Rattle.brc_words.proofs.Cells.{cells_long}
use Rattle.brc_count.specs.block.declared.payload.Payload.{Payload}
use Rattle.brc_count.specs.block.Payload.{kind_of, noted_of, entries_of}
use Rattle.brc_count.specs.law.declared.world.event.Change.TheVariants.{Keep}
use Rattle.brc_count.specs.law.declared.rule.contents.Contents.{Contents}
use Rattle.brc_count.specs.law.declared.rule.contents.Contents.TheVariants as contents
use Rattle.brc_count.specs.law.rule.Logs.{kind_in, noted_in}
use Rattle.brc_count.specs.table.Shown.{contents_of}
use Rattle.brc_count.specs.Frames.{FrameSeen}
use Rattle.brc_count.specs.Locking.{UnlockedBy}
use Rattle.brc_plain.specs.Lists as lists
use Rattle.brc_plain.specs.Outcomes.{leaving, or_fault}
use Rattle.brc_things.specs.declared.value.Value.{Value}
use Rattle.brc_things.specs.declared.value.Value.TheVariants.{Scalar, Object}
use Rattle.brc_things.specs.Changing.{PlainCall, RefusedPlainly, RefusedPlace}
use Rattle.brc_things.specs.Plain_Dicts.{plain_put}
use Rattle.brc_things.specs.Plain_Lists.{plain_set, left_in}
use Rattle.brc_things.specs.Plain_Values.{PutCall, Alike, answering, at_new, at_old}
use Rattle.brc_things.specs.Putting.{RefusedNew, RefusedRoomFor}
use Rattle.brc_things.specs.Rows.{is_row, on_row, plain_at, plain_put as plain_row_put, NoRoom, NoEntry}
use Rattle.brc_things.specs.Seeking.{IsAbsent}
use Rattle.brc_things.specs.Values.{RefusedPutting}
use Rattle.brc_things.proofs.Locked.{Stood, changes_since, refused_plainly, refused_append}
use Rattle.brc_things.proofs.Rows_Law.{row, on_kind}
use Rattle.brc_things.proofs.Shown.{kind_shown, noted_shown}
use Rattle.brc_things.proofs.Valued_Plain.{put_may_row}

-- ---- what the plain calls on rows refuse

row_wrong : {R : Type 0} (kind : Kind) → is_row kind ≡ true → (call : List Entry → Result (R × List Entry) Fault)
    (found : Contents) → kind_in found ≢ kind → on_row kind call found ≡ Err faults.WrongKind
row_wrong kinds.«List» is call (contents.«List» cells) other = absurd (other refl)
row_wrong kinds.«List» is call _ other = refl
row_wrong kinds.Mailbox is call (contents.Mailbox letters) other = absurd (other refl)
row_wrong kinds.Mailbox is call _ other = refl
row_wrong _ is call found other = cc

row_full : (kind : Kind) → is_row kind ≡ true → (found : Contents) (entry : Entry) → kind_in found ≡ kind
    → MOST_ENTRIES ≤ length (noted_in found) → plain_row_put kind entry found ≡ Err faults.Full
row_full kind is found entry same full =
    on_kind kind is (λ cells. lists.push cells entry) found same
    ∙ ap (λ b. left_in (row kind) (if b then Ok (tt, noted_in found ++ entry ∷ []) else Err faults.Full))
    (le-ltb (length (noted_in found)) MOST_ENTRIES full)

row_past : (kind : Kind) → is_row kind ≡ true → (found : Contents) (index : ℕ) (left : List Entry → List Entry)
    → kind_in found ≡ kind → slice_get (noted_in found) index ≡ None
    → plain_at kind index left found ≡ Err faults.NoSuchPlace
row_past kind is found index left same none =
    on_kind kind is (λ cells. leaving (left cells) (lists.get cells index)) found same
    ∙ ap (λ o. left_in (row kind) (leaving (left (noted_in found)) (or_fault faults.NoSuchPlace o))) none

module _ {A : Type 0} where
  pub no_entry : (kind : Kind) (index : ℕ) (left : List Entry → List Entry) (block : Payload A) (fault : Fault)
      → is_row kind ≡ true → NoEntry kind index (kind_of block) (noted_of block) fault
      → plain_at kind index left (contents_of block) ≡ Err fault
  no_entry kind index left block faults.WrongKind is other =
      row_wrong kind is _ (contents_of block) (λ same. other (sym (kind_shown block) ∙ same))
  no_entry kind index left block faults.NoSuchPlace is none =
      row_past kind is (contents_of block) index left (kind_shown block ∙ none.0)
      (ap (λ es. slice_get es index) (noted_shown block) ∙ none.1)
  no_entry kind index left block _ is none = absurd none

-- ---- what a plain call says is what the call says

-- faults that a plain call says
abbrev pub says : Fault → Bool
says faults.Busy = false
says faults.FrameFull = false
says faults.OutOfMemory = false
says _ = true

place_plainly : {A R : Type 0} (old new : FrameSeen A) (k : ℕ) (call : PlainCall R) (fault : Fault) → says fault ≡ true
    → RefusedPlainly old new k call fault → RefusedPlace old new k call fault
place_plainly old new k call faults.Busy said plainly = absurd (true≢false (sym said))
place_plainly old new k call faults.FrameFull said plainly = absurd (true≢false (sym said))
place_plainly old new k call faults.OutOfMemory said plainly = absurd (true≢false (sym said))
place_plainly old new k call _ said plainly = plainly

module _ {A : Type 0} where
  pub putting_plainly : (old new : FrameSeen A) (k : ℕ) (value : Value A) (call : PutCall) (fault : Fault)
      → says fault ≡ true → ((entry : Entry) → RefusedPlainly old new k (call entry) fault)
      → RefusedPutting old new k value call fault
  putting_plainly old new k value call faults.Busy said plainly = absurd (true≢false (sym said))
  putting_plainly old new k value call faults.FrameFull said plainly = absurd (true≢false (sym said))
  putting_plainly old new k value call faults.OutOfMemory said plainly = absurd (true≢false (sym said))
  putting_plainly old new k (Scalar note) call _ said plainly = plainly (noted 0 note)
  putting_plainly old new k (Object handle note) call _ said plainly = λ c at. plainly (noted c note)

  -- memory was missing for what is new
  putting_new : (old new : FrameSeen A) (k : ℕ) (value : Value A) (call : PutCall)
      → ((entry : Entry) → RefusedNew old new k (call entry)) → RefusedPutting old new k value call faults.OutOfMemory
  putting_new old new k (Scalar note) call new_one = inl (new_one (noted 0 note))
  putting_new old new k (Object handle note) call new_one = λ c at. new_one (noted c note)

  -- ---- the steps

  pub said_entry : (kind : Kind) (index : ℕ) (block : Payload A) (fault : Fault)
      → NoEntry kind index (kind_of block) (noted_of block) fault → says fault ≡ true
  said_entry kind index block faults.WrongKind why = refl
  said_entry kind index block faults.NoSuchPlace why = refl
  said_entry kind index block _ why = absurd why

  -- a list or a mailbox has no such entry
  pub place_unfound : (before now new : FrameSeen A) (k : ℕ) (block : ℕ × Payload A) (kind : Kind) (index : ℕ)
      (left : List Entry → List Entry) (call : PlainCall Entry) (fault : Fault)
      → Stood before now k block → UnlockedBy now new Keep block → is_row kind ≡ true
      → NoEntry kind index (kind_of block.1) (noted_of block.1) fault
      → call (contents_of block.1) ≡ plain_at kind index left (contents_of block.1)
      → RefusedPlace before new k call fault
  place_unfound before now new k block kind index left call fault was ended is_one why same =
      place_plainly before new k call fault (said_entry kind index block.1 fault why)
      (refused_plainly before now new k block call fault was ended
      (same ∙ no_entry kind index left block.1 fault is_one why))

  pub set_unfound : (before now new : FrameSeen A) (k : ℕ) (block : ℕ × Payload A) (index : ℕ) (value : Value A)
      (call : PutCall) (fault : Fault)
      → Stood before now k block → UnlockedBy now new Keep block
      → NoEntry kinds.«List» index (kind_of block.1) (noted_of block.1) fault
      → Alike (contents_of block.1) call (at_old (plain_set index))
      → RefusedPutting before new k value call fault
  set_unfound before now new k block index value call fault was ended why same =
      putting_plainly before new k value call fault (said_entry kinds.«List» index block.1 fault why)
      (λ entry. refused_plainly before now new k block (call entry) fault was ended
      (same entry ∙ ap (answering Some) (no_entry kinds.«List» index (λ es. slice_set es index entry) block.1 fault
      refl why)))

  -- a list or a mailbox has no room
  pub put_unroomed : (before now new : FrameSeen A) (k : ℕ) (block : ℕ × Payload A) (kind : Kind) (value : Value A)
      (call : PutCall) (fault : Fault)
      → Stood before now k block → UnlockedBy now new Keep block → is_row kind ≡ true
      → NoRoom kind (kind_of block.1) (entries_of block.1) fault
      → Alike (contents_of block.1) call (at_new (plain_row_put kind))
      → RefusedPutting before new k value call fault
  put_unroomed before now new k block kind value call faults.WrongKind was ended is_one other same =
      putting_plainly before new k value call faults.WrongKind refl
      (λ entry. refused_plainly before now new k block (call entry) faults.WrongKind was ended
      (same entry ∙ ap (answering (λ done. None)) (row_wrong kind is_one _ (contents_of block.1)
      (λ is. other (sym (kind_shown block.1) ∙ is)))))
  put_unroomed before now new k block kind value call faults.Full was ended is_one full same =
      putting_plainly before new k value call faults.Full refl
      (λ entry. refused_plainly before now new k block (call entry) faults.Full was ended
      (same entry ∙ ap (answering (λ done. None)) (row_full kind is_one (contents_of block.1) entry
      (kind_shown block.1 ∙ full.0)
      (subst (λ es. MOST_ENTRIES ≤ length es) (sym (noted_shown block.1))
      (subst (λ n. MOST_ENTRIES ≤ n) (cells_long (noted_of block.1)) full.1)))))
  put_unroomed before now new k block kind value call faults.OutOfMemory was ended is_one few same =
      putting_new before new k value call
      (λ entry. record {
        found = contents_of block.1;
        put = row kind (noted_in (contents_of block.1) ++ entry ∷ []);
        looks = changes_since before now new k block block.1 Keep was ended;
        plain = same entry ∙ put_may_row kind block.1 entry is_one few.0 few.1;
      })
  put_unroomed before now new k block kind value call _ was ended is_one why same = absurd why

  -- a dictionary has no room for a new key
  pub append_unroomed : (before now new : FrameSeen A) (k : ℕ) (block : ℕ × Payload A) (key : Key A) (value : Value A)
      (fault : Fault)
      → Stood before now k block → UnlockedBy now new Keep block → IsAbsent block.1 key
      → RefusedRoomFor (length (entries_of block.1)) fault
      → RefusedPutting before new k value (plain_put key) fault
  append_unroomed before now new k block key (Scalar note) faults.Full was ended absent full =
      refused_append before now new k block key (noted 0 note) faults.Full was ended absent full
  append_unroomed before now new k block key (Object handle note) faults.Full was ended absent full =
      λ c at. refused_append before now new k block key (noted c note) faults.Full was ended absent full
  append_unroomed before now new k block key value faults.OutOfMemory was ended absent few =
      putting_new before new k value (plain_put key)
      (λ entry. refused_append before now new k block key entry faults.OutOfMemory was ended absent few)
  append_unroomed before now new k block key value _ was ended absent none = absurd none
