-- The pair at a place: what the plain calls answer on a block that has one, or none.
use Rattle.std.proofs.Common.{◌≡◌, ◌≢◌, ℕ, true, List, Some, Ok, Err, refl, sym, ◌∙◌, ap, is_ok, slice_get}
use Rattle.std.specs.Option.{option_map}
use Rattle.std.proofs.lemmas.Option.{slice_get-map}
use Rattle.brc_words.specs.declared.entry.Entry.{Entry}
use Rattle.brc_words.specs.declared.fault.Fault.{Fault}
use Rattle.brc_words.specs.declared.fault.Fault.TheVariants as faults
use Rattle.brc_words.specs.declared.key.Key.{Key}
use Rattle.brc_words.specs.declared.kind.Kind.TheVariants as kinds
use Rattle.brc_count.specs.block.Row.{RowSeen}
use Rattle.brc_count.specs.block.Pairs.{noted_in}
use Rattle.brc_count.specs.block.Payload.{kind_of, noted_of}
use Rattle.brc_count.specs.block.declared.payload.Payload.{Payload}
use Rattle.brc_count.specs.block.declared.payload.Payload.TheVariants as payloads
use Rattle.brc_plain.specs.Outcomes.{leaving, or_fault}
use Rattle.brc_plain.specs.Dicts.{pair_at}
use Rattle.brc_count.specs.law.declared.world.event.Change.TheVariants.{Keep}
use Rattle.brc_count.specs.table.Shown.{contents_of}
use Rattle.brc_count.specs.Frames.{FrameSeen, Refused}
use Rattle.brc_count.specs.Locking.{UnlockedBy}
use Rattle.brc_things.specs.Changing.{RefusedEntry, RefusedPlace}
use Rattle.brc_things.specs.Plain_Dicts.{first_of, second_of, plain_key_at, plain_value_at}
use Rattle.brc_things.specs.Indexing.{ReadsUnlocked, IsAt, IsPast, NoPair, MissesKey, MissesPair}
use Rattle.brc_things.proofs.Shown.{pairs_back}
use Rattle.brc_things.proofs.Locked.{Stood, changes_since, refused_plainly, refused_for_want, refused_place}

cell_at : {K : Type 0} (pairs : List (K × Entry)) (index : ℕ) (key : K) (cell : Entry)
    → slice_get pairs index ≡ Some (key, cell)
    → slice_get (noted_in pairs) index ≡ Some cell
cell_at pairs index key cell stands = slice_get-map (λ pair. pair.1) pairs index
    ∙ ap (option_map (λ pair. pair.1)) stands

module _ {A : Type 0} where
  -- ---- what the plain calls answer

  key_is : (pairs : RowSeen (Key A × Entry)) (index : ℕ) → plain_key_at index (contents_of (payloads.Dict pairs))
      ≡ leaving (contents_of (payloads.Dict pairs)) (first_of (pair_at pairs.items index))
  key_is pairs index = ap (λ ps. leaving (contents_of (payloads.Dict pairs)) (first_of (pair_at ps index)))
      (pairs_back pairs.items)

  value_is : (pairs : RowSeen (Key A × Entry)) (index : ℕ) → plain_value_at A index (contents_of (payloads.Dict pairs))
      ≡ leaving (contents_of (payloads.Dict pairs)) (second_of (pair_at pairs.items index))
  value_is pairs index = ap (λ ps. leaving (contents_of (payloads.Dict pairs)) (second_of (pair_at ps index)))
      (pairs_back pairs.items)

  pub key_there : (payload : Payload A) (index : ℕ) (key : Key A) (cell : Entry) → IsAt payload index key cell
      → plain_key_at index (contents_of payload) ≡ Ok (key, contents_of payload)
  key_there payload index key cell there =
      let before = there.pairs in
      ap (λ p. plain_key_at index (contents_of p)) there.is
      ∙ key_is before index
      ∙ ap (λ o. leaving (contents_of (payloads.Dict before)) (first_of (or_fault faults.NoSuchPlace o))) there.stands
      ∙ ap (λ p. Ok (key, contents_of p)) (sym there.is)

  pub value_there : (payload : Payload A) (index : ℕ) (key : Key A) (cell : Entry) → IsAt payload index key cell
      → plain_value_at A index (contents_of payload) ≡ Ok (cell, contents_of payload)
  value_there payload index key cell there =
      let before = there.pairs in
      ap (λ p. plain_value_at A index (contents_of p)) there.is
      ∙ value_is before index
      ∙ ap (λ o. leaving (contents_of (payloads.Dict before)) (second_of (or_fault faults.NoSuchPlace o))) there.stands
      ∙ ap (λ p. Ok (cell, contents_of p)) (sym there.is)

  key_wrong : (payload : Payload A) (index : ℕ) → kind_of payload ≢ kinds.Dict
      → plain_key_at {A = A} index (contents_of payload) ≡ Err faults.WrongKind
  key_wrong (payloads.Dict pairs) index other = absurd (other refl)
  key_wrong _ index other = refl

  pub value_wrong : (payload : Payload A) (index : ℕ) → kind_of payload ≢ kinds.Dict
      → plain_value_at A index (contents_of payload) ≡ Err faults.WrongKind
  value_wrong (payloads.Dict pairs) index other = absurd (other refl)
  value_wrong _ index other = refl

  key_past : (payload : Payload A) (index : ℕ) → IsPast payload index → plain_key_at {A = A} index (contents_of payload)
      ≡ Err faults.NoSuchPlace
  key_past payload index past =
      let before = past.pairs in
      ap (λ p. plain_key_at {A = A} index (contents_of p)) past.is
      ∙ key_is before index
      ∙ ap (λ o. leaving (contents_of (payloads.Dict before)) (first_of (or_fault faults.NoSuchPlace o))) past.past

  pub value_past : (payload : Payload A) (index : ℕ) → IsPast payload index → plain_value_at A index (contents_of payload)
      ≡ Err faults.NoSuchPlace
  value_past payload index past =
      let before = past.pairs in
      ap (λ p. plain_value_at A index (contents_of p)) past.is
      ∙ value_is before index
      ∙ ap (λ o. leaving (contents_of (payloads.Dict before)) (second_of (or_fault faults.NoSuchPlace o))) past.past

  pub no_key : (payload : Payload A) (index : ℕ) (fault : Fault) → NoPair payload index fault
      → MissesKey A (contents_of payload) index fault
  no_key payload index faults.WrongKind why = key_wrong payload index why
  no_key payload index faults.NoSuchPlace why = key_past payload index why
  no_key payload index _ why = absurd why

  pub no_pair : (frame : FrameSeen A) (payload : Payload A) (index : ℕ) (fault : Fault) → NoPair payload index fault
      → MissesPair frame (contents_of payload) index fault
  no_pair frame payload index faults.WrongKind why = value_wrong payload index why
  no_pair frame payload index faults.NoSuchPlace why = value_past payload index why
  no_pair frame payload index _ why = absurd why

  pub key_may : (payload : Payload A) (index : ℕ) (key : Key A) (cell : Entry) → IsAt payload index key cell
      → is_ok (plain_key_at {A = A} index (contents_of payload)) ≡ true
  key_may payload index key cell there = ap is_ok (key_there payload index key cell there)

  pub value_may : (payload : Payload A) (index : ℕ) (key : Key A) (cell : Entry) → IsAt payload index key cell
      → is_ok (plain_value_at A index (contents_of payload)) ≡ true
  value_may payload index key cell there = ap is_ok (value_there payload index key cell there)

  -- a place was refused to a pair that is there
  pub place_missed : (frame : FrameSeen A) (payload : Payload A) (index : ℕ) (key : Key A) (cell : Entry) (fault : Fault)
      → IsAt payload index key cell
      → Refused frame fault → MissesPair frame (contents_of payload) index fault
  place_missed frame payload index key cell faults.FrameFull there full = (value_may payload index key cell there, full)
  place_missed frame payload index key cell faults.OutOfMemory there low = (value_may payload index key cell there, low)
  place_missed frame payload index key cell _ there none = absurd none

  pub entry_at : (payload : Payload A) (index : ℕ) (key : Key A) (cell : Entry) → IsAt payload index key cell
      → slice_get (noted_of payload) index ≡ Some cell
  entry_at payload index key cell there = ap (λ p. slice_get (noted_of p) index) there.is
      ∙ cell_at there.pairs.items index key cell there.stands

  -- ---- from the frame that the locking began from

  pub reads_since : (before now new : FrameSeen A) (k index : ℕ) (block : ℕ × Payload A) (key : Key A)
      → Stood before now k block
      → UnlockedBy now new Keep block → plain_key_at index (contents_of block.1) ≡ Ok (key, contents_of block.1)
      → ReadsUnlocked before new k (plain_key_at index) key
  reads_since before now new k index block key was ended plain = record {
    found = contents_of block.1;
    looks = changes_since before now new k block block.1 Keep was ended;
    plain = plain;
  }

  pub key_refused : (before now new : FrameSeen A) (k index : ℕ) (block : ℕ × Payload A) (fault : Fault)
      → Stood before now k block
      → UnlockedBy now new Keep block → MissesKey A (contents_of block.1) index fault
      → RefusedEntry before new k (plain_key_at {A = A} index) fault
  key_refused before now new k index block faults.Busy was ended why = absurd why
  key_refused before now new k index block faults.OutOfMemory was ended why = refused_for_want before now new k block
      (plain_key_at {A = A} index) was ended why
  key_refused before now new k index block fault was ended why = refused_plainly before now new k block
      (plain_key_at {A = A} index) fault was ended why

  pub pair_refused : (before now new : FrameSeen A) (k index : ℕ) (block : ℕ × Payload A) (fault : Fault)
      → Stood before now k block
      → UnlockedBy now new Keep block → (frame : FrameSeen A) → frame.len ≡ before.len
      → MissesPair frame (contents_of block.1) index fault
      → RefusedPlace before new k (plain_value_at A index) fault
  pair_refused before now new k index block faults.Busy was ended frame len why = absurd why
  pair_refused before now new k index block faults.FrameFull was ended frame len why =
      refused_place before frame new k (plain_value_at A index) faults.FrameFull len why.1
      (refused_for_want before now new k block (plain_value_at A index) was ended why.0)
  pair_refused before now new k index block faults.OutOfMemory was ended frame len why =
      refused_place before frame new k (plain_value_at A index) faults.OutOfMemory len why.1
      (refused_for_want before now new k block (plain_value_at A index) was ended why.0)
  pair_refused before now new k index block fault was ended frame len why = refused_plainly before now new k block
      (plain_value_at A index) fault was ended why
