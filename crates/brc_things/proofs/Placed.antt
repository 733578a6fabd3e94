-- The place of a key: what the plain call answers on a block that has the key, or hasn't.
use Rattle.std.proofs.Common.{◌≡◌, ◌≢◌, ℕ, zero, suc, List, [], ◌∷◌, Some, None, Ok, Err, refl, sym, ◌∙◌, ap}
use Rattle.std.specs.Option.{option_map}
use Rattle.brc_words.specs.declared.entry.Entry.{Entry}
use Rattle.brc_words.specs.declared.fault.Fault.TheVariants as faults
use Rattle.brc_words.specs.declared.key.Key.{Key}
use Rattle.brc_words.specs.declared.kind.Kind.TheVariants as kinds
use Rattle.brc_count.specs.block.Row.{RowSeen}
use Rattle.brc_count.specs.block.Payload.{kind_of}
use Rattle.brc_count.specs.block.declared.payload.Payload.{Payload}
use Rattle.brc_count.specs.block.declared.payload.Payload.TheVariants as payloads
use Rattle.brc_plain.specs.Outcomes.{leaving, or_fault}
use Rattle.brc_plain.specs.Dicts.{value_at, IsFirstAt}
use Rattle.brc_plain.proofs.Pairs.{none_apart}
use Rattle.brc_count.specs.law.declared.world.event.Change.TheVariants.{Keep}
use Rattle.brc_count.specs.table.Shown.{contents_of}
use Rattle.brc_count.specs.Frames.{FrameSeen}
use Rattle.brc_count.specs.Locking.{UnlockedBy}
use Rattle.brc_things.specs.Plain_Dicts.{place_of, plain_place}
use Rattle.brc_things.specs.Seeking.{HasKeyAt, IsAbsent}
use Rattle.brc_things.specs.Indexing.{ReadsUnlocked}
use Rattle.brc_things.proofs.Shown.{pairs_back}
use Rattle.brc_things.proofs.Locked.{Stood, changes_since}

module _ {A : Type 0} where
  place_stands : (key : Key A) (pairs : List (Key A × Entry)) (index : ℕ) → IsFirstAt key pairs index
      → place_of key pairs ≡ Some index
  place_stands key [] index stands = absurd stands
  place_stands key (pair ∷ pairs) zero stands = rw stands refl
  place_stands key (pair ∷ pairs) (suc index) stands =
      rw stands.0 (ap (option_map suc) (place_stands key pairs index stands.1))

  no_place : (key : Key A) (pairs : List (Key A × Entry)) → value_at key pairs ≡ None → place_of key pairs ≡ None
  no_place key [] none = refl
  no_place key (pair ∷ pairs) none =
      let (other, rest) = none_apart key pair pairs none in
      rw other (ap (option_map suc) (no_place key pairs rest))

  place_is : (key : Key A) (pairs : RowSeen (Key A × Entry)) → plain_place key (contents_of (payloads.Dict pairs))
      ≡ leaving (contents_of (payloads.Dict pairs)) (or_fault faults.NoSuchKey (place_of key pairs.items))
  place_is key pairs = ap (λ ps. leaving (contents_of (payloads.Dict pairs)) (or_fault faults.NoSuchKey
      (place_of key ps))) (pairs_back pairs.items)

  place_there : (key : Key A) (payload : Payload A) (index : ℕ) (cell : Entry) → HasKeyAt payload key index cell
      → plain_place key (contents_of payload) ≡ Ok (index, contents_of payload)
  place_there key payload index cell there =
      let before = there.pairs in
      ap (λ p. plain_place key (contents_of p)) there.is
      ∙ place_is key before
      ∙ ap (λ o. leaving (contents_of (payloads.Dict before)) (or_fault faults.NoSuchKey o))
      (place_stands key before.items index there.stands)
      ∙ ap (λ p. Ok (index, contents_of p)) (sym there.is)

  pub place_absent : (key : Key A) (payload : Payload A) → IsAbsent payload key
      → plain_place key (contents_of payload) ≡ Err faults.NoSuchKey
  place_absent key payload absent =
      let before = absent.pairs in
      ap (λ p. plain_place key (contents_of p)) absent.is
      ∙ place_is key before
      ∙ ap (λ o. leaving (contents_of (payloads.Dict before)) (or_fault faults.NoSuchKey o))
      (no_place key before.items absent.none)

  pub place_wrong : (key : Key A) (payload : Payload A) → kind_of payload ≢ kinds.Dict
      → plain_place key (contents_of payload) ≡ Err faults.WrongKind
  place_wrong key (payloads.Dict pairs) other = absurd (other refl)
  place_wrong key _ other = refl

  -- from the frame that the locking began from
  pub place_since : (before now new : FrameSeen A) (k index : ℕ) (cell : Entry) (block : ℕ × Payload A) (key : Key A)
      → Stood before now k block → UnlockedBy now new Keep block → HasKeyAt block.1 key index cell
      → ReadsUnlocked before new k (plain_place key) index
  place_since before now new k index cell block key was ended there = record {
    found = contents_of block.1;
    looks = changes_since before now new k block block.1 Keep was ended;
    plain = place_there key block.1 index cell there;
  }
