-- What a look for a key in an object finds.
use Rattle.std.specs.Prelude.{◌≡◌, ◌≢◌, ℕ, Some, None, slice_get}
use Rattle.brc_words.specs.declared.entry.Entry.{Entry}
use Rattle.brc_words.specs.declared.key.Key.{Key}
use Rattle.brc_words.specs.declared.kind.Kind.TheVariants as kinds
use Rattle.brc_count.specs.block.Row.{RowSeen}
use Rattle.brc_count.specs.block.Pairs.{noted_in}
use Rattle.brc_count.specs.block.Payload.{kind_of}
use Rattle.brc_count.specs.block.declared.payload.Payload.{Payload}
use Rattle.brc_count.specs.block.declared.payload.Payload.TheVariants as payloads
use Rattle.brc_plain.specs.Dicts.{IsFirstAt, value_at}
use Rattle.brc_things.specs.declared.seeking.Sought.{Sought}
use Rattle.brc_things.specs.declared.seeking.Sought.TheVariants as sought

module _ {A : Type 0} where
  -- it is a dictionary, in which the key stands there, beside that entry
  pub record HasKeyAt (payload : Payload A) (key : Key A) (index : ℕ) (entry : Entry) : Type 0 where
    pub pairs : RowSeen (Key A × Entry)
    pub is : payload ≡ payloads.Dict pairs
    pub stands : IsFirstAt key pairs.items index
    pub beside : slice_get (noted_in pairs.items) index ≡ Some entry

  -- it is a dictionary without the key
  pub record IsAbsent (payload : Payload A) (key : Key A) : Type 0 where
    pub pairs : RowSeen (Key A × Entry)
    pub is : payload ≡ payloads.Dict pairs
    pub none : value_at key pairs.items ≡ None

  abbrev pub Seeks : Payload A → Key A → Sought → Type 0
  Seeks payload key sought.WrongKind = kind_of payload ≢ kinds.Dict
  Seeks payload key (sought.There index entry) = HasKeyAt payload key index entry
  Seeks payload key sought.Absent = IsAbsent payload key
