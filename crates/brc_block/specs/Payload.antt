-- A payload as its kind, its entries with what is noted beside them, and their keys.
use Rattle.std.specs.Prelude.{ℕ, List, [], true, false}
use Rattle.brc_words.specs.declared.key.Key.{Key}
use Rattle.brc_words.specs.declared.entry.Entry.{Entry}
use Rattle.brc_words.specs.Notes.{cells_of}
use Rattle.brc_words.specs.declared.kind.Kind.{Kind}
use Rattle.brc_words.specs.declared.kind.Kind.TheVariants as kinds
use Rattle.brc_block.specs.Pairs.{keys_in, noted_in}
use Rattle.brc_block.specs.declared.payload.Payload.{Payload}
use Rattle.brc_block.specs.declared.payload.Payload.TheVariants.{Int, Text, «List» as Items, Dict, Mailbox, Nothing}
use Rattle.brc_block.specs.declared.payload.Payload.TheVariants.{Truth}

module _ {A : Type 0} where
  -- what kind of object it is
  abbrev pub kind_of : Payload A → Kind
  kind_of (Int number) = kinds.Int
  kind_of (Text text) = kinds.Text
  kind_of (Items cells) = kinds.List
  kind_of (Dict pairs) = kinds.Dict
  kind_of (Mailbox letters) = kinds.Mailbox
  kind_of Nothing = kinds.Nothing
  kind_of (Truth false) = kinds.False
  kind_of (Truth true) = kinds.True

  -- the entries, each a cell and what is noted beside it: of a dictionary in the order of their keys, of a mailbox the
  -- first put in first
  abbrev pub noted_of : Payload A → List Entry
  noted_of (Int number) = []
  noted_of (Text text) = []
  noted_of (Items cells) = cells.items
  noted_of (Dict pairs) = noted_in pairs.items
  noted_of (Mailbox letters) = letters.items
  noted_of Nothing = []
  noted_of (Truth truth) = []

  -- the cells alone
  abbrev pub entries_of : Payload A → List ℕ
  entries_of payload = cells_of (noted_of payload)

  -- the keys of a dictionary, in the order in which they came; nothing else has keys
  abbrev pub keys_of : Payload A → List (Key A)
  keys_of (Int number) = []
  keys_of (Text text) = []
  keys_of (Items cells) = []
  keys_of (Dict pairs) = keys_in pairs.items
  keys_of (Mailbox letters) = []
  keys_of Nothing = []
  keys_of (Truth truth) = []

  -- how many more entries go in before memory is asked for
  abbrev pub spare_of : Payload A → ℕ
  spare_of (Int number) = 0
  spare_of (Text text) = 0
  spare_of (Items cells) = cells.spare
  spare_of (Dict pairs) = pairs.spare
  spare_of (Mailbox letters) = letters.spare
  spare_of Nothing = 0
  spare_of (Truth truth) = 0
