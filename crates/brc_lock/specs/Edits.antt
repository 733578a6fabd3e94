-- The contents of a container with an entry more, fewer or exchanged.
use Rattle.std.specs.Prelude.{◌≢◌, ℕ, ◌++◌, List, [], ◌∷◌, Option, Some, None, slice_set, remove, zero, suc}
use Rattle.std.specs.List.{All}
use Rattle.brc_words.specs.declared.entry.Entry.{Entry}
use Rattle.brc_words.specs.declared.key.Key.{Key}
use Rattle.brc_count.specs.table.Shown.{plain_key}
use Rattle.brc_count.specs.law.declared.rule.contents.PlainKey.{PlainKey}
use Rattle.brc_count.specs.law.declared.rule.contents.Contents.{Contents}
use Rattle.brc_count.specs.law.declared.rule.contents.Contents.TheVariants.{«List» as Cells, Dict, Mailbox}

-- another entry beside the key of a pair
abbrev pub with_value : List (PlainKey × Entry) → ℕ → Entry → List (PlainKey × Entry)
with_value [] index entry = []
with_value (pair ∷ pairs) zero entry = (pair.0, entry) ∷ pairs
with_value (pair ∷ pairs) (suc index) entry = pair ∷ with_value pairs index entry

-- one entry more, at the end, of a dictionary beside this key
abbrev pub with_last : {A : Type 0} → Contents → Option (Key A) → Entry → Contents
with_last (Cells entries) None entry = Cells (entries ++ entry ∷ [])
with_last (Mailbox letters) None entry = Mailbox (letters ++ entry ∷ [])
with_last (Dict pairs) (Some key) entry = Dict (pairs ++ (plain_key key, entry) ∷ [])
with_last found _ entry = found

-- one entry fewer, of a dictionary with its key; later ones close up
abbrev pub without : Contents → ℕ → Contents
without (Cells cells) index = Cells (remove cells index)
without (Mailbox letters) index = Mailbox (remove letters index)
without (Dict pairs) index = Dict (remove pairs index)
without found index = found

-- another entry at a place, of a dictionary beside the same key
abbrev pub replaced : Contents → ℕ → Entry → Contents
replaced (Cells entries) index entry = Cells (slice_set entries index entry)
replaced (Mailbox letters) index entry = Mailbox (slice_set letters index entry)
replaced (Dict pairs) index entry = Dict (with_value pairs index entry)
replaced found index entry = found

-- a key is given exactly for a dictionary, and isn't in it; else the object is a list or a mailbox
abbrev pub KeyFits : {A : Type 0} → Contents → Option (Key A) → Type 0
KeyFits (Cells cells) None = Unit {0}
KeyFits (Mailbox letters) None = Unit {0}
KeyFits (Dict pairs) (Some key) = All (λ pair. pair.0 ≢ plain_key key) pairs
KeyFits _ _ = ⊥
