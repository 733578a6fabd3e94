-- What the calls of lists and of mailboxes have in common: those on a row of entries, of either kind.
use Rattle.std.specs.Prelude.{◌≡◌, ◌≢◌, ◌<◌, ◌≤◌, ◌+◌, ◌⊎◌, ℕ, Bool, true, false, List, length, None, Result, slice_get, remove}
use Rattle.brc_words.specs.declared.entry.Entry.{Entry}
use Rattle.brc_words.specs.declared.fault.Fault.{Fault}
use Rattle.brc_words.specs.declared.fault.Fault.TheVariants as faults
use Rattle.brc_words.specs.declared.kind.Kind.{Kind}
use Rattle.brc_words.specs.declared.kind.Kind.TheVariants as kinds
use Rattle.brc_words.specs.declared.limits.TheConstants.{MOST_ENTRIES}
use Rattle.brc_plain.specs.Outcomes.{leaving}
use Rattle.brc_plain.specs.Lists as lists
use Rattle.brc_things.specs.Changing.{PlainCall}
use Rattle.brc_things.specs.Plain_Lists.{on_list, on_mailbox}

-- a list, or a mailbox
abbrev pub is_row : Kind → Bool
is_row kinds.«List» = true
is_row kinds.Mailbox = true
is_row _ = false

-- a call on the entries of an object of this kind
abbrev pub on_row : {R : Type 0} → Kind → (List Entry → Result (R × List Entry) Fault) → PlainCall R
on_row kinds.Mailbox call found = on_mailbox call found
on_row _ call found = on_list call found

-- one entry more, at the end
abbrev pub plain_put : Kind → Entry → PlainCall (Unit {0})
plain_put kind value = on_row kind (λ cells. lists.push cells value)

-- the entry at a place, and what is left of the entries
abbrev pub plain_at : Kind → ℕ → (List Entry → List Entry) → PlainCall Entry
plain_at kind index left = on_row kind (λ cells. leaving (left cells) (lists.get cells index))

-- the entry at a place, which goes
abbrev pub plain_take : Kind → ℕ → PlainCall Entry
plain_take kind index = plain_at kind index (λ cells. remove cells index)

-- the last place of so many entries; where there are none it is any number
abbrev pub EndsAt : ℕ → ℕ → Type 0
EndsAt last long = (long ≡ 0) ⊎ (last + 1 ≡ long)

-- why an object of the kind `has`, with these entries, has no room for one more
abbrev pub NoRoom : Kind → Kind → List ℕ → Fault → Type 0
NoRoom kind has entries faults.WrongKind = has ≢ kind
NoRoom kind has entries faults.Full = (has ≡ kind) × (MOST_ENTRIES ≤ length entries)
NoRoom kind has entries faults.OutOfMemory = (has ≡ kind) × (length entries < MOST_ENTRIES)
NoRoom kind has entries _ = ⊥

-- why it has no entry at a place
abbrev pub NoEntry : Kind → ℕ → Kind → List Entry → Fault → Type 0
NoEntry kind index has entries faults.WrongKind = has ≢ kind
NoEntry kind index has entries faults.NoSuchPlace = (has ≡ kind) × (slice_get entries index ≡ None)
NoEntry kind index has entries _ = ⊥
