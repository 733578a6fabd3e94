-- The calls of lists and mailboxes as calls on contents: WrongKind where these are of another kind; else what
-- `brc_plain` says of the entries.
use Rattle.std.specs.Prelude.{ℕ, List, Result, Ok, Err}
use Rattle.brc_words.specs.declared.entry.Entry.{Entry}
use Rattle.brc_words.specs.declared.fault.Fault.{Fault}
use Rattle.brc_words.specs.declared.fault.Fault.TheVariants as faults
use Rattle.brc_plain.specs.Outcomes.{leaving}
use Rattle.brc_plain.specs.Lists as lists
use Rattle.brc_plain.specs.Queues as queues
use Rattle.brc_count.specs.law.declared.rule.contents.Contents.{Contents}
use Rattle.brc_count.specs.law.declared.rule.contents.Contents.TheVariants as contents
use Rattle.brc_things.specs.Changing.{PlainCall}

module _ {R : Type 0} where
  -- the entries that are left are an object's again
  abbrev pub left_in : (List Entry → Contents) → Result (R × List Entry) Fault → Result (R × Contents) Fault
  left_in object (Ok done) = Ok (done.0, object done.1)
  left_in object (Err fault) = Err fault

  -- a call on the entries of a list, and on those of a mailbox
  abbrev pub on_list : (List Entry → Result (R × List Entry) Fault) → PlainCall R
  on_list call (contents.«List» cells) = left_in contents.«List» (call cells)
  on_list call _ = Err faults.WrongKind

  abbrev pub on_mailbox : (List Entry → Result (R × List Entry) Fault) → PlainCall R
  on_mailbox call (contents.Mailbox letters) = left_in contents.Mailbox (call letters)
  on_mailbox call _ = Err faults.WrongKind

-- a list gets one entry more, at its end
abbrev pub plain_push : Entry → PlainCall (Unit {0})
plain_push value = on_list (λ cells. lists.push cells value)

-- a list's last entry, which goes
abbrev pub plain_pop : PlainCall Entry
plain_pop = on_list lists.pop

-- a list's entry at a place, which stays
abbrev pub plain_get : ℕ → PlainCall Entry
plain_get index = on_list (λ cells. leaving cells (lists.get cells index))

-- a list's entry at a place, which goes, and the later ones close up
abbrev pub plain_take_at : ℕ → PlainCall Entry
plain_take_at index = on_list (λ cells. lists.take_at cells index)

-- another entry at a place of a list, for the one that stood there
abbrev pub plain_set : ℕ → Entry → PlainCall Entry
plain_set index value = on_list (λ cells. lists.set cells index value)

-- a mailbox gets one entry more, at its end
abbrev pub plain_send : Entry → PlainCall (Unit {0})
plain_send value = on_mailbox (λ letters. queues.send letters value)

-- a mailbox's first entry, which goes
abbrev pub plain_receive : PlainCall Entry
plain_receive = on_mailbox queues.receive
