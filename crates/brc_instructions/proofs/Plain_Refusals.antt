-- No call on plain data is refused for want of a cell, a place or a birth.
use Rattle.std.proofs.Common.{ℕ, Bool, true, false, if◌then◌else◌, List, Option, Some, None, Result, Ok, Err, IfErr}
use Rattle.std.proofs.Common.{[], ◌∷◌, ◌++◌, length, nat_lt, slice_get, refl}
use Rattle.brc_words.specs.declared.entry.Entry.{Entry}
use Rattle.brc_words.specs.declared.fault.Fault.{Fault}
use Rattle.brc_words.specs.declared.fault.Fault.TheVariants as faults
use Rattle.brc_words.specs.declared.key.Key.{Key}
use Rattle.brc_words.specs.declared.limits.TheConstants.{MOST_ENTRIES}
use Rattle.brc_plain.specs.Outcomes.{or_fault, leaving}
use Rattle.brc_plain.specs.Lists as lists
use Rattle.brc_plain.specs.Queues as queues
use Rattle.brc_plain.specs.Dicts as dicts
use Rattle.brc_count.specs.law.declared.rule.contents.Contents.{Contents}
use Rattle.brc_count.specs.law.declared.rule.contents.Contents.TheVariants as contents
use Rattle.brc_things.specs.Changing.{PlainCall}
use Rattle.brc_things.specs.Plain_Lists.{left_in, on_list, on_mailbox, plain_push, plain_pop, plain_get, plain_set, plain_send}
use Rattle.brc_things.specs.Plain_Lists.{plain_receive}
use Rattle.brc_things.specs.Plain_Dicts.{pairs_of, leaving_dict, plain_put, plain_find, plain_del}
use Rattle.brc_instructions.specs.Causes.{WantsNoRoom}

-- the call is never refused so
abbrev pub NeedsNoRoom : {R : Type 0} → PlainCall R → Type 0
NeedsNoRoom call = (found : Contents) → IfErr (call found) WantsNoRoom

module _ {R : Type 0} where
  or_of : (fault : Fault) (found : Option R) → WantsNoRoom fault → IfErr (or_fault fault found) WantsNoRoom
  or_of fault (Some has) none = tt
  or_of fault None none = none

  room_of : (fits : Bool) (done : R) (fault : Fault) → WantsNoRoom fault
      → IfErr (if fits then Ok done else Err fault) WantsNoRoom
  room_of true done fault none = tt
  room_of false done fault none = none

module _ {R C : Type 0} where
  leaving_of : (left : C) (answer : Result R Fault) → IfErr answer WantsNoRoom → IfErr (leaving left answer) WantsNoRoom
  leaving_of left (Ok has) none = tt
  leaving_of left (Err fault) none = none

module _ {R : Type 0} where
  left_of : (object : List Entry → Contents) (answer : Result (R × List Entry) Fault) → IfErr answer WantsNoRoom
      → IfErr (left_in object answer) WantsNoRoom
  left_of object (Ok done) none = tt
  left_of object (Err fault) none = none

  of_list : (call : List Entry → Result (R × List Entry) Fault) → ((cells : List Entry) → IfErr (call cells) WantsNoRoom)
      → NeedsNoRoom (on_list call)
  of_list call none (contents.«List» cells) = left_of contents.«List» (call cells) (none cells)
  of_list call none _ = refl

  of_mailbox : (call : List Entry → Result (R × List Entry) Fault) → ((cells : List Entry) → IfErr (call cells) WantsNoRoom)
      → NeedsNoRoom (on_mailbox call)
  of_mailbox call none (contents.Mailbox letters) = left_of contents.Mailbox (call letters) (none letters)
  of_mailbox call none _ = refl

entry_at : (list : List Entry) (index : ℕ) → IfErr (lists.get list index) WantsNoRoom
entry_at list index = or_of faults.NoSuchPlace (slice_get list index) refl

pushed : (list : List Entry) (value : Entry) → IfErr (lists.push list value) WantsNoRoom
pushed list value = room_of (nat_lt (length list) MOST_ENTRIES) _ faults.Full refl

-- ---- lists and mailboxes

pub push_needs : (value : Entry) → NeedsNoRoom (plain_push value)
push_needs value = of_list (λ cells. lists.push cells value) (λ cells. pushed cells value)

pub send_needs : (value : Entry) → NeedsNoRoom (plain_send value)
send_needs value = of_mailbox (λ letters. queues.send letters value) (λ letters. pushed letters value)

pub pop_needs : NeedsNoRoom plain_pop
pop_needs = of_list lists.pop (λ cells. leaving_of _ _ (entry_at cells _))

pub receive_needs : NeedsNoRoom plain_receive
receive_needs = of_mailbox queues.receive (λ letters. leaving_of _ _ (entry_at letters 0))

pub get_needs : (index : ℕ) → NeedsNoRoom (plain_get index)
get_needs index = of_list (λ cells. leaving cells (lists.get cells index))
    (λ cells. leaving_of cells (lists.get cells index) (entry_at cells index))

pub set_needs : (index : ℕ) (value : Entry) → NeedsNoRoom (plain_set index value)
set_needs index value = of_list (λ cells. lists.set cells index value)
    (λ cells. leaving_of _ (lists.get cells index) (entry_at cells index))

-- ---- dictionaries

module _ {A : Type 0} where
  dict_of : {R : Type 0} (answer : Result (R × List (Key A × Entry)) Fault) → IfErr answer WantsNoRoom
      → IfErr (leaving_dict answer) WantsNoRoom
  dict_of (Ok done) none = tt
  dict_of (Err fault) none = none

  put_of : (pairs : List (Key A × Entry)) (key : Key A) (value : Entry) → IfErr (dicts.put pairs key value) WantsNoRoom
  put_of pairs key value = by (dicts.value_at key pairs)
    where
      by : (beside : Option Entry)
          → IfErr {T = Option Entry × List (Key A × Entry)} (elim beside [
            | Some old ↦ Ok (Some old, dicts.replaced key value pairs)
            | None ↦ if nat_lt (length pairs) MOST_ENTRIES then Ok (
              None,
              pairs ++
                  (key, value) ∷ [],
            ) else Err faults.Full
          ]) WantsNoRoom
      by (Some old) = tt
      by None = room_of (nat_lt (length pairs) MOST_ENTRIES) _ faults.Full refl

  pub put_needs : (key : Key A) (value : Entry) → NeedsNoRoom (plain_put key value)
  put_needs key value (contents.Dict shown) = dict_of _ (put_of (pairs_of shown) key value)
  put_needs key value _ = refl

  pub find_needs : (key : Key A) → NeedsNoRoom (plain_find key)
  find_needs key (contents.Dict shown) =
      leaving_of _ _ (or_of faults.NoSuchKey (dicts.value_at key (pairs_of shown)) refl)
  find_needs key _ = refl

  pub delete_needs : (key : Key A) → NeedsNoRoom (plain_del key)
  delete_needs key (contents.Dict shown) =
      dict_of _ (leaving_of _ _ (or_of faults.NoSuchKey (dicts.value_at key (pairs_of shown)) refl))
  delete_needs key _ = refl
