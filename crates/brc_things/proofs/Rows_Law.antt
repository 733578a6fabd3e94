-- What the plain calls on lists and mailboxes come to, from an object's kind and entries.
use Rattle.std.proofs.Common.{suc, ◌≡◌, ◌≢◌, ◌<◌, ◌-◌, inl, inr, ℕ, true, false, List, [], ◌∷◌, ◌++◌, Some, Result, Ok, Err}
use Rattle.std.proofs.Common.{length, take, map, remove, slice_get, if◌then◌else◌, refl, sym, ◌∙◌, ap, arith}
use Rattle.std.proofs.lemmas.Bool.{lt-ltb, true≢false}
use Rattle.std.proofs.lemmas.List.{append-nil}
use Rattle.std.proofs.Math.ListN.{drop_of_length-le}
use Rattle.brc_words.specs.declared.entry.Entry.{Entry}
use Rattle.brc_words.specs.declared.fault.Fault.{Fault}
use Rattle.brc_words.specs.declared.fault.Fault.TheVariants as faults
use Rattle.brc_words.specs.declared.kind.Kind.{Kind}
use Rattle.brc_words.specs.declared.kind.Kind.TheVariants as kinds
use Rattle.brc_words.specs.declared.limits.TheConstants.{MOST_ENTRIES}
use Rattle.brc_count.specs.block.declared.payload.Payload.{Payload}
use Rattle.brc_count.specs.block.declared.payload.Payload.TheVariants as payloads
use Rattle.brc_count.specs.block.Payload.{kind_of, noted_of, entries_of}
use Rattle.brc_words.proofs.Cells.{cells_long}
use Rattle.brc_plain.specs.Outcomes.{leaving, or_fault}
use Rattle.brc_plain.specs.Lists as lists
use Rattle.brc_count.specs.law.declared.rule.contents.Contents.{Contents}
use Rattle.brc_count.specs.law.declared.rule.contents.Contents.TheVariants as contents
use Rattle.brc_count.specs.law.rule.Logs.{kind_in, noted_in}
use Rattle.brc_count.specs.table.Shown.{contents_of, plain_key}
use Rattle.brc_things.specs.Plain_Lists.{left_in, plain_pop}
use Rattle.brc_things.specs.Rows.{is_row, EndsAt, on_row, plain_put, plain_at, plain_take}

-- ---- a payload as contents

values_of : {K L E : Type 0} (f : K → L) (pairs : List (K × E))
    → map (λ (p : L × E). p.1) (map (λ (pair : K × E). (f pair.0, pair.1)) pairs) ≡ map (λ (p : K × E). p.1) pairs
values_of f [] = refl
values_of f (pair ∷ pairs) = ap (λ xs. pair.1 ∷ xs) (values_of f pairs)

pub noted_shown : {A : Type 0} (payload : Payload A) → noted_in (contents_of payload) ≡ noted_of payload
noted_shown (payloads.Int number) = refl
noted_shown (payloads.Text text) = refl
noted_shown (payloads.«List» cells) = refl
noted_shown (payloads.Dict pairs) = values_of plain_key pairs.items
noted_shown (payloads.Mailbox letters) = refl
noted_shown payloads.Nothing = refl
noted_shown (payloads.Truth truth) = refl

pub kind_shown : {A : Type 0} (payload : Payload A) → kind_in (contents_of payload) ≡ kind_of payload
kind_shown (payloads.Int number) = refl
kind_shown (payloads.Text text) = refl
kind_shown (payloads.«List» cells) = refl
kind_shown (payloads.Dict pairs) = refl
kind_shown (payloads.Mailbox letters) = refl
kind_shown payloads.Nothing = refl
kind_shown (payloads.Truth true) = refl
kind_shown (payloads.Truth false) = refl

-- ---- rows

-- the object of this kind with these entries
abbrev pub row : Kind → List Entry → Contents
row kinds.Mailbox cells = contents.Mailbox cells
row _ cells = contents.«List» cells

list_is : (found : Contents) → kind_in found ≡ kinds.«List» → found ≡ contents.«List» (noted_in found)
list_is (contents.«List» cells) is = refl
list_is (contents.Truth true) is = cc
list_is (contents.Truth false) is = cc
list_is _ is = cc

mailbox_is : (found : Contents) → kind_in found ≡ kinds.Mailbox → found ≡ contents.Mailbox (noted_in found)
mailbox_is (contents.Mailbox letters) is = refl
mailbox_is (contents.Truth true) is = cc
mailbox_is (contents.Truth false) is = cc
mailbox_is _ is = cc

row_is : (kind : Kind) → is_row kind ≡ true → (found : Contents) → kind_in found ≡ kind
    → found ≡ row kind (noted_in found)
row_is kinds.«List» is found same = list_is found same
row_is kinds.Mailbox is found same = mailbox_is found same
row_is _ is found same = cc

-- a list or a mailbox is no dictionary
pub row_keyless : (kind : Kind) → is_row kind ≡ true → kind ≢ kinds.Dict
row_keyless kind row dict = true≢false (sym row ∙ ap is_row dict)

module _ {R : Type 0} where
  on_its_row : (kind : Kind) (call : List Entry → Result (R × List Entry) Fault) (cells : List Entry)
      → on_row kind call (row kind cells) ≡ left_in (row kind) (call cells)
  on_its_row kinds.Mailbox call cells = refl
  on_its_row _ call cells = refl

  -- a call on an object of its kind is the call on its entries
  pub on_kind : (kind : Kind) → is_row kind ≡ true → (call : List Entry → Result (R × List Entry) Fault) (found : Contents)
      → kind_in found ≡ kind
      → on_row kind call found ≡ left_in (row kind) (call (noted_in found))
  on_kind kind is call found same = ap (on_row kind call) (row_is kind is found same)
      ∙ on_its_row kind call (noted_in found)

-- ---- one entry more

pub put_plain : (kind : Kind) → is_row kind ≡ true → (found : Contents) (value : Entry) → kind_in found ≡ kind
    → length (noted_in found) < MOST_ENTRIES
    → plain_put kind value found ≡ Ok (tt, row kind (noted_in found ++ value ∷ []))
put_plain kind is found value same few =
    on_kind kind is (λ cells. lists.push cells value) found same
    ∙ ap (λ b. left_in (row kind) (if b then Ok (tt, noted_in found ++ value ∷ []) else Err faults.Full))
    (lt-ltb (length (noted_in found)) MOST_ENTRIES few)

-- what an object is put home as
pub put_gives : (kind : Kind) → is_row kind ≡ true → (found put : Contents) (value : Entry) → kind_in found ≡ kind
    → kind_in put ≡ kind
    → length (noted_in found) < MOST_ENTRIES → noted_in put ≡ noted_in found ++ value ∷ []
    → plain_put kind value found ≡ Ok (tt, put)
put_gives kind is found put value same kept few more =
    put_plain kind is found value same few ∙ ap (λ cells. Ok (tt, row kind cells)) (sym more)
    ∙ ap (λ p. Ok (tt, p)) (sym (row_is kind is put kept))

-- ---- an entry at a place

pub at_plain : (kind : Kind) → is_row kind ≡ true → (found : Contents) (index : ℕ) (entry : Entry) (left : List Entry → List Entry)
    → kind_in found ≡ kind
    → slice_get (noted_in found) index ≡ Some entry
    → plain_at kind index left found ≡ Ok (entry, row kind (left (noted_in found)))
at_plain kind is found index entry left same there =
    on_kind kind is (λ cells. leaving (left cells) (lists.get cells index)) found same
    ∙ ap (λ o. left_in (row kind) (leaving (left (noted_in found)) (or_fault faults.NoSuchPlace o))) there

pub at_gives : (kind : Kind) → is_row kind ≡ true → (found put : Contents) (index : ℕ) (entry : Entry) (left : List Entry → List Entry)
    → kind_in found ≡ kind → kind_in put ≡ kind
    → slice_get (noted_in found) index ≡ Some entry → noted_in put ≡ left (noted_in found)
    → plain_at kind index left found ≡ Ok (entry, put)
at_gives kind is found put index entry left same kept there rest =
    at_plain kind is found index entry left same there ∙ ap (λ cells. Ok (entry, row kind cells)) (sym rest)
    ∙ ap (λ p. Ok (entry, p)) (sym (row_is kind is put kept))

-- ---- the last entry of a list, and the first of a mailbox

without_last : (cells : List Entry) → remove cells (length cells - 1) ≡ take (length cells - 1) cells
without_last cells =
    ap (λ rest. take (length cells - 1) cells ++ rest)
    (drop_of_length-le cells {i = suc (length cells - 1)} (omega arith)) ∙ append-nil (take (length cells - 1) cells)

pub pop_is_take : (found : Contents) → plain_pop found ≡ plain_take kinds.«List» (length (noted_in found) - 1) found
pop_is_take (contents.«List» cells) =
    ap (λ rest. left_in contents.«List» (leaving rest (lists.get cells (length cells - 1)))) (sym (without_last cells))
pop_is_take _ = refl

-- the same of a list's last place, told by its payload
pub pop_at : {A : Type 0} (found : Contents) (payload : Payload A) (last : ℕ) → found ≡ contents_of payload
    → last ≡ length (entries_of payload) - 1
    → plain_pop found ≡ plain_take kinds.«List» last found
pop_at found payload last is at_end =
    pop_is_take found ∙ ap (λ es. plain_take kinds.«List» (length es - 1) found) (ap noted_in is
    ∙ noted_shown payload)
    ∙ ap (λ i. plain_take kinds.«List» i found) (ap (λ n. n - 1) (sym (cells_long (noted_of payload))) ∙ sym at_end)

-- no place of an empty list has an entry
none_there : (cells : List Entry) (index : ℕ) → length cells ≡ 0
    → plain_take kinds.«List» 0 (contents.«List» cells) ≡ plain_take kinds.«List» index (contents.«List» cells)
none_there [] index short = refl
none_there (cell ∷ cells) index short = absurd (let f : ⊥ = cc in f)

-- so of each number that is the last place, if there is one
pub pop_before : {A : Type 0} (found : Contents) (payload : Payload A) (last : ℕ) → found ≡ contents_of payload
    → (kind_of payload ≡ kinds.«List» → EndsAt last (length (entries_of payload)))
    → plain_pop found ≡ plain_take kinds.«List» last found
pop_before (contents.«List» cells) payload last is before =
    let long : length (entries_of payload) ≡ length cells = cells_long (noted_of payload)
    ∙ ap (λ (es : List Entry). length es) (sym (noted_shown payload) ∙ ap noted_in (sym is)) in
    elim (before (sym (kind_shown payload) ∙ ap kind_in (sym is))) [
      | inl short ↦ pop_at (contents.«List» cells) payload 0 is (ap (λ n. n - 1) (sym short))
          ∙ none_there cells last (sym long ∙ short)
      | inr at_end ↦ pop_at (contents.«List» cells) payload last is (omega (arith, at_end))
    ]
pop_before _ payload last is before = refl
