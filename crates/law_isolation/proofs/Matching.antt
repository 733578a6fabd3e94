-- Calls on objects are the plain calls on what stands in their cells.
use Rattle.std.proofs.Common.{◌≡◌, ◌∙◌, refl, ap, ℕ, List, [], ◌∷◌, map, Option, Some, None, Result, Ok, Err}
use Rattle.std.specs.Option.{option_map}
use Rattle.brc_words.specs.declared.fault.Fault.{Fault}
use Rattle.brc_words.specs.declared.entry.Entry.{Entry}
use Rattle.brc_words.specs.declared.key.Key.{Key}
use Rattle.brc_words.specs.declared.key.Key.TheVariants as keys
use Rattle.brc_plain.specs.Outcomes.{leaving}
use Rattle.brc_plain.specs.Lists as lists
use Rattle.brc_plain.specs.Queues as queues
use Rattle.brc_plain.specs.Dicts as dicts
use Rattle.brc_count.specs.law.declared.rule.contents.PlainKey.{PlainKey}
use Rattle.brc_count.specs.law.declared.rule.contents.Contents.{Contents}
use Rattle.brc_count.specs.law.declared.rule.contents.Contents.TheVariants as contents
use Rattle.brc_count.specs.table.Shown.{plain_key}
use Rattle.brc_things.specs.Changing.{PlainCall}
use Rattle.brc_things.specs.Plain_Lists.{left_in, plain_push, plain_pop, plain_get, plain_set, plain_send, plain_receive}
use Rattle.brc_things.specs.Plain_Dicts.{key_of, pairs_of, dict_of, leaving_dict, plain_put, plain_find, plain_del}
use Rattle.brc_meaning.specs.declared.reference.Reference.{Reference}
use Rattle.brc_meaning.specs.declared.call.Call.TheVariants as calls
use Rattle.brc_meaning.specs.declared.call.KeyedCall.TheVariants as keyed
use Rattle.brc_meaning.specs.declared.object.Object.{Object}
use Rattle.brc_meaning.specs.declared.object.Object.TheVariants as objects
use Rattle.brc_meaning.specs.Outcomes.{◌>>=◌}
use Rattle.brc_meaning.specs.Objects.{object_call, keyed_call}
use Rattle.law_isolation.specs.Means.{cell_meant, entry_meant, contents_meant}
use Rattle.law_isolation.proofs.Mapped_Lists.{outcome_mapped, answer_mapped, same, push_mapped, pop_mapped, get_mapped}
use Rattle.law_isolation.proofs.Mapped_Lists.{set_mapped, receive_mapped}
use Rattle.law_isolation.proofs.Mapped_Dicts.{values_mapped, put_mapped, find_mapped, delete_mapped}

-- what the plain call answers and leaves, where the answer is told as a cell, or none
abbrev pub told : {R C : Type 0} → (R → Option ℕ) → Result (R × C) Fault → Result (Option ℕ × C) Fault
told answered outcome = outcome_mapped answered same outcome

-- no cell; and the one
abbrev pub no_cell : {R : Type 0} → R → Option ℕ
no_cell r = None

abbrev pub one_cell : Entry → Option ℕ
one_cell entry = Some entry.cell

-- and the one, if there is an entry
abbrev pub maybe_cell : Option Entry → Option ℕ
maybe_cell answer = option_map (λ (entry : Entry). entry.cell) answer

abbrev pub ObjectCall : Type 0 → Type 0
ObjectCall A = Object A → Result (Option Reference × Object A) Fault

-- how a call's answer is for a register: none, what came out, or what is still there
abbrev for_none : {R C : Type 0} → Result (R × C) Fault → Result (Option Reference × C) Fault
for_none r = r >>= λ done. Ok (None, done.1)

abbrev for_one : {C : Type 0} → Result (Reference × C) Fault → Result (Option Reference × C) Fault
for_one r = r >>= λ done. Ok (Some done.0, done.1)

abbrev for_shared : {C : Type 0} → C → Result Reference Fault → Result (Option Reference × C) Fault
for_shared left r = r >>= λ entry. Ok (Some entry, left)

module _ {A : Type 0} where
  -- what is left is an object again
  abbrev left_as : {C : Type 0} → (C → Object A) → Result (Option Reference × C) Fault
      → Result (Option Reference × Object A) Fault
  left_as object r = r >>= λ done. Ok (done.0, object done.1)

  -- what a call on an object answers and leaves, as cells and as what stands there
  abbrev pub outcome_meant : (ℕ → ℕ) → Result (Option Reference × Object A) Fault → Result (Option ℕ × Contents) Fault
  outcome_meant cells outcome = outcome_mapped (option_map (cell_meant cells)) (contents_meant cells) outcome

  -- the call on an object is the plain one on what stands in its cell
  abbrev pub Matches : {R : Type 0} → (ℕ → ℕ) → ObjectCall A → PlainCall R → (R → Option ℕ) → Type 0
  Matches cells call plain answered =
      (object : Object A) → told answered (plain (contents_meant cells object)) ≡ outcome_meant cells (call object)

  -- ---- lists and mailboxes

  module _ (cells : ℕ → ℕ) where
    -- an object of one of these kinds is made of what is left of the entries
    module _ (object : List Reference → Object A) (shown : List Entry → Contents) (is : (entries : List Reference)
        → shown (map (entry_meant cells) entries) ≡ contents_meant cells (object entries)) where
      none_answered : (r : Result (Unit {0} × List Reference) Fault)
          → told no_cell (left_in shown (outcome_mapped same (map (entry_meant cells)) r))
          ≡ outcome_meant cells (left_as object (for_none r))
      none_answered (Ok done) = ap (λ (put : Contents). Ok (None, put)) (is done.1)
      none_answered (Err fault) = refl

      one_answered : (r : Result (Reference × List Reference) Fault)
          → told one_cell (left_in shown (outcome_mapped (entry_meant cells) (map (entry_meant cells)) r))
          ≡ outcome_meant cells (left_as object (for_one r))
      one_answered (Ok done) = ap (λ (put : Contents). Ok (Some (cell_meant cells done.0), put)) (is done.1)
      one_answered (Err fault) = refl

      one_shared : (entries : List Reference) (r : Result Reference Fault)
          → told one_cell (left_in shown
          (leaving (map (entry_meant cells) entries) (answer_mapped (entry_meant cells) r)))
          ≡ outcome_meant cells (left_as object (for_shared entries r))
      one_shared entries (Ok entry) = ap (λ (put : Contents). Ok (Some (cell_meant cells entry), put)) (is entries)
      one_shared entries (Err fault) = refl

    pub push_matches : (value : Reference) → Matches cells (object_call {A = A} (calls.Push value))
        (plain_push (entry_meant cells value)) no_cell
    push_matches value (objects.Int number) = refl
    push_matches value (objects.Text bytes) = refl
    push_matches value (objects.Dict pairs) = refl
    push_matches value (objects.Mailbox entries) = refl
    push_matches value (objects.List entries) =
        ap (λ r. told no_cell (left_in contents.«List» r)) (push_mapped (entry_meant cells) entries value)
        ∙ none_answered objects.List contents.«List» (λ left. refl) (lists.push entries value)

    pub pop_matches : Matches cells (object_call {A = A} calls.Pop) plain_pop one_cell
    pop_matches (objects.Int number) = refl
    pop_matches (objects.Text bytes) = refl
    pop_matches (objects.Dict pairs) = refl
    pop_matches (objects.Mailbox entries) = refl
    pop_matches (objects.List entries) =
        ap (λ r. told one_cell (left_in contents.«List» r)) (pop_mapped (entry_meant cells) entries)
        ∙ one_answered objects.List contents.«List» (λ left. refl) (lists.pop entries)

    pub get_matches : (index : ℕ) → Matches cells (object_call {A = A} (calls.Get index)) (plain_get index) one_cell
    get_matches index (objects.Int number) = refl
    get_matches index (objects.Text bytes) = refl
    get_matches index (objects.Dict pairs) = refl
    get_matches index (objects.Mailbox entries) = refl
    get_matches index (objects.List entries) =
        ap (λ r. told one_cell (left_in contents.«List» (leaving (map (entry_meant cells) entries) r)))
        (get_mapped (entry_meant cells) entries index)
        ∙ one_shared objects.List contents.«List» (λ left. refl) entries (lists.get entries index)

    pub set_matches : (index : ℕ) (value : Reference) → Matches cells (object_call {A = A} (calls.Set index value))
        (plain_set index (entry_meant cells value)) one_cell
    set_matches index value (objects.Int number) = refl
    set_matches index value (objects.Text bytes) = refl
    set_matches index value (objects.Dict pairs) = refl
    set_matches index value (objects.Mailbox entries) = refl
    set_matches index value (objects.List entries) =
        ap (λ r. told one_cell (left_in contents.«List» r)) (set_mapped (entry_meant cells) entries index value)
        ∙ one_answered objects.List contents.«List» (λ left. refl) (lists.set entries index value)

    pub send_matches : (value : Reference) → Matches cells (object_call {A = A} (calls.Send value))
        (plain_send (entry_meant cells value)) no_cell
    send_matches value (objects.Int number) = refl
    send_matches value (objects.Text bytes) = refl
    send_matches value (objects.List entries) = refl
    send_matches value (objects.Dict pairs) = refl
    send_matches value (objects.Mailbox entries) =
        ap (λ r. told no_cell (left_in contents.Mailbox r)) (push_mapped (entry_meant cells) entries value)
        ∙ none_answered objects.Mailbox contents.Mailbox (λ left. refl) (queues.send entries value)

    pub receive_matches : Matches cells (object_call {A = A} calls.Receive) plain_receive one_cell
    receive_matches (objects.Int number) = refl
    receive_matches (objects.Text bytes) = refl
    receive_matches (objects.List entries) = refl
    receive_matches (objects.Dict pairs) = refl
    receive_matches (objects.Mailbox entries) =
        ap (λ r. told one_cell (left_in contents.Mailbox r)) (receive_mapped (entry_meant cells) entries)
        ∙ one_answered objects.Mailbox contents.Mailbox (λ left. refl) (queues.receive entries)

    -- ---- dictionaries

    -- the pairs as they are shown
    abbrev pairs_shown : List (Key A × Reference) → List (PlainKey × Entry)
    pairs_shown pairs = map (λ (pair : Key A × Reference). (plain_key pair.0, entry_meant cells pair.1)) pairs

    same_key_back : (key : Key A) → key_of {A = A} (plain_key key) ≡ key
    same_key_back (keys.Int number) = refl
    same_key_back (keys.Text text) = refl

    -- read back, the keys are those that they were
    read_back : (pairs : List (Key A × Reference)) → pairs_of {A = A} (pairs_shown pairs) ≡ values_mapped
        (entry_meant cells) pairs
    read_back [] = refl
    read_back (pair ∷ pairs) =
        ap (λ (key : Key A). (key, entry_meant cells pair.1) ∷ pairs_of {A = A} (pairs_shown pairs))
        (same_key_back pair.0)
        ∙ ap (λ (rest : List (Key A × Entry)). (pair.0, entry_meant cells pair.1) ∷ rest) (read_back pairs)

    shown_again : (pairs : List (Key A × Reference)) → dict_of {A = A} (values_mapped (entry_meant cells) pairs)
        ≡ contents_meant cells (objects.Dict pairs)
    shown_again pairs = ap contents.Dict (shown_pairs pairs)
      where
        shown_pairs : (pairs : List (Key A × Reference)) → map (λ (pair : Key A × Entry). (plain_key pair.0, pair.1))
            (values_mapped (entry_meant cells) pairs) ≡ pairs_shown pairs
        shown_pairs [] = refl
        shown_pairs (pair ∷ pairs) = ap (λ (rest : List (PlainKey × Entry)). (plain_key pair.0, entry_meant cells pair.1)
            ∷ rest) (shown_pairs pairs)

    put_answered : (r : Result (Option Reference × List (Key A × Reference)) Fault)
        → told maybe_cell (leaving_dict
        (outcome_mapped (option_map (entry_meant cells)) (values_mapped (entry_meant cells)) r))
        ≡ outcome_meant cells (left_as objects.Dict r)
    put_answered (Ok (None, left)) = ap (λ (put : Contents). Ok (None, put)) (shown_again left)
    put_answered (Ok (Some value, left)) = ap (λ (put : Contents). Ok (Some (cell_meant cells value), put))
        (shown_again left)
    put_answered (Err fault) = refl

    find_answered : (pairs : List (Key A × Reference)) (r : Result Reference Fault)
        → told one_cell (leaving (contents.Dict (pairs_shown pairs)) (answer_mapped (entry_meant cells) r))
        ≡ outcome_meant cells (left_as objects.Dict (for_shared pairs r))
    find_answered pairs (Ok value) = refl
    find_answered pairs (Err fault) = refl

    delete_answered : (r : Result (Reference × List (Key A × Reference)) Fault)
        → told one_cell (leaving_dict (outcome_mapped (entry_meant cells) (values_mapped (entry_meant cells)) r))
        ≡ outcome_meant cells (left_as objects.Dict (for_one r))
    delete_answered (Ok done) = ap (λ (put : Contents). Ok (Some (cell_meant cells done.0), put)) (shown_again done.1)
    delete_answered (Err fault) = refl

    pub put_matches : (key : Key A) (value : Reference) → Matches cells (keyed_call key (keyed.Put value))
        (plain_put key (entry_meant cells value)) maybe_cell
    put_matches key value (objects.Int number) = refl
    put_matches key value (objects.Text bytes) = refl
    put_matches key value (objects.List entries) = refl
    put_matches key value (objects.Mailbox entries) = refl
    put_matches key value (objects.Dict pairs) =
        ap (λ (read : List (Key A × Entry)). told maybe_cell (leaving_dict (dicts.put read key (entry_meant cells value))))
        (read_back pairs)
        ∙ ap (λ r. told maybe_cell (leaving_dict r)) (put_mapped (entry_meant cells) key value pairs)
        ∙ put_answered (dicts.put pairs key value)

    pub find_matches : (key : Key A) → Matches cells (keyed_call key keyed.Find) (plain_find key) one_cell
    find_matches key (objects.Int number) = refl
    find_matches key (objects.Text bytes) = refl
    find_matches key (objects.List entries) = refl
    find_matches key (objects.Mailbox entries) = refl
    find_matches key (objects.Dict pairs) =
        ap (λ (read : List (Key A × Entry)). told one_cell
        (leaving (contents.Dict (pairs_shown pairs)) (dicts.find read key))) (read_back pairs)
        ∙ ap (λ r. told one_cell (leaving (contents.Dict (pairs_shown pairs)) r))
        (find_mapped (entry_meant cells) key pairs)
        ∙ find_answered pairs (dicts.find pairs key)

    pub delete_matches : (key : Key A) → Matches cells (keyed_call key keyed.Delete) (plain_del key) one_cell
    delete_matches key (objects.Int number) = refl
    delete_matches key (objects.Text bytes) = refl
    delete_matches key (objects.List entries) = refl
    delete_matches key (objects.Mailbox entries) = refl
    delete_matches key (objects.Dict pairs) =
        ap (λ (read : List (Key A × Entry)). told one_cell (leaving_dict (dicts.delete read key))) (read_back pairs)
        ∙ ap (λ r. told one_cell (leaving_dict r)) (delete_mapped (entry_meant cells) key pairs)
        ∙ delete_answered (dicts.delete pairs key)
