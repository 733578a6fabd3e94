-- What is so of an object's references, and of those that a call brings, is so of what the call answers and leaves.
use Rattle.std.proofs.Common.{Bool, true, false, cond, ℕ, ◌-◌, List, [], ◌∷◌, ◌++◌, length, take, drop, ltb, Option}
use Rattle.std.proofs.Common.{Some, None, Result, Ok, Err, IfOk, IfSome, slice_get, slice_set}
use Rattle.std.specs.List.{All}
use Rattle.std.proofs.lemmas.List.Elements.{All-nil, All-cons, All-head, All-tail, All-set, All-push, All-weaker}
use Rattle.std.proofs.lemmas.List.Elements.{All-take, All-drop}
use Rattle.brc_words.specs.declared.fault.Fault.{Fault}
use Rattle.brc_words.specs.declared.fault.Fault.TheVariants as faults
use Rattle.brc_words.specs.declared.key.Key.{Key}
use Rattle.brc_words.specs.declared.limits.TheConstants.{MOST_ENTRIES}
use Rattle.brc_plain.specs.Lists as lists
use Rattle.brc_plain.specs.Queues as queues
use Rattle.brc_plain.specs.Dicts as dicts
use Rattle.brc_words.specs.Keys.{same_key}
use Rattle.brc_plain.specs.Dicts.{value_at, replaced, without}
use Rattle.brc_meaning.specs.declared.reference.Reference.{Reference}
use Rattle.brc_meaning.specs.declared.call.Call.{Call}
use Rattle.brc_meaning.specs.declared.call.Call.TheVariants as calls
use Rattle.brc_meaning.specs.declared.call.KeyedCall.{KeyedCall}
use Rattle.brc_meaning.specs.declared.call.KeyedCall.TheVariants as keyed
use Rattle.brc_meaning.specs.declared.object.Object.{Object}
use Rattle.brc_meaning.specs.declared.object.Object.TheVariants as objects
use Rattle.brc_meaning.specs.Objects.{list_call, queue_call, dict_call, object_call, keyed_call}
use Rattle.brc_meaning.specs.Wholes.{Each}
use Rattle.brc_meaning.proofs.Oks.{ok_then, ok_if, ok_found, ok_leaving, some_at, some_if}

-- of the references that a call brings
abbrev pub Brings : (Reference → Type 0) → Call → Type 0
Brings P (calls.Push value) = P value
Brings P (calls.Set index value) = P value
Brings P (calls.Send value) = P value
Brings P _ = Unit {0}

abbrev pub BringsKeyed : (Reference → Type 0) → KeyedCall → Type 0
BringsKeyed P (keyed.Put value) = P value
BringsKeyed P _ = Unit {0}

-- of what a call answered and left
abbrev pub IsKept : {C : Type 0} → (Reference → Type 0) → (C → Type 0) → Option Reference × C → Type 0
IsKept P Q done = IfSome done.0 P × Q done.1

-- ---- lists and queues

pushed : (P : Reference → Type 0) (entries : List Reference) (value : Reference) → All P entries → P value
    → IfOk (lists.push entries value) (λ done. All P done.1)
pushed P entries value all here =
    ok_if (ltb (length entries) MOST_ENTRIES) (tt, entries ++ value ∷ []) faults.Full (λ done. All P done.1)
    (All-push P entries value all here)

got : (P : Reference → Type 0) (entries : List Reference) (index : ℕ) → All P entries
    → IfOk (lists.get entries index) P
got P entries index all =
    ok_found (slice_get entries index) faults.NoSuchPlace P (some_at entries index P all)

pub list_kept : (P : Reference → Type 0) (call : Call) (entries : List Reference) → Brings P call → All P entries
    → IfOk (list_call call entries) (IsKept P (All P))
list_kept P (calls.Push value) entries here all =
    ok_then (lists.push entries value) (λ done. Ok (None, done.1)) (λ done. All P done.1)
    (IsKept P (All P)) (pushed P entries value all here) (λ done h. (tt, h))
list_kept P calls.Pop entries here all =
    ok_then (lists.pop entries) (λ done. Ok (Some done.0, done.1)) (λ done. P done.0 × All P done.1)
    (IsKept P (All P))
    (ok_leaving (take (length entries - 1) entries) (lists.get entries (length entries - 1)) P
    (All P) (got P entries (length entries - 1) all)
    (All-take P (length entries - 1) entries all))
    (λ done h. h)
list_kept P (calls.Get index) entries here all =
    ok_then (lists.get entries index) (λ entry. Ok (Some entry, entries)) P
    (IsKept P (All P)) (got P entries index all) (λ entry h. (h, all))
list_kept P (calls.Set index value) entries here all =
    ok_then (lists.set entries index value) (λ done. Ok (Some done.0, done.1))
    (λ done. P done.0 × All P done.1) (IsKept P (All P))
    (ok_leaving (slice_set entries index value) (lists.get entries index) P (All P)
    (got P entries index all) (All-set P entries index value here all))
    (λ done h. h)
list_kept P (calls.Send value) entries here all = tt
list_kept P calls.Receive entries here all = tt

pub queue_kept : (P : Reference → Type 0) (call : Call) (entries : List Reference) → Brings P call → All P entries
    → IfOk (queue_call call entries) (IsKept P (All P))
queue_kept P (calls.Send value) entries here all =
    ok_then (lists.push entries value) (λ done. Ok (None, done.1)) (λ done. All P done.1)
    (IsKept P (All P)) (pushed P entries value all here) (λ done h. (tt, h))
queue_kept P calls.Receive entries here all =
    ok_then (queues.receive entries) (λ done. Ok (Some done.0, done.1))
    (λ done. P done.0 × All P done.1) (IsKept P (All P))
    (ok_leaving (drop 1 entries) (lists.get entries 0) P (All P) (got P entries 0 all)
    (All-drop P 1 entries all))
    (λ done h. h)
queue_kept P (calls.Push value) entries here all = tt
queue_kept P calls.Pop entries here all = tt
queue_kept P (calls.Get index) entries here all = tt
queue_kept P (calls.Set index value) entries here all = tt

-- ---- dictionaries

module _ {A : Type 0} where
  abbrev pub IsBeside : (Reference → Type 0) → Key A × Reference → Type 0
  IsBeside P pair = P pair.1

  all_if : (b : Bool) (xs ys : List (Key A × Reference)) (P : Key A × Reference → Type 0) → All P xs → All P ys
      → All P (cond b xs ys)
  all_if true xs ys P h k = h
  all_if false xs ys P h k = k

  value_there : (P : Reference → Type 0) (key : Key A) (pairs : List (Key A × Reference)) → All (IsBeside P) pairs
      → IfSome (value_at key pairs) P
  value_there P key [] all = tt
  value_there P key (pair ∷ pairs) all =
      some_if (same_key pair.0 key) (Some pair.1) (value_at key pairs) P (All-head (IsBeside P) pair pairs all)
      (value_there P key pairs (All-tail (IsBeside P) pair pairs all))

  replaced_there : (P : Reference → Type 0) (key : Key A) (value : Reference)
      (pairs : List (Key A × Reference)) → P value
      → All (IsBeside P) pairs → All (IsBeside P) (replaced key value pairs)
  replaced_there P key value [] here all = All-nil (IsBeside P)
  replaced_there P key value (pair ∷ pairs) here all =
      let head = All-head (IsBeside P) pair pairs all in
      let tail = All-tail (IsBeside P) pair pairs all in
      all_if (same_key pair.0 key) ((pair.0, value) ∷ pairs) (pair ∷ replaced key value pairs) (IsBeside P)
      (All-cons (IsBeside P) (pair.0, value) pairs here tail)
      (All-cons (IsBeside P) pair (replaced key value pairs) head (replaced_there P key value pairs here tail))

  without_there : (P : Reference → Type 0) (key : Key A) (pairs : List (Key A × Reference)) → All (IsBeside P) pairs
      → All (IsBeside P) (without key pairs)
  without_there P key [] all = All-nil (IsBeside P)
  without_there P key (pair ∷ pairs) all =
      let head = All-head (IsBeside P) pair pairs all in
      let tail = All-tail (IsBeside P) pair pairs all in
      all_if (same_key pair.0 key) pairs (pair ∷ without key pairs) (IsBeside P) tail
      (All-cons (IsBeside P) pair (without key pairs) head (without_there P key pairs tail))

  found_there : (P : Reference → Type 0) (key : Key A) (pairs : List (Key A × Reference)) → All (IsBeside P) pairs
      → IfOk (dicts.find pairs key) P
  found_there P key pairs all =
      ok_found (value_at key pairs) faults.NoSuchKey P (value_there P key pairs all)

  put_there : (P : Reference → Type 0) (key : Key A) (value : Reference) (pairs : List (Key A × Reference))
      (o : Option Reference)
      → IfSome o P → P value → All (IsBeside P) pairs
      → IfOk (elim o as (λ _. Result (Option Reference × List (Key A × Reference)) Fault) [
        | Some old ↦ Ok (Some old, replaced key value pairs)
        | None ↦ cond (ltb (length pairs) MOST_ENTRIES) (Ok (None, pairs ++ (key, value) ∷ [])) (Err faults.Full)
      ]) (IsKept P (All (IsBeside P)))
  put_there P key value pairs (Some old) was here all = (was, replaced_there P key value pairs here all)
  put_there P key value pairs None was here all =
      ok_if (ltb (length pairs) MOST_ENTRIES) (None, pairs ++ (key, value) ∷ []) faults.Full
      (IsKept P (All (IsBeside P)))
      (tt, All-push (IsBeside P) pairs (key, value) all here)

  pub dict_kept : (P : Reference → Type 0) (key : Key A) (call : KeyedCall) (pairs : List (Key A × Reference))
      → BringsKeyed P call
      → All (IsBeside P) pairs → IfOk (dict_call key call pairs) (IsKept P (All (IsBeside P)))
  dict_kept P key (keyed.Put value) pairs here all =
      put_there P key value pairs (value_at key pairs) (value_there P key pairs all) here all
  dict_kept P key keyed.Find pairs here all =
      ok_then (dicts.find pairs key) (λ value. Ok (Some value, pairs)) P (IsKept P (All (IsBeside P)))
      (found_there P key pairs all) (λ value h. (h, all))
  dict_kept P key keyed.Delete pairs here all =
      ok_then (dicts.delete pairs key) (λ done. Ok (Some done.0, done.1))
      (λ done. P done.0 × All (IsBeside P) done.1) (IsKept P (All (IsBeside P)))
      (ok_leaving (without key pairs) (dicts.find pairs key) P (All (IsBeside P))
      (found_there P key pairs all) (without_there P key pairs all))
      (λ done h. h)

  -- ---- objects

  pub each_weaker : (P Q : Reference → Type 0) → ((reference : Reference) → P reference → Q reference)
      → (object : Object A)
      → Each P object → Each Q object
  each_weaker P Q less (objects.Int number) each = tt
  each_weaker P Q less (objects.Text bytes) each = tt
  each_weaker P Q less (objects.List entries) each = All-weaker P Q less entries each
  each_weaker P Q less (objects.Dict pairs) each =
      All-weaker (λ pair. P pair.1) (λ pair. Q pair.1) (λ pair. less pair.1) pairs each
  each_weaker P Q less (objects.Mailbox entries) each = All-weaker P Q less entries each

  pub object_kept : (P : Reference → Type 0) (call : Call) (object : Object A) → Brings P call → Each P object
      → IfOk (object_call call object) (IsKept P (Each P))
  object_kept P call (objects.Int number) here sound = tt
  object_kept P call (objects.Text bytes) here sound = tt
  object_kept P call (objects.List entries) here sound =
      ok_then (list_call call entries) (λ done. Ok (done.0, objects.List done.1)) (IsKept P (All P))
      (IsKept P (Each P)) (list_kept P call entries here sound) (λ done h. h)
  object_kept P call (objects.Dict pairs) here sound = tt
  object_kept P call (objects.Mailbox entries) here sound =
      ok_then (queue_call call entries) (λ done. Ok (done.0, objects.Mailbox done.1)) (IsKept P (All P))
      (IsKept P (Each P)) (queue_kept P call entries here sound) (λ done h. h)

  pub keyed_kept : (P : Reference → Type 0) (key : Key A) (call : KeyedCall) (object : Object A) → BringsKeyed P call
      → Each P object → IfOk (keyed_call key call object) (IsKept P (Each P))
  keyed_kept P key call (objects.Int number) here sound = tt
  keyed_kept P key call (objects.Text bytes) here sound = tt
  keyed_kept P key call (objects.List entries) here sound = tt
  keyed_kept P key call (objects.Dict pairs) here sound =
      ok_then (dict_call key call pairs) (λ done. Ok (done.0, objects.Dict done.1)) (IsKept P (All (IsBeside P)))
      (IsKept P (Each P)) (dict_kept P key call pairs here sound) (λ done h. h)
  keyed_kept P key call (objects.Mailbox entries) here sound = tt
