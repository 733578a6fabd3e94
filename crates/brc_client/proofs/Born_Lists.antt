-- A list's values as they go in, one after the other: what each step adds, and which numbers name what then.
use Rattle.std.proofs.Common.{arith, ◌≡◌, ◌≢◌, ◌<◌, ◌≤◌, ◌+◌, ◌++◌, ℕ, List, [], ◌∷◌, Option, Some, None, Result, Ok, Err, length, slice_set}
use Rattle.std.proofs.Common.{refl, sym, ap, ◌∙◌, inl, inr, subst, take}
use Rattle.std.specs.Prelude.{slice_get, get_or, IfErr, OnOk}
use Rattle.std.proofs.lemmas.List.{take_more, take_all}
use Rattle.std.proofs.lemmas.Grind.{common_steps}
use Rattle.std.proofs.lemmas.Option.{slice_get_within, get_or_from_slice_get}
use Rattle.std.proofs.lemmas.Bool.{cases_eq, cases_order}
use Rattle.std.specs.declared.alloc.Global.{Global}
use Rattle.brc_words.specs.declared.note.Note.{Note}
use Rattle.brc_count.specs.Frames.{HandleSeen}
use Rattle.brc_count.specs.Locking.{cell_in}
use Rattle.brc_count.specs.Owned.{Gains}
use Rattle.brc_handles.specs.Handles.{slot}
use Rattle.brc_things.specs.declared.value.Value.{Value}
use Rattle.brc_things.specs.declared.value.Value.TheVariants as values
use Rattle.brc_things.specs.Value_Calls.{ListPushValue}
use Rattle.brc_places.specs.Calls.{MadeBy}
use Rattle.brc_places.specs.Value_Calls.{PutValueBy}
use Rattle.brc_places.specs.declared.place_makers.Make.TheVariants as makes
use Rattle.brc_places.specs.declared.valued.PutBy.TheVariants as puts
use Rattle.brc_client.specs.declared.data.Datum.{Datum}
use Rattle.brc_client.specs.declared.data.Datum.TheVariants.{Scalar, Object}
use Rattle.brc_client.specs.Numbers.{NumbersSeen, number_at, place_in}
use Rattle.brc_client.specs.Clients.{ClientSeen, IsClient, KeptBeside, Names, NamesAs, KeepsNames}
use Rattle.brc_client.specs.declared.status.Status.{Status}
use Rattle.brc_client.specs.declared.status.Status.TheVariants as statuses
use Rattle.brc_client.specs.Value_Row.{HasNumber, AllNamed, NoneTwice, StandsTwice}
use Rattle.brc_client.specs.Valued.{NoneMade, IsKept, PutsDatum, SpendsDatumName, SpendsPlace, ComesBack, left_by}
use Rattle.brc_client.specs.Calls.{Adds}
use Rattle.brc_client.specs.Born.{AreGiven, NotGiven, Twice, PushesEach, SpendsNumbers, HoldsNone, Awaits, KeepsNone}
use Rattle.brc_client.proofs.Marking.{one_number_at, scalar_unnumbered}
use Rattle.brc_client.proofs.Placed.{slot_else, slot_set, inside_of}
use Rattle.brc_client.proofs.Named.{place_at, names_this}
use Rattle.brc_client.proofs.Putting.{scalar_puts, object_puts}

-- ---- the numbers

pub given_when : (client : ClientSeen) (items : List Datum) (result : Result (Unit {0}) Status)
    → AllNamed client.handles client.numbers items → OnOk result (NoneTwice items) → OnOk result (AreGiven client items)
given_when client items (Ok done) named apart = record { named = named; apart = apart }
given_when client items (Err status) named apart = tt

pub refused_when : (client : ClientSeen) (items : List Datum) (result : Result (Unit {0}) Status)
    → AllNamed client.handles client.numbers items → IfErr result (λ status. (status ≡ statuses.Same) × StandsTwice items)
    → IfErr result (NotGiven client items)
refused_when client items (Ok done) named why = tt
refused_when client items (Err status) named why = Twice named why.1 why.0

-- ---- the handle to None

-- the one that is kept is the one to put with
pub none_kept : (client : ClientSeen) (none : HandleSeen) → client.none ≡ Some none → cell_in client.frame none.place ≡ Some 0
    → NoneMade client client
none_kept client none kept cell = record { none = none; kept = kept; readies = IsKept kept refl; cell = cell }

pub none_held : (client : ClientSeen) (none : HandleSeen) → HoldsNone client → client.none ≡ Some none
    → NoneMade client client
none_held client none (held, kept, cell) is =
    let same : held ≡ none = cc in
    none_kept client none is (subst (λ (h : HandleSeen). cell_in client.frame h.place ≡ Some 0) same cell)

-- ---- one value goes in

pub scalar_pushed : (old new : ClientSeen) (list : ℕ) (object none : HandleSeen) (note : Note) → Names old list
    → Some object ≡ slot old.handles (place_in list) → HoldsNone old → old.none ≡ Some none → new.none ≡ old.none
    → new.handles ≡ old.handles → new.numbers ≡ old.numbers
    → ListPushValue old.frame new.frame object.place none (values.Scalar note) (Ok tt)
    → PutsDatum (PutValueBy puts.Push) old new list (Scalar note) None
scalar_pushed old new list object none note named there holds kept same_none handles numbers did =
    scalar_puts (PutValueBy puts.Push) old old new list object none none note None None (none_held old none holds kept) kept
    refl refl (names_this old list (place_in list) object refl named there) (same_none ∙ kept) numbers (refl, did)
    (refl, handles)

pub object_pushed : (old new : ClientSeen) (list number : ℕ) (object given none : HandleSeen) (note : Note) → Names old list
    → Names old number → list ≢ number → Some object ≡ slot old.handles (place_in list)
    → Some given ≡ slot old.handles (place_in number) → HoldsNone old → old.none ≡ Some none → new.none ≡ old.none
    → new.handles ≡ slice_set old.handles (place_in number) None → SpendsPlace old.numbers new.numbers (place_in number)
    → ListPushValue old.frame new.frame object.place none (values.Object given note) (Ok tt)
    → PutsDatum (PutValueBy puts.Push) old new list (Object number note) None
object_pushed old new list number object given none note named names other there here holds kept same_none handles spends
    did = object_puts (PutValueBy puts.Push) old old new list number (place_in number) object given none none note None None
    (none_held old none holds kept) kept refl refl (names_this old list (place_in list) object refl named there)
    (names_this old number (place_in number) given refl names here) other refl (same_none ∙ kept) spends (refl, did)
    (refl, handles)

-- ---- one more

-- one more went in, at the end
pushes_last : (list : ℕ) (items : List Datum) (datum : Datum) (old mid new : ClientSeen) → PushesEach list items old mid
    → PutsDatum (PutValueBy puts.Push) mid new list datum None → PushesEach list (items ++ datum ∷ []) old new
pushes_last list [] datum old mid new same puts_one =
    (new, subst (λ (c : ClientSeen). PutsDatum (PutValueBy puts.Push) c new list datum None) same puts_one, refl)
pushes_last list (first ∷ rest) datum old mid new (next, puts_first, pushes) puts_one =
    (next, puts_first, pushes_last list rest datum next mid new pushes puts_one)

pub pushes_more : (list : ℕ) (items : List Datum) (at : ℕ) (datum : Datum) (old mid new : ClientSeen)
    → PushesEach list (take at items) old mid → slice_get items at ≡ Some datum
    → PutsDatum (PutValueBy puts.Push) mid new list datum None → PushesEach list (take (at + 1) items) old new
pushes_more list items at datum old mid new pushes here puts_one =
    let inside : at < length items = slice_get_within items at datum here in
    let this : get_or items at datum ≡ datum = get_or_from_slice_get items at datum datum here in
    let e : take (at + 1) items ≡ take at items ++ datum ∷ []
    = take_more items at datum inside ∙ ap (λ (d : Datum). take at items ++ d ∷ []) this in
    subst (λ (l : List Datum). PushesEach list l old new) (sym e)
    (pushes_last list (take at items) datum old mid new pushes puts_one)

left_then : (left after : List (Option HandleSeen)) (numbers : NumbersSeen) (came : Option (Value Global))
    → ComesBack left after numbers came None → after ≡ left
left_then left after numbers None back = back.1
left_then left after numbers (Some (values.Scalar note)) back = absurd (let f : ⊥ = cc (back.0) in f)
left_then left after numbers (Some (values.Object given note)) back = absurd (let f : ⊥ = cc (back.0) in f)

-- the places once a value went in for which nothing came out
handles_left : (list : ℕ) (datum : Datum) (old new : ClientSeen) → PutsDatum (PutValueBy puts.Push) old new list datum None
    → new.handles ≡ left_by datum old.handles
handles_left list datum old new puts_one = left_then (left_by datum old.handles) new.handles new.numbers puts_one.came puts_one.back

-- a number that isn't that of the value names something still
names_stay : (datum : Datum) (old new : ClientSeen) (n : ℕ) (h : HandleSeen) → SpendsDatumName old new datum
    → ((number : ℕ) (note : Note) → datum ≡ Object number note → n ≢ number) → NamesAs old n h → NamesAs new n h
names_stay (Scalar note) old new n h spends other names = spends n h names
names_stay (Object number note) old new n h spends other names = spends.others n h (other number note refl) names

-- ---- which numbers name what

-- The place of each number so far is empty, and every other number names what it named.
pub record SpentSoFar (items : List Datum) (below : ℕ) (old new : ClientSeen) : Type 0 where
  pub none : (i n : ℕ) → i < below → HasNumber items i n → slot new.handles (place_in n) ≡ None
  pub others : (n : ℕ) (h : HandleSeen) → ((i : ℕ) → i < below → HasNumber items i n → ⊥) → NamesAs old n h
      → NamesAs new n h

past_end : (hs : List (Option HandleSeen)) (k : ℕ) → length hs ≤ k → slot hs k ≡ None
past_end hs k past = grind (arith, common_steps)

past_set : (hs : List (Option HandleSeen)) (i k : ℕ) (x : Option HandleSeen) → length hs ≤ i
    → slot (slice_set hs i x) k ≡ slot hs k
past_set hs i k x past = grind (arith, common_steps)

-- a place that is emptied is empty, also past the end
emptied : (hs : List (Option HandleSeen)) (i : ℕ) → slot (slice_set hs i None) i ≡ None
emptied hs i = elim (cases_order i (length hs)) [
  | inl same ↦ past_set hs i i None (omega (arith, same)) ∙ past_end hs i (omega (arith, same))
  | inr rest ↦ elim rest [
    | inl inside ↦ slot_set hs i None inside
    | inr past ↦ past_set hs i i None (omega (arith, past)) ∙ past_end hs i (omega (arith, past))
  ]
]

-- a place stays empty, whichever is emptied
stays_empty : (hs : List (Option HandleSeen)) (i k : ℕ) → slot hs k ≡ None → slot (slice_set hs i None) k ≡ None
stays_empty hs i k empty = elim (cases_eq k i) [
  | inl same ↦ ap (slot (slice_set hs i None)) same ∙ emptied hs i
  | inr other ↦ slot_else hs i k None other ∙ empty
]

spent_past : (items : List Datum) (at : ℕ) (note : Note) (old mid new : ClientSeen) → SpentSoFar items at old mid
    → slice_get items at ≡ Some (Scalar note) → new.handles ≡ mid.handles → SpendsDatumName mid new (Scalar note)
    → SpentSoFar items (at + 1) old new
spent_past items at note old mid new so here same spends = record {
  none = λ i n below has. elim (cases_order i at) [
    | inl one ↦ absurd (scalar_unnumbered items at note here n (subst (λ (k : ℕ). HasNumber items k n) one has))
    | inr rest ↦ elim rest [
      | inl less ↦ ap (λ (l : List (Option HandleSeen)). slot l (place_in n)) same ∙ so.none i n less has
      | inr more ↦ absurd (omega (arith, below, more))
    ]
  ];
  others = λ n h free names. spends n h (so.others n h (λ i below has. free i (omega (arith, below)) has) names);
}

spent_more : (items : List Datum) (at number : ℕ) (note : Note) (old mid new : ClientSeen) → SpentSoFar items at old mid
    → slice_get items at ≡ Some (Object number note) → new.handles ≡ slice_set mid.handles (place_in number) None
    → Names mid number → SpendsDatumName mid new (Object number note) → SpentSoFar items (at + 1) old new
spent_more items at number note old mid new so here set named spends =
    let p = place_in number in
    let inside : p < length mid.handles = inside_of mid.handles p named.0 named.1.there in
    record {
      none = λ i n below has. elim (cases_order i at) [
        | inl one ↦
            let e : n ≡ number = one_number_at items at n number (subst (λ (k : ℕ). HasNumber items k n) one has) (note, here) in
            ap (λ (m : ℕ). slot new.handles (place_in m)) e
            ∙ ap (λ (l : List (Option HandleSeen)). slot l p) set ∙ slot_set mid.handles p None inside
        | inr rest ↦ elim rest [
          | inl less ↦ ap (λ (l : List (Option HandleSeen)). slot l (place_in n)) set
              ∙ stays_empty mid.handles p (place_in n) (so.none i n less has)
          | inr more ↦ absurd (omega (arith, below, more))
        ]
      ];
      others = λ n h free names. spends.others n h
          (λ one. free at (omega arith) (subst (λ (m : ℕ). HasNumber items at m) (sym one) (note, here)))
          (so.others n h (λ i below has. free i (omega (arith, below)) has) names);
    }

-- ---- how far they are

-- The values below the index went in; the list awaits the others.
pub record GoesIn (list : ℕ) (items : List Datum) (below : ℕ) (old new : ClientSeen) : Type 0 where
  pub pushes : PushesEach list (take below items) old new
  pub awaits : Awaits new list items below
  pub spent : SpentSoFar items below old new

pub goes_in_none : (list : ℕ) (items : List Datum) (client : ClientSeen) → Awaits client list items 0
    → GoesIn list items 0 client client
goes_in_none list items client awaits = record {
  pushes = refl;
  awaits = awaits;
  spent = record { none = λ i n below has. absurd (omega (arith, below)); others = λ n h free names. names };
}

awaits_more : (list : ℕ) (items : List Datum) (at : ℕ) (datum : Datum) (mid new : ClientSeen) → Awaits mid list items at
    → NoneTwice items → slice_get items at ≡ Some datum → SpendsDatumName mid new datum → HoldsNone new
    → Awaits new list items (at + 1)
awaits_more list items at datum mid new awaits apart here spends none =
    let this : (number : ℕ) (note : Note) → datum ≡ Object number note → HasNumber items at number
    = λ number note is. (note, here ∙ ap (λ (d : Datum). Some d) is) in
    record {
      list_named = (
        awaits.list_named.0,
        names_stay datum mid new list awaits.list_named.0 spends
            (λ number note is. awaits.others at number (omega arith) (this number note is)) awaits.list_named.1,
      );
      none = none;
      named = λ k n from has. (let names = awaits.named k n (omega (arith, from)) has in (
        names.0,
        names_stay datum mid new n names.0 spends
            (λ number note is one. apart at k n (omega (arith, from))
            (subst (λ (m : ℕ). HasNumber items at m) (sym one) (this number note is)) has) names.1,
      ));
      others = λ k n from has. awaits.others k n (omega (arith, from)) has;
    }

spent_next : (list : ℕ) (items : List Datum) (at : ℕ) (datum : Datum) (old mid new : ClientSeen) → SpentSoFar items at old mid
    → Awaits mid list items at → slice_get items at ≡ Some datum → new.handles ≡ left_by datum mid.handles
    → SpendsDatumName mid new datum → SpentSoFar items (at + 1) old new
spent_next list items at (Scalar note) old mid new so awaits here left spends =
    spent_past items at note old mid new so here left spends
spent_next list items at (Object number note) old mid new so awaits here left spends =
    spent_more items at number note old mid new so here left (awaits.named at number (omega arith) (note, here)) spends

pub goes_in_more : (list : ℕ) (items : List Datum) (at : ℕ) (datum : Datum) (old mid new : ClientSeen)
    → GoesIn list items at old mid → NoneTwice items → slice_get items at ≡ Some datum
    → PutsDatum (PutValueBy puts.Push) mid new list datum None → SpendsDatumName mid new datum → HoldsNone new
    → GoesIn list items (at + 1) old new
goes_in_more list items at datum old mid new so apart here puts_one spends none = record {
  pushes = pushes_more list items at datum old mid new so.pushes here puts_one;
  awaits = awaits_more list items at datum mid new so.awaits apart here spends none;
  spent = spent_next list items at datum old mid new so.spent so.awaits here (handles_left list datum mid new puts_one) spends;
}

-- all went in
pub all_pushed : (list : ℕ) (items : List Datum) (below : ℕ) (old new : ClientSeen) → GoesIn list items below old new
    → below ≡ length items → PushesEach list items old new
all_pushed list items below old new so all = subst (λ (l : List Datum). PushesEach list l old new)
    (take_all below items (omega (arith, all))) so.pushes

pub all_spent : (list : ℕ) (items : List Datum) (below : ℕ) (old new : ClientSeen) → GoesIn list items below old new
    → below ≡ length items → SpendsNumbers items old new
all_spent list items below old new so all = record {
  none = λ at n has names. (
      let inside : at < below = subst (λ (k : ℕ). at < k) (sym all)
      (slice_get_within items at (Object n has.0) has.1) in
      let off : None ≡ Some names.0 = sym (so.spent.none at n inside has) ∙ names.1.there in
      let f : ⊥ = cc in f);
  others = λ n h free names. so.spent.others n h (λ i below has. free i has) names;
}

-- ---- before the first

-- the handle to None stays while the list is made
pub none_stays : (old new : ClientSeen) (given : HandleSeen) → IsClient old.frame old.handles old.none
    → MadeBy makes.«List» old.frame new.frame (Ok given) → Gains old.frame new.frame given → new.none ≡ old.none
    → HoldsNone old → HoldsNone new
none_stays old new given client made gains same (none, kept, cell) =
    let beside : KeptBeside old.frame old.handles (Some none) = rw kept at client.kept in
    (none, same ∙ kept, made.made.others none.place (λ one. gains.apart none beside.0 (sym one)) ∙ cell)

-- a list that was made has a number of its own
pub awaits_first : (old made : ClientSeen) (list : ℕ) (items : List Datum) (given : HandleSeen)
    → AllNamed old.handles old.numbers items → KeepsNames old made → Names made list → slot old.handles given.place ≡ None
    → list ≡ number_at old.numbers given.place → given.place < 65536 → HoldsNone made → Awaits made list items 0
awaits_first old made list items given named keeps names empty is room none = record {
  list_named = names;
  none = none;
  named = λ at n from has. (let names = named at n has in (names.0, keeps n names.0 names.1));
  others = λ at n from has one. (
      let was = named at n has in
      let at_place : place_in n ≡ given.place = ap place_in (sym one ∙ is) ∙ place_at old.numbers given.place room in
      let off : None ≡ Some was.0 = sym empty ∙ ap (slot old.handles) (sym at_place) ∙ was.1.there in
      let f : ⊥ = cc in f);
}

-- a handle to None is kept from before the list was made
pub none_first : (old given ready : ClientSeen) → given ≡ old → NoneMade given ready → ready.handles ≡ given.handles
    → ready.numbers ≡ given.numbers → KeepsNone old ready
none_first old given ready same made handles numbers = record {
  made = subst (λ (c : ClientSeen). NoneMade c ready) same made;
  same_handles = handles ∙ ap (λ (c : ClientSeen). c.handles) same;
  same_numbers = numbers ∙ ap (λ (c : ClientSeen). c.numbers) same;
}

-- so the list awaits its values
pub list_awaits : (old ready made : ClientSeen) (list : ℕ) (items : List Datum) → AreGiven old items → KeepsNone old ready
    → Adds (MadeBy makes.«List» ready.frame) ready made list → Names made list → KeepsNames ready made
    → (HoldsNone ready → HoldsNone made) → Awaits made list items 0
list_awaits old ready made list items given kept adds names keeps stays = awaits_first ready made list items adds.given
    (λ at n has. (let was = given.named at n has in (
      was.0,
      record {
        there = ap (λ (l : List (Option HandleSeen)). slot l (place_in n)) kept.same_handles ∙ was.1.there;
        spelled = was.1.spelled ∙ ap (λ (m : NumbersSeen). number_at m (place_in n)) (sym kept.same_numbers);
      },
    )))
    keeps names adds.empty (adds.is ∙ ap (λ (m : NumbersSeen). number_at m adds.given.place) adds.numbers)
    adds.did.made.room (stays (kept.made.none, kept.made.kept, kept.made.cell))

-- what was named before the list was made is named then
pub spends_from : (old ready made new : ClientSeen) (items : List Datum) → KeepsNone old ready → KeepsNames ready made
    → SpendsNumbers items made new → SpendsNumbers items old new
spends_from old ready made new items kept keeps spends = record {
  none = spends.none;
  others = λ n h free names. spends.others n h free (keeps n h (record {
    there = ap (λ (l : List (Option HandleSeen)). slot l (place_in n)) kept.same_handles ∙ names.there;
    spelled = names.spelled ∙ ap (λ (m : NumbersSeen). number_at m (place_in n)) (sym kept.same_numbers);
  }));
}
