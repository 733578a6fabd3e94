-- Numbers that stand: which of them name a handle after a call that gave one, or spent one.
use Rattle.std.proofs.Common.{arith, ◌≡◌, ◌≢◌, ◌<◌, ℕ, List, Option, Some, None, length, slice_set}
use Rattle.std.proofs.Common.{refl, sym, ap, ◌∙◌, inl, inr}
use Rattle.std.proofs.lemmas.Grind.{common_steps}
use Rattle.std.specs.Prelude.{MatchOption, Result}
use Rattle.std.specs.Option.{IfSome}
use Rattle.std.specs.declared.alloc.Global.{Global}
use Rattle.brc_words.specs.declared.fault.Fault.{Fault}
use Rattle.brc_count.specs.declared.handed.HandedBack.{HandedBack}
use Rattle.brc_count.specs.Frames.{FrameSeen, HandleSeen}
use Rattle.brc_handles.specs.Handles.{slot}
use Rattle.brc_client.specs.declared.status.Status.{Status}
use Rattle.brc_client.specs.declared.status.Status.TheVariants as statuses
use Rattle.brc_client.specs.Numbers.{NumbersSeen, number_at, place_in, stamp_in, once_more, MisSpelt}
use Rattle.brc_places.specs.Placing.{TakesNot, NoHandle, ValueRefused as TakenBack}
use Rattle.brc_client.specs.Calls.{PutsNot, ValueRefused}
use Rattle.brc_client.specs.Clients.{ClientSeen, NamesIn, NamesOneIn, NamesNoneIn, NamesAs, Names, KeepsNames, SpendsName}

-- ---- the arithmetic of numbers

-- a number has the place that it was made for
pub place_at : (numbers : NumbersSeen) (k : ℕ) → k < 65536 → place_in (number_at numbers k) ≡ k
place_at numbers k inside = omega arith

-- vacated once more, the place has another number
pub once_more_differs : (uses : ℕ) → once_more uses ≢ uses
once_more_differs uses same = omega (arith, same)

-- ---- a number is looked at

-- it is spelled as its place is now, and a handle is there
pub found : (handles : List (Option HandleSeen)) (numbers : NumbersSeen) (number place : ℕ) (handle : HandleSeen)
    → place ≡ place_in number → number ≡ number_at numbers place → Some handle ≡ slot handles place
    → NamesIn handles numbers number handle
found handles numbers number place handle is spelled there = record {
  there = ap (slot handles) (sym is) ∙ sym there;
  spelled = spelled ∙ ap (number_at numbers) is;
}

-- the handle that is there is the one that it names
pub names_this : (client : ClientSeen) (number place : ℕ) (handle : HandleSeen) → place ≡ place_in number
    → Names client number → Some handle ≡ slot client.handles place → NamesAs client number handle
names_this client number place handle is names there = record {
  there = ap (slot client.handles) (sym is) ∙ sym there;
  spelled = names.1.spelled;
}

-- or none is
pub stale : (handles : List (Option HandleSeen)) (numbers : NumbersSeen) (number place : ℕ) → place ≡ place_in number
    → stamp_in number ≡ numbers.stamp → None ≡ slot handles place → NamesNoneIn handles numbers number statuses.Stale
stale handles numbers number place is stamp none = (
  stamp,
  λ names. (let off : None ≡ Some names.0 = none ∙ ap (slot handles) is ∙ names.1.there in let f : ⊥ = cc in f),
)

-- a number that is spelled otherwise names none
pub misspelt : (handles : List (Option HandleSeen)) (numbers : NumbersSeen) (number : ℕ) (status : Status)
    → MisSpelt numbers number status → NamesNoneIn handles numbers number status
misspelt handles numbers number statuses.Foreign why = why
misspelt handles numbers number statuses.Stale why = (why.0, λ names. why.1 names.1.spelled)
misspelt handles numbers number (statuses.Fault fault) why = why
misspelt handles numbers number statuses.Same why = why
misspelt handles numbers number statuses.Gone why = why
misspelt handles numbers number statuses.NotText why = why
misspelt handles numbers number statuses.NotValue why = elim why [ ]

-- ---- a handle came

slot_set : (hs : List (Option HandleSeen)) (i : ℕ) (x : Option HandleSeen) → i < length hs → slot (slice_set hs i x) i ≡ x
slot_set hs i x inside = grind (arith, common_steps)

slot_else : (hs : List (Option HandleSeen)) (i k : ℕ) (x : Option HandleSeen) → k ≢ i
    → slot (slice_set hs i x) k ≡ slot hs k
slot_else hs i k x other = grind (arith, common_steps)

-- all that named a handle name it still
pub kept_in : (before after : List (Option HandleSeen)) (was is : NumbersSeen) (given : HandleSeen)
    → slot before given.place ≡ None → after ≡ slice_set before given.place (Some given) → is ≡ was
    → (n : ℕ) (h : HandleSeen) → NamesIn before was n h → NamesIn after is n h
kept_in before after was is given empty set numbers n h names =
    let other : place_in n ≢ given.place = λ same. (let none : slot before (place_in n) ≡ None
    = ap (slot before) same ∙ empty in let off : None ≡ Some h = sym none ∙ names.there in absurd (let f : ⊥ = cc in f)) in
    record {
      there = ap (λ (l : List (Option HandleSeen)). slot l (place_in n)) set
          ∙ slot_else before given.place (place_in n) (Some given) other ∙ names.there;
      spelled = names.spelled ∙ ap (λ (m : NumbersSeen). number_at m (place_in n)) (sym numbers);
    }

pub names_kept : (old new : ClientSeen) (given : HandleSeen) → slot old.handles given.place ≡ None
    → new.handles ≡ slice_set old.handles given.place (Some given) → new.numbers ≡ old.numbers → KeepsNames old new
names_kept old new given empty set numbers = kept_in old.handles new.handles old.numbers new.numbers given empty set numbers

-- and the new number names the handle that came
pub given_in : (before after : List (Option HandleSeen)) (numbers : NumbersSeen) (given : HandleSeen) (n : ℕ)
    → given.place < 65536 → length before ≡ 65536 → after ≡ slice_set before given.place (Some given)
    → n ≡ number_at numbers given.place → NamesOneIn after numbers n
given_in before after numbers given n room places set is =
    let place : place_in n ≡ given.place = ap place_in is ∙ place_at numbers given.place room in
    let inside : given.place < length before = omega (arith, room, places) in (
      given,
      record {
        there = ap (slot after) place ∙ ap (λ (l : List (Option HandleSeen)). slot l given.place) set
            ∙ slot_set before given.place (Some given) inside;
        spelled = is ∙ ap (number_at numbers) (sym place);
      },
    )

pub names_given : (before : List (Option HandleSeen)) (new : ClientSeen) (given : HandleSeen) (n : ℕ)
    → given.place < 65536 → length before ≡ 65536 → new.handles ≡ slice_set before given.place (Some given)
    → n ≡ number_at new.numbers given.place → Names new n
names_given before new given n room places set is = given_in before new.handles new.numbers given n room places set is

-- ---- a number was spent

-- nothing of the numbers but that of one place, which no place has now
pub spends : (old new : ClientSeen) (spent i : ℕ) → place_in spent ≡ i → Names old spent
    → ((k : ℕ) → k ≢ i → slot new.handles k ≡ slot old.handles k) → number_at new.numbers i ≢ number_at old.numbers i
    → ((k : ℕ) → k ≢ i → number_at new.numbers k ≡ number_at old.numbers k) → SpendsName old new spent
spends old new spent i place named there differs others =
    let was : spent ≡ number_at old.numbers i = named.1.spelled ∙ ap (number_at old.numbers) place in
    record {
      none = λ names. differs (sym (names.1.spelled ∙ ap (number_at new.numbers) place) ∙ was);
      others = λ n h other names. (
          let else : place_in n ≢ i = λ same. other (names.spelled ∙ ap (number_at old.numbers) same ∙ sym was) in
          record { there = there (place_in n) else ∙ names.there; spelled = names.spelled ∙ sym (others (place_in n) else) });
    }

pub name_spent : (old new : ClientSeen) (spent i : ℕ) (came : Option HandleSeen) → place_in spent ≡ i → Names old spent
    → new.handles ≡ slice_set old.handles i came → number_at new.numbers i ≢ number_at old.numbers i
    → ((k : ℕ) → k ≢ i → number_at new.numbers k ≡ number_at old.numbers k) → SpendsName old new spent
name_spent old new spent i came place named set differs others = spends old new spent i place named
    (λ k else. ap (λ (l : List (Option HandleSeen)). slot l k) set ∙ slot_else old.handles i k came else) differs others

-- no number names anything where no handle is
pub nameless : (client : ClientSeen) → ((k : ℕ) → slot client.handles k ≡ None) → (n : ℕ) → Names client n → ⊥
nameless client none n names = let off : None ≡ Some names.0 = sym (none (place_in n)) ∙ names.1.there in
    let f : ⊥ = cc in f

-- ---- what a container took, and what came out for it

came_from : (handles : List (Option HandleSeen)) (numbers : NumbersSeen) (place : ℕ) (result : Option ℕ)
    → place < 65536 → (found : Option HandleSeen) → slot handles place ≡ found
    → MatchOption found (result ≡ None) (λ h. result ≡ Some (number_at numbers place))
    → IfSome result (NamesOneIn handles numbers)
came_from handles numbers place result inside None is told = rw told tt
came_from handles numbers place result inside (Some h) is told =
    let here : place_in (number_at numbers place) ≡ place = place_at numbers place inside in
    let names : NamesOneIn handles numbers (number_at numbers place) = (
      h,
      record {
        there = ap (slot handles) here ∙ is;
        spelled = ap (number_at numbers) (sym here);
      },
    ) in
    rw told names

-- the number of the handle that is in the place now names it
pub came_names : (handles : List (Option HandleSeen)) (numbers : NumbersSeen) (place : ℕ) (result : Option ℕ)
    → place < 65536
    → MatchOption (slot handles place) (result ≡ None) (λ h. result ≡ Some (number_at numbers place))
    → IfSome result (NamesOneIn handles numbers)
came_names handles numbers place result inside told =
    came_from handles numbers place result inside (slot handles place) refl told

-- a call by place was refused, so one by numbers is
pub refused : (call : FrameSeen Global → ℕ → HandleSeen → Result (Option HandleSeen) (HandedBack HandleSeen) → Type 0)
    (old new : ClientSeen) (container value into from : ℕ) (fault : Fault) → into ≡ place_in container
    → from ≡ place_in value → Names old container → Names old value → into ≢ from
    → TakesNot call old.frame new.frame old.handles into from fault
    → PutsNot (call new.frame) old new container value (statuses.Fault fault)
refused call old new container value into from fault at_into at_from names_into names_from apart (NoHandle why none same) =
    absurd (elim none [
      | inl gone ↦ (let off : None ≡ Some names_from.0 = sym gone ∙ ap (slot old.handles) at_from ∙ names_from.1.there in
          let f : ⊥ = cc in f)
      | inr rest ↦ elim rest [
        | inl gone ↦ (let off : None ≡ Some names_into.0
            = sym gone ∙ ap (slot old.handles) at_into ∙ names_into.1.there in let f : ⊥ = cc in f)
        | inr one ↦ apart one
      ]
    ])
refused call old new container value into from fault at_into at_from names_into names_from apart
    (TakenBack object given handed there value_there others same back did) =
    ValueRefused object given handed
    (names_this old container into object at_into names_into (sym there))
    (names_this old value from given at_from names_from (sym value_there))
    (λ one. apart (at_into ∙ ap place_in one ∙ sym at_from)) (ap (λ (f : Fault). statuses.Fault f) (sym same)) back did
