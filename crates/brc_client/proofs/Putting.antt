-- Values that go into a container by numbers: what was done, and why it wasn't, by the steps of the call.
use Rattle.std.proofs.Common.{◌≡◌, ◌≢◌, ◌⊎◌, ℕ, List, Option, Some, None, Result, Ok, Err, slice_set}
use Rattle.std.proofs.Common.{refl, sym, ap, ◌∙◌, inl, inr, subst}
use Rattle.std.specs.declared.alloc.Global.{Global}
use Rattle.std.specs.Result.{IfErr}
use Rattle.brc_words.specs.declared.entry.Entry.{Entry}
use Rattle.brc_words.specs.declared.note.Note.{Note}
use Rattle.brc_count.specs.declared.handed.HandedBack.{HandedBack}
use Rattle.brc_count.specs.Frames.{FrameSeen, HandleSeen, IsUnlocked}
use Rattle.brc_count.specs.Owned.{Keeps}
use Rattle.brc_handles.specs.Handles.{slot, ComesIn}
use Rattle.brc_things.specs.declared.value.Value.{Value}
use Rattle.brc_things.specs.declared.value.Value.TheVariants as values
use Rattle.brc_client.specs.declared.data.Datum.{Datum}
use Rattle.brc_client.specs.declared.data.Datum.TheVariants.{Scalar, Object}
use Rattle.brc_client.specs.declared.status.Status.{Status}
use Rattle.brc_client.specs.declared.status.Status.TheVariants as statuses
use Rattle.brc_client.specs.Numbers.{NumbersSeen, number_at, place_in}
use Rattle.brc_client.specs.Clients.{ClientSeen, IsClient, Names, NamesAs, NamesIn, NamesNone, NamesNoneIn, SpendsName}
use Rattle.brc_client.specs.Valued.{NoneMade, NoneRefused, Nameless, Placeless, ReadiesNone, IsFound, StandsFor}
use Rattle.brc_client.specs.Valued.{ComesBack, SpendsPlace, PutsDatum, PutsNoDatum, ContainerNameless, NoneWanting, HeapRefused}
use Rattle.brc_client.proofs.Beside.{HasOut, CameUnder, kept_vacant, out_home, else_there}
use Rattle.brc_client.proofs.Named.{kept_in, spends}

-- two numbers that name handles in one place are one
pub one_number : (client : ClientSeen) (one other i k : ℕ) → i ≡ place_in one → k ≡ place_in other → i ≡ k
    → Names client one → Names client other → other ≡ one
one_number client one other i k at_one at_other same names_one names_other = names_other.1.spelled
    ∙ ap (number_at client.numbers) (sym at_other ∙ sym same ∙ at_one) ∙ sym names_one.1.spelled

-- a number that was found is one that names something
nameless_not : (client : ClientSeen) (number : ℕ) (status : Status) → IsFound client number → NamesNone client number status
    → ⊥
nameless_not client number statuses.Foreign found none = none found.1
nameless_not client number statuses.Stale found none = none.1 found.0
nameless_not client number (statuses.Fault fault) found none = none
nameless_not client number statuses.Same found none = none
nameless_not client number statuses.Gone found none = none
nameless_not client number statuses.NotText found none = none
nameless_not client number statuses.NotValue found none = none

-- the handle to None that the client has then is the one that is kept
ready_with : (old ready : ClientSeen) (none : HandleSeen) → NoneMade old ready → ready.none ≡ Some none
    → ReadiesNone old.frame ready.frame old.none none
ready_with old ready none made kept =
    let was : ready.none ≡ Some made.none = made.kept in
    let same : made.none ≡ none = cc in
    subst (λ (h : HandleSeen). ReadiesNone old.frame ready.frame old.none h) same made.readies

module _ (call : FrameSeen Global → FrameSeen Global → ℕ → HandleSeen → HandleSeen → Value Global
    → Result (Option (Value Global)) (HandedBack (Value Global)) → Type 0) where
  -- ---- why it didn't go in

  pub none_wanting : (old new : ClientSeen) (container : ℕ) (datum : Datum) (status : Status)
      → NoneRefused old new container status → PutsNoDatum call old new container datum status
  none_wanting old new container datum status (Nameless none same) = ContainerNameless none same
  none_wanting old new container datum status (Placeless fault names is lacks gone) = NoneWanting fault names is lacks gone

  -- the container was looked for after a handle to None was there
  pub none_found : (old ready : ClientSeen) (hs : List (Option HandleSeen)) (was : NumbersSeen) (container : ℕ) (datum : Datum)
      (status : Status) → (ready ≡ old) ⊎ IsFound old container → hs ≡ old.handles → was ≡ old.numbers
      → NamesNoneIn hs was container status → PutsNoDatum call old ready container datum status
  none_found old ready hs was container datum status found handles numbers none =
      let before : NamesNone old container status = rw (handles, numbers) at none in
      elim found [
        | inl same ↦ ContainerNameless before same
        | inr names ↦ absurd (nameless_not old container status names before)
      ]

  pub heap_refused : (old ready new : ClientSeen) (container : ℕ) (datum : Datum) (object none after : HandleSeen)
      (value : Value Global) (handed : HandedBack (Value Global)) → NoneMade old ready → ready.none ≡ Some none
      → NamesAs old container object → new.none ≡ Some after → after ≡ none → StandsFor old container datum value
      → handed.value ≡ value → call ready.frame new.frame object.place none after value (Err handed)
      → PutsNoDatum call old new container datum (statuses.Fault handed.fault)
  heap_refused old ready new container datum object none after value handed made kept names keeps same stands back did =
      HeapRefused object none ready.frame value handed names (ready_with old ready none made kept)
      (keeps ∙ ap (λ (h : HandleSeen). Some h) same) stands refl back (rw same at did)

  -- ---- it went in

  pub scalar_puts : (old ready new : ClientSeen) (container : ℕ) (object none after : HandleSeen) (note : Note)
      (came : Option (Value Global)) (told : Option Datum) → NoneMade old ready → ready.none ≡ Some none
      → ready.handles ≡ old.handles → ready.numbers ≡ old.numbers → NamesAs ready container object
      → new.none ≡ Some after → new.numbers ≡ ready.numbers
      → call ready.frame new.frame object.place none after (values.Scalar note) (Ok came)
      → ComesBack ready.handles new.handles new.numbers came told → PutsDatum call old new container (Scalar note) told
  scalar_puts old ready new container object none after note came told made kept handles numbers names keeps same did back =
      record {
        object = object;
        names_object = rw (handles, numbers) at names;
        ready = ready.frame;
        none = none;
        readies = ready_with old ready none made kept;
        after = after;
        kept = keeps;
        value = values.Scalar note;
        stands = refl;
        came = came;
        did = did;
        back = rw handles at back;
        numbers = same ∙ numbers;
      }

  pub object_puts : (old ready new : ClientSeen) (container number from : ℕ) (object given none after : HandleSeen)
      (note : Note) (came : Option (Value Global)) (told : Option Datum) → NoneMade old ready → ready.none ≡ Some none
      → ready.handles ≡ old.handles → ready.numbers ≡ old.numbers → NamesAs old container object
      → NamesAs old number given → container ≢ number → from ≡ place_in number → new.none ≡ Some after
      → SpendsPlace ready.numbers new.numbers from
      → call ready.frame new.frame object.place none after (values.Object given note) (Ok came)
      → ComesBack (slice_set ready.handles from None) new.handles new.numbers came told
      → PutsDatum call old new container (Object number note) told
  object_puts old ready new container number from object given none after note came told made kept handles numbers names
      names_given apart at keeps spent did back =
      record {
        object = object;
        names_object = names;
        ready = ready.frame;
        none = none;
        readies = ready_with old ready none made kept;
        after = after;
        kept = keeps;
        value = values.Object given note;
        stands = (given, names_given, apart, refl);
        came = came;
        did = did;
        back = rw (handles, at) at back;
        numbers = rw (numbers, at) at spent;
      }

-- ---- which numbers name what then

pub scalar_keeps : (frame : FrameSeen Global) (old : ClientSeen) (hs then : List (Option HandleSeen)) (was is : NumbersSeen)
    (none after : HandleSeen) (note : Note) (came : Option (Value Global)) (told : Option Datum)
    → IsClient frame hs (Some none) → CameUnder none after (values.Scalar note) came → ComesBack hs then is came told
    → hs ≡ old.handles → was ≡ old.numbers → is ≡ was → (n : ℕ) (h : HandleSeen) → NamesAs old n h → NamesIn then is n h
scalar_keeps frame old hs then was is none after note None told client under back handles numbers same n h names =
    rw (back.1, handles, same, numbers) names
scalar_keeps frame old hs then was is none after note (Some (values.Scalar said)) told client under back handles numbers same n h names =
    rw (back.1, handles, same, numbers) names
scalar_keeps frame old hs then was is none after note (Some (values.Object given said)) told client under back handles numbers same n h names =
    let before : NamesIn hs was n h = rw (handles, numbers) names in
    let empty : slot hs given.place ≡ None = rw under (kept_vacant frame hs none client) in
    kept_in hs then was is given empty back.1 same n h before

pub object_spends : (old new : ClientSeen) (hs : List (Option HandleSeen)) (was : NumbersSeen) (number from : ℕ)
    (none after handle : HandleSeen) (note : Note) (came : Option (Value Global)) (told : Option Datum)
    → from ≡ place_in number → Names old number → handle.place ≡ from
    → CameUnder none after (values.Object handle note) came
    → ComesBack (slice_set hs from None) new.handles new.numbers came told → hs ≡ old.handles → was ≡ old.numbers
    → number_at new.numbers from ≢ number_at was from
    → ((k : ℕ) → k ≢ from → number_at new.numbers k ≡ number_at was k) → SpendsName old new number
object_spends old new hs was number from none after handle note came told at names home under back handles numbers differs
    others = spends old new number from (sym at) names
    (λ k other. else_there hs new.handles new.numbers none after handle note came told from home under back k other
    ∙ ap (λ (l : List (Option HandleSeen)). slot l k) handles)
    (λ one. differs (one ∙ ap (λ (m : NumbersSeen). number_at m from) (sym numbers)))
    (λ k other. others k other ∙ ap (λ (m : NumbersSeen). number_at m k) numbers)

-- ---- a refused object is in its place again

pub back_home : (old new : FrameSeen Global) (hs after : List (Option HandleSeen)) (none then out back : HandleSeen)
    → HasOut old hs none out → back ≡ out → then ≡ none → Keeps old new → IsUnlocked new
    → after ≡ slice_set hs back.place (Some back) → ComesIn hs after back → IsClient new after (Some then)
back_home old new hs after none then out back has same kept keeps unlocked set comes =
    rw kept (out_home old new hs after none out has keeps unlocked (rw same at set) (rw same at comes))

-- ---- what is expected comes first

pub after_expected : {T : Type 0} (result : Result T Status) (A : Status → Type 0) (E : Entry → Type 0)
    (Q : Entry → Status → Type 0) (entry : Entry) → E entry → IfErr result (Q entry)
    → IfErr result (λ status. A status ⊎ ((e : Entry) × E e × Q e status))
after_expected (Ok did) A E Q entry is why = tt
after_expected (Err status) A E Q entry is why = inr (entry, is, why)
