-- The handle to None that a client keeps beside its places: made, gone, and where an object comes under it; and a handle
-- that is out of its place, on its way into a container.
use Rattle.std.proofs.Common.{refl, arith, ◌≡◌, ◌≢◌, ◌<◌, ℕ, Bool, true, false, List, Option, Some, None, length, slice_set}
use Rattle.std.proofs.Common.{sym, ap, ◌∙◌, ◌+◌, inl, inr, subst, Ok}
use Rattle.std.proofs.lemmas.List.{set-set, set-get_or}
use Rattle.std.specs.declared.alloc.Global.{Global}
use Rattle.brc_words.specs.declared.note.Note.{Note}
use Rattle.brc_count.specs.Frames.{FrameSeen, HandleSeen, IsUnlocked, Owns}
use Rattle.brc_count.specs.Owned.{Keeps, Gains, Loses}
use Rattle.brc_handles.specs.Handles.{slot, filled, IsApart, ComesIn, ComesOut}
use Rattle.brc_things.specs.declared.value.Value.{Value}
use Rattle.brc_things.specs.declared.value.Value.TheVariants as values
use Rattle.brc_things.specs.Plain_Values.{PutCall}
use Rattle.brc_things.specs.Values.{SwapsValueIn, HasPutValue, OwnsPutValue}
use Rattle.brc_places.specs.Value_Calls.{PutValueBy}
use Rattle.brc_places.specs.declared.valued.PutBy.{PutBy}
use Rattle.brc_places.specs.declared.valued.PutBy.TheVariants as puts
use Rattle.brc_words.specs.declared.entry.Entry.{Entry}
use Rattle.brc_things.specs.declared.value.SwapIf.TheVariants.{Differs}
use Rattle.brc_things.specs.Still.{SwapsIfStill}
use Rattle.brc_client.specs.Swap_If.{SwapsIfAt, AsPut, came_as}
use Rattle.brc_client.specs.declared.conditional.SwapIfAt.{SwapIfAt}
use Rattle.brc_client.specs.declared.conditional.SwapIfAt.TheVariants as places
use Rattle.brc_client.specs.declared.data.Datum.{Datum}
use Rattle.brc_client.specs.Numbers.{NumbersSeen}
use Rattle.brc_client.specs.Clients.{IsClient}
use Rattle.brc_client.specs.Valued.{ComesBack, IsLoose, LiesThen}
use Rattle.brc_client.proofs.Placed.{each, each_there, at_slot, none_unless, there_set, length_set, inside_of, keeps, slot_set, slot_else}

-- one was made
pub kept_made : (old new : FrameSeen Global) (hs : List (Option HandleSeen)) (none : HandleSeen) → IsClient old hs None
    → Gains old new none → IsUnlocked new → IsClient new hs (Some none)
kept_made old new hs none client gains unlocked = record {
  stands = record {
    holds = record {
      owned = λ k. each gains.owns (slot hs k) (client.stands.holds.owned k);
      count = omega (arith, gains.len, client.stands.holds.count);
    };
    unlocked = unlocked;
  };
  kept = (gains.owned, gains.room, λ k. each gains.apart (slot hs k) (client.stands.holds.owned k));
  lies = client.lies;
  places = client.places;
}

-- it was let go of
pub kept_gone : (old new : FrameSeen Global) (hs : List (Option HandleSeen)) (gone : HandleSeen)
    → IsClient old hs (Some gone) → Loses old new gone → IsUnlocked new → IsClient new hs None
kept_gone old new hs gone client loses unlocked = record {
  stands = record {
    holds = record {
      owned = λ k. each_there (slot hs k) (λ h is. loses.owns h
          (at_slot (Owns old) (slot hs k) h is (client.stands.holds.owned k))
          (at_slot (λ (x : HandleSeen). gone.place ≢ x.place) (slot hs k) h is (client.kept.2 k)));
      count = omega (arith, loses.len, client.stands.holds.count);
    };
    unlocked = unlocked;
  };
  kept = tt;
  lies = client.lies;
  places = client.places;
}

-- the place of its number is empty
pub kept_vacant : (frame : FrameSeen Global) (hs : List (Option HandleSeen)) (none : HandleSeen)
    → IsClient frame hs (Some none) → slot hs none.place ≡ None
kept_vacant frame hs none client = none_unless (slot hs none.place)
    (λ h is. at_slot (λ (x : HandleSeen). none.place ≢ x.place) (slot hs none.place) h is (client.kept.2 none.place)
    (sym (client.lies none.place h is)))

-- An object came under it, and into the place of its number; the client has another to None.
pub kept_comes : (old new : FrameSeen Global) (hs after : List (Option HandleSeen)) (none more : HandleSeen)
    → IsClient old hs (Some none) → Gains old new more → IsUnlocked new
    → after ≡ slice_set hs none.place (Some none) → ComesIn hs after none → IsClient new after (Some more)
kept_comes old new hs after none more client gains unlocked set comes =
    let inside : none.place < length hs = omega (arith, client.kept.1, client.places) in
    let owned : (k : ℕ) (h : HandleSeen) → slot (slice_set hs none.place (Some none)) k ≡ Some h → Owns old h
    = λ k h is. elim (there_set hs none.place k (Some none) h inside is) [
      | inl (same, this) ↦ (let e : none ≡ h = cc in subst (λ (x : HandleSeen). Owns old x) e client.kept.0)
      | inr (other, was) ↦ at_slot (Owns old) (slot hs k) h was (client.stands.holds.owned k)
    ] in
    let lies : (k : ℕ) (h : HandleSeen) → slot (slice_set hs none.place (Some none)) k ≡ Some h → h.place ≡ k
    = λ k h is. elim (there_set hs none.place k (Some none) h inside is) [
      | inl (same, this) ↦ cc
      | inr (other, was) ↦ client.lies k h was
    ] in
    record {
      stands = record {
        holds = record {
          owned = λ k. each_there (slot after k) (λ h is. gains.owns h (owned k h (rw set at is)));
          count = omega (arith, gains.len, comes.count, client.stands.holds.count);
        };
        unlocked = unlocked;
      };
      kept = (gains.owned, gains.room, λ k. each_there (slot after k) (λ h is. gains.apart h (owned k h (rw set at is))));
      lies = λ k h is. lies k h (rw set at is);
      places = ap (λ (l : List (Option HandleSeen)). length l) set ∙ length_set hs none.place (Some none) ∙ client.places;
    }

-- ---- a handle out of its place

-- Beside the handles in the places, and the one that is kept, the frame has this one; its place is empty.
pub record HasOut (frame : FrameSeen Global) (hs : List (Option HandleSeen)) (none out : HandleSeen) : Type 0 where
  pub each : (k : ℕ) (h : HandleSeen) → slot hs k ≡ Some h → Owns frame h
  pub len : frame.len ≡ filled hs + 2
  pub kept : Owns frame none
  pub room : none.place < 65536
  pub beside : IsApart none hs
  pub lies : (k : ℕ) (h : HandleSeen) → slot hs k ≡ Some h → h.place ≡ k
  pub places : length hs ≡ 65536
  pub owns : Owns frame out
  pub inside : out.place < 65536
  pub empty : slot hs out.place ≡ None
  pub apart : IsApart out hs
  pub differs : out.place ≢ none.place

-- it goes out
pub goes_out : (frame : FrameSeen Global) (hs after : List (Option HandleSeen)) (none out : HandleSeen) (i : ℕ)
    → IsClient frame hs (Some none) → slot hs i ≡ Some out → after ≡ slice_set hs i None → ComesOut hs after i out
    → HasOut frame after none out
goes_out frame hs after none out i client was set comes =
    let inside : i < length hs = inside_of hs i out was in
    let home : out.place ≡ i = client.lies i out was in
    let before : (k : ℕ) (h : HandleSeen) → slot after k ≡ Some h → slot hs k ≡ Some h
    = λ k h is. elim (there_set hs i k None h inside (rw set at is)) [
      | inl (same, none) ↦ absurd (let f : ⊥ = cc in f)
      | inr (other, found) ↦ found
    ] in
    record {
      each = λ k h is. at_slot (Owns frame) (slot hs k) h (before k h is) (client.stands.holds.owned k);
      len = omega (arith, client.stands.holds.count, comes.count);
      kept = client.kept.0;
      room = client.kept.1;
      beside = λ k. each_there (slot after k) (λ h is. at_slot (λ (x : HandleSeen). none.place ≢ x.place) (slot hs k) h
          (before k h is) (client.kept.2 k));
      lies = λ k h is. client.lies k h (before k h is);
      places = ap (λ (l : List (Option HandleSeen)). length l) set ∙ length_set hs i None ∙ client.places;
      owns = at_slot (Owns frame) (slot hs i) out was (client.stands.holds.owned i);
      inside = omega (arith, home, inside, client.places);
      empty = ap (λ (l : List (Option HandleSeen)). slot l out.place) set
          ∙ ap (λ (k : ℕ). slot (slice_set hs i None) k) home ∙ slot_set hs i None inside;
      apart = comes.apart;
      differs = λ one. at_slot (λ (x : HandleSeen). none.place ≢ x.place) (slot hs i) out was (client.kept.2 i) (sym one);
    }

-- it went into a container, and its reference with it
pub out_gone : (old new : FrameSeen Global) (hs : List (Option HandleSeen)) (none out : HandleSeen)
    → HasOut old hs none out → Loses old new out → IsUnlocked new → IsClient new hs (Some none)
out_gone old new hs none out has loses unlocked = record {
  stands = record {
    holds = record {
      owned = λ k. each_there (slot hs k) (λ h is. loses.owns h (has.each k h is)
          (at_slot (λ (x : HandleSeen). out.place ≢ x.place) (slot hs k) h is (has.apart k)));
      count = omega (arith, loses.len, has.len);
    };
    unlocked = unlocked;
  };
  kept = (loses.owns none has.kept has.differs, has.room, has.beside);
  lies = has.lies;
  places = has.places;
}

-- what is so of it, and of each in the places, is so of each once it is in its own
each_home : (P : HandleSeen → Type 0) (hs after : List (Option HandleSeen)) (out : HandleSeen) → out.place < length hs
    → after ≡ slice_set hs out.place (Some out) → P out → ((k : ℕ) (h : HandleSeen) → slot hs k ≡ Some h → P h)
    → (k : ℕ) (h : HandleSeen) → slot after k ≡ Some h → P h
each_home P hs after out inside set mine others k h is =
    elim (there_set hs out.place k (Some out) h inside (rw set at is)) [
      | inl (same, this) ↦ (let e : out ≡ h = cc in subst P e mine)
      | inr (other, was) ↦ others k h was
    ]

-- or it is in its place again, of what came out, or since the call was refused
pub out_home : (old new : FrameSeen Global) (hs after : List (Option HandleSeen)) (none out : HandleSeen)
    → HasOut old hs none out → Keeps old new → IsUnlocked new → after ≡ slice_set hs out.place (Some out)
    → ComesIn hs after out → IsClient new after (Some none)
out_home old new hs after none out has keeps unlocked set comes =
    let inside : out.place < length hs = omega (arith, has.inside, has.places) in
    record {
      stands = record {
        holds = record {
          owned = λ k. each_there (slot after k) (λ h is. keeps.owns h
              (each_home (λ (x : HandleSeen). Owns old x) hs after out inside set has.owns has.each k h is));
          count = omega (arith, keeps.len, comes.count, has.len);
        };
        unlocked = unlocked;
      };
      kept = (
        keeps.owns none has.kept,
        has.room,
        λ k. each_there (slot after k) (each_home (λ (x : HandleSeen). none.place ≢ x.place) hs after out inside set
            (λ one. has.differs (sym one))
            (λ j h is. at_slot (λ (x : HandleSeen). none.place ≢ x.place) (slot hs j) h is (has.beside j)) k),
      );
      lies = λ k h is. elim (there_set hs out.place k (Some out) h inside (rw set at is)) [
        | inl (same, this) ↦ (let e : out ≡ h = cc in ap (λ (x : HandleSeen). x.place) (sym e) ∙ sym same)
        | inr (other, was) ↦ has.lies k h was
      ];
      places = ap (λ (l : List (Option HandleSeen)). length l) set ∙ length_set hs out.place (Some out) ∙ has.places;
    }

-- all places have what they had then
pub home_again : (hs : List (Option HandleSeen)) (i : ℕ) (out : HandleSeen) → slot hs i ≡ Some out → out.place ≡ i
    → slice_set (slice_set hs i None) out.place (Some out) ≡ hs
home_again hs i out was home = ap (λ (k : ℕ). slice_set (slice_set hs i None) k (Some out)) home
    ∙ set-set hs i None (Some out) ∙ ap (λ (o : Option HandleSeen). slice_set hs i o) (sym was) ∙ set-get_or hs i None

-- ---- under which handle an object came out

-- That of what went in; or for a scalar the one that was kept, and only then the client has another to None.
abbrev pub CameUnder : HandleSeen → HandleSeen → Value Global → Option (Value Global) → Type 0
CameUnder none after value None = after ≡ none
CameUnder none after value (Some (values.Scalar said)) = after ≡ none
CameUnder none after (values.Scalar note) (Some (values.Object given said)) = given ≡ none
CameUnder none after (values.Object handle note) (Some (values.Object given said)) = (after ≡ none) × (given ≡ handle)

swapped_under : (old new : FrameSeen Global) (k : ℕ) (none after : HandleSeen) (value : Value Global) (call : PutCall)
    (came : Value Global) → SwapsValueIn old new k none after value call came → CameUnder none after value (Some came)
swapped_under old new k none after (values.Scalar note) call (values.Scalar said) swaps = swaps.0
swapped_under old new k none after (values.Scalar note) call (values.Object given said) swaps = swaps.0
swapped_under old new k none after (values.Object handle note) call (values.Scalar said) swaps = swaps.0
swapped_under old new k none after (values.Object handle note) call (values.Object given said) swaps = (swaps.0, swaps.1)

put_under : (old new : FrameSeen Global) (k : ℕ) (none after : HandleSeen) (value : Value Global) (call : PutCall)
    (came : Option (Value Global)) → HasPutValue old new k none after value call came → CameUnder none after value came
put_under old new k none after value call None put = put.0
put_under old new k none after value call (Some came) put = swapped_under old new k none after value call came put

-- what comes back as it went in
back_under : (none after : HandleSeen) (value : Value Global) → after ≡ none → CameUnder none after value (Some value)
back_under none after (values.Scalar note) same = same
back_under none after (values.Object handle note) same = (same, refl)

pub came_under : (by : PutBy) (old new : FrameSeen Global) (k : ℕ) (none after : HandleSeen) (value : Value Global)
    (came : Option (Value Global)) → PutValueBy by old new k none after value (Ok came) → CameUnder none after value came
came_under puts.Push old new k none after value None did = did.0
came_under puts.Push old new k none after value (Some came) did = absurd did.1
came_under (puts.Set index) old new k none after value None did = absurd did
came_under (puts.Set index) old new k none after value (Some came) did =
    swapped_under old new k none after value _ came did.did
came_under (puts.PutAt index) old new k none after value came did = put_under old new k none after value _ came did.did
came_under puts.Send old new k none after value None did = did.0
came_under puts.Send old new k none after value (Some came) did = absurd did.1
came_under (puts.Put key) old new k none after value came did = put_under old new k none after value _ came did.did
came_under (puts.PutNew key) old new k none after value None did = did.0
came_under (puts.PutNew key) old new k none after value (Some came) did =
    subst (λ (back : Value Global). CameUnder none after value (Some back)) (sym did.1.did.0)
    (back_under none after value did.0)

-- the same of a call that swaps only what is expected
swap_if_under : (old new : FrameSeen Global) (k : ℕ) (none after : HandleSeen) (value : Value Global) (call : PutCall)
    (swapped : Bool) (came : Value Global) → SwapsIfStill old new k none after value call (came_as swapped came)
    → CameUnder none after value (Some came)
swap_if_under old new k none after value call true came did = swapped_under old new k none after value call came did
swap_if_under old new k none after value call false came did =
    subst (λ (back : Value Global). CameUnder none after value (Some back)) (sym did.1) (back_under none after value did.0)

pub swap_under : (by : SwapIfAt) (expected : Entry) (swapped : Bool) (old new : FrameSeen Global) (k : ℕ)
    (none after : HandleSeen) (value came : Value Global)
    → AsPut (SwapsIfAt by) expected swapped old new k none after value (Ok (Some came)) → CameUnder none after value (Some came)
swap_under (places.Index index) expected swapped old new k none after value came did =
    swap_if_under old new k none after value _ swapped came did.did
swap_under (places.Beside key) expected swapped old new k none after value came did =
    swap_if_under old new k none after value _ swapped came did.did

-- what comes back leaves the frame's handles as a value that went in for another
pub back_owned : (old new : FrameSeen Global) (after : HandleSeen) (value back : Value Global) → back ≡ value
    → Keeps old new → OwnsPutValue old new after value (Some back)
back_owned old new after (values.Scalar note) back same keeps = rw same keeps
back_owned old new after (values.Object handle note) back same keeps = rw same keeps

pub differs_back : (by : SwapIfAt) (expected : Entry) (old new : FrameSeen Global) (k : ℕ)
    (none after : HandleSeen) (value back : Value Global)
    → SwapsIfAt by old new k expected none after value (Ok (Differs back)) → back ≡ value
differs_back (places.Index index) expected old new k none after value back did = did.did.1
differs_back (places.Beside key) expected old new k none after value back did = did.did.1

-- it is in none of the places
pub scalar_loose : (frame : FrameSeen Global) (hs : List (Option HandleSeen)) (none after : HandleSeen) (note : Note)
    (came : Option (Value Global)) → IsClient frame hs (Some none) → CameUnder none after (values.Scalar note) came
    → IsLoose hs came
scalar_loose frame hs none after note None client under = tt
scalar_loose frame hs none after note (Some (values.Scalar said)) client under = tt
scalar_loose frame hs none after note (Some (values.Object given said)) client under =
    rw under (client.kept.1, kept_vacant frame hs none client, client.kept.2)

pub object_loose : (frame : FrameSeen Global) (hs : List (Option HandleSeen)) (none after handle : HandleSeen) (note : Note)
    (came : Option (Value Global)) → HasOut frame hs none handle → CameUnder none after (values.Object handle note) came
    → IsLoose hs came
object_loose frame hs none after handle note None has under = tt
object_loose frame hs none after handle note (Some (values.Scalar said)) has under = tt
object_loose frame hs none after handle note (Some (values.Object given said)) has under =
    rw under.1 (has.inside, has.empty, has.apart)

-- ---- the client, once a value went in

pub scalar_put : (old new : FrameSeen Global) (hs then : List (Option HandleSeen)) (numbers : NumbersSeen)
    (none after : HandleSeen) (note : Note) (came : Option (Value Global)) (told : Option Datum)
    → IsClient old hs (Some none) → CameUnder none after (values.Scalar note) came
    → OwnsPutValue old new after (values.Scalar note) came → IsUnlocked new → ComesBack hs then numbers came told
    → LiesThen hs then came → IsClient new then (Some after)
scalar_put old new hs then numbers none after note None told client under owns unlocked back lies =
    rw under (rw lies (keeps old new hs client owns unlocked))
scalar_put old new hs then numbers none after note (Some (values.Scalar said)) told client under owns unlocked back lies =
    rw under (rw lies (keeps old new hs client owns unlocked))
scalar_put old new hs then numbers none after note (Some (values.Object given said)) told client under owns unlocked back lies =
    kept_comes old new hs then none after client owns unlocked (rw under at back.1) (rw under at lies)

pub object_put : (old new : FrameSeen Global) (hs then : List (Option HandleSeen)) (numbers : NumbersSeen)
    (none after handle : HandleSeen) (note : Note) (came : Option (Value Global)) (told : Option Datum)
    → HasOut old hs none handle → CameUnder none after (values.Object handle note) came
    → OwnsPutValue old new after (values.Object handle note) came → IsUnlocked new → ComesBack hs then numbers came told
    → LiesThen hs then came → IsClient new then (Some after)
object_put old new hs then numbers none after handle note None told has under owns unlocked back lies =
    rw under (rw lies (out_gone old new hs none handle has owns unlocked))
object_put old new hs then numbers none after handle note (Some (values.Scalar said)) told has under owns unlocked back lies =
    rw under (rw lies (out_gone old new hs none handle has owns unlocked))
object_put old new hs then numbers none after handle note (Some (values.Object given said)) told has under owns unlocked back lies =
    rw under.0 (out_home old new hs then none handle has owns unlocked (rw under.1 at back.1) (rw under.1 at lies))

-- every place but that of what went in has what it had
pub else_there : (hs then : List (Option HandleSeen)) (numbers : NumbersSeen) (none after handle : HandleSeen) (note : Note)
    (came : Option (Value Global)) (told : Option Datum) (i : ℕ) → handle.place ≡ i
    → CameUnder none after (values.Object handle note) came → ComesBack (slice_set hs i None) then numbers came told
    → (k : ℕ) → k ≢ i → slot then k ≡ slot hs k
else_there hs then numbers none after handle note None told i home under back k other =
    ap (λ (l : List (Option HandleSeen)). slot l k) back.1 ∙ slot_else hs i k None other
else_there hs then numbers none after handle note (Some (values.Scalar said)) told i home under back k other =
    ap (λ (l : List (Option HandleSeen)). slot l k) back.1 ∙ slot_else hs i k None other
else_there hs then numbers none after handle note (Some (values.Object given said)) told i home under back k other =
    let place : given.place ≡ i = ap (λ (h : HandleSeen). h.place) under.1 ∙ home in
    ap (λ (l : List (Option HandleSeen)). slot l k) back.1
    ∙ slot_else (slice_set hs i None) given.place k (Some given) (λ same. other (same ∙ place)) ∙ slot_else hs i k None other
