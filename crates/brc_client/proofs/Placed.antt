-- Each handle in the place that has its number in the frame: what a call does that gives one, takes one or keeps all.
use Rattle.std.proofs.Common.{arith, ◌≡◌, ◌≢◌, ◌<◌, ◌≤◌, ℕ, zero, suc, List, [], ◌∷◌, Option, Some, None, length, slice_set}
use Rattle.std.proofs.Common.{refl, sym, ap, ◌∙◌, ◌⊎◌, inl, inr, subst}
use Rattle.std.specs.Option.{IfSome}
use Rattle.std.specs.declared.alloc.Global.{Global}
use Rattle.std.proofs.lemmas.Bool.{cases_eq, cases_order}
use Rattle.std.proofs.lemmas.Grind.{common_steps}
use Rattle.brc_count.specs.law.declared.world.event.Source.TheVariants as sources
use Rattle.brc_count.specs.Frames.{FrameSeen, HandleSeen, GivenHandle, IsUnlocked, Owns, place_seen}
use Rattle.brc_count.specs.Owned.{Keeps, Gains, Loses}
use Rattle.brc_count.proofs.Owning.{filled_with}
use Rattle.brc_handles.specs.Handles.{slot, filled, IsApart, IsBare, ComesIn, ComesOut}
use Rattle.brc_handles.specs.Standing.{KeepsStanding}
use Rattle.brc_handles.proofs.Places.{bare_of}
use Rattle.brc_client.specs.Numbers.{NumbersSeen, place_in}
use Rattle.brc_client.specs.Clients.{IsClient, KeptBeside, NamesIn, kept_count}

-- ---- one place

pub slot_set : (hs : List (Option HandleSeen)) (i : ℕ) (x : Option HandleSeen) → i < length hs → slot (slice_set hs i x) i ≡ x
slot_set hs i x inside = grind (arith, common_steps)

pub slot_else : (hs : List (Option HandleSeen)) (i k : ℕ) (x : Option HandleSeen) → k ≢ i
    → slot (slice_set hs i x) k ≡ slot hs k
slot_else hs i k x other = grind (arith, common_steps)

pub length_set : (hs : List (Option HandleSeen)) (i : ℕ) (x : Option HandleSeen) → length (slice_set hs i x) ≡ length hs
length_set hs i x = grind (arith, common_steps)

-- a place in which a handle is, is there
pub inside_of : (hs : List (Option HandleSeen)) (k : ℕ) (h : HandleSeen) → slot hs k ≡ Some h → k < length hs
inside_of hs k h is = grind (arith, common_steps)

-- no handle is where none is counted
pub none_counted : (hs : List (Option HandleSeen)) → filled hs ≡ 0 → (k : ℕ) → slot hs k ≡ None
none_counted [] count k = grind (arith, common_steps)
none_counted (None ∷ hs) count zero = refl
none_counted (None ∷ hs) count (suc k) = none_counted hs count k
none_counted (Some h ∷ hs) count k = absurd (omega (arith, count))

-- what is so of each that is there stays so as another thing
pub each : {P Q : HandleSeen → Type 0} → ((h : HandleSeen) → P h → Q h) → (found : Option HandleSeen) → IfSome found P
    → IfSome found Q
each step None all = tt
each step (Some h) all = step h all

pub at_slot : (P : HandleSeen → Type 0) (found : Option HandleSeen) (h : HandleSeen) → found ≡ Some h → IfSome found P → P h
at_slot P found h is all = let there : IfSome (Some h) P = rw is at all in there

-- the frame owns the handle that a number names
pub owned : {none : Option HandleSeen} (frame : FrameSeen Global) (hs : List (Option HandleSeen)) (numbers : NumbersSeen)
    (number : ℕ) (h : HandleSeen) → IsClient frame hs none → NamesIn hs numbers number h → Owns frame h
owned frame hs numbers number h client names = at_slot (Owns frame) (slot hs (place_in number)) h names.there
    (client.stands.holds.owned (place_in number))

-- ---- many

pub opens : (frame : FrameSeen Global) (hs : List (Option HandleSeen)) → frame.len ≡ 0 → IsUnlocked frame → IsBare hs
    → length hs ≡ 65536 → IsClient frame hs None
opens frame hs idle unlocked bare places = record {
  stands = record {
    holds = record {
      owned = λ k. (let none : slot hs k ≡ None = bare.places k in rw none tt);
      count = omega (arith, idle, bare.count);
    };
    unlocked = unlocked;
  };
  kept = tt;
  lies = λ k h is. (let none : slot hs k ≡ None = bare.places k in let off : None ≡ Some h = sym none ∙ is in cc);
  places = places;
}

-- the handle that is kept, after a call on others
kept_still : {old new : FrameSeen Global} (hs after : List (Option HandleSeen))
    → ((h : HandleSeen) → Owns old h → IsApart h hs → Owns new h × IsApart h after) → (none : Option HandleSeen)
    → KeptBeside old hs none → KeptBeside new after none
kept_still hs after step None beside = tt
kept_still hs after step (Some h) beside = (let now = step h beside.0 beside.2 in (now.0, beside.1, now.1))

pub keeps : {none : Option HandleSeen} (old new : FrameSeen Global) (hs : List (Option HandleSeen)) → IsClient old hs none
    → Keeps old new → IsUnlocked new → IsClient new hs none
keeps {none} old new hs client kept unlocked = record {
  stands = record {
    holds = record {
      owned = λ k. each kept.owns (slot hs k) (client.stands.holds.owned k);
      count = omega (arith, kept.len, client.stands.holds.count);
    };
    unlocked = unlocked;
  };
  kept = kept_still hs hs (λ h owns off. (kept.owns h owns, off)) none client.kept;
  lies = client.lies;
  places = client.places;
}

-- the place of a handle that the frame gains is empty
pub none_unless : (o : Option HandleSeen) → ((h : HandleSeen) → o ≡ Some h → ⊥) → o ≡ None
none_unless None never = refl
none_unless (Some h) never = absurd (never h refl)

pub vacant : {none : Option HandleSeen} (old new : FrameSeen Global) (hs : List (Option HandleSeen)) (given : HandleSeen)
    → IsClient old hs none
    → Gains old new given → slot hs given.place ≡ None
vacant old new hs given client gains = none_unless (slot hs given.place)
    (λ h is. gains.apart h (at_slot (Owns old) (slot hs given.place) h is (client.stands.holds.owned given.place))
    (sym (client.lies given.place h is)))

pub apart : {none : Option HandleSeen} (old new : FrameSeen Global) (hs : List (Option HandleSeen)) (given : HandleSeen)
    → IsClient old hs none
    → Gains old new given → IsApart given hs
apart old new hs given client gains = λ k. each gains.apart (slot hs k) (client.stands.holds.owned k)

-- one handle more to the object of a number lies in the place that was next
pub next_is : {none : Option HandleSeen} (old new : FrameSeen Global) (hs : List (Option HandleSeen)) (numbers : NumbersSeen)
    (number : ℕ) (h given : HandleSeen) → IsClient old hs none → NamesIn hs numbers number h
    → ((c : ℕ) → place_seen old.heap.cells old.seat.log h.place ≡ Some c
    → GivenHandle old new (sources.Frame h.place) c given)
    → given.place ≡ old.next
next_is old new hs numbers number h given client names gives =
    let owns = owned old hs numbers number h client names in
    let (c, is) = filled_with (place_seen old.heap.cells old.seat.log h.place) owns.filled in
    (gives c is).place

-- each handle that is there, by its place
pub each_there : {P : HandleSeen → Type 0} (o : Option HandleSeen) → ((h : HandleSeen) → o ≡ Some h → P h) → IfSome o P
each_there None all = tt
each_there (Some h) all = all h refl

-- where a handle is in places of which one was set
pub there_set : (hs : List (Option HandleSeen)) (i k : ℕ) (x : Option HandleSeen) (h : HandleSeen) → i < length hs
    → slot (slice_set hs i x) k ≡ Some h → ((k ≡ i) × (x ≡ Some h)) ⊎ ((k ≢ i) × (slot hs k ≡ Some h))
there_set hs i k x h inside is = elim (cases_eq k i) [
  | inl same ↦
      let here : slot (slice_set hs i x) i ≡ Some h = rw same at is in
      inl (same, sym (slot_set hs i x inside) ∙ here)
  | inr other ↦ inr (other, sym (slot_else hs i k x other) ∙ is)
]

-- a handle came into its own place
pub gained : {none : Option HandleSeen} (old new : FrameSeen Global) (hs after : List (Option HandleSeen)) (given : HandleSeen)
    → IsClient old hs none
    → Gains old new given → IsUnlocked new → given.place < 65536 → after ≡ slice_set hs given.place (Some given)
    → ComesIn hs after given → IsClient new after none
gained {none} old new hs after given client gains unlocked room set comes =
    let inside : given.place < length hs = omega (arith, room, client.places) in
    let owned : (k : ℕ) (h : HandleSeen) → slot (slice_set hs given.place (Some given)) k ≡ Some h → Owns new h
    = λ k h is. elim (there_set hs given.place k (Some given) h inside is) [
      | inl (same, this) ↦ (let e : given ≡ h = cc in subst (λ (x : HandleSeen). Owns new x) e gains.owned)
      | inr (other, was) ↦ gains.owns h (at_slot (Owns old) (slot hs k) h was (client.stands.holds.owned k))
    ] in
    let lies : (k : ℕ) (h : HandleSeen) → slot (slice_set hs given.place (Some given)) k ≡ Some h → h.place ≡ k
    = λ k h is. elim (there_set hs given.place k (Some given) h inside is) [
      | inl (same, this) ↦ cc
      | inr (other, was) ↦ client.lies k h was
    ] in
    record {
      stands = record {
        holds = record {
          owned = λ k. each_there (slot after k) (λ h is. owned k h (rw set at is));
          count = omega (arith, gains.len, comes.count, client.stands.holds.count);
        };
        unlocked = unlocked;
      };
      kept = kept_still hs after (λ h owns off. (
        gains.owns h owns,
        λ k. each_there (slot after k) (λ x is. elim
            (there_set hs given.place k (Some given) x inside (rw set at is)) [
              | inl (same, this) ↦ (let e : given ≡ x = cc in subst (λ (g : HandleSeen). h.place ≢ g.place) e
                  (λ one. gains.apart h owns (sym one)))
              | inr (other, was) ↦ at_slot (λ (g : HandleSeen). h.place ≢ g.place) (slot hs k) x was (off k)
            ]),
      )) none client.kept;
      lies = λ k h is. lies k h (rw set at is);
      places = ap (λ (l : List (Option HandleSeen)). length l) set ∙ length_set hs given.place (Some given) ∙ client.places;
    }

-- a handle went out of its place
pub lost : {none : Option HandleSeen} (old new : FrameSeen Global) (hs after : List (Option HandleSeen)) (i : ℕ)
    (gone : HandleSeen)
    → IsClient old hs none → Loses old new gone → IsUnlocked new → slot hs i ≡ Some gone → after ≡ slice_set hs i None
    → ComesOut hs after i gone → IsClient new after none
lost {none} old new hs after i gone client loses unlocked was set comes =
    let inside : i < length hs = inside_of hs i gone was in
    let before : (k : ℕ) (h : HandleSeen) → slot (slice_set hs i None) k ≡ Some h → (k ≢ i) × (slot hs k ≡ Some h)
    = λ k h is. elim (there_set hs i k None h inside is) [
      | inl (same, none) ↦ absurd (let f : ⊥ = cc in f)
      | inr found ↦ found
    ] in
    let owned : (k : ℕ) (h : HandleSeen) → slot (slice_set hs i None) k ≡ Some h → Owns new h
    = λ k h is. (let found = before k h is in loses.owns h (at_slot (Owns old) (slot hs k) h found.1 (client.stands.holds.owned k))
    (λ same. found.0 (sym (client.lies k h found.1) ∙ sym same ∙ client.lies i gone was))) in
    record {
      stands = record {
        holds = record {
          owned = λ k. each_there (slot after k) (λ h is. owned k h (rw set at is));
          count = omega (arith, loses.len, comes.count, client.stands.holds.count);
        };
        unlocked = unlocked;
      };
      kept = kept_still hs after (λ h owns off. (
        loses.owns h owns (λ one. at_slot (λ (g : HandleSeen). h.place ≢ g.place) (slot hs i) gone was (off i) (sym one)),
        λ k. each_there (slot after k) (λ x is. at_slot (λ (g : HandleSeen). h.place ≢ g.place) (slot hs k) x
            (before k x (rw set at is)).1 (off k)),
      )) none client.kept;
      lies = λ k h is. client.lies k h (before k h (rw set at is)).1;
      places = ap (λ (l : List (Option HandleSeen)). length l) set ∙ length_set hs i None ∙ client.places;
    }

-- a handle went into a container, and its place has none now, or the same handle, of what came out
pub put_in : {none : Option HandleSeen} (old new : FrameSeen Global) (hs after : List (Option HandleSeen)) (i : ℕ)
    (given : HandleSeen) (came : Option HandleSeen) → IsClient old hs none → KeepsStanding old new hs after → slot hs i ≡ Some given
    → after ≡ slice_set hs i came → IfSome (slot after i) (λ h. slot hs i ≡ Some h) → IsClient new after none
put_in {none} old new hs after i given came client keeps was set same =
    let inside : i < length hs = inside_of hs i given was in
    let lies : (k : ℕ) (h : HandleSeen) → slot after k ≡ Some h → h.place ≡ k
    = λ k h is. elim (there_set hs i k came h inside (rw set at is)) [
      | inl (here, this) ↦
          let at_i : slot after i ≡ Some h = rw here at is in
          client.lies i h (at_slot (λ (x : HandleSeen). slot hs i ≡ Some x) (slot after i) h at_i same) ∙ sym here
      | inr (other, found) ↦ client.lies k h found
    ] in
    record {
      stands = record {
        holds = record {
          owned = keeps.each;
          count = omega (arith, keeps.count, client.stands.holds.count);
        };
        unlocked = keeps.unlocked;
      };
      kept = kept_still hs after (λ h owns off. (keeps.owns h owns off, keeps.apart h owns off)) none client.kept;
      lies = lies;
      places = ap (λ (l : List (Option HandleSeen)). length l) set ∙ length_set hs i came ∙ client.places;
    }

-- no handle is there if none is below the places' end, or none is counted
past_the_end : (hs : List (Option HandleSeen)) (k : ℕ) → length hs ≤ k → slot hs k ≡ None
past_the_end hs k past = grind (arith, common_steps)

pub bare_below : (hs : List (Option HandleSeen)) (n : ℕ) → ((k : ℕ) → k < n → slot hs k ≡ None) → length hs ≤ n → IsBare hs
bare_below hs n none all = bare_of hs (λ k. elim (cases_order k n) [
  | inl same ↦ past_the_end hs k (omega (arith, all, same))
  | inr other ↦ elim other [
    | inl below ↦ none k below
    | inr past ↦ past_the_end hs k (omega (arith, all, past))
  ]
])

pub bare_counted : {none : Option HandleSeen} (frame : FrameSeen Global) (hs : List (Option HandleSeen))
    → IsClient frame hs none → frame.len ≡ kept_count none
    → IsBare hs
bare_counted frame hs client idle =
    let count : filled hs ≡ 0 = omega (arith, idle, client.stands.holds.count) in
    record { count = count; places = none_counted hs count }
