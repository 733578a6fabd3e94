-- Items by which the thread only lets go leave what is still private, and not dead, as it is.
use Rattle.std.proofs.Common.{◌≡◌, ℕ, ◌==◌, ◌&&◌, not, Bool, true, false, if◌then◌else◌, List, [], ◌∷◌, Option, Some}
use Rattle.std.proofs.Common.{None, is_some, slice_get, refl, sym, ◌∙◌, ap, inl, inr, arith}
use Rattle.std.proofs.lemmas.Bool.{cases_Bool, eqb-true, true≢false}
use Rattle.std.proofs.lemmas.List.{get_or_past}
use Rattle.brc_count.specs.law.declared.world.event.Step.TheVariants.{Free}
use Rattle.brc_count.specs.law.declared.rule.contents.Contents.{Contents}
use Rattle.brc_count.specs.law.declared.rule.told.LogItem.{LogItem}
use Rattle.brc_count.specs.law.declared.rule.told.LogItem.TheVariants.{Stepped}
use Rattle.brc_count.specs.law.rule.Logs.{entries_in}
use Rattle.brc_count.specs.law.rule.Seen.{part_seen}
use Rattle.brc_count.specs.Frames.{place_seen}
use Rattle.brc_meaning.specs.declared.reference.Reference.{Reference}
use Rattle.brc_meaning.specs.declared.reference.Reference.TheVariants as references
use Rattle.brc_meaning.specs.declared.object.Object.{Object}
use Rattle.brc_count.specs.law.payloads.Payloads.{payloads_of}
use Rattle.brc_count.specs.law.living.Living.{Living, OwnLog, ItemFits, is_dead}
use Rattle.brc_count.specs.law.living.Quiet.{Quietly, NoItem, OneMore, is_quiet, frees}
use Rattle.brc_count.proofs.law.living.Quiet_Items.{quiet_places, quiet_allocs, quiet_payloads, was_alive}
use Rattle.law_isolation.specs.Means.{Lives, LivesAt, HasAt, IsMeant, cell_meant, contents_meant, left}
use Rattle.law_isolation.proofs.Meant_Contents.{each_entry}

-- ---- of one item

-- what is held isn't dead, also before the first item
pub living : (n : ℕ) (log : List LogItem) → OwnLog n log → Living n log
living n [] own = record {
  placed = λ k c at. absurd (let none : None ≡ Some c = sym (get_or_past [] k None (omega arith)) ∙ at in cc);
  entered = λ c i d payload has. absurd (let none : None ≡ Some payload = has in cc);
}
living n (x ∷ log) own = own.2

-- what was given back was dead
kept_alive : (n : ℕ) (x : LogItem) (log : List LogItem) (d : ℕ) → ItemFits n log x → is_dead n log d ≡ false
    → frees x d ≡ false
kept_alive n (Stepped (Free e) number moved) log d fits alive = elim (cases_Bool (e == d)) [
  | inr other ↦ other
  | inl same ↦ absurd (true≢false (sym fits ∙ ap (is_dead n log) (eqb-true e d same) ∙ alive))
]
kept_alive n x log d fits alive = refl

by_free : (b : Bool) (before : Option Contents) (payload : Contents) → (if b then None else before) ≡ Some payload
    → (b ≡ false) × (before ≡ Some payload)
by_free true before payload is = absurd (let none : None ≡ Some payload = is in cc)
by_free false before payload is = (refl, is)

-- who has a payload after a quiet item had it before
had_payload : (n : ℕ) (x : LogItem) (log : List LogItem) (c : ℕ) (payload : Contents) → is_quiet x ≡ true
    → payloads_of n (x ∷ log) c ≡ Some payload → (frees x c ≡ false) × (payloads_of n log c ≡ Some payload)
had_payload n x log c payload quiet has = by_free (frees x c) (payloads_of n log c) payload
    (sym (quiet_payloads n x log c quiet) ∙ has)

-- and who wasn't dead has it after a quiet item
has_still : (n : ℕ) (x : LogItem) (log : List LogItem) (d : ℕ) (payload : Contents) → is_quiet x ≡ true
    → ItemFits n log x
    → is_dead n log d ≡ false → payloads_of n log d ≡ Some payload → payloads_of n (x ∷ log) d ≡ Some payload
has_still n x log d payload quiet fits alive has =
    quiet_payloads n x log d quiet ∙ ap (λ b. if b then None else payloads_of n log d)
    (kept_alive n x log d fits alive) ∙ has

-- ---- of quiet items

-- what is still private, and not dead, has the payload that it had, and wasn't dead
pub stays_quietly : (n : ℕ) (before log : List LogItem) (c : ℕ) (payload : Contents) → Quietly before log
    → payloads_of n log c ≡ Some payload → is_dead n log c ≡ false
    → (payloads_of n before c ≡ Some payload) × (is_dead n before c ≡ false)
stays_quietly n before log c payload NoItem has alive = (has, alive)
stays_quietly n before log c payload (OneMore x older goes quiet) has alive =
    let had : (frees x c ≡ false) × (payloads_of n older c ≡ Some payload) =
    had_payload n x older c payload quiet has in
    stays_quietly n before older c payload goes had.1 (was_alive n x older c had.0 alive)

-- what it holds wasn't given back
pub entry_stays : (n : ℕ) (before log : List LogItem) (c i d : ℕ) (payload there : Contents) → Quietly before log
    → OwnLog n log → payloads_of n log c ≡ Some payload → is_dead n log c ≡ false
    → slice_get (entries_in payload) i ≡ Some d → payloads_of n before d ≡ Some there → payloads_of n log d ≡ Some there
entry_stays n before log c i d payload there NoItem own has alive at was = was
entry_stays n before log c i d payload there (OneMore x older goes quiet) own has alive at was =
    let had : (frees x c ≡ false) × (payloads_of n older c ≡ Some payload) =
    had_payload n x older c payload quiet has in
    let lived : is_dead n older c ≡ false = was_alive n x older c had.0 alive in
    has_still n x older d there quiet own.1 ((living n older own.0).entered c i d payload had.1 lived at)
    (entry_stays n before older c i d payload there goes own.0 had.1 lived at was)

-- nor what a place has still
pub placed_stays : (n : ℕ) (before log : List LogItem) (k d : ℕ) (there : Contents) → Quietly before log → OwnLog n log
    → place_seen n log k ≡ Some d → payloads_of n before d ≡ Some there
    → payloads_of n log d ≡ Some there
placed_stays n before log k d there NoItem own at was = was
placed_stays n before log k d there (OneMore x older goes quiet) own at was =
    let stood : place_seen n older k ≡ Some d = quiet_places n x older k d quiet at in
    has_still n x older d there quiet own.1 ((living n older own.0).placed k d stood)
    (placed_stays n before older k d there goes own.0 stood was)

pub allocs_quietly : (n : ℕ) (before log : List LogItem) → Quietly before log
    → (part_seen n log).row.allocs ≡ (part_seen n before).row.allocs
allocs_quietly n before log NoItem = refl
allocs_quietly n before log (OneMore x older goes quiet) = quiet_allocs n x older quiet
    ∙ allocs_quietly n before older goes

-- ---- what is left

both : (a b : Bool) → (a && b) ≡ true → (a ≡ true) × (b ≡ true)
both true b is = (refl, is)
both false b is = absurd (true≢false (sym is))

unnot : (b : Bool) → not b ≡ true → b ≡ false
unnot true is = absurd (true≢false (sym is))
unnot false is = refl

the_some : {X : Type 0} (o : Option X) → is_some o ≡ true → (x : X) × (o ≡ Some x)
the_some (Some x) is = (x, refl)
the_some None is = absurd (true≢false (sym is))

-- an object that is left: it was of the part, is private still, and isn't dead
pub left_parts : (n : ℕ) (log : List LogItem) (cells : ℕ → ℕ) (part : ℕ → Bool) (place : ℕ)
    → left n log cells part place ≡ true
    → (part place ≡ true) × (payload : Contents) × (payloads_of n log (cells place) ≡ Some payload)
    × (is_dead n log (cells place) ≡ false)
left_parts n log cells part place is =
    let one : (part place ≡ true) × ((is_some (payloads_of n log (cells place)) && not (is_dead n log (cells place)))
    ≡ true) = both (part place) _ is in
    let two : (is_some (payloads_of n log (cells place)) ≡ true) × (not (is_dead n log (cells place)) ≡ true) =
    both _ _ one.1 in
    let there : (payload : Contents) × (payloads_of n log (cells place) ≡ Some payload) =
    the_some (payloads_of n log (cells place)) two.0 in
    (one.0, there.0, there.1, unnot (is_dead n log (cells place)) two.1)

pub is_left : (n : ℕ) (log : List LogItem) (cells : ℕ → ℕ) (part : ℕ → Bool) (place : ℕ) (payload : Contents)
    → part place ≡ true → payloads_of n log (cells place) ≡ Some payload → is_dead n log (cells place) ≡ false
    → left n log cells part place ≡ true
is_left n log cells part place payload of has alive =
    ap (λ b. b && (is_some (payloads_of n log (cells place)) && not (is_dead n log (cells place)))) of
    ∙ ap (λ o. is_some o && not (is_dead n log (cells place))) has
    ∙ ap not alive

some_same : (a b : Contents) (o : Option Contents) → o ≡ Some a → o ≡ Some b → a ≡ b
some_same a b o one other = let same : Some a ≡ Some b = sym one ∙ other in cc

module _ {A : Type 0} where
  -- a reference to what was there is one to what is left, where its cell isn't dead and wasn't given back
  meant_still : (n : ℕ) (before log : List LogItem) (cells : ℕ → ℕ) (part : ℕ → Bool) (made : List (Object A))
      (reference : Reference) → Lives n before cells part made
      → is_dead n log (cell_meant cells reference) ≡ false
      → ((there : Contents) → payloads_of n before (cell_meant cells reference) ≡ Some there
      → payloads_of n log (cell_meant cells reference) ≡ Some there)
      → IsMeant part reference → IsMeant (left n log cells part) reference
  meant_still n before log cells part made (references.Small number) lives alive stays meant = meant
  meant_still n before log cells part made (references.Object place) lives alive stays meant =
      let at : LivesAt n before cells part made place = lives.there place meant in
      is_left n log cells part place (contents_meant cells at.object) meant
      (stays (contents_meant cells at.object) at.payload) alive

  pub lives_quietly : (n : ℕ) (before log : List LogItem) (cells : ℕ → ℕ) (part : ℕ → Bool) (made : List (Object A))
      → OwnLog n log → Quietly before log → Lives n before cells part made
      → Lives n log cells (left n log cells part) made
  lives_quietly n before log cells part made own goes lives = record {
    there = λ place is.
        let parts : (part place ≡ true) × (payload : Contents) × (payloads_of n log (cells place) ≡ Some payload)
        × (is_dead n log (cells place) ≡ false) = left_parts n log cells part place is in
        let at : LivesAt n before cells part made place = lives.there place parts.0 in
        let was : payloads_of n before (cells place) ≡ Some parts.1 =
        (stays_quietly n before log (cells place) parts.1 goes parts.2 parts.3).0 in
        let same : parts.1 ≡ contents_meant cells at.object = some_same parts.1 (contents_meant cells at.object)
        (payloads_of n before (cells place)) was at.payload in
        let has : payloads_of n log (cells place) ≡ Some (contents_meant cells at.object) = parts.2 ∙ ap Some same in
        record {
          object = at.object;
          stands = at.stands;
          payload = has;
          alive = parts.3;
          leads = each_entry cells (IsMeant part) (IsMeant (left n log cells part)) at.object
              (λ i reference entry meant. meant_still n before log cells part made reference lives
              ((living n log own).entered (cells place) i (cell_meant cells reference) (contents_meant cells at.object)
              has parts.3 entry)
              (λ there. entry_stays n before log (cells place) i (cell_meant cells reference)
              (contents_meant cells at.object) there goes own has parts.3 entry) meant) at.leads;
        };
    apart = λ p q one other. lives.apart p q (left_parts n log cells part p one).0
        (left_parts n log cells part q other).0;
  }

  -- a place that has the same still
  pub held_quietly : (n : ℕ) (before log : List LogItem) (cells : ℕ → ℕ) (part : ℕ → Bool) (made : List (Object A))
      (k : ℕ)
      (reference : Reference)
      → OwnLog n log → Quietly before log → Lives n before cells part made → HasAt n before cells part k reference
      → place_seen n log k ≡ Some (cell_meant cells reference) → HasAt n log cells (left n log cells part) k reference
  held_quietly n before log cells part made k reference own goes lives has at = record {
    cell = at;
    meant = meant_still n before log cells part made reference lives
        ((living n log own).placed k (cell_meant cells reference) at)
        (λ there. placed_stays n before log k (cell_meant cells reference) there goes own at) has.meant;
  }
