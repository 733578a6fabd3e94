-- What a step brings into a hand, a worklist and entries: what was there, or the cell that it means.
use Rattle.std.proofs.Common.{◌≡◌, ℕ, ◌-◌, zero, suc, Bool, true, false, if◌then◌else◌, List, [], ◌∷◌, length, get_or}
use Rattle.std.proofs.Common.{set, take, slice_get, Option, Some, None, sym, ◌∙◌, ap, inl, inr, ◌⊎◌, arith}
use Rattle.std.proofs.lemmas.Bool.{cases_eq, cases_lt, eqb-true}
use Rattle.std.proofs.lemmas.List.{get_or_past, length-set}
use Rattle.law.specs.declared.world.cell.Cell.{Cell}
use Rattle.law.specs.declared.world.event.Dropped.{Dropped}
use Rattle.law.specs.declared.world.event.Dropped.TheVariants as dropped
use Rattle.law.specs.declared.world.event.LastDropped.TheVariants as lasts
use Rattle.law.specs.declared.world.event.Step.{Step}
use Rattle.law.specs.declared.world.event.Step.TheVariants.{Claim, InitLocal, InitShared, Birth, LocalDown, SeeZero}
use Rattle.law.specs.declared.world.event.Step.TheVariants.{Untie, MergeZero, Ask, LastDown, Enqueue, MergeAdd, Offer}
use Rattle.law.specs.declared.world.row.Hand.{Hand}
use Rattle.law.specs.declared.world.row.Hand.TheVariants as hands
use Rattle.law.specs.declared.world.row.Phase.{Phase}
use Rattle.law.specs.declared.world.row.Phase.TheVariants as phases
use Rattle.law.specs.world.Lists.{bit_of, is_marked, front_of}
use Rattle.law.specs.world.Heap.{Heap, popped_at}
use Rattle.law.specs.world.Steps.{is_default, is_untouched, hand_after, untied_hand, added_hand, popped_after}
use Rattle.law.specs.world.Steps.{worklist_with, entries_with, entries_without}
use Rattle.law.proofs.world.Asking.{May}
use Rattle.law.proofs.world.Bitwise.{without_bit_else}
use Rattle.law.proofs.world.Changes.{read_here, read_there}

if_hand : (b : Bool) (x y hand : Hand) (d c : ℕ) (p : Phase) → (if b then x else y) ≡ hands.Busy p c
    → (x ≡ hands.Busy p c → (hand ≡ hands.Busy p c) ⊎ (d ≡ c))
    → (y ≡ hands.Busy p c → (hand ≡ hands.Busy p c) ⊎ (d ≡ c)) → (hand ≡ hands.Busy p c) ⊎ (d ≡ c)
if_hand true x y hand d c p at one other = one at
if_hand false x y hand d c p at one other = other at

new_hand : (q p : Phase) (hand : Hand) (d c : ℕ) → hands.Busy q d ≡ hands.Busy p c → (hand ≡ hands.Busy p c) ⊎ (d ≡ c)
new_hand q p hand d c at = inr (cc)

no_hand : (p : Phase) (hand : Hand) (d c : ℕ) → hands.Free ≡ hands.Busy p c → (hand ≡ hands.Busy p c) ⊎ (d ≡ c)
no_hand p hand d c at = absurd (cc)

untied_brings : (hand : Hand) (d c : ℕ) (p : Phase) → untied_hand d hand ≡ hands.Busy p c
    → (hand ≡ hands.Busy p c) ⊎ (d ≡ c)
untied_brings hands.Free d c p at = new_hand phases.Popping p hands.Free d c at
untied_brings (hands.Busy phases.Shut e) d c p at = new_hand phases.Taking p (hands.Busy phases.Shut e) d c at
untied_brings (hands.Busy phases.Offered e) d c p at = new_hand phases.Yielding p (hands.Busy phases.Offered e) d c at
untied_brings (hands.Busy q e) d c p at = new_hand phases.Untied p (hands.Busy q e) d c at

added_brings : (hand : Hand) (d c : ℕ) (p : Phase) → added_hand d hand ≡ hands.Busy p c
    → (hand ≡ hands.Busy p c) ⊎ (d ≡ c)
added_brings hands.Free d c p at = no_hand p hands.Free d c at
added_brings (hands.Busy phases.Taking e) d c p at = new_hand phases.Held p (hands.Busy phases.Taking e) d c at
added_brings (hands.Busy q e) d c p at = no_hand p (hands.Busy q e) d c at

pub hand_brings : (s : Step) (d : ℕ) (x : Cell) (shut : Bool) (hand : Hand) (p : Phase) (c : ℕ)
    → hand_after s d x shut hand ≡ hands.Busy p c → (hand ≡ hands.Busy p c) ⊎ (d ≡ c)
hand_brings (Claim e) d x shut hand p c at = new_hand phases.Claimed p hand d c at
hand_brings (InitLocal e) d x shut hand p c at = new_hand phases.Counted p hand d c at
hand_brings (InitShared e) d x shut hand p c at = new_hand phases.Ready p hand d c at
hand_brings (Birth e kind k) d x shut hand p c at = no_hand p hand d c at
hand_brings (LocalDown drop) d x shut hand p c at = if_hand _ (hands.Busy phases.Zero d) hand hand d c p at
    (new_hand phases.Zero p hand d c) (λ same. inl same)
hand_brings (SeeZero e) d x shut hand p c at = if_hand (is_untouched x) hands.Free (hands.Busy phases.Over d) hand d c p
    at (no_hand p hand d c) (new_hand phases.Over p hand d c)
hand_brings (Untie e) d x shut hand p c at = untied_brings hand d c p at
hand_brings (MergeZero e) d x shut hand p c at = no_hand p hand d c at
hand_brings (Ask drop) d x shut hand p c at = if_hand (is_default x.state) (hands.Busy phases.Asked d) hand hand d c p
    at (new_hand phases.Asked p hand d c) (λ same. inl same)
hand_brings (LastDown lasts.Hand) d x shut hand p c at = no_hand p hand d c at
hand_brings (LastDown (lasts.Dropped drop)) d x shut hand p c at = inl at
hand_brings (LastDown (lasts.Popped e)) d x shut hand p c at = inl at
hand_brings (Enqueue e) d x shut hand p c at = if_hand shut (hands.Busy phases.Shut d) hands.Free hand d c p at
    (new_hand phases.Shut p hand d c) (no_hand p hand d c)
hand_brings (MergeAdd e) d x shut hand p c at = added_brings hand d c p at
hand_brings (Offer e) d x shut hand p c at = new_hand phases.Offered p hand d c at
hand_brings s d x shut hand p c at = inl at

pub marks_bring : (frees takes : Bool) (d c : ℕ) (marks : List Bool) → is_marked (worklist_with frees takes d marks) c
    ≡ true → (is_marked marks c ≡ true) ⊎ (d ≡ c)
marks_bring true takes d c marks at = elim (cases_eq c d) [
  | inl same ↦ inr (sym same)
  | inr other ↦ inl (sym (read_there marks d c false false other) ∙ at)
]
marks_bring false true d c marks at = elim (cases_eq c d) [
  | inl same ↦ inr (sym same)
  | inr other ↦ inl (sym (read_there marks d c true false other) ∙ at)
]
marks_bring false false d c marks at = inl at

pub popped_keeps : (h : Heap) (u : ℕ) (s : Step) (c : ℕ) → May h u s → bit_of (popped_at h u) c ≡ 0
    → bit_of (popped_after s (popped_at h u)) c ≡ 0
popped_keeps h u (LastDown (lasts.Popped e)) c may none =
    without_bit_else (popped_at h u) e c (λ same. let on : bit_of (popped_at h u) e ≡ 1 = eqb-true _ _ may.own in
    omega (arith, on, none, ap (bit_of (popped_at h u)) same)) ∙ none
popped_keeps h u s c may none = none

in_front : (xs : List ℕ) (n i c : ℕ) → slice_get (take n xs) i ≡ Some c → slice_get xs i ≡ Some c
in_front xs zero i c at = absurd (let e : None ≡ Some c = at in cc)
in_front [] (suc n) i c at = at
in_front (x ∷ xs) (suc n) zero c at = at
in_front (x ∷ xs) (suc n) (suc i) c at = in_front xs n i c at

pub emptied : (lists : List (List ℕ)) (b : ℕ) → get_or (set lists b []) b [] ≡ []
emptied lists b = elim (cases_lt b (length lists)) [
  | inl inside ↦ read_here lists b [] [] inside
  | inr past ↦ get_or_past (set lists b []) b [] (omega (arith, past, length-set lists b []))
]

fewer : (lists : List (List ℕ)) (o : Option Dropped) (e i c : ℕ) → slice_get (get_or (entries_without o lists) e []) i
    ≡ Some c → slice_get (get_or lists e []) i ≡ Some c
fewer lists None e i c at = at
fewer lists (Some (dropped.Frame k)) e i c at = at
fewer lists (Some (dropped.Work b)) e i c at = elim (cases_eq e b) [
  | inr other ↦ ap (λ (xs : List ℕ). slice_get xs i)
      (sym (read_there lists b e (front_of (get_or lists b [])) [] other)) ∙ at
  | inl same ↦ elim (cases_lt b (length lists)) [
    | inl inside ↦
        let here : slice_get (front_of (get_or lists b [])) i ≡ Some c =
        ap (λ (xs : List ℕ). slice_get xs i) (sym (read_here lists b (front_of (get_or lists b [])) [] inside))
        ∙ ap (λ j. slice_get (get_or (set lists b (front_of (get_or lists b []))) j []) i) (sym same) ∙ at in
        ap (λ j. slice_get (get_or lists j []) i) same
        ∙ in_front (get_or lists b []) (length (get_or lists b []) - 1) i c here
    | inr past ↦ absurd (let bad : None ≡ Some c = ap (λ (xs : List ℕ). slice_get xs i)
        (sym (get_or_past (set lists b (front_of (get_or lists b []))) e []
        (omega (arith, past, same, length-set lists b (front_of (get_or lists b [])))))) ∙ at in cc)
  ]
]

pub entries_fewer : (lists : List (List ℕ)) (born : Option ℕ) (out : Option Dropped) (e i c : ℕ)
    → slice_get (get_or (entries_with born out lists) e []) i ≡ Some c → slice_get (get_or lists e []) i ≡ Some c
entries_fewer lists None out e i c at = fewer lists out e i c at
entries_fewer lists (Some b) out e i c at = elim (cases_eq e b) [
  | inr other ↦ ap (λ (xs : List ℕ). slice_get xs i) (sym (read_there lists b e [] [] other)) ∙ at
  | inl same ↦ absurd (let bad : None ≡ Some c = ap (λ (xs : List ℕ). slice_get xs i) (sym (emptied lists b)
      ∙ ap (λ j. get_or (set lists b []) j []) (sym same)) ∙ at in cc)
]
