-- The root's desk opens with its rule, and a taking, a putting and a second seat keep it.
use Rattle.std.proofs.Common.{◌≡◌, ◌≢◌, ◌+◌, ◌<◌, ◌≤◌, ◌⊎◌, ℕ, zero, suc, List, [], ◌∷◌, ◌++◌, Option, Some, None, length, set, refl, sym}
use Rattle.std.proofs.Common.{◌∙◌, ap, subst, inl, inr, arith, ⊎_elim, append_assoc}
use Rattle.std.proofs.lemmas.Bool.{cases_eq}
use Rattle.std.specs.Prelude.{slice_index}
use mathlib.Core.Option.{some, none, some-injective, some-ne-none}
use lib.ListN.{get_elem?}
use Rattle.atomic_table.specs.Seated.{TableId}
use Rattle.atomic_table.specs.Table as tables
use Rattle.atomic_table.proofs.Lists.{at_set, at_snoc, set_again}
use Rattle.brc_count.specs.law.declared.rule.view.View.{View}
use Rattle.brc_count.specs.law.declared.world.event.Step.TheVariants.{Register, Gather}
use Rattle.brc_count.specs.law.declared.rule.told.Moved.TheVariants as moves
use Rattle.brc_count.specs.law.declared.rule.told.LogItem.TheVariants.{Stepped}
use Rattle.brc_count.specs.law.steps.Joining.{next_thread, registering, gathering}
use Rattle.brc_count.specs.table.Seated.{TableSeen, RootSeen}
use Rattle.brc_thread.specs.Counting.{registrations}
use Rattle.brc_heap.specs.declared.desk.Visit.{Visit}
use Rattle.brc_heap.specs.declared.desk.Visit.TheVariants as visits
use Rattle.brc_heap.specs.declared.desk.Visitor.{Visitor}
use Rattle.brc_heap.specs.Desk.{ClerkSeen, SightSeen, knows, AtDesk, TakesRoot, PutsRoot, Grows, IsLast, LiesAtDesk, IsOut, WasOut, DifferInCount, visitor, looks}

abbrev S : Type 0
S = Option RootSeen

-- ---- how a root grows

pub grows_none : (root : RootSeen) → Grows root root
grows_none root = record { more = []; log = refl; count = omega arith }

pub grows_on : (a b c : RootSeen) → Grows a b → Grows b c → Grows a c
grows_on a b c first later = record {
  more = later.more ++ first.more;
  log = later.log ∙ ap (λ log. later.more ++ log) first.log
      ∙ sym (append_assoc later.more first.more a.view.log);
  count = omega (arith, first.count, later.count);
}

registered : (v : View) → registrations (registering v) ≡ registrations v + 1
registered v = refl

not_registered : (v w : View) → registrations (gathering v w) ≡ registrations v
not_registered v w = refl

pub grows_same : (was is : RootSeen) → is ≡ was → Grows was is
grows_same was is same = subst (λ (r : RootSeen). Grows was r) (sym same) (grows_none was)

-- as whoever has the root knows it
pub grows_registered : (clerk : ClerkSeen) (desk : TableId) (heap : TableSeen) (root new : RootSeen)
    → clerk ≡ record { desk = desk; heap = heap; found = root } → new.view ≡ registering root.view
    → Grows clerk.found new
grows_registered clerk desk heap root new is took =
    subst (λ (c : ClerkSeen). Grows c.found new) (sym is) (record {
      more = Stepped (Register (next_thread root.view)) 0 moves.Nothing ∷ [];
      log = ap (λ (v : View). v.log) took;
      count = omega (arith, ap registrations took, registered root.view);
    })

pub grows_gathered : (clerk : ClerkSeen) (desk : TableId) (heap : TableSeen) (root new : RootSeen) (w : View)
    → clerk ≡ record { desk = desk; heap = heap; found = root } → new.view ≡ gathering root.view w
    → Grows clerk.found new
grows_gathered clerk desk heap root new w is took =
    subst (λ (c : ClerkSeen). Grows c.found new) (sym is) (record {
      more = Stepped (Gather w.thread) 0 moves.Nothing ∷ [];
      log = ap (λ (v : View). v.log) took;
      count = omega (arith, ap registrations took, not_registered root.view w);
    })

pub grows_unchanged : (clerk : ClerkSeen) (desk : TableId) (heap : TableSeen) (root new : RootSeen)
    → clerk ≡ record { desk = desk; heap = heap; found = root } → new ≡ root → Grows clerk.found new
grows_unchanged clerk desk heap root new is same =
    subst (λ (c : ClerkSeen). Grows c.found new) (sym is) (grows_same root new same)

-- ---- rows of one

length_set : {X : Type 0} (xs : List X) (i : ℕ) (x : X) → length (set xs i x) ≡ length xs
length_set [] i x = refl
length_set (y ∷ xs) zero x = refl
length_set (y ∷ xs) (suc i) x = ap suc (length_set xs i x)

set_first : {X : Type 0} (xs : List X) (x : X) → length xs ≡ 1 → get_elem? (set xs 0 x) 0 ≡ some x
set_first [] x one = absurd (omega (arith, one))
set_first (y ∷ xs) x one = refl

first_set : (xs : List ℕ) (x : ℕ) → length xs ≡ 1 → slice_index (set xs 0 x) 0 ≡ x
first_set [] x one = absurd (omega (arith, one))
first_set (y ∷ xs) x one = refl

-- a seat of the longer list is one of before, or the new one
at_end : {X : Type 0} (xs : List X) (x y : X) (i : ℕ) → get_elem? (xs ++ x ∷ []) i ≡ some y
    → (get_elem? xs i ≡ some y) ⊎ ((i ≡ length xs) × (x ≡ y))
at_end [] x y zero is = inr (refl, some-injective x y is)
at_end [] x y (suc i) is = absurd (some-ne-none y (sym is))
at_end (z ∷ xs) x y zero is = inl is
at_end (z ∷ xs) x y (suc i) is =
    ⊎_elim (λ was. inl was) (λ new. inr (ap suc new.0, new.1)) (at_end xs x y i is)

-- ---- what a seat knows

visit_of : (a b : TableSeen) (u v : Visit) → visitor a u ≡ visitor b v → u ≡ v
visit_of a b u v is = ap (λ (x : Visitor). x.visit) is

found_of : (f l g m : RootSeen) → visits.Did f l ≡ visits.Did g m → f ≡ g
found_of f l g m is = let same : f ≡ g = cc in same

left_of : (f l g m : RootSeen) → visits.Did f l ≡ visits.Did g m → l ≡ m
left_of f l g m is = let same : l ≡ m = cc in same

has_of : (f g : RootSeen) → visits.Has f ≡ visits.Has g → f ≡ g
has_of f g is = let same : f ≡ g = cc in same

abbrev root_in : List (ℕ × S) → RootSeen → RootSeen
root_in [] other = other
root_in ((k, Some root) ∷ slots) other = root
root_in ((k, None) ∷ slots) other = other

slot_of : (a b : RootSeen) → ◌≡◌ {A = List (ℕ × S)} ((0, Some a) ∷ []) ((0, Some b) ∷ []) → a ≡ b
slot_of a b is = ap (λ (slots : List (ℕ × S)). root_in slots a) is

waits_not_has : (f : RootSeen) → visits.Waits ≡ visits.Has f → ⊥
waits_not_has f is = let no : ⊥ = cc in no

waits_not_did : (f l : RootSeen) → visits.Waits ≡ visits.Did f l → ⊥
waits_not_did f l is = let no : ⊥ = cc in no

has_not_did : (r f l : RootSeen) → visits.Has r ≡ visits.Did f l → ⊥
has_not_did r f l is = let no : ⊥ = cc in no

did_not_has : (f l r : RootSeen) → visits.Did f l ≡ visits.Has r → ⊥
did_not_has f l r is = let no : ⊥ = cc in no

-- ---- the rule

abbrev count : RootSeen → ℕ
count root = registrations root.view

-- the word is 0 and the root lies there
pub opens : (heap : TableSeen) (root : RootSeen) → root.table ≡ heap.table
    → AtDesk heap (tables.opening (0 ∷ []) (Some root ∷ []) (visitor heap visits.Waits))
opens heap root same = record {
  words = refl;
  homes = refl;
  views = knows_heap;
  lies = λ is. record { root = root; home = refl; of_heap = same; last = λ i f l at. absurd (none_did i f l at) };
  out = λ i f at. absurd (none_has i f at);
  one = λ i j f g at other. absurd (none_has i f at);
  was_out = λ i f l at. absurd (none_did i f l at);
  apart = λ i j f l g m at other more many same. absurd (none_did i f l at);
}
  where
    views : List Visitor
    views = visitor heap visits.Waits ∷ []

    knows_heap : (i : ℕ) (v : Visitor) → get_elem? views i ≡ some v → v.heap ≡ heap
    knows_heap zero v is = ap (λ (x : Visitor). x.heap) (sym (some-injective _ _ is))
    knows_heap (suc i) v is = absurd (some-ne-none v (sym is))

    none_has : (i : ℕ) (f : RootSeen) → get_elem? views i ≡ some (visitor heap (visits.Has f)) → ⊥
    none_has zero f is = waits_not_has f (visit_of heap heap _ _ (some-injective _ _ is))
    none_has (suc i) f is = some-ne-none _ (sym is)

    none_did : (i : ℕ) (f l : RootSeen) → get_elem? views i ≡ some (visitor heap (visits.Did f l)) → ⊥
    none_did zero f l is = waits_not_did f l (visit_of heap heap _ _ (some-injective _ _ is))
    none_did (suc i) f l is = some-ne-none _ (sym is)

-- a seat that knows no visit of a root comes in beside the others
module _ (heap : TableSeen) (views : List Visitor) (new : Visitor) (of_heap : new.heap ≡ heap)
    (no_visit : (f l : RootSeen) → new ≡ visitor heap (visits.Did f l) → ⊥) where
  more_views : ((i : ℕ) (v : Visitor) → get_elem? views i ≡ some v → v.heap ≡ heap)
      → (i : ℕ) (v : Visitor) → get_elem? (views ++ new ∷ []) i ≡ some v → v.heap ≡ heap
  more_views all i v is =
      ⊎_elim (λ was. all i v was) (λ came. ap (λ (x : Visitor). x.heap) (sym came) ∙ of_heap) (at_snoc views new v i is)

  old_visit : (i : ℕ) (f l : RootSeen) → get_elem? (views ++ new ∷ []) i ≡ some (visitor heap (visits.Did f l))
      → get_elem? views i ≡ some (visitor heap (visits.Did f l))
  old_visit i f l is =
      ⊎_elim (λ was. was) (λ came. absurd (no_visit f l came)) (at_snoc views new (visitor heap (visits.Did f l)) i is)

  still_last : (root : RootSeen) → IsLast heap root views → IsLast heap root (views ++ new ∷ [])
  still_last root last i f l is = last i f l (old_visit i f l is)

  still_apart : DifferInCount heap views → DifferInCount heap (views ++ new ∷ [])
  still_apart apart i j f l g m at other more many same =
      apart i j f l g m (old_visit i f l at) (old_visit j g m other) more many same

-- who writes 1 takes the root if it lay there
pub arrives : (heap : TableSeen) (slots : ℕ)
    → tables.Arrives (AtDesk heap) slots 0 (λ found. 1)
    (TakesRoot (tables.step slots 0 1 0 none) (visitor heap visits.Waits, []))
arrives heap slots s at deep low = elim (cases_eq (slice_index s.words 0) 0) [
  | inl lay ↦
      let lies = at.lies lay in (
        visitor heap (visits.Has lies.root),
        tables.takes 0 (Some lies.root),
        lies.home,
        record {
          words = length_set s.words 0 1 ∙ at.words;
          homes = length_set s.homes 0 none ∙ at.homes;
          views = more_views heap s.views _ refl (no_did lies.root) at.views;
          lies = λ is. absurd (omega (arith, is, first_set s.words 1 at.words));
          out = λ i f is. elim (at_end s.views _ _ i is) [
            | inl was ↦ absurd ((at.out i f was).word lay)
            | inr came ↦
                let same : lies.root ≡ f = has_of lies.root f (visit_of heap heap _ _ came.1) in record {
                  word = λ is_0. omega (arith, is_0, first_set s.words 1 at.words);
                  of_heap = ap (λ (r : RootSeen). r.table) (sym same) ∙ lies.of_heap;
                  last = subst (λ (r : RootSeen). IsLast heap r (s.views ++ visitor heap (visits.Has lies.root) ∷ [])) same
                      (still_last heap s.views _ refl (no_did lies.root) lies.root lies.last);
                }
          ];
          one = λ i j f g one other. here lies.root lay i f one ∙ sym (here lies.root lay j g other);
          was_out = λ i f l is. at.was_out i f l (old_visit heap s.views _ refl (no_did lies.root) i f l is);
          apart = still_apart heap s.views _ refl (no_did lies.root) at.apart;
        },
        record { taken = λ is. (lies.root, refl, lies.of_heap) },
      )
  | inr out ↦ (
    visitor heap visits.Waits,
    tables.keeps,
    tt,
    record {
      words = length_set s.words 0 1 ∙ at.words;
      homes = at.homes;
      views = more_views heap s.views _ refl no_visit at.views;
      lies = λ is. absurd (omega (arith, is, first_set s.words 1 at.words));
      out = λ i f is.
          let was = at.out i f (old_has i f is) in record {
            word = λ is_0. omega (arith, is_0, first_set s.words 1 at.words);
            of_heap = was.of_heap;
            last = still_last heap s.views _ refl no_visit f was.last;
          };
      one = λ i j f g one other. at.one i j f g (old_has i f one) (old_has j g other);
      was_out = λ i f l is. at.was_out i f l (old_visit heap s.views _ refl no_visit i f l is);
      apart = still_apart heap s.views _ refl no_visit at.apart;
    },
    record { taken = λ is. absurd (out is) },
  )
]
  where
    no_did : (r f l : RootSeen) → visitor heap (visits.Has r) ≡ visitor heap (visits.Did f l) → ⊥
    no_did r f l is = has_not_did r f l (visit_of heap heap _ _ is)

    no_visit : (f l : RootSeen) → visitor heap visits.Waits ≡ visitor heap (visits.Did f l) → ⊥
    no_visit f l is = waits_not_did f l (visit_of heap heap _ _ is)

    here : (r : RootSeen) → slice_index s.words 0 ≡ 0 → (i : ℕ) (f : RootSeen)
        → get_elem? (s.views ++ visitor heap (visits.Has r) ∷ []) i ≡ some (visitor heap (visits.Has f))
        → i ≡ length s.views
    here r lay i f is = ⊎_elim (λ was. absurd ((at.out i f was).word lay)) (λ came. came.0) (at_end s.views _ _ i is)

    old_has : (i : ℕ) (f : RootSeen)
        → get_elem? (s.views ++ visitor heap visits.Waits ∷ []) i ≡ some (visitor heap (visits.Has f))
        → get_elem? s.views i ≡ some (visitor heap (visits.Has f))
    old_has i f is =
        ⊎_elim (λ was. was) (λ came. absurd (waits_not_has f (visit_of heap heap _ _ came))) (at_snoc s.views _ _ i is)

-- who has the root puts it back
pub allows : (heap : TableSeen) (slots id : ℕ) (found left : RootSeen) → left.table ≡ heap.table → Grows found left
    → tables.Allows (AtDesk heap) slots id (visitor heap (visits.Has found), (0, Some left) ∷ []) 0 (λ stored. 0)
    (λ stored. PutsRoot (tables.step slots 0 0 0 none) (visitor heap (visits.Has found), (0, Some left) ∷ []) 0)
allows heap slots id found left same grows s at deep seen low =
    let mine = at.out id found seen in (
      visitor heap (visits.Did found left),
      tables.gives,
      tt,
      record {
        words = length_set s.words 0 0 ∙ at.words;
        homes = length_set s.homes 0 (some (Some left)) ∙ at.homes;
        views = λ i v is. ⊎_elim (λ new. ap (λ (x : Visitor). x.heap) (sym new.1)) (λ was. at.views i v was.1)
            (at_set s.views id i (visitor heap (visits.Did found left)) v is);
        lies = λ is. record {
          root = left;
          home = set_first s.homes (some (Some left)) at.homes;
          of_heap = same;
          last = λ i f l is. elim (visits_of i f l is) [
            | inl new ↦ grows_same l left new.1.1
            | inr was ↦ grows_on l found left (mine.last i f l was.1) grows
          ];
        };
        out = λ i f is. absurd (nobody_has i f is);
        one = λ i j f g one other. absurd (nobody_has i f one);
        was_out = λ i f l is. elim (visits_of i f l is) [
          | inl new ↦ record {
            of_heap = ap (λ (r : RootSeen). r.table) (sym new.1.0) ∙ mine.of_heap;
            left_of_heap = ap (λ (r : RootSeen). r.table) (sym new.1.1) ∙ same;
            grows = subst (λ (r : RootSeen). Grows f r) new.1.1 (subst (λ (r : RootSeen). Grows r left) new.1.0 grows);
          }
          | inr was ↦ at.was_out i f l was.1
        ];
        apart = λ i j f l g m one other more many equal. elim (visits_of i f l one) [
          | inl new ↦ elim (visits_of j g m other) [
            | inl new' ↦ new.0 ∙ sym new'.0
            | inr was ↦
                let later : count m ≤ count found = (mine.last j g m was.1).count in
                let first : count found ≡ count f = ap count new.1.0 in
                let more : count g < count m = many in
                let equal : count f ≡ count g = equal in absurd (omega (arith, later, first, more, equal))
          ]
          | inr was ↦ elim (visits_of j g m other) [
            | inl new ↦
                let later : count l ≤ count found = (mine.last i f l was.1).count in
                let first : count found ≡ count g = ap count new.1.0 in
                let more : count f < count l = more in
                let equal : count f ≡ count g = equal in absurd (omega (arith, later, first, more, equal))
            | inr was' ↦ at.apart i j f l g m was.1 was'.1 more many equal
          ]
        ];
      },
      record { free = refl; did = λ h f l is. did_so h f l is },
    )
  where
    visits_of : (i : ℕ) (f l : RootSeen)
        → get_elem? (set s.views id (visitor heap (visits.Did found left))) i ≡ some (visitor heap (visits.Did f l))
        → ((i ≡ id) × ((found ≡ f) × (left ≡ l))) ⊎ ((i ≢ id) × (get_elem? s.views i ≡ some (visitor heap (visits.Did f l))))
    visits_of i f l is = elim (at_set s.views id i (visitor heap (visits.Did found left)) (visitor heap (visits.Did f l)) is) [
      | inl new ↦
          let same = visit_of heap heap _ _ new.1 in
          inl (new.0, (found_of found left f l same, left_of found left f l same))
      | inr was ↦ inr was
    ]

    nobody_has : (i : ℕ) (f : RootSeen)
        → get_elem? (set s.views id (visitor heap (visits.Did found left))) i ≡ some (visitor heap (visits.Has f)) → ⊥
    nobody_has i f is = elim (at_set s.views id i (visitor heap (visits.Did found left)) (visitor heap (visits.Has f)) is) [
      | inl new ↦ did_not_has found left f (visit_of heap heap _ _ new.1)
      | inr was ↦ was.0 (at.one i id f found was.1 seen)
    ]

    did_so : (h : TableSeen) (f l : RootSeen)
        → ◌≡◌ {A = tables.Me S Visitor} (visitor heap (visits.Has found), (0, Some left) ∷ [])
        (visitor h (visits.Has f), (0, Some l) ∷ [])
        → ◌≡◌ {A = tables.Me S Visitor} (visitor heap (visits.Did found left), []) (visitor h (visits.Did f l), [])
    did_so h f l is =
        let of_heap : heap ≡ h = ap (λ (me : tables.Me S Visitor). me.0.heap) is in
        let begun : found ≡ f = has_of found f (ap (λ (me : tables.Me S Visitor). me.0.visit) is) in
        let done : left ≡ l = slot_of left l (ap (λ (me : tables.Me S Visitor). me.1) is) in
        λ k. (visitor (of_heap k) (visits.Did (begun k) (done k)), [])

-- ---- a second seat, which has seen the root as the first one knows it

module _ (heap : TableSeen) (root : RootSeen) (views : List Visitor) where
  abbrev look : Visitor
  look = visitor heap (visits.Did root root)

  -- who was at the desk did so before, or has just looked
  who_did : (i : ℕ) (f l : RootSeen) → get_elem? (views ++ look ∷ []) i ≡ some (visitor heap (visits.Did f l))
      → (get_elem? views i ≡ some (visitor heap (visits.Did f l))) ⊎ ((root ≡ f) × (root ≡ l))
  who_did i f l is = elim (at_snoc views look (visitor heap (visits.Did f l)) i is) [
    | inl was ↦ inl was
    | inr new ↦
        let same = visit_of heap heap _ _ new in inr (found_of root root f l same, left_of root root f l same)
  ]

  who_has : (i : ℕ) (f : RootSeen) → get_elem? (views ++ look ∷ []) i ≡ some (visitor heap (visits.Has f))
      → get_elem? views i ≡ some (visitor heap (visits.Has f))
  who_has i f is = ⊎_elim (λ was. was) (λ new. absurd (did_not_has root root f (visit_of heap heap _ _ new)))
      (at_snoc views look _ i is)

  all_know : ((i : ℕ) (v : Visitor) → get_elem? views i ≡ some v → v.heap ≡ heap)
      → (i : ℕ) (v : Visitor) → get_elem? (views ++ look ∷ []) i ≡ some v → v.heap ≡ heap
  all_know all i v is = ⊎_elim (λ was. all i v was) (λ new. ap (λ (x : Visitor). x.heap) (sym new)) (at_snoc views look v i is)

  last_too : (now : RootSeen) → Grows root now → IsLast heap now views → IsLast heap now (views ++ look ∷ [])
  last_too now grows last i f l is = elim (who_did i f l is) [
    | inl was ↦ last i f l was
    | inr new ↦ subst (λ (r : RootSeen). Grows r now) new.1 grows
  ]

  was_out_too : root.table ≡ heap.table
      → ((i : ℕ) (f l : RootSeen) → get_elem? views i ≡ some (visitor heap (visits.Did f l)) → WasOut heap f l)
      → (i : ℕ) (f l : RootSeen) → get_elem? (views ++ look ∷ []) i ≡ some (visitor heap (visits.Did f l))
      → WasOut heap f l
  was_out_too of_heap all i f l is = elim (who_did i f l is) [
    | inl was ↦ all i f l was
    | inr new ↦ record {
      of_heap = ap (λ (r : RootSeen). r.table) (sym new.0) ∙ of_heap;
      left_of_heap = ap (λ (r : RootSeen). r.table) (sym new.1) ∙ of_heap;
      grows = grows_same f l (sym new.1 ∙ new.0);
    }
  ]

  registers_nobody : (f l : RootSeen) → (root ≡ f) × (root ≡ l) → count f < count l → ⊥
  registers_nobody f l same more =
      let first : count root ≡ count f = ap count same.0 in
      let last : count root ≡ count l = ap count same.1 in omega (arith, first, last, more)

  apart_too : DifferInCount heap views → DifferInCount heap (views ++ look ∷ [])
  apart_too apart i j f l g m one other more many equal = elim (who_did i f l one) [
    | inl was ↦ elim (who_did j g m other) [
      | inl was' ↦ apart i j f l g m was was' more many equal
      | inr new ↦ absurd (registers_nobody g m new many)
    ]
    | inr new ↦ absurd (registers_nobody f l new more)
  ]

-- who left the root
pub splits : (heap : TableSeen) (id : ℕ) (found left : RootSeen)
    → tables.Splits (AtDesk heap) id (visitor heap (visits.Did found left)) (visitor heap (visits.Did found left))
    (looks (visitor heap (visits.Did found left)))
splits heap id found left s at seen =
    subst (λ (views : List Visitor). AtDesk heap record {
      words = s.words;
      homes = s.homes;
      views = views ++ look heap left s.views ∷ [];
    })
    (sym (set_again s.views id (visitor heap (visits.Did found left)) seen)) (record {
      words = at.words;
      homes = at.homes;
      views = all_know heap left s.views at.views;
      lies = λ is.
          let lies = at.lies is in record {
            root = lies.root;
            home = lies.home;
            of_heap = lies.of_heap;
            last = last_too heap left s.views lies.root (lies.last id found left seen) lies.last;
          };
      out = λ i f is.
          let was = at.out i f (who_has heap left s.views i f is) in record {
            word = was.word;
            of_heap = was.of_heap;
            last = last_too heap left s.views f (was.last id found left seen) was.last;
          };
      one = λ i j f g one other.
          at.one i j f g (who_has heap left s.views i f one) (who_has heap left s.views j g other);
      was_out = was_out_too heap left s.views (at.was_out id found left seen).left_of_heap at.was_out;
      apart = apart_too heap left s.views at.apart;
    })

-- who has the root
pub splits_out : (heap : TableSeen) (id : ℕ) (found : RootSeen)
    → tables.Splits (AtDesk heap) id (visitor heap (visits.Has found)) (visitor heap (visits.Has found))
    (looks (visitor heap (visits.Has found)))
splits_out heap id found s at seen =
    let mine = at.out id found seen in
    subst (λ (views : List Visitor). AtDesk heap record {
      words = s.words;
      homes = s.homes;
      views = views ++ look heap found s.views ∷ [];
    })
    (sym (set_again s.views id (visitor heap (visits.Has found)) seen)) (record {
      words = at.words;
      homes = at.homes;
      views = all_know heap found s.views at.views;
      lies = λ is. absurd (mine.word is);
      out = λ i f is.
          let before = who_has heap found s.views i f is in
          let was = at.out i f before in record {
            word = was.word;
            of_heap = was.of_heap;
            last = last_too heap found s.views f (grows_same found f (only i f before)) was.last;
          };
      one = λ i j f g one other.
          at.one i j f g (who_has heap found s.views i f one) (who_has heap found s.views j g other);
      was_out = was_out_too heap found s.views mine.of_heap at.was_out;
      apart = apart_too heap found s.views at.apart;
    })
  where
    -- the seat that has the root is this one
    only : (i : ℕ) (f : RootSeen) → get_elem? s.views i ≡ some (visitor heap (visits.Has f)) → f ≡ found
    only i f is =
        let here : get_elem? s.views id ≡ some (visitor heap (visits.Has f)) =
        ap (get_elem? s.views) (at.one id i found f seen is) ∙ is in
        has_of f found (visit_of heap heap _ _ (some-injective _ _ (sym here ∙ seen)))

-- ---- the same, of who has the root and of what was seen

abbrev pub at_desk : ClerkSeen → S → tables.Me S Visitor
at_desk clerk slot = (visitor clerk.heap (visits.Has clerk.found), (0, slot) ∷ [])

pub puts : (key : TableSeen) (slots id : ℕ) (clerk : ClerkSeen) (root : RootSeen) (me : tables.Me S Visitor)
    → me ≡ at_desk clerk (Some root) → clerk.heap ≡ key → root.table ≡ clerk.heap.table → Grows clerk.found root
    → tables.Allows (AtDesk key) slots id me 0 (λ stored. 0) (λ stored. PutsRoot (tables.step slots 0 0 0 none) me 0)
puts key slots id clerk root me is same of_heap grows =
    subst (λ (m : tables.Me S Visitor). tables.Allows (AtDesk key) slots id m 0 (λ stored. 0)
    (λ stored. PutsRoot (tables.step slots 0 0 0 none) m 0))
    (sym (is ∙ ap (λ (h : TableSeen). (visitor h (visits.Has clerk.found), (0, Some root) ∷ [])) same))
    (allows key slots id clerk.found root (of_heap ∙ ap (λ (h : TableSeen). h.table) same) grows)

pub looks_out : (key : TableSeen) (id : ℕ) (clerk : ClerkSeen) (v : Visitor)
    → v ≡ visitor clerk.heap (visits.Has clerk.found) → clerk.heap ≡ key
    → tables.Splits (AtDesk key) id v v (looks v)
looks_out key id clerk v is same =
    subst (λ (x : Visitor). tables.Splits (AtDesk key) id x x (looks x))
    (sym (is ∙ ap (λ (h : TableSeen). visitor h (visits.Has clerk.found)) same)) (splits_out key id clerk.found)

pub looks_behind : (key : TableSeen) (id : ℕ) (sight : SightSeen) (v : Visitor) → v ≡ knows sight → sight.heap ≡ key
    → tables.Splits (AtDesk key) id v v (looks v)
looks_behind key id sight v is same =
    subst (λ (x : Visitor). tables.Splits (AtDesk key) id x x (looks x))
    (sym (is ∙ ap (λ (h : TableSeen). visitor h (visits.Did sight.found sight.left)) same))
    (splits key id sight.found sight.left)

pub head_of : (v w : Visitor) → v ∷ [] ≡ w ∷ [] → v ≡ w
head_of v w is = let same : v ≡ w = cc in same
