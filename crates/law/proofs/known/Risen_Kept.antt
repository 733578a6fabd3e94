-- What was seen risen stays seen while its place, or its entry, has the cell: over each step that leaves these alone.
use Rattle.std.proofs.Common.{◌≡◌, ◌≢◌, ℕ, ◌%◌, ◌==◌, ◌&&◌, ◌||◌, not, Bool, true, false, List, ◌∷◌, length, get_or}
use Rattle.std.proofs.Common.{Option, Some, None, refl, sym, ◌∙◌, ap, inl, inr, arith}
use Rattle.std.proofs.lemmas.List.{length-set, get_or-set_same, get_or_past}
use Rattle.std.proofs.lemmas.Bool.{cases_lt, cases_Bool, eq-eqb, true≢false}
use Rattle.law.specs.declared.world.event.Change.{Change}
use Rattle.law.specs.declared.world.event.Change.TheVariants as changes
use Rattle.law.specs.declared.world.event.Dropped.{Dropped}
use Rattle.law.specs.declared.world.event.Dropped.TheVariants as dropped
use Rattle.law.specs.declared.world.event.Source.{Source}
use Rattle.law.specs.declared.world.event.Step.{Step}
use Rattle.law.specs.declared.world.event.Step.TheVariants.{SharedUp, Ask, Unlock}
use Rattle.law.specs.world.Lists.{names, place_at, vacated}
use Rattle.law.specs.world.Steps.{needs_no_cell, is_default}
use Rattle.law.specs.known.Items.{Item, Stepped, Loaded, Lost, Word, Of, Shared, Part, part_of, meant, state_told}
use Rattle.law.specs.known.Risen.{drop_in, is_risen_word, tells_risen, is_risen}
use Rattle.law.specs.known.Going_On.{given_up, touched_place}
use Rattle.law.proofs.world.Framing.{place_at-filled_here}
use Rattle.law.proofs.known.Items_Numbers.{default_told}
use Rattle.law.proofs.known.Risen_Law.{named_cell, risen_named}
use Rattle.law.proofs.known.Going_On_Law.{goes_on, ask_goes}
use Rattle.law.proofs.known.Kept_Law.{places_kept, entries_kept, apart_kept}

-- ---- what was seen risen

-- it is named by its place or its entry now
pub risen_has : (cells : ℕ) (items : List Item) (drop : Dropped) (c : ℕ) → is_risen cells items drop c ≡ true
    → drop_in (part_of cells items) drop ≡ Some c
risen_has cells items drop c risen = named_cell c (drop_in (part_of cells items) drop)
    (risen_named cells items drop c risen)

names_it : (c : ℕ) (o : Option ℕ) → o ≡ Some c → names c o ≡ true
names_it c o is = ap (names c) is ∙ eq-eqb c c refl

-- one more item leaves it seen exactly where the place or the entry still has the cell
pub risen_if : (cells : ℕ) (items : List Item) (item : Item) (drop : Dropped) (c : ℕ)
    → is_risen cells items drop c ≡ true
    → is_risen cells (item ∷ items) drop c ≡ names c (drop_in (part_of cells (item ∷ items)) drop)
risen_if cells items item drop c risen =
    ap (λ b. names c (drop_in (part_of cells (item ∷ items)) drop) &&
    (tells_risen (part_of cells items) c item || b)) risen
    ∙ by_tests (names c (drop_in (part_of cells (item ∷ items)) drop)) (tells_risen (part_of cells items) c item)
  where
    by_tests : (a b : Bool) → (a && (b || true)) ≡ a
    by_tests true true = refl
    by_tests true false = refl
    by_tests false b = refl

-- so where the item leaves the place or the entry alone
pub risen_kept : (cells : ℕ) (items : List Item) (item : Item) (drop : Dropped) (c : ℕ)
    → drop_in (part_of cells (item ∷ items)) drop ≡ drop_in (part_of cells items) drop
    → is_risen cells items drop c ≡ true → is_risen cells (item ∷ items) drop c ≡ true
risen_kept cells items item drop c same risen = risen_if cells items item drop c risen
    ∙ names_it c _ (same ∙ risen_has cells items drop c risen)

-- at every place but the one that a step may change
pub risen_places_kept : (cells : ℕ) (items : List Item) (s : Step) (d number : ℕ) (entries : List ℕ) (j c : ℕ)
    → meant (part_of cells items) s ≡ Some d → touched_place s ≢ Some j
    → is_risen cells items (dropped.Frame j) c ≡ true → is_risen cells (Stepped s number entries ∷ items)
    (dropped.Frame j) c ≡ true
risen_places_kept cells items s d number entries j c named other = risen_kept cells items (Stepped s number entries)
    (dropped.Frame j) c (places_kept cells items s d number entries j named other)

-- and at every last entry but those of the block that is meant and of the one that gives up its last
pub risen_entries_kept : (cells : ℕ) (items : List Item) (s : Step) (d number : ℕ) (entries : List ℕ) (q c : ℕ)
    → meant (part_of cells items) s ≡ Some d → q ≢ d → given_up s ≢ Some (dropped.Work q)
    → is_risen cells items (dropped.Work q) c ≡ true → is_risen cells (Stepped s number entries ∷ items)
    (dropped.Work q) c ≡ true
risen_entries_kept cells items s d number entries q c named other apart =
    risen_kept cells items (Stepped s number entries) (dropped.Work q) c (entries_kept cells items s d number entries q named other apart)

pub risen_apart_kept : (cells : ℕ) (items : List Item) (s : Step) (number : ℕ) (entries : List ℕ) (drop : Dropped)
    (c : ℕ) → needs_no_cell s ≡ true
    → is_risen cells items drop c ≡ true → is_risen cells (Stepped s number entries ∷ items) drop c ≡ true
risen_apart_kept cells items s number entries drop c apart = risen_kept cells items (Stepped s number entries) drop c
    (apart_kept cells items s number entries drop apart)

-- a note changes no place and no entry
pub risen_over_saw : (cells : ℕ) (items : List Item) (word : Word) (number : ℕ) (drop : Dropped) (c : ℕ)
    → is_risen cells items drop c ≡ true → is_risen cells (Loaded word number ∷ items) drop c ≡ true
risen_over_saw cells items word number drop c = risen_kept cells items (Loaded word number) drop c refl

pub risen_over_lost : (cells : ℕ) (items : List Item) (word : Word) (number : ℕ) (drop : Dropped) (c : ℕ)
    → is_risen cells items drop c ≡ true → is_risen cells (Lost word number ∷ items) drop c ≡ true
risen_over_lost cells items word number drop c = risen_kept cells items (Lost word number) drop c refl

-- ---- an unlocking, at the place that it changes: what moved in takes its place

-- an unlocking tells nothing, so nothing is seen that wasn't
pub risen_over_unlock : (cells : ℕ) (items : List Item) (change : Change) (number : ℕ) (entries : List ℕ)
    (drop : Dropped) (c : ℕ)
    → is_risen cells (Stepped (Unlock change) number entries ∷ items) drop c
    ≡ (names c (drop_in (part_of cells (Stepped (Unlock change) number entries ∷ items)) drop) && is_risen cells
    items drop c)
risen_over_unlock cells items change number entries drop c = refl

vacated_here : (frame : List (Option ℕ)) (k : ℕ) → place_at (vacated frame k) k ≡ None
vacated_here frame k = elim (cases_lt k (length frame)) [
  | inl inside ↦ get_or-set_same frame k None None inside
  | inr past ↦ get_or_past (vacated frame k) k None (omega (arith, past, length-set frame k None))
]

-- the place whose cell moved in is vacant
pub risen_after_put : (cells : ℕ) (items : List Item) (j d number : ℕ) (entries : List ℕ) (c : ℕ)
    → meant (part_of cells items) (Unlock (changes.Put j)) ≡ Some d
    → is_risen cells (Stepped (Unlock (changes.Put j)) number entries ∷ items) (dropped.Frame j) c ≡ false
risen_after_put cells items j d number entries c named =
    let s : Step = Unlock (changes.Put j) in
    ap (λ (p : Part). names c (place_at p.frame j) && is_risen cells items (dropped.Frame j) c)
    (goes_on cells items s d number entries named).part_is
    ∙ ap (λ o. names c o && is_risen cells items (dropped.Frame j) c) (vacated_here (part_of cells items).frame j)

-- a place that a cell moved out to was vacant, so nothing was seen there
pub risen_after_take : (cells : ℕ) (items : List Item) (i j number : ℕ) (entries : List ℕ) (c : ℕ)
    → place_at (part_of cells items).frame j ≡ None
    → is_risen cells (Stepped (Unlock (changes.Take i j)) number entries ∷ items) (dropped.Frame j) c ≡ false
risen_after_take cells items i j number entries c room =
    let item : Item = Stepped (Unlock (changes.Take i j)) number entries in
    ap (λ b. names c (drop_in (part_of cells (item ∷ items)) (dropped.Frame j)) && b)
    (unseen cells items (dropped.Frame j) c room)
    ∙ neither (names c (drop_in (part_of cells (item ∷ items)) (dropped.Frame j)))
  where
    neither : (b : Bool) → (b && false) ≡ false
    neither true = refl
    neither false = refl

    unseen : (cells : ℕ) (items : List Item) (drop : Dropped) (c : ℕ) → drop_in (part_of cells items) drop ≡ None
        → is_risen cells items drop c ≡ false
    unseen cells items drop c room = elim (cases_Bool (is_risen cells items drop c)) [
      | inr off ↦ off
      | inl on ↦ let bad : None ≡ Some c = sym room ∙ risen_has cells items drop c on in absurd (cc)
    ]

-- a place whose cell was exchanged is seen where the same cell came back
pub risen_after_swap : (cells : ℕ) (items : List Item) (i j d number : ℕ) (entries : List ℕ) (c : ℕ)
    → meant (part_of cells items) (Unlock (changes.Swap i j)) ≡ Some d
    → is_risen cells (Stepped (Unlock (changes.Swap i j)) number entries ∷ items) (dropped.Frame j) c
    ≡ ((get_or ((part_of cells items).has d) i 0 == c) && is_risen cells items (dropped.Frame j) c)
risen_after_swap cells items i j d number entries c named =
    let s : Step = Unlock (changes.Swap i j) in
    ap (λ (p : Part). names c (place_at p.frame j) && is_risen cells items (dropped.Frame j) c)
    (goes_on cells items s d number entries named).part_is
    ∙ ap (λ o. names c o && is_risen cells items (dropped.Frame j) c)
    (place_at-filled_here (part_of cells items).frame j (get_or ((part_of cells items).has d) i 0))

-- ---- what is seen anew

anew : (a b : Bool) (x : Bool) → a ≡ true → b ≡ true → (a && (b || x)) ≡ true
anew a b x first second = ap (λ q. q && (b || x)) first ∙ ap (λ q. q || x) second

-- who counts up on the shared word sees the copy risen
pub risen_by_up : (cells : ℕ) (items : List Item) (source : Source) (k c number : ℕ) (entries : List ℕ)
    → meant (part_of cells items) (SharedUp source k) ≡ Some c → is_risen_word number ≡ true
    → is_risen cells (Stepped (SharedUp source k) number entries ∷ items) (dropped.Frame k) c ≡ true
risen_by_up cells items source k c number entries named risen =
    let s : Step = SharedUp source k in
    anew _ _ (is_risen cells items (dropped.Frame k) c)
    (names_it c _ (ap (λ (p : Part). place_at p.frame k) (goes_on cells items s c number entries named).part_is
    ∙ place_at-filled_here (part_of cells items).frame k c))
    (ap (λ b. b && is_risen_word number) (names_it c _ named) ∙ risen)

-- who asks and comes late sees it risen, and still has it
pub risen_by_ask : (cells : ℕ) (items : List Item) (drop : Dropped) (c number : ℕ) (entries : List ℕ)
    → drop_in (part_of cells items) drop ≡ Some c → is_risen_word number ≡ true
    → is_risen cells (Stepped (Ask drop) number entries ∷ items) drop c ≡ true
risen_by_ask cells items drop c number entries named risen =
    let late : is_default (state_told number) ≡ false = default_told number ∙ not_zero (number % 4 == 0) risen in
    anew _ _ (is_risen cells items drop c)
    (names_it c _ (ap (λ p. drop_in p drop)
    (ask_goes cells items drop c number entries false named late).part_is ∙ named))
    (ap (λ b. b && is_risen_word number) (names_it c _ named) ∙ risen)
  where
    not_zero : (b : Bool) → not b ≡ true → b ≡ false
    not_zero true is = absurd (true≢false (sym is))
    not_zero false is = refl

-- who looks at the shared word of what it has
pub risen_by_look : (cells : ℕ) (items : List Item) (drop : Dropped) (c number : ℕ)
    → drop_in (part_of cells items) drop ≡ Some c → is_risen_word number ≡ true
    → is_risen cells (Loaded (Of Shared c) number ∷ items) drop c ≡ true
risen_by_look cells items drop c number has risen =
    anew _ _ (is_risen cells items drop c) (names_it c _ has)
    (ap (λ b. b && is_risen_word number) (eq-eqb c c refl) ∙ risen)

pub risen_by_loss : (cells : ℕ) (items : List Item) (drop : Dropped) (c number : ℕ)
    → drop_in (part_of cells items) drop ≡ Some c → is_risen_word number ≡ true
    → is_risen cells (Lost (Of Shared c) number ∷ items) drop c ≡ true
risen_by_loss cells items drop c number has risen =
    anew _ _ (is_risen cells items drop c) (names_it c _ has)
    (ap (λ b. b && is_risen_word number) (eq-eqb c c refl) ∙ risen)
