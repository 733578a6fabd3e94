-- A thread's step changes the number of one word alone.
use Rattle.std.proofs.Common.{◌≡◌, ◌≢◌, ℕ, ◌+◌, ◌*◌, ◌/◌, ◌<◌, ◌&&◌, nat_lt, Bool, true, false, if◌then◌else◌, List, []}
use Rattle.std.proofs.Common.{length, set, get_or, Option, Some, None, refl, sym, ◌∙◌, ap, subst, inl, inr, arith}
use Rattle.std.proofs.lemmas.List.{length-set, get_or-set_same, get_or_past}
use Rattle.std.proofs.lemmas.Bool.{le-ltb, lt-ltb, le-leb, lt-leb, cases_lt, cases_eq, eq-eqb, ne_eqb, eqb-true}
use Rattle.std.proofs.lemmas.Bool.{true≢false, and_parts}
use Rattle.brc_words.specs.declared.owner.Owner.{Owner as Owners}
use Rattle.brc_words.specs.declared.owner.Owner.TheVariants as owners
use Rattle.law.specs.declared.world.cell.Cell.{Cell}
use Rattle.law.specs.declared.world.event.Step.{Step}
use Rattle.law.specs.declared.world.event.Step.TheVariants.{Claim, InitLocal, InitShared, Birth, LocalUp, LocalDown}
use Rattle.law.specs.declared.world.event.Step.TheVariants.{Free, Untie, MergeZero, SharedUp, SharedDown, Ask, LastDown}
use Rattle.law.specs.declared.world.event.Step.TheVariants.{Enqueue, Drain, MergeAdd, Close, Nudge, Wake, Lock, Unlock}
use Rattle.law.specs.declared.world.event.Step.TheVariants.{Offer, Reopen}
use Rattle.law.specs.declared.world.row.Hand.TheVariants as hands
use Rattle.law.specs.declared.world.row.Phase.TheVariants as phases
use Rattle.law.specs.declared.world.row.Row.{Row}
use Rattle.law.specs.declared.world.row.Stage.{Stage}
use Rattle.law.specs.declared.world.row.Stage.TheVariants as stages
use Rattle.law.specs.world.Lists.{word_at}
use Rattle.law.specs.world.Heap.{Heap, cell_at, row_at, queue_at, no_cell, no_row, is_registered, is_immortal}
use Rattle.law.specs.world.Heap.{words_for}
use Rattle.law.specs.world.Holding.{lives}
use Rattle.law.specs.world.Runs.{IsReached}
use Rattle.law.specs.world.Steps.{cell_after, after_target, stepped, is_default, is_free, is_closed, is_shut}
use Rattle.law.specs.world.Steps.{closed_more, closes_next, opened_more, opens_next, queues_with, own_ok_at, cell_ok}
use Rattle.law.specs.world.Steps.{target_at, target_ok}
use Rattle.law.specs.lasting.Ranges.{OwnerFits}
use Rattle.law.specs.known.Free_Words.{is_free_cell, free_bits, ShowsOwner}
use Rattle.law.specs.known.Items.{Field, Owner, Local, Shared, Mutex, Word, Of, Queue, NotifyWord, FreeWord, word_in}
use Rattle.law.specs.known.Items.{field_of, same_field, works_on, IsWord, WordShows, ShowsQueue}
use Rattle.law.proofs.world.Asking.{May, OnCell, on_cell, UntieWay, at_end, shut_out, handed_over, from_queue}
use Rattle.law.proofs.world.Asking.{untie_way}
use Rattle.law.proofs.world.Changes.{read_here, read_there}
use Rattle.law.proofs.world.Merging.{carried_held}
use Rattle.law.proofs.world.Naming.{busy_hand, busy_carrier}
use Rattle.law.proofs.world.Reached.{reached_sound}
use Rattle.law.proofs.lasting.Lasting.{bearing, held_live}
use Rattle.law.proofs.lasting.Ranges_Law.{same_rows, reached_owners}
use Rattle.law.proofs.known.Free_Law.{told_alike, bit_of_cell, shown_below}

-- ---- the words of the cell that is meant

-- whether the step works on this word of its cell; Claim, Free and Enqueue work on none
abbrev pub works_here : Step → Field → Bool
works_here (Claim d) f = false
works_here (Free d) f = false
works_here (Enqueue d) f = false
works_here s f = same_field f (field_of s)

-- the number of an owner word isn't told by the owner alone
abbrev pub is_owner : Field → Bool
is_owner Owner = true
is_owner _ = false

either_way : (f : Field) (b : Bool) (x y : Cell) → word_in f y ≡ word_in f x
    → word_in f (if b then x else y) ≡ word_in f x
either_way f true x y same = refl
either_way f false x y same = same

either_new : (f : Field) (b : Bool) (x y : Cell) → word_in f y ≡ word_in f x
    → word_in f (if b then y else x) ≡ word_in f x
either_new f true x y same = same
either_new f false x y same = refl

field_kept : (f : Field) (t : ℕ) (s : Step) (c : ℕ) (x : Cell) → is_owner f ≡ false → works_here s f ≡ false
    → word_in f (cell_after t s c x) ≡ word_in f x
field_kept Owner t s c x plain apart = absurd (true≢false plain)
field_kept Local t (InitLocal d) c x plain apart = absurd (true≢false apart)
field_kept Local t (LocalUp source k) c x plain apart = absurd (true≢false apart)
field_kept Local t (LocalDown drop) c x plain apart = absurd (true≢false apart)
field_kept Shared t (InitShared d) c x plain apart = absurd (true≢false apart)
field_kept Shared t (MergeZero d) c x plain apart = absurd (true≢false apart)
field_kept Shared t (SharedUp source k) c x plain apart = absurd (true≢false apart)
field_kept Shared t (SharedDown drop) c x plain apart = absurd (true≢false apart)
field_kept Shared t (Ask drop) c x plain apart = absurd (true≢false apart)
field_kept Shared t (LastDown last) c x plain apart = absurd (true≢false apart)
field_kept Shared t (MergeAdd d) c x plain apart = absurd (true≢false apart)
field_kept Shared t (Offer d) c x plain apart = absurd (true≢false apart)
field_kept Mutex t (Lock k) c x plain apart = absurd (true≢false apart)
field_kept Mutex t (Unlock change) c x plain apart = absurd (true≢false apart)
field_kept Shared t (LocalUp source k) c x plain apart = either_way Shared (is_immortal c) x _ refl
field_kept Mutex t (LocalUp source k) c x plain apart = either_way Mutex (is_immortal c) x _ refl
field_kept Shared t (LocalDown drop) c x plain apart = either_way Shared (is_immortal c) x _ refl
field_kept Mutex t (LocalDown drop) c x plain apart = either_way Mutex (is_immortal c) x _ refl
field_kept Local t (Ask drop) c x plain apart = either_new Local (is_default x.state) x _ refl
field_kept Mutex t (Ask drop) c x plain apart = either_new Mutex (is_default x.state) x _ refl
field_kept Local t _ c x plain apart = refl
field_kept Shared t _ c x plain apart = refl
field_kept Mutex t _ c x plain apart = refl

-- a word of the cell other than the one that is worked on
apart_here : (h : Heap) (t : ℕ) (s : Step) (c : ℕ) (f : Field) → Of f c ≢ works_on h t s (Some c)
    → works_here s f ≡ false
apart_here h t (Claim d) c f other = refl
apart_here h t (Free d) c f other = refl
apart_here h t (Enqueue d) c f other = refl
apart_here h t s c f other = by_field f (field_of s) (λ same. other (ap (λ g. Of g c) same))
  where
    by_field : (f g : Field) → f ≢ g → same_field f g ≡ false
    by_field Owner Owner other = absurd (other refl)
    by_field Local Local other = absurd (other refl)
    by_field Shared Shared other = absurd (other refl)
    by_field Mutex Mutex other = absurd (other refl)
    by_field Owner _ other = refl
    by_field Local _ other = refl
    by_field Shared _ other = refl
    by_field Mutex _ other = refl

-- ---- what one entry of a list is seen by stays, where the new entry is seen by the same

pub kept_by : {A B : Type 0} (f : A → B) (xs : List A) (i : ℕ) (v d : A) → f v ≡ f (get_or xs i d) → (j : ℕ)
    → f (get_or (set xs i v) j d) ≡ f (get_or xs j d)
kept_by {A} {B} f xs i v d same j = elim (cases_eq j i) [
  | inr other ↦ ap f (read_there xs i j v d other)
  | inl here ↦ subst (λ k. f (get_or (set xs i v) k d) ≡ f (get_or xs k d)) (sym here) (elim (cases_lt i (length xs)) [
    | inl inside ↦ ap f (get_or-set_same xs i v d inside) ∙ same
    | inr past ↦ ap f (get_or_past (set xs i v) i d (omega (arith, past, length-set xs i v))
        ∙ sym (get_or_past xs i d past))
  ])
]

cell_word : (h : Heap) (t : ℕ) (s : Step) (o : Option ℕ) (f : Field) (d : ℕ) → is_owner f ≡ false
    → Of f d ≢ works_on h t s o
    → word_in f (cell_at (after_target h t s o) d) ≡ word_in f (cell_at h d)
cell_word h t s None f d plain other = refl
cell_word h t s (Some c) f d plain other = elim (cases_eq d c) [
  | inr apart ↦ ap (word_in f) (read_there h.cells c d _ no_cell apart)
  | inl same ↦ kept_by (word_in f) h.cells c _ no_cell
      (field_kept f t s c (cell_at h c) plain (apart_here h t s c f (λ e. other (ap (Of f) same ∙ e)))) d
]

-- ---- owner words

-- a step gives its cell another owner only where it works on the owner word, and where it claims the cell or frees it
abbrev pub may_change_owner : Step → Bool
may_change_owner (Claim d) = true
may_change_owner (Free d) = true
may_change_owner s = works_here s Owner

owner_either : (b : Bool) (x y : Cell) → y.owner ≡ x.owner → (if b then x else y).owner ≡ x.owner
owner_either true x y same = refl
owner_either false x y same = same

owner_new : (b : Bool) (x y : Cell) → y.owner ≡ x.owner → (if b then y else x).owner ≡ x.owner
owner_new true x y same = same
owner_new false x y same = refl

owner_kept : (t : ℕ) (s : Step) (c : ℕ) (x : Cell) → may_change_owner s ≡ false → (cell_after t s c x).owner ≡ x.owner
owner_kept t (Claim d) c x apart = absurd (true≢false apart)
owner_kept t (Birth d kind k) c x apart = absurd (true≢false apart)
owner_kept t (Free d) c x apart = absurd (true≢false apart)
owner_kept t (Untie d) c x apart = absurd (true≢false apart)
owner_kept t (LocalUp source k) c x apart = owner_either (is_immortal c) x _ refl
owner_kept t (LocalDown drop) c x apart = owner_either (is_immortal c) x _ refl
owner_kept t (Ask drop) c x apart = owner_new (is_default x.state) x _ refl
owner_kept t _ c x apart = refl

-- of the cell that is meant: a claim and a free leave the number, and it may stand there still
owner_next : (threads limit t : ℕ) (row : Row) (s : Step) (c : ℕ) (x : Cell) (number : ℕ) → 0 < threads
    → OwnerFits threads x.owner → cell_ok limit t row s c x ≡ true → works_here s Owner ≡ false
    → ShowsOwner threads x.owner number → ShowsOwner threads (cell_after t s c x).owner number
owner_next threads limit t row (Claim d) c x number some fits ok apart shows =
    shown_below threads x.owner number some fits shows
owner_next threads limit t row (Free d) c x number some fits ok apart shows =
    shown_below threads x.owner number some fits shows
owner_next threads limit t row (LocalUp source k) c x number some fits ok apart shows =
    subst (λ o. ShowsOwner threads o number) (sym (owner_kept t (LocalUp source k) c x refl)) shows
owner_next threads limit t row (LocalDown drop) c x number some fits ok apart shows =
    subst (λ o. ShowsOwner threads o number) (sym (owner_kept t (LocalDown drop) c x refl)) shows
owner_next threads limit t row (Ask drop) c x number some fits ok apart shows = subst (λ o. ShowsOwner threads o number)
    (sym (owner_kept t (Ask drop) c x refl)) shows
owner_next threads limit t row (Birth d kind k) c x number some fits ok apart shows = absurd (true≢false apart)
owner_next threads limit t row (Untie d) c x number some fits ok apart shows = absurd (true≢false apart)
owner_next threads limit t row _ c x number some fits ok apart shows = shows

owner_word : (h : Heap) (t : ℕ) (s : Step) (o : Option ℕ) (d number : ℕ) → IsReached h → May h t s → target_at h t s ≡ o
    → Of Owner d ≢ works_on h t s o
    → ShowsOwner (length h.rows) (cell_at h d).owner number
    → ShowsOwner (length h.rows) (cell_at (after_target h t s o) d).owner number
owner_word h t s None d number reached may named other shows = shows
owner_word h t s (Some c) d number reached may named other shows = elim (cases_eq d c) [
  | inr apart ↦ subst (λ (x : Cell). ShowsOwner (length h.rows) x.owner number)
      (sym (read_there h.cells c d _ no_cell apart)) shows
  | inl same ↦
      let at_cell : OnCell h t s c =
      on_cell h t s c (subst (λ o. target_ok h t (row_at h t) s o ≡ true) named may.on_target) in
      subst (λ (x : Cell). ShowsOwner (length h.rows) x.owner number)
      (sym (ap (λ i. cell_at (after_target h t s (Some c)) i) same ∙ read_here h.cells c _ no_cell at_cell.inside))
      (owner_next (length h.rows) h.limit t (row_at h t) s c (cell_at h c) number (omega (arith, may.inside))
      (reached_owners h reached c) at_cell.fits
      (apart_here h t s c Owner (λ e. other (ap (Of Owner) same ∙ e)))
      (subst (λ i. ShowsOwner (length h.rows) (cell_at h i).owner number) same shows))
]

-- ---- free words

-- whether the step works on its cell's bit
abbrev pub works_on_bit : Step → Bool
works_on_bit (Claim d) = true
works_on_bit (Free d) = true
works_on_bit _ = false

-- an object that is untied was owned: by the thread, or it is in its hand
untied_taken : (h : Heap) (t c : ℕ) → IsReached h → May h t (Untie c) → is_free (cell_at h c).owner ≡ false
untied_taken h t c reached may = by_way (untie_way h t c (reached_sound h reached) may)
  where
    taken_live : (o : Owners) → lives o ≡ true → is_free o ≡ false
    taken_live owners.Nobody live = refl
    taken_live (owners.Thread u) live = refl
    taken_live (owners.Claimed u) live = refl
    taken_live owners.Free live = absurd (true≢false (sym live))

    by_way : UntieWay h t c → is_free (cell_at h c).owner ≡ false
    by_way (at_end hand owner) = ap is_free owner
    by_way (shut_out hand owned first) = taken_live (cell_at h c).owner
        (held_live h c (reached_sound h reached)
        (carried_held h t c (busy_carrier phases.Shut c (row_at h t).hand refl hand)))
    by_way (handed_over hand owner) = ap is_free owner
    by_way (from_queue hand bit owner) = ap is_free owner

-- a step but these two leaves a cell free that is free, and makes none free
bit_kept : (h : Heap) (t : ℕ) (s : Step) (c : ℕ) → IsReached h → May h t s → target_at h t s ≡ Some c
    → works_on_bit s ≡ false
    → is_free (cell_after t s c (cell_at h c)).owner ≡ is_free (cell_at h c).owner
bit_kept h t (Claim d) c reached may named apart = absurd (true≢false apart)
bit_kept h t (Free d) c reached may named apart = absurd (true≢false apart)
bit_kept h t (Birth d kind k) c reached may named apart =
    let e : d ≡ c = cc in
    sym (ap is_free (bearing phases.Ready (inr (inr refl)) h t c (reached_sound h reached)
    (busy_hand phases.Ready d _ may.hand ∙ ap (hands.Busy phases.Ready) e)).1)
bit_kept h t (Untie d) c reached may named apart = let e : d ≡ c = cc in
    sym (ap (λ i. is_free (cell_at h i).owner) (sym e) ∙ untied_taken h t d reached may)
bit_kept h t (LocalUp source k) c reached may named apart =
    ap is_free (owner_kept t (LocalUp source k) c (cell_at h c) refl)
bit_kept h t (LocalDown drop) c reached may named apart =
    ap is_free (owner_kept t (LocalDown drop) c (cell_at h c) refl)
bit_kept h t (Ask drop) c reached may named apart = ap is_free (owner_kept t (Ask drop) c (cell_at h c) refl)
bit_kept h t _ c reached may named apart = refl

-- a cell of another word, or any where the step works on no bit
pub cell_free : (h : Heap) (t : ℕ) (s : Step) (c d : ℕ) → d ≢ c → is_free_cell (stepped h t s c) d ≡ is_free_cell h d
cell_free h t s c d other = ap (λ n. nat_lt d n && is_free (cell_at (stepped h t s c) d).owner) (length-set h.cells c _)
    ∙ ap (λ (x : Cell). nat_lt d (length h.cells) && is_free x.owner) (read_there h.cells c d _ no_cell other)

cell_free_here : (h : Heap) (t : ℕ) (s : Step) (c d : ℕ) → is_free (cell_after t s c (cell_at h c)).owner ≡ is_free
    (cell_at h c).owner → is_free_cell (stepped h t s c) d ≡ is_free_cell h d
cell_free_here h t s c d kept = ap (λ n. nat_lt d n && is_free (cell_at (stepped h t s c) d).owner)
    (length-set h.cells c _)
    ∙ ap (λ b. nat_lt d (length h.cells) && b) (kept_by (λ (x : Cell). is_free x.owner) h.cells c _ no_cell kept d)

free_word : (h : Heap) (t : ℕ) (s : Step) (o : Option ℕ) (k : ℕ) → IsReached h → May h t s → target_at h t s ≡ o
    → FreeWord k ≢ works_on h t s o
    → free_bits (after_target h t s o) k ≡ free_bits h k
free_word h t s None k reached may named other = refl
free_word h t (Claim d) (Some c) k reached may named other =
    told_alike _ _ 64 (λ i low. cell_free h t (Claim d) c (k * 64 + i)
    (λ e. other (ap FreeWord (bit_of_cell c k i low e).0)))
free_word h t (Free d) (Some c) k reached may named other =
    told_alike _ _ 64 (λ i low. cell_free h t (Free d) c (k * 64 + i)
    (λ e. other (ap FreeWord (bit_of_cell c k i low e).0)))
free_word h t s (Some c) k reached may named other =
    told_alike _ _ 64 (λ i low. cell_free_here h t s c (k * 64 + i) (bit_kept h t s c reached may named refl))

-- ---- queue words

drained : (h : Heap) (t k u j : ℕ) → (u ≡ t → j ≢ k) → word_at (get_or (set h.queues t (set (queue_at h t) k 0)) u []) j
    ≡ word_at (queue_at h u) j
drained h t k u j other = elim (cases_eq u t) [
  | inr apart ↦ ap (λ (words : List ℕ). word_at words j) (read_there h.queues t u _ [] apart)
  | inl same ↦ kept_by (λ (words : List ℕ). word_at words j) h.queues t _ []
      (read_there (queue_at h t) k j 0 0 (other same)) u
]

queue_word : (h : Heap) (t : ℕ) (s : Step) (o : Option ℕ) (u j : ℕ) → Queue u j ≢ works_on h t s o
    → word_at (queue_at (after_target h t s o) u) j ≡ word_at (queue_at h u) j
queue_word h t (Enqueue d) (Some c) u j other = by_shut (is_shut h c) refl
  where
    by_shut : (b : Bool) → is_shut h c ≡ b
        → word_at (get_or (queues_with true (is_shut h c) (cell_at h c).bearer c h.queues) u []) j ≡ word_at
        (queue_at h u) j
    by_shut true shut = ap (λ b. word_at (get_or (queues_with true b (cell_at h c).bearer c h.queues) u []) j) shut
    by_shut false open_word =
        ap (λ b. word_at (get_or (queues_with true b (cell_at h c).bearer c h.queues) u []) j) open_word
        ∙ elim (cases_eq u (cell_at h c).bearer) [
          | inr apart ↦ ap (λ (words : List ℕ). word_at words j) (read_there h.queues (cell_at h c).bearer u _ [] apart)
          | inl same ↦ kept_by (λ (words : List ℕ). word_at words j) h.queues (cell_at h c).bearer _ []
              (read_there (queue_at h (cell_at h c).bearer) (c / 32) j _ 0
              (λ e. other (ap (λ b. Queue b j) same ∙ ap (Queue (cell_at h c).bearer) e))) u
        ]
queue_word h t _ (Some c) u j other = refl
queue_word h t (Drain k) None u j other =
    drained h t k u j (λ at same. other (ap (λ v. Queue v j) at ∙ ap (Queue t) same))
queue_word h t (Close k) None u j other =
    drained h t k u j (λ at same. other (ap (λ v. Queue v j) at ∙ ap (Queue t) same))
queue_word h t _ None u j other = kept_by (λ (words : List ℕ). word_at words j) h.queues t _ [] refl u

-- the next word is closed, and all others are as they were
closed_else : (words k j : ℕ) (stage : Stage) → closes_next stage k ≡ true → j < words → j ≢ k
    → is_closed (closed_more words k) j ≡ is_closed stage j
closed_else words k j stages.Active next inside other = elim (cases_eq (k + 1) words) [
  | inl last ↦ absurd (omega (arith, last, inside, other, eqb-true k 0 next))
  | inr more ↦ ap (λ b. is_closed (if b then stages.Left else stages.Closing (k + 1)) j) (ne_eqb (k + 1) words more)
      ∙ le-ltb j (k + 1) (omega (arith, other, eqb-true k 0 next))
]
closed_else words k j (stages.Closing n) next inside other =
    let same : k ≡ n = eqb-true k n next in
    elim (cases_eq (k + 1) words) [
      | inl last ↦ ap (λ b. is_closed (if b then stages.Left else stages.Closing (k + 1)) j) (eq-eqb (k + 1) words last)
          ∙ sym (lt-ltb j n (omega (arith, last, inside, other, same)))
      | inr more ↦ ap (λ b. is_closed (if b then stages.Left else stages.Closing (k + 1)) j) (ne_eqb (k + 1) words more)
          ∙ elim (cases_lt j n) [
            | inl low ↦ lt-ltb j (k + 1) (omega (arith, low, same)) ∙ sym (lt-ltb j n low)
            | inr high ↦ le-ltb j (k + 1) (omega (arith, high, same, other)) ∙ sym (le-ltb j n high)
          ]
    ]
closed_else words k j stages.Left next inside other = absurd (true≢false (sym next))
closed_else words k j (stages.Opening n) next inside other = absurd (true≢false (sym next))

-- the next word is opened again, and all others are as they were
opened_else : (words k j : ℕ) (stage : Stage) → opens_next stage k ≡ true → j < words → j ≢ k
    → is_closed (opened_more words k) j ≡ is_closed stage j
opened_else words k j stages.Active next inside other = absurd (true≢false (sym next))
opened_else words k j (stages.Closing n) next inside other = absurd (true≢false (sym next))
opened_else words k j stages.Left next inside other = absurd (true≢false (sym next))
opened_else words k j (stages.Opening n) next inside other =
    let same : k ≡ n = eqb-true k n next in
    elim (cases_eq (k + 1) words) [
      | inl last ↦ ap (λ b. is_closed (if b then stages.Active else stages.Opening (k + 1)) j)
          (eq-eqb (k + 1) words last) ∙ sym (lt-leb n j (omega (arith, last, inside, other, same)))
      | inr more ↦ ap (λ b. is_closed (if b then stages.Active else stages.Opening (k + 1)) j)
          (ne_eqb (k + 1) words more)
          ∙ elim (cases_lt j n) [
            | inl low ↦ lt-leb (k + 1) j (omega (arith, low, same)) ∙ sym (lt-leb n j low)
            | inr high ↦ le-leb (k + 1) j (omega (arith, high, same, other)) ∙ sym (le-leb n j high)
          ]
    ]

queue_closed : (h : Heap) (t : ℕ) (s : Step) (o : Option ℕ) (u j : ℕ) → own_ok_at h t s ≡ true
    → j < words_for (length h.cells) → Queue u j ≢ works_on h t s o
    → is_closed (row_at (after_target h t s o) u).stage j ≡ is_closed (row_at h u).stage j
queue_closed h t s (Some c) u j own inside other = kept_by (λ (row : Row). is_closed row.stage j) h.rows t _
    no_row refl u
queue_closed h t (Close k) None u j own inside other = elim (cases_eq u t) [
  | inr apart ↦ ap (λ (row : Row). is_closed row.stage j) (read_there h.rows t u _ no_row apart)
  | inl same ↦ kept_by (λ (row : Row). is_closed row.stage j) h.rows t _ no_row
      (closed_else (words_for (length h.cells)) k j (row_at h t).stage
      (and_parts _ _ (and_parts _ _ (and_parts _ _ own).0).0).1 inside
      (λ e. other (ap (λ v. Queue v j) same ∙ ap (Queue t) e))) u
]
queue_closed h t (Reopen k) None u j own inside other = elim (cases_eq u t) [
  | inr apart ↦ ap (λ (row : Row). is_closed row.stage j) (read_there h.rows t u _ no_row apart)
  | inl same ↦ kept_by (λ (row : Row). is_closed row.stage j) h.rows t _ no_row
      (opened_else (words_for (length h.cells)) k j (row_at h t).stage (and_parts _ _ own).1 inside
      (λ e. other (ap (λ v. Queue v j) same ∙ ap (Queue t) e))) u
]
queue_closed h t _ None u j own inside other = kept_by (λ (row : Row). is_closed row.stage j) h.rows t _ no_row refl u

-- ---- notify words

notify_word : (h : Heap) (t : ℕ) (s : Step) (o : Option ℕ) (u : ℕ) → NotifyWord u ≢ works_on h t s o
    → word_at (after_target h t s o).notify_words u ≡ word_at h.notify_words u
notify_word h t s (Some c) u other = refl
notify_word h t (Nudge v k) None u other = read_there h.notify_words v u _ 0 (λ e. other (ap NotifyWord e))
notify_word h t Wake None u other = read_there h.notify_words t u 0 0 (λ e. other (ap NotifyWord e))
notify_word h t _ None u other = refl

-- ---- all together

-- a step changes the number of one word, and every other word shows what it showed
pub others_shown : (h : Heap) (t : ℕ) (s : Step) (w : Word) (number : ℕ) → IsReached h → May h t s
    → IsWord (length h.cells) w → w ≢ works_on h t s (target_at h t s)
    → WordShows h w number → WordShows (after_target h t s (target_at h t s)) w number
others_shown h t s (Of Owner d) number reached may is other shows =
    subst (λ n. ShowsOwner n (cell_at (after_target h t s (target_at h t s)) d).owner number)
    (sym (same_rows h t s (target_at h t s)))
    (owner_word h t s (target_at h t s) d number reached may refl other shows)
others_shown h t s (Of Local d) number reached may is other shows = shows
    ∙ sym (cell_word h t s (target_at h t s) Local d refl other)
others_shown h t s (Of Shared d) number reached may is other shows = shows
    ∙ sym (cell_word h t s (target_at h t s) Shared d refl other)
others_shown h t s (Of Mutex d) number reached may is other shows = shows
    ∙ sym (cell_word h t s (target_at h t s) Mutex d refl other)
others_shown h t s (Queue u j) number reached may is other shows =
    let o : Option ℕ = target_at h t s in
    subst (λ reg. ShowsQueue reg (is_closed (row_at (after_target h t s o) u).stage j)
    (word_at (queue_at (after_target h t s o) u) j) number)
    (ap (λ n. nat_lt 0 u && nat_lt u n) (sym (same_rows h t s o)))
    (subst (λ closed. ShowsQueue (is_registered h u) closed (word_at (queue_at (after_target h t s o) u) j) number)
    (sym (queue_closed h t s o u j may.own is.1 other))
    (subst (λ bits. ShowsQueue (is_registered h u) (is_closed (row_at h u).stage j) bits number)
    (sym (queue_word h t s o u j other)) shows))
others_shown h t s (NotifyWord u) number reached may is other shows = shows
    ∙ sym (notify_word h t s (target_at h t s) u other)
others_shown h t s (FreeWord k) number reached may is other shows = shows
    ∙ sym (free_word h t s (target_at h t s) k reached may refl other)
