-- In the second edition a thread that isn't active counts nothing of what it still owns: so all of that is on its
-- worklist, and a thread that has closed a word goes on closing.
use Rattle.std.proofs.Common.{◌≡◌, ℕ, ◌<◌, ◌≤◌, ◌==◌, ◌&&◌, ◌||◌, not, Bool, true, false, if◌then◌else◌, List, zero}
use Rattle.std.proofs.Common.{suc, length, get_or, count_by, refl, sym, ◌∙◌, ap, inl, inr, arith}
use Rattle.std.proofs.lemmas.Bool.{cases_lt, cases_Bool, eq-eqb, eqb-true, true≢false}
use Rattle.brc_words.specs.declared.limits.TheConstants.{FIRST_MORTAL}
use Rattle.brc_words.specs.declared.owner.Owner.{Owner}
use Rattle.brc_words.specs.declared.owner.Owner.TheVariants as owners
use Rattle.law.specs.declared.world.cell.Cell.{Cell}
use Rattle.law.specs.declared.world.edition.Edition.{Edition}
use Rattle.law.specs.declared.world.edition.Edition.TheVariants as editions
use Rattle.law.specs.declared.world.row.Stage.{Stage}
use Rattle.law.specs.declared.world.row.Stage.TheVariants as stages
use Rattle.law.specs.world.Lists.{is_marked, is_unmarked}
use Rattle.law.specs.world.Heap.{Heap, cell_at, row_at, worklist_at, no_cell}
use Rattle.law.specs.world.Steps.{is_active, is_owned_by, owned_are_marked, may_leave}
use Rattle.law.specs.world.Sound.{IsSound, gripped, rests}
use Rattle.law.proofs.world.Counting.{sum_none, local_positive}
use Rattle.law.proofs.world.Merging.{idle_apart, owner_alone}

and_both : (a b : Bool) → a ≡ true → b ≡ true → (a && b) ≡ true
and_both true b x y = y
and_both false b x y = absurd (true≢false (sym x))

-- an owner is told by the test, and owns no immortal
pub threads_owner : (t : ℕ) (owner : Owner) → is_owned_by t owner ≡ true → owner ≡ owners.Thread t
threads_owner t (owners.Thread s) is = ap owners.Thread (eqb-true s t is)
threads_owner t owners.Nobody is = absurd (true≢false (sym is))
threads_owner t (owners.Claimed s) is = absurd (true≢false (sym is))
threads_owner t owners.Free is = absurd (true≢false (sym is))

pub owned_mortal : (h : Heap) (t c : ℕ) → IsSound h → (cell_at h c).owner ≡ owners.Thread t → FIRST_MORTAL ≤ c
owned_mortal h t c sound owner = elim (cases_lt c FIRST_MORTAL) [
  | inl low ↦ absurd (let bad : owners.Nobody ≡ owners.Thread t = sym (sound.immortals c low).owner ∙ owner in cc)
  | inr high ↦ high
]

-- in the second edition a thread that isn't active counts nothing of what it still owns: all of it is dead and on its
-- worklist
rests_two : (e : Edition) (stage : Stage) → e ≡ editions.Two → is_active stage ≡ false → rests e stage ≡ true
rests_two editions.One stage is off = absurd (let bad : editions.One ≡ editions.Two = is in cc)
rests_two editions.Two stage is off = ap not off

pub left_marked : (h : Heap) (t c : ℕ) → IsSound h → h.edition ≡ editions.Two → is_active (row_at h t).stage ≡ false
    → FIRST_MORTAL ≤ c → (cell_at h c).owner ≡ owners.Thread t → is_marked (worklist_at h t) c ≡ true
left_marked h t c sound two off mortal owner = elim (cases_Bool (is_marked (worklist_at h t) c)) [
  | inl on ↦ on
  | inr apart ↦
      let none : gripped h c ≡ 0 = owner_alone h t c sound mortal owner apart
      (idle_apart h t c (row_at h t).hand sound off owner refl) in
      absurd (omega (
        arith,
        local_positive h t c sound mortal owner none,
        (sound.cells c mortal).rested t owner
            (rests_two h.edition (row_at h t).stage two off),
      ))
]

-- tests that none passes are passed by none
pub none_counted : {A : Type 0} (f : A → Bool) (xs : List A) (d : A) → ((i : ℕ) → f (get_or xs i d) ≡ false)
    → (count_by f xs == 0) ≡ true
none_counted {A} f xs d none =
    eq-eqb _ 0 (sum_none (λ x. if f x then 1 else 0) xs d (λ i. ap (λ b. if b then 1 else 0) (none i)))

-- marks without a mark
pub none_marked : (marks : List Bool) → ((c : ℕ) → is_marked marks c ≡ false) → is_unmarked marks ≡ true
none_marked marks none = none_counted (λ b. b) marks false none

-- whoever owns only what is on its worklist may leave
all_marked : (t : ℕ) (cells : List Cell) (worklist : List Bool) (n : ℕ)
    → ((q : ℕ) → q < n → is_owned_by t (get_or cells q no_cell).owner ≡ true → is_marked worklist q ≡ true)
    → owned_are_marked t cells worklist n ≡ true
all_marked t cells worklist zero marked = refl
all_marked t cells worklist (suc n) marked =
    and_both _ _ (all_marked t cells worklist n (λ q low. marked q (omega (arith, low))))
    (implied (is_owned_by t (get_or cells n no_cell).owner) (is_marked worklist n) (marked n (omega arith)))
  where
    implied : (a b : Bool) → (a ≡ true → b ≡ true) → (not a || b) ≡ true
    implied true b so = so refl
    implied false b so = refl

-- a closing thread may go on: in the first edition it has no worklist, in the second it counts nothing of its own
pub closing_leaves : (e : Edition) (h : Heap) (t n : ℕ) → IsSound h → h.edition ≡ e
    → (row_at h t).stage ≡ stages.Closing n → may_leave e t h.cells (worklist_at h t) ≡ true
closing_leaves editions.One h t n sound is closing = none_marked (worklist_at h t)
    (λ q. (sound.threads t).closing_work n q is closing)
closing_leaves editions.Two h t n sound is closing = all_marked t h.cells (worklist_at h t) (length h.cells)
    (λ q low owned. let owner : (cell_at h q).owner ≡ owners.Thread t = threads_owner t (cell_at h q).owner owned in
    left_marked h t q sound is (ap is_active closing) (owned_mortal h t q sound owner) owner)
