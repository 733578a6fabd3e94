-- What one more own item makes of what a thread knows, kind by kind.
use Rattle.std.proofs.Common.{◌≡◌, ℕ, ◌+◌, ◌<◌, ◌≤◌, ◌==◌, ◌&&◌, not, Bool, true, false, if◌then◌else◌, List, Some}
use Rattle.std.proofs.Common.{refl, sym, ◌∙◌, ap, subst, arith}
use Rattle.std.proofs.lemmas.Bool.{le-ltb, lt-ltb, ne_eqb, true≢false}
use Rattle.brc_words.specs.declared.limits.TheConstants.{FIRST_MORTAL}
use Rattle.law.specs.declared.world.event.Dropped.{Dropped}
use Rattle.law.specs.declared.world.event.LastDropped.TheVariants as lasts
use Rattle.law.specs.declared.world.event.Step.{Step}
use Rattle.law.specs.declared.world.event.Step.TheVariants.{Birth, LocalUp, LocalDown, SeeZero, Untie, MergeZero}
use Rattle.law.specs.declared.world.event.Step.TheVariants.{MergeAdd, Ask, LastDown, Enqueue, Drain, Close, Reopen}
use Rattle.law.specs.declared.world.event.Step.TheVariants.{Nudge, Wake, Register, Gather}
use Rattle.law.specs.declared.world.row.Hand.TheVariants as hands
use Rattle.law.specs.declared.world.row.Phase.{Phase}
use Rattle.law.specs.declared.world.row.Phase.TheVariants as phases
use Rattle.law.specs.world.Heap.{is_immortal}
use Rattle.law.specs.world.Steps.{needs_no_cell, takes_block, cell_in_hand, is_default, added_hand}
use Rattle.law.specs.known.Items.{Item, Stepped, Loaded, Lost, Word, part_of, part_by, meant, cell_told, state_told}
use Rattle.law.specs.known.Items.{is_shut_word}
use Rattle.law.specs.known.Counts.{counts_by}
use Rattle.law.specs.known.Taken.{taken_by}
use Rattle.law.specs.known.Locked.{locked_on}
use Rattle.law.specs.known.Going_On.{Known, known_of, KnowsNext, handing, counting, giving_up, taking, counting_down}
use Rattle.law.specs.known.Going_On.{seeing_zero, asking, dropping_last, settling, starting_again, knows_after, knows_apart}

-- ---- the table says what the definitions over items say

-- the cell's count where the step leaves it
same_count : (b : Bool) (n : ℕ) → (if b then n else n) ≡ n
same_count true n = refl
same_count false n = refl

part_goes : (cells : ℕ) (s : Step) (c number : ℕ) (entries : List ℕ) (old : Known)
    → part_by cells old.part s number entries (Some c) ≡ (knows_after s c number entries old).part
part_goes cells (LastDown (lasts.Dropped drop)) c number entries old = refl
part_goes cells (LastDown (lasts.Popped d)) c number entries old = refl
part_goes cells (LastDown lasts.Hand) c number entries old = refl
part_goes cells _ c number entries old = refl

counts_go : (s : Step) (c number : ℕ) (entries : List ℕ) (old : Known) (d : ℕ)
    → counts_by s number (Some c) old.counts d ≡ (knows_after s c number entries old).counts d
counts_go (Birth q kind k) c number entries old d = refl
counts_go (LocalUp source k) c number entries old d = refl
counts_go (LocalDown drop) c number entries old d = refl
counts_go (Untie q) c number entries old d = refl
counts_go (LastDown (lasts.Dropped drop)) c number entries old d = same_count (d == c) (old.counts d)
counts_go (LastDown (lasts.Popped q)) c number entries old d = same_count (d == c) (old.counts d)
counts_go (LastDown lasts.Hand) c number entries old d = same_count (d == c) (old.counts d)
counts_go _ c number entries old d = same_count (d == c) (old.counts d)

blocks_go : (s : Step) (c number : ℕ) (entries : List ℕ) (old : Known) → taken_by s number entries (Some c) old.blocks
    ≡ (knows_after s c number entries old).blocks
blocks_go (LastDown (lasts.Dropped drop)) c number entries old = refl
blocks_go (LastDown (lasts.Popped d)) c number entries old = refl
blocks_go (LastDown lasts.Hand) c number entries old = refl
blocks_go _ c number entries old = refl

lock_goes : (s : Step) (c number : ℕ) (entries : List ℕ) (old : Known) → locked_on (Stepped s number entries) old.lock
    ≡ (knows_after s c number entries old).lock
lock_goes (LastDown (lasts.Dropped drop)) c number entries old = refl
lock_goes (LastDown (lasts.Popped d)) c number entries old = refl
lock_goes (LastDown lasts.Hand) c number entries old = refl
lock_goes _ c number entries old = refl

-- a step that means this cell
pub goes_on : (cells : ℕ) (items : List Item) (s : Step) (c number : ℕ) (entries : List ℕ)
    → meant (part_of cells items) s ≡ Some c
    → KnowsNext cells items (Stepped s number entries) (knows_after s c number entries (known_of cells items))
goes_on cells items s c number entries named =
    let old : Known = known_of cells items in
    record {
      part_is = ap (part_by cells old.part s number entries) named ∙ part_goes cells s c number entries old;
      counts_are = λ d. ap (λ o. counts_by s number o old.counts d) named ∙ counts_go s c number entries old d;
      blocks_are = ap (λ o. taken_by s number entries o old.blocks) named ∙ blocks_go s c number entries old;
      lock_is = lock_goes s c number entries old;
    }

-- a step that means no cell
pub goes_apart : (cells : ℕ) (items : List Item) (s : Step) (number : ℕ) (entries : List ℕ) → needs_no_cell s ≡ true
    → KnowsNext cells items (Stepped s number entries) (knows_apart cells s number (known_of cells items))
goes_apart cells items (Drain k) number entries apart =
    record { part_is = refl; counts_are = λ d. refl; blocks_are = refl; lock_is = refl }
goes_apart cells items (Close k) number entries apart =
    record { part_is = refl; counts_are = λ d. refl; blocks_are = refl; lock_is = refl }
goes_apart cells items (Nudge u k) number entries apart =
    record { part_is = refl; counts_are = λ d. refl; blocks_are = refl; lock_is = refl }
goes_apart cells items Wake number entries apart = record {
  part_is = refl;
  counts_are = λ d. refl;
  blocks_are = refl;
  lock_is = refl;
}
goes_apart cells items (Reopen k) number entries apart =
    record { part_is = refl; counts_are = λ d. refl; blocks_are = refl; lock_is = refl }
goes_apart cells items _ number entries apart = absurd (true≢false (sym apart))

-- the root's steps; a number that is used again begins with the first of them
pub register_goes : (cells : ℕ) (items : List Item) (u number : ℕ) (entries : List ℕ)
    → KnowsNext cells items (Stepped (Register u) number entries) (starting_again (known_of cells items))
register_goes cells items u number entries = record {
  part_is = refl;
  counts_are = λ d. refl;
  blocks_are = refl;
  lock_is = refl;
}

pub gather_goes : (cells : ℕ) (items : List Item) (u number : ℕ) (entries : List ℕ)
    → KnowsNext cells items (Stepped (Gather u) number entries) (known_of cells items)
gather_goes cells items u number entries = record {
  part_is = refl;
  counts_are = λ d. refl;
  blocks_are = refl;
  lock_is = refl;
}

-- a note
pub saw_goes : (cells : ℕ) (items : List Item) (word : Word) (number : ℕ)
    → KnowsNext cells items (Loaded word number) (known_of cells items)
saw_goes cells items word number = record { part_is = refl; counts_are = λ d. refl; blocks_are = refl; lock_is = refl }

pub lost_goes : (cells : ℕ) (items : List Item) (word : Word) (number : ℕ)
    → KnowsNext cells items (Lost word number) (known_of cells items)
lost_goes cells items word number = record { part_is = refl; counts_are = λ d. refl; blocks_are = refl; lock_is = refl }

-- ---- the kinds whose effect hangs on the number: by the answer to its test

-- an owner counts down, to zero or not
pub local_down_goes : (cells : ℕ) (items : List Item) (drop : Dropped) (c number : ℕ) (entries : List ℕ) (ends : Bool)
    → meant (part_of cells items) (LocalDown drop) ≡ Some c
    → (not (is_immortal c) && (number + 1 == 1)) ≡ ends
    → KnowsNext cells items (Stepped (LocalDown drop) number entries)
    (counting_down ends drop c number (known_of cells items))
local_down_goes cells items drop c number entries ends named is =
    subst (λ b. KnowsNext cells items (Stepped (LocalDown drop) number entries)
    (counting_down b drop c number (known_of cells items))) is
    (goes_on cells items (LocalDown drop) c number entries named)

-- of a mortal object the count that is stored says which
pub local_down_more : (cells : ℕ) (items : List Item) (drop : Dropped) (c number : ℕ) (entries : List ℕ)
    → meant (part_of cells items) (LocalDown drop) ≡ Some c → 0 < number
    → KnowsNext cells items (Stepped (LocalDown drop) number entries)
    (giving_up (Some drop) (counting c number (known_of cells items)))
local_down_more cells items drop c number entries named more =
    local_down_goes cells items drop c number entries false named
    (ap (λ b. not (is_immortal c) && b) (ne_eqb (number + 1) 1 (λ e. omega (arith, e, more)))
    ∙ neither (not (is_immortal c)))
  where
    neither : (b : Bool) → (b && false) ≡ false
    neither true = refl
    neither false = refl

pub local_down_ends : (cells : ℕ) (items : List Item) (drop : Dropped) (c : ℕ) (entries : List ℕ)
    → meant (part_of cells items) (LocalDown drop) ≡ Some c → FIRST_MORTAL ≤ c
    → KnowsNext cells items (Stepped (LocalDown drop) 0 entries)
    (handing (hands.Busy phases.Zero c) (giving_up (Some drop) (counting c 0 (known_of cells items))))
local_down_ends cells items drop c entries named mortal =
    local_down_goes cells items drop c 0 entries true named
    (ap (λ b. not b && (0 + 1 == 1)) (le-ltb c FIRST_MORTAL mortal))

pub local_down_immortal : (cells : ℕ) (items : List Item) (drop : Dropped) (c number : ℕ) (entries : List ℕ)
    → meant (part_of cells items) (LocalDown drop) ≡ Some c → c < FIRST_MORTAL
    → KnowsNext cells items (Stepped (LocalDown drop) number entries)
    (giving_up (Some drop) (counting c number (known_of cells items)))
local_down_immortal cells items drop c number entries named low =
    local_down_goes cells items drop c number entries false named
    (ap (λ b. not b && (number + 1 == 1)) (lt-ltb c FIRST_MORTAL low))

-- the shared word is looked at after the count was zero
pub see_zero_goes : (cells : ℕ) (items : List Item) (c number : ℕ) (entries : List ℕ) (untouched : Bool)
    → takes_block (SeeZero c) (cell_told (SeeZero c) number) ≡ untouched
    → KnowsNext cells items (Stepped (SeeZero c) number entries)
    (seeing_zero untouched c entries (known_of cells items))
see_zero_goes cells items c number entries untouched is =
    subst (λ b. KnowsNext cells items (Stepped (SeeZero c) number entries)
    (seeing_zero b c entries (known_of cells items)))
    is
    (goes_on cells items (SeeZero c) c number entries refl)

-- the object is merged at zero, and dead or not
pub merge_zero_goes : (cells : ℕ) (items : List Item) (c number : ℕ) (entries : List ℕ) (takes : Bool)
    → takes_block (MergeZero c) (cell_told (MergeZero c) number) ≡ takes
    → KnowsNext cells items (Stepped (MergeZero c) number entries)
    (handing hands.Free (taking takes c entries (known_of cells items)))
merge_zero_goes cells items c number entries takes is =
    subst (λ b. KnowsNext cells items (Stepped (MergeZero c) number entries)
    (handing hands.Free (taking b c entries (known_of cells items)))) is
    (goes_on cells items (MergeZero c) c number entries refl)

-- the local count joins the shared one, and the object is dead or not
pub merge_add_goes : (cells : ℕ) (items : List Item) (c number : ℕ) (entries : List ℕ) (takes : Bool)
    → takes_block (MergeAdd c) (cell_told (MergeAdd c) number) ≡ takes
    → KnowsNext cells items (Stepped (MergeAdd c) number entries)
    (handing (added_hand c (part_of cells items).row.hand) (taking takes c entries (known_of cells items)))
merge_add_goes cells items c number entries takes is =
    subst (λ b. KnowsNext cells items (Stepped (MergeAdd c) number entries)
    (handing (added_hand c (part_of cells items).row.hand) (taking b c entries (known_of cells items)))) is
    (goes_on cells items (MergeAdd c) c number entries refl)

-- the state is turned, or was already
pub ask_goes : (cells : ℕ) (items : List Item) (drop : Dropped) (c number : ℕ) (entries : List ℕ) (turns : Bool)
    → meant (part_of cells items) (Ask drop) ≡ Some c
    → is_default (state_told number) ≡ turns → KnowsNext cells items (Stepped (Ask drop) number entries)
    (asking turns drop c (known_of cells items))
ask_goes cells items drop c number entries turns named is =
    subst (λ b. KnowsNext cells items (Stepped (Ask drop) number entries) (asking b drop c (known_of cells items))) is
    (goes_on cells items (Ask drop) c number entries named)

-- the shared word alone counts down: a place or an entry, a popped entry, the hand
pub last_dropped_goes : (cells : ℕ) (items : List Item) (drop : Dropped) (c number : ℕ) (entries : List ℕ)
    (takes : Bool) → meant (part_of cells items) (LastDown (lasts.Dropped drop)) ≡ Some c
    → takes_block (LastDown (lasts.Dropped drop)) (cell_told (LastDown (lasts.Dropped drop)) number) ≡ takes
    → KnowsNext cells items (Stepped (LastDown (lasts.Dropped drop)) number entries)
    (dropping_last takes drop c entries (known_of cells items))
last_dropped_goes cells items drop c number entries takes named is =
    subst (λ b. KnowsNext cells items (Stepped (LastDown (lasts.Dropped drop)) number entries)
    (dropping_last b drop c entries (known_of cells items))) is
    (goes_on cells items (LastDown (lasts.Dropped drop)) c number entries named)

pub last_popped_goes : (cells : ℕ) (items : List Item) (c number : ℕ) (entries : List ℕ) (takes : Bool)
    → takes_block (LastDown (lasts.Popped c)) (cell_told (LastDown (lasts.Popped c)) number) ≡ takes
    → KnowsNext cells items (Stepped (LastDown (lasts.Popped c)) number entries)
    (settling c (taking takes c entries (known_of cells items)))
last_popped_goes cells items c number entries takes is =
    subst (λ b. KnowsNext cells items (Stepped (LastDown (lasts.Popped c)) number entries)
    (settling c (taking b c entries (known_of cells items)))) is
    (goes_on cells items (LastDown (lasts.Popped c)) c number entries refl)

pub last_hand_goes : (cells : ℕ) (items : List Item) (p : Phase) (c number : ℕ) (entries : List ℕ) (takes : Bool)
    → (part_of cells items).row.hand ≡ hands.Busy p c
    → takes_block (LastDown lasts.Hand) (cell_told (LastDown lasts.Hand) number) ≡ takes
    → KnowsNext cells items (Stepped (LastDown lasts.Hand) number entries)
    (handing hands.Free (taking takes c entries (known_of cells items)))
last_hand_goes cells items p c number entries takes busy is =
    subst (λ b. KnowsNext cells items (Stepped (LastDown lasts.Hand) number entries)
    (handing hands.Free (taking b c entries (known_of cells items)))) is
    (goes_on cells items (LastDown lasts.Hand) c number entries (ap cell_in_hand busy))

-- the queue word is closed, or not
pub enqueue_goes : (cells : ℕ) (items : List Item) (c number : ℕ) (entries : List ℕ) (shut : Bool)
    → is_shut_word number ≡ shut
    → KnowsNext cells items (Stepped (Enqueue c) number entries)
    (handing (if shut then hands.Busy phases.Shut c else hands.Free) (known_of cells items))
enqueue_goes cells items c number entries shut is =
    subst (λ b. KnowsNext cells items (Stepped (Enqueue c) number entries)
    (handing (if b then hands.Busy phases.Shut c else hands.Free) (known_of cells items))) is
    (goes_on cells items (Enqueue c) c number entries refl)
