-- The moves of the holder map that an event makes, read off the world before it.
--
-- The map is the yardstick of `brc_model`: live objects with their kinds, entries and sets of holders, and no counts.
use Rattle.std.specs.Prelude.{ℕ, zero, suc, ◌+◌, ◌-◌, ◌*◌, ◌==◌, ◌&&◌, not, Bool, false, if◌then◌else◌, List, [], ◌∷◌}
use Rattle.std.specs.Prelude.{length, drop, Option, Some, None, slice_index_or}
use Rattle.std.specs.Int.{bit_at}
use Rattle.brc_model.specs.declared.holder.Holder.{Holder}
use Rattle.brc_model.specs.declared.holder.Holder.TheVariants as holders
use Rattle.brc_model.specs.declared.moves.Move.{Move}
use Rattle.brc_model.specs.declared.moves.Move.TheVariants as moves
use Rattle.brc_model.specs.declared.moves.Handover.{Handover}
use Rattle.brc_model.specs.declared.moves.Exchange.{Exchange}
use Rattle.brc_model.specs.declared.moves.Exchange.TheVariants as exchanges
use Rattle.brc_model.specs.Holders.{Map, Same, Allowed, moved, is_number}
use Rattle.law.specs.declared.world.event.Event.{Event}
use Rattle.law.specs.declared.world.event.Step.{Step}
use Rattle.law.specs.declared.world.event.Step.TheVariants.{Birth, LocalUp, LocalDown, Free, SharedUp, SharedDown, Ask}
use Rattle.law.specs.declared.world.event.Step.TheVariants.{LastDown, Enqueue, Drain, Close, Unlock}
use Rattle.law.specs.declared.world.event.Dropped.{Dropped}
use Rattle.law.specs.declared.world.event.Dropped.TheVariants as dropped
use Rattle.law.specs.declared.world.event.LastDropped.TheVariants as lasts
use Rattle.law.specs.declared.world.event.Change.{Change}
use Rattle.law.specs.declared.world.event.Change.TheVariants as changes
use Rattle.law.specs.world.Lists.{place_at, number_in, word_at, bit_of}
use Rattle.law.specs.world.Heap.{Heap, cell_at, entries_at, row_at, frame_at, popped_at, queue_at, is_immortal}
use Rattle.law.specs.world.Steps.{target_at, is_default, is_shut}
use Rattle.law.specs.world.Holding.{lives_at, carries}

-- whether the place, which is no entry, has the cell
abbrev pub stands : Heap → ℕ → Holder → Bool
stands h c (holders.Frame t k) = is_number (place_at (frame_at h t) k) c
stands h c (holders.Entry d i) = false
stands h c (holders.Queue t d) = (d == c) && (bit_of (queue_at h t) c == 1)
stands h c (holders.Popped t d) = (d == c) && (bit_of (popped_at h t) c == 1)
stands h c (holders.Hand t d) = (d == c) && carries c (row_at h t).hand

-- the holder map of a world; an immortal has no holders
abbrev pub map_of : Heap → Map
map_of h = record {
  live = lives_at h;
  kind = λ c. (cell_at h c).kind;
  entries = entries_at h;
  held = λ c place. not (is_immortal c) && stands h c place;
}

-- a step on a mortal cell's references; an immortal has none
abbrev pub of_mortal : {A : Type 0} → Option ℕ → (ℕ → Move A) → List (Move A)
of_mortal None move = []
of_mortal (Some c) move = if is_immortal c then [] else (move c ∷ [])

-- a place or an entry lets a cell go; of an immortal only the entry is seen
abbrev pub removal : {A : Type 0} → Heap → ℕ → Dropped → Option ℕ → List (Move A)
removal h t (dropped.Frame k) None = []
removal h t (dropped.Frame k) (Some c) = if is_immortal c then [] else (moves.Remove c (holders.Frame t k) ∷ [])
removal h t (dropped.Work d) None = []
removal h t (dropped.Work d) (Some c) = moves.Remove c (holders.Entry d (length (entries_at h d) - 1)) ∷ []

-- one object passes from a holder to another
abbrev pub passes : {A : Type 0} → ℕ → Holder → Holder → List (Move A)
passes c old new = moves.Pass (record { object = c; «from» = old; to = new } ∷ []) ∷ []

-- a reference that a release gave up is the hand's
abbrev pub asking : {A : Type 0} → Heap → ℕ → Dropped → ℕ → List (Move A)
asking h t (dropped.Frame k) c = passes c (holders.Frame t k) (holders.Hand t c)
asking h t (dropped.Work d) c = moves.Add c (holders.Hand t c) ∷ moves.Remove c
    (holders.Entry d (length (entries_at h d) - 1)) ∷ []

-- what f makes of each set bit of a word, from one bit on
abbrev pub each_bit : {A : Type 0} → (ℕ → A) → ℕ → ℕ → ℕ → List A
each_bit f word i zero = []
each_bit f word i (suc more) = if bit_at word i == 1 then (f i ∷ each_bit f word (suc i) more) else each_bit f word
    (suc i) more

-- the references of one queue word are popped, by rising cells
abbrev pub popping : ℕ → ℕ → ℕ → List Handover
popping t k word = each_bit
    (λ i. record {
      object = k * 32 + i;
      «from» = holders.Queue t (k * 32 + i);
      to = holders.Popped t (k * 32 + i);
    }) word 0 32

-- an unlock's change, with the cells that move
abbrev pub exchange : Heap → ℕ → Change → ℕ → Exchange
exchange h t changes.Keep c = exchanges.Put 0 0
exchange h t (changes.Put j) c = exchanges.Put j (number_in (place_at (frame_at h t) j))
exchange h t (changes.Take i j) c = exchanges.Take i j (slice_index_or (entries_at h c) i 0)
exchange h t (changes.Swap i j) c = exchanges.Swap i j (number_in (place_at (frame_at h t) j))
    (slice_index_or (entries_at h c) i 0)

abbrev pub changing : {A : Type 0} → Heap → ℕ → Change → ℕ → List (Move A)
changing h t changes.Keep c = []
changing h t change c = moves.Change c (record { thread = t; place = number_in (row_at h t).locked })
    (exchange h t change c) ∷ []

-- a step on one cell, where it has one
abbrev pub with_cell : {A : Type 0} → Option ℕ → (ℕ → List (Move A)) → List (Move A)
with_cell None make = []
with_cell (Some c) make = make c

-- the moves that a step makes: at most two
abbrev pub moves_of : {A : Type 0} → Heap → ℕ → Step → Option ℕ → List (Move A)
moves_of h t (Birth d kind k) cell = moves.Born d kind (holders.Frame t k) ∷ []
moves_of h t (LocalUp source k) cell = of_mortal cell (λ c. moves.Add c (holders.Frame t k))
moves_of h t (SharedUp source k) cell = of_mortal cell (λ c. moves.Add c (holders.Frame t k))
moves_of h t (LocalDown drop) cell = removal h t drop cell
moves_of h t (SharedDown drop) cell = removal h t drop cell
moves_of h t (LastDown (lasts.Dropped drop)) cell = removal h t drop cell
moves_of h t (LastDown (lasts.Popped d)) cell = moves.Remove d (holders.Popped t d) ∷ []
moves_of h t (LastDown lasts.Hand) cell = with_cell cell (λ c. moves.Remove c (holders.Hand t c) ∷ [])
moves_of h t (Free d) cell = moves.Dies d ∷ []
moves_of h t (Ask drop) cell = with_cell cell (λ c. if is_default (cell_at h c).state then asking h t drop c else [])
moves_of h t (Enqueue d) cell = if is_shut h d then [] else passes d (holders.Hand t d)
    (holders.Queue (cell_at h d).bearer d)
moves_of h t (Drain k) cell = moves.Pass (popping t k (word_at (queue_at h t) k)) ∷ []
moves_of h t (Close k) cell = moves.Pass (popping t k (word_at (queue_at h t) k)) ∷ []
moves_of h t (Unlock change) cell = with_cell cell (changing h t change)
moves_of h t _ cell = []

abbrev pub moves_by : {A : Type 0} → Heap → Event → List (Move A)
moves_by h e = moves_of h e.thread e.step (target_at h e.thread e.step)

-- the moves lead from one map to the other, each allowed where it is made
abbrev pub MakesMoves : {A : Type 0} → Map → List (Move A) → Map → Type 0
MakesMoves old [] new = Same old new
MakesMoves old (move ∷ rest) new = Allowed old move × MakesMoves (moved old move) rest new
