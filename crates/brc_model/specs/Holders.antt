-- The holder map: which places hold which objects, and when a reference may move.
-- This is the plain meaning of "reference" in PEP 703 and in Choi, Shull and Torrellas, "Biased Reference Counting":
-- sets of holders, with no count, owner, state or order of queues.
use Rattle.std.specs.Prelude.{◌≡◌, ◌≢◌, ℕ, ◌+◌, ◌<◌, ◌≤◌, ◌==◌, nat_lt, ◌&&◌, ◌||◌, not, Bool, true, false}
use Rattle.std.specs.Prelude.{if◌then◌else◌, List, [], ◌∷◌, ◌++◌, length, take, Option, Some, None, slice_get}
use Rattle.std.specs.Prelude.{slice_set, remove, ◌⊎◌}
use Rattle.brc_words.specs.declared.limits.TheConstants.{FIRST_MORTAL, GLOBALS, MOST_ENTRIES}
use Rattle.brc_words.specs.declared.kind.Kind.{Kind}
use Rattle.brc_words.specs.Kinds.{is_mortal, is_container}
use Rattle.brc_model.specs.declared.holder.Holder.{Holder}
use Rattle.brc_model.specs.declared.holder.Holder.TheVariants.{Frame, Entry, Queue, Popped, Hand}
use Rattle.brc_model.specs.declared.moves.Handover.{Handover}
use Rattle.brc_model.specs.declared.moves.Spot.{Spot}
use Rattle.brc_model.specs.declared.moves.Exchange.{Exchange}
use Rattle.brc_model.specs.declared.moves.Exchange.TheVariants.{Put, Take, Swap}
use Rattle.brc_model.specs.declared.moves.Move.{Move}
use Rattle.brc_model.specs.declared.moves.Move.TheVariants.{Born, Add, Remove, Pass, Change, Dies}

-- what the map says: which mortal objects live, their kinds, the entries of these and of the globals, and which
-- places other than entries hold which objects
pub record Map : Type 0 where
  pub live : ℕ → Bool
  pub kind : ℕ → Kind
  pub entries : ℕ → List ℕ
  pub held : ℕ → Holder → Bool

-- two maps say the same
pub record Same (a b : Map) : Type 0 where
  pub live : (c : ℕ) → a.live c ≡ b.live c
  pub kind : (c : ℕ) → a.live c ≡ true → a.kind c ≡ b.kind c
  pub entries : (c : ℕ) → a.entries c ≡ b.entries c
  pub held : (c : ℕ) (h : Holder) → a.held c h ≡ b.held c h

-- a holder as three numbers: its kind, its thread or cell, and its place, index or cell
abbrev pub holder_code : Holder → ℕ × ℕ × ℕ
holder_code (Frame thread place) = (0, thread, place)
holder_code (Entry cell index) = (1, cell, index)
holder_code (Queue thread cell) = (2, thread, cell)
holder_code (Popped thread cell) = (3, thread, cell)
holder_code (Hand thread cell) = (4, thread, cell)

abbrev pub same_code : ℕ × ℕ × ℕ → ℕ × ℕ × ℕ → Bool
same_code x y = (x.0 == y.0) && (x.1 == y.1) && (x.2 == y.2)

abbrev pub same_holder : Holder → Holder → Bool
same_holder g h = same_code (holder_code g) (holder_code h)

-- whether an option is this number
abbrev pub is_number : Option ℕ → ℕ → Bool
is_number None n = false
is_number (Some m) n = m == n

-- whether the object has this holder; an immortal has none
abbrev pub has : Map → ℕ → Holder → Bool
has m c (Frame thread place) = m.live c && m.held c (Frame thread place)
has m c (Entry cell index) = m.live c && is_number (slice_get (m.entries cell) index) c
has m c (Queue thread cell) = m.live c && m.held c (Queue thread cell)
has m c (Popped thread cell) = m.live c && m.held c (Popped thread cell)
has m c (Hand thread cell) = m.live c && m.held c (Hand thread cell)

-- some place holds the object
abbrev pub IsHeld : Map → ℕ → Type 0
IsHeld m c = (h : Holder) × (has m c h ≡ true)

-- no place holds the object
abbrev pub IsUnheld : Map → ℕ → Type 0
IsUnheld m c = (h : Holder) → has m c h ≡ false

-- no live object has the place of the frame
abbrev pub IsVacant : Map → ℕ → ℕ → Type 0
IsVacant m thread place = (c : ℕ) → has m c (Frame thread place) ≡ false

-- the holder may become one of the object's: a frame place is vacant, what names a cell names this one; never an entry
abbrev pub MayHold : Map → ℕ → Holder → Type 0
MayHold m c (Frame thread place) = IsVacant m thread place
MayHold m c (Entry cell index) = ⊥
MayHold m c (Queue thread cell) = cell ≡ c
MayHold m c (Popped thread cell) = cell ≡ c
MayHold m c (Hand thread cell) = cell ≡ c

-- a place that isn't an entry
abbrev pub IsNoEntry : Holder → Type 0
IsNoEntry (Frame thread place) = Unit {0}
IsNoEntry (Entry cell index) = ⊥
IsNoEntry (Queue thread cell) = Unit {0}
IsNoEntry (Popped thread cell) = Unit {0}
IsNoEntry (Hand thread cell) = Unit {0}

abbrev pub put : {A : Type 0} → (ℕ → A) → ℕ → A → ℕ → A
put f i v j = if j == i then v else f j

-- the places of one object, with one more, or without one
abbrev pub with_holder : (ℕ → Holder → Bool) → ℕ → Holder → ℕ → Holder → Bool
with_holder held c h d g = ((d == c) && same_holder g h) || held d g

abbrev pub without_holder : (ℕ → Holder → Bool) → ℕ → Holder → ℕ → Holder → Bool
without_holder held c h d g = not ((d == c) && same_holder g h) && held d g

-- what is removed: an entry shortens its object's list, any other place lets go
abbrev pub let_go : Map → ℕ → Holder → Map
let_go m c (Frame thread place) = record m { held = without_holder m.held c (Frame thread place) }
let_go m c (Entry cell index) = record m { entries = put m.entries cell (take index (m.entries cell)) }
let_go m c (Queue thread cell) = record m { held = without_holder m.held c (Queue thread cell) }
let_go m c (Popped thread cell) = record m { held = without_holder m.held c (Popped thread cell) }
let_go m c (Hand thread cell) = record m { held = without_holder m.held c (Hand thread cell) }

-- one object's holder is exchanged for another
abbrev pub handed : Map → Handover → Map
handed m x = record m { held = with_holder (without_holder m.held x.object x.«from») x.object x.to }

abbrev pub all_handed : Map → List Handover → Map
all_handed m [] = m
all_handed m (x ∷ xs) = all_handed (handed m x) xs

-- a mortal cell holds; an immortal one is in no place of this map
abbrev pub placed : (ℕ → Holder → Bool) → ℕ → Holder → ℕ → Holder → Bool
placed held c h = if nat_lt c FIRST_MORTAL then held else with_holder held c h

abbrev pub unplaced : (ℕ → Holder → Bool) → ℕ → Holder → ℕ → Holder → Bool
unplaced held c h = if nat_lt c FIRST_MORTAL then held else without_holder held c h

-- entries of the container and places of the frame change together
abbrev pub exchanged : Map → ℕ → ℕ → Exchange → Map
exchanged m c thread (Put place cell) = record m {
  entries = put m.entries c (m.entries c ++ cell ∷ []);
  held = unplaced m.held cell (Frame thread place);
}
exchanged m c thread (Take index place cell) = record m {
  entries = put m.entries c (remove (m.entries c) index);
  held = placed m.held cell (Frame thread place);
}
exchanged m c thread (Swap index place cell old) = record m {
  entries = put m.entries c (slice_set (m.entries c) index cell);
  held = placed (unplaced m.held cell (Frame thread place)) old (Frame thread place);
}

-- the map after the move
abbrev pub moved : {A : Type 0} → Map → Move A → Map
moved m (Born object kind holder) = record {
  live = put m.live object true;
  kind = put m.kind object kind;
  entries = put m.entries object [];
  held = with_holder (put m.held object (λ _. false)) object holder;
}
moved m (Add object holder) = record m { held = with_holder m.held object holder }
moved m (Remove object holder) = let_go m object holder
moved m (Pass list) = all_handed m list
moved m (Change cell place change) = exchanged m cell place.thread change
moved m (Dies object) = record m { live = put m.live object false }

-- an object comes to live in a mortal cell where none lives, of a kind that is born, with one holder
pub record MayBeBorn (m : Map) (object : ℕ) (kind : Kind) (holder : Holder) : Type 0 where
  pub mortal : FIRST_MORTAL ≤ object
  pub new : m.live object ≡ false
  pub kind_is_born : is_mortal kind ≡ true
  pub holder_is_new : MayHold m object holder

-- an object that has a holder, and not this one, gets this one
pub record MayBeAdded (m : Map) (object : ℕ) (holder : Holder) : Type 0 where
  pub is_held : IsHeld m object
  pub not_yet : has m object holder ≡ false
  pub holder_is_new : MayHold m object holder

-- an entry goes only as the last one of an object that nothing holds any more
pub record IsLastOfDead (m : Map) (object cell index : ℕ) : Type 0 where
  pub live : m.live cell ≡ true
  pub unheld : IsUnheld m cell
  pub last : length (m.entries cell) ≡ index + 1
  pub there : slice_get (m.entries cell) index ≡ Some object

abbrev pub MayBeRemoved : Map → ℕ → Holder → Type 0
MayBeRemoved m object (Frame thread place) = has m object (Frame thread place) ≡ true
MayBeRemoved m object (Entry cell index) = IsLastOfDead m object cell index
MayBeRemoved m object (Queue thread cell) = has m object (Queue thread cell) ≡ true
MayBeRemoved m object (Popped thread cell) = has m object (Popped thread cell) ≡ true
MayBeRemoved m object (Hand thread cell) = has m object (Hand thread cell) ≡ true

-- the object has the one holder and not the other, and neither is an entry
pub record MayBeHanded (m : Map) (x : Handover) : Type 0 where
  pub from_no_entry : IsNoEntry x.«from»
  pub held : has m x.object x.«from» ≡ true
  pub not_yet : has m x.object x.to ≡ false
  pub holder_is_new : MayHold m x.object x.to

-- one after the other
abbrev pub MayAllBeHanded : Map → List Handover → Type 0
MayAllBeHanded m [] = Unit {0}
MayAllBeHanded m (x ∷ xs) = MayBeHanded m x × MayAllBeHanded (handed m x) xs

-- a mortal cell is in the place; of an immortal one nothing is asked, since it has no holders
abbrev pub Occupies : Map → ℕ → ℕ → ℕ → Type 0
Occupies m c thread place = FIRST_MORTAL ≤ c → has m c (Frame thread place) ≡ true

-- the place can take the cell that comes out, once the one that goes in has left it
abbrev pub FitsIn : Map → Exchange → ℕ → Type 0
FitsIn m (Put place cell) thread = Occupies m cell thread place
FitsIn m (Take index place cell) thread = IsVacant m thread place
FitsIn m (Swap index place cell old) thread = Occupies m cell thread place × (cell < FIRST_MORTAL
    → IsVacant m thread place)

-- the place that the change uses
abbrev pub place_used : Exchange → ℕ
place_used (Put place cell) = place
place_used (Take index place cell) = place
place_used (Swap index place cell old) = place

-- the entry that the change names is the one that stands there, and a further one has room
abbrev pub EntryFits : List ℕ → Exchange → Type 0
EntryFits xs (Put place cell) = length xs < MOST_ENTRIES
EntryFits xs (Take index place cell) = slice_get xs index ≡ Some cell
EntryFits xs (Swap index place cell old) = slice_get xs index ≡ Some old

-- the globals, or a live list, dictionary or mailbox
abbrev pub IsContainer : Map → ℕ → Type 0
IsContainer m c = (c ≡ GLOBALS) ⊎ ((m.live c ≡ true) × (is_container (m.kind c) ≡ true))

-- the thread holds the container in one place and changes it with another
pub record MayBeChanged (m : Map) (cell : ℕ) (place : Spot) (change : Exchange) : Type 0 where
  pub container : IsContainer m cell
  pub holds : Occupies m cell place.thread place.place
  pub other_place : place_used change ≢ place.place
  pub entry : EntryFits (m.entries cell) change
  pub fits : FitsIn m change place.thread

-- an object dies only without holders and entries
pub record MayDie (m : Map) (object : ℕ) : Type 0 where
  pub live : m.live object ≡ true
  pub unheld : IsUnheld m object
  pub empty : m.entries object ≡ []

-- when the move may be made
abbrev pub Allowed : {A : Type 0} → Map → Move A → Type 0
Allowed m (Born object kind holder) = MayBeBorn m object kind holder
Allowed m (Add object holder) = MayBeAdded m object holder
Allowed m (Remove object holder) = MayBeRemoved m object holder
Allowed m (Pass list) = MayAllBeHanded m list
Allowed m (Change cell place change) = MayBeChanged m cell place change
Allowed m (Dies object) = MayDie m object
