-- The tests of the program, which decide from a list of facts what the map allows.
-- That they decide just that is proved in `proofs/Deciding.antt`.
use Rattle.std.specs.Prelude.{◌≡◌, ℕ, ◌+◌, ◌-◌, ◌==◌, nat_le, nat_lt, ◌&&◌, ◌||◌, not, Bool, true, false, List, length, take}
use Rattle.std.specs.Prelude.{Some, slice_get, is_none}
use Rattle.std.specs.List.{list_any}
use Rattle.brc_words.specs.declared.kind.Kind.{Kind}
use Rattle.brc_words.specs.Kinds.{is_mortal, is_container}
use Rattle.brc_model.specs.declared.holder.Holder.{Holder}
use Rattle.brc_model.specs.declared.holder.Holder.TheVariants.{Frame, Entry, Queue, Popped, Hand}
use Rattle.brc_model.specs.declared.moves.Spot.{Spot}
use Rattle.brc_model.specs.declared.moves.Exchange.{Exchange}
use Rattle.brc_model.specs.declared.moves.Exchange.TheVariants.{Put, Take, Swap}
use Rattle.brc_model.specs.declared.fact.Fact.{Fact}
use Rattle.brc_model.specs.declared.fact.Fact.TheVariants.{Lives, Holds, Contains}
use Rattle.brc_model.specs.Holders.{same_holder, has, is_number, place_used}
use Rattle.brc_words.specs.declared.limits.TheConstants.{FIRST_MORTAL, GLOBALS, MOST_ENTRIES}
use Rattle.brc_model.specs.Facts.{says_lives, entries_in, map_of}

abbrev pub is_no_entry : Holder → Bool
is_no_entry (Frame thread place) = true
is_no_entry (Entry cell index) = false
is_no_entry (Queue thread cell) = true
is_no_entry (Popped thread cell) = true
is_no_entry (Hand thread cell) = true

-- the fact says of some place that it holds the object
abbrev pub names : ℕ → Fact → Bool
names c (Lives object kind) = false
names c (Holds object holder) = (c == object) && is_no_entry holder
names c (Contains cell object) = c == object

-- the object lives and has a holder
abbrev pub test_held : List Fact → ℕ → Bool
test_held facts c = list_any (says_lives c) facts && list_any (names c) facts

-- the fact says that the place of the frame holds something that lives
abbrev pub fills : List Fact → ℕ → ℕ → Fact → Bool
fills facts thread place (Lives object kind) = false
fills facts thread place (Holds object holder) =
    same_holder (Frame thread place) holder && list_any (says_lives object) facts
fills facts thread place (Contains cell object) = false

abbrev pub test_vacant : List Fact → ℕ → ℕ → Bool
test_vacant facts thread place = not (list_any (fills facts thread place) facts)

abbrev pub test_may_hold : List Fact → ℕ → Holder → Bool
test_may_hold facts c (Frame thread place) = test_vacant facts thread place
test_may_hold facts c (Entry cell index) = false
test_may_hold facts c (Queue thread cell) = cell == c
test_may_hold facts c (Popped thread cell) = cell == c
test_may_hold facts c (Hand thread cell) = cell == c

abbrev pub test_born : List Fact → ℕ → Kind → Holder → Bool
test_born facts c kind h =
    nat_le FIRST_MORTAL c && not (list_any (says_lives c) facts) && is_mortal kind && test_may_hold facts c h

abbrev pub test_add : List Fact → ℕ → Holder → Bool
test_add facts c h = test_held facts c && not (has (map_of facts) c h) && test_may_hold facts c h

-- the entry is the last one of an object that nothing holds
abbrev pub test_last : List Fact → ℕ → ℕ → ℕ → Bool
test_last facts c cell index =
    list_any (says_lives cell) facts
    && not (list_any (names cell) facts)
    && is_none (slice_get (entries_in facts cell) (index + 1))
    && is_number (slice_get (entries_in facts cell) index) c

abbrev pub test_remove : List Fact → ℕ → Holder → Bool
test_remove facts c (Frame thread place) = has (map_of facts) c (Frame thread place)
test_remove facts c (Entry cell index) = test_last facts c cell index
test_remove facts c (Queue thread cell) = has (map_of facts) c (Queue thread cell)
test_remove facts c (Popped thread cell) = has (map_of facts) c (Popped thread cell)
test_remove facts c (Hand thread cell) = has (map_of facts) c (Hand thread cell)

abbrev pub test_dies : List Fact → ℕ → Bool
test_dies facts c =
    list_any (says_lives c) facts
    && not (list_any (names c) facts)
    && is_none (slice_get (entries_in facts c) 0)

-- the fact at the place gives the cell's entry of this number
pub record IsEntryAt (facts : List Fact) (cell index place : ℕ) : Type 0 where
  pub object : ℕ
  pub stands : slice_get facts place ≡ Some (Contains cell object)
  pub before : length (entries_in (take place facts) cell) ≡ index

-- a mortal cell is in the place of the frame, or the cell is immortal
abbrev pub test_occupies : List Fact → ℕ → ℕ → ℕ → Bool
test_occupies facts c thread place = nat_lt c FIRST_MORTAL || has (map_of facts) c (Frame thread place)

abbrev pub test_container : List Fact → ℕ → Bool
test_container facts c = (c == GLOBALS) || ((map_of facts).live c && is_container ((map_of facts).kind c))

abbrev pub test_entry : List Fact → ℕ → Exchange → Bool
test_entry facts c (Put place cell) = is_none (slice_get (entries_in facts c) (MOST_ENTRIES - 1))
test_entry facts c (Take index place cell) = is_number (slice_get (entries_in facts c) index) cell
test_entry facts c (Swap index place cell old) = is_number (slice_get (entries_in facts c) index) old

abbrev pub test_fits : List Fact → Exchange → ℕ → Bool
test_fits facts (Put place cell) thread = test_occupies facts cell thread place
test_fits facts (Take index place cell) thread = test_vacant facts thread place
test_fits facts (Swap index place cell old) thread =
    test_occupies facts cell thread place && (nat_le FIRST_MORTAL cell || test_vacant facts thread place)

abbrev pub test_change : List Fact → ℕ → Spot → Exchange → Bool
test_change facts c spot change =
    test_container facts c
    && test_occupies facts c spot.thread spot.place
    && not (place_used change == spot.place)
    && test_entry facts c change
    && test_fits facts change spot.thread
