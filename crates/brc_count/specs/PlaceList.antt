-- How places lie in their array. No public clause cites this module.
use Rattle.std.specs.Prelude.{◌≡◌, ℕ, ◌≤◌, zero, suc, true, false, List, length, map, Option, Some, None, is_some, is_none, count_by, slice_get}
use Rattle.brc_words.specs.declared.limits.TheConstants.{MOST_PLACES}
use Rattle.brc_count.specs.declared.held.PlaceEntry.{PlaceEntry}
use Rattle.brc_count.specs.declared.frame_places.Slot.{Slot}
use Rattle.brc_count.specs.declared.frame_places.State.{State}
use Rattle.brc_count.specs.declared.frame_places.State.TheVariants.{Vacant, Held, Risen}

-- what a place has by its state and its number
abbrev pub held_as : State → ℕ → Option PlaceEntry
held_as Vacant number = None
held_as Held number = Some (record { cell = number; risen = false })
held_as Risen number = Some (record { cell = number; risen = true })

abbrev pub held_by : Slot → Option PlaceEntry
held_by place = held_as place.state place.number

-- a vacant place that names this one
abbrev pub vacant_before : ℕ → Slot
vacant_before next = record { state = Vacant; number = next }

-- from this place on so many vacant ones each name the next, and the last names the end
abbrev pub IsVacantList : List Slot → ℕ → ℕ → Type 0
IsVacantList places zero k = k ≡ length places
IsVacantList places (suc more) k =
    (next : ℕ) × (slice_get places k ≡ Some (vacant_before next)) × IsVacantList places more next

-- there are at most 65,536 places; so many have a reference; and the list that begins with this one has all others
pub record AreLinked (places : List Slot) (next len : ℕ) : Type 0 where
  pub few : length places ≤ MOST_PLACES
  pub counted : len ≡ count_by is_some (map held_by places)
  pub linked : IsVacantList places (count_by is_none (map held_by places)) next
