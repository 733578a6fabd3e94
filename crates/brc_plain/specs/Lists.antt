-- The calls of a list: what each answers, and the list after it.
use Rattle.std.specs.Prelude.{ℕ, ◌++◌, ◌-◌, List, [], ◌∷◌, length, take, nat_lt, if◌then◌else◌, Result, Ok, Err}
use Rattle.std.specs.Prelude.{slice_get, slice_set, remove}
use Rattle.brc_words.specs.declared.fault.Fault.{Fault}
use Rattle.brc_words.specs.declared.fault.Fault.TheVariants as faults
use Rattle.brc_words.specs.declared.limits.TheConstants.{MOST_ENTRIES}
use Rattle.brc_plain.specs.Outcomes.{or_fault, leaving}

module _ {E : Type 0} where
  -- one more entry, at the end, where there are fewer than a container may have
  abbrev pub push : List E → E → Result (Unit {0} × List E) Fault
  push list value =
      if nat_lt (length list) MOST_ENTRIES then Ok (tt, list ++ value ∷ []) else Err faults.Full

  -- the entry at a place
  abbrev pub get : List E → ℕ → Result E Fault
  get list index = or_fault faults.NoSuchPlace (slice_get list index)

  -- the last entry, which goes
  abbrev pub pop : List E → Result (E × List E) Fault
  pop list = leaving (take (length list - 1) list) (get list (length list - 1))

  -- the entry at a place, which goes, and the later ones close up
  abbrev pub take_at : List E → ℕ → Result (E × List E) Fault
  take_at list index = leaving (remove list index) (get list index)

  -- another entry at a place; the answer is the entry that stood there
  abbrev pub set : List E → ℕ → E → Result (E × List E) Fault
  set list index value = leaving (slice_set list index value) (get list index)
