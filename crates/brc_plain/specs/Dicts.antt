-- The calls of a dictionary, as its pairs of key and value in the order in which the keys came: what each answers, and
-- the pairs after it.
use Rattle.std.specs.Prelude.{◌≡◌, ℕ, ◌++◌, List, [], ◌∷◌, length, nat_lt, true, false, zero, suc, if◌then◌else◌}
use Rattle.std.specs.Prelude.{Option, Some, None, Result, Ok, Err, slice_get}
use Rattle.brc_words.specs.declared.fault.Fault.{Fault}
use Rattle.brc_words.specs.declared.fault.Fault.TheVariants as faults
use Rattle.brc_words.specs.declared.key.Key.{Key}
use Rattle.brc_words.specs.Keys.{same_key}
use Rattle.brc_words.specs.declared.limits.TheConstants.{MOST_ENTRIES}
use Rattle.brc_plain.specs.Outcomes.{or_fault, leaving}

module _ {A E : Type 0} where
  -- the value that stands beside the key, if one does
  abbrev pub value_at : Key A → List (Key A × E) → Option E
  value_at key [] = None
  value_at key (pair ∷ pairs) = if same_key pair.0 key then Some pair.1 else value_at key pairs

  -- the key stands there, and not before
  abbrev pub IsFirstAt : Key A → List (Key A × E) → ℕ → Type 0
  IsFirstAt key [] place = ⊥
  IsFirstAt key (pair ∷ pairs) zero = same_key pair.0 key ≡ true
  IsFirstAt key (pair ∷ pairs) (suc place) = (same_key pair.0 key ≡ false) × IsFirstAt key pairs place

  -- no key stands twice
  abbrev pub HasNoKeyTwice : List (Key A × E) → Type 0
  HasNoKeyTwice [] = Unit {0}
  HasNoKeyTwice (pair ∷ pairs) = (value_at pair.0 pairs ≡ None) × HasNoKeyTwice pairs

  -- another value beside the key, which stays where it is
  abbrev pub replaced : Key A → E → List (Key A × E) → List (Key A × E)
  replaced key value [] = []
  replaced key value (pair ∷ pairs) =
      if same_key pair.0 key then (pair.0, value) ∷ pairs else pair ∷ replaced key value pairs

  -- the pair of the key is gone, and the later ones close up
  abbrev pub without : Key A → List (Key A × E) → List (Key A × E)
  without key [] = []
  without key (pair ∷ pairs) = if same_key pair.0 key then pairs else pair ∷ without key pairs

  -- the value takes the place of the old one, which is the answer; a key that isn't there comes last, with its value,
  -- where there are fewer pairs than a container may have
  abbrev pub put : List (Key A × E) → Key A → E → Result (Option E × List (Key A × E)) Fault
  put pairs key value = elim (value_at key pairs) [
    | Some old ↦ Ok (Some old, replaced key value pairs)
    | None ↦ if nat_lt (length pairs) MOST_ENTRIES then Ok (None, pairs ++ (key, value) ∷ []) else Err faults.Full
  ]

  -- the value beside the key
  abbrev pub find : List (Key A × E) → Key A → Result E Fault
  find pairs key = or_fault faults.NoSuchKey (value_at key pairs)

  -- the pair at a place, in the order in which the keys came
  abbrev pub pair_at : List (Key A × E) → ℕ → Result (Key A × E) Fault
  pair_at pairs index = or_fault faults.NoSuchPlace (slice_get pairs index)

  -- the value beside the key, and the pair goes
  abbrev pub delete : List (Key A × E) → Key A → Result (E × List (Key A × E)) Fault
  delete pairs key = leaving (without key pairs) (find pairs key)
