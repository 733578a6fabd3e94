-- Values that C has in a row: which data they are, and whether one of them is none.
use Rattle.std.specs.Prelude.{◌≡◌, ◌<◌, ◌≤◌, ◌⊎◌, ℕ, List, Some, Result, Err, if◌then◌else◌, nat_eq, map, slice_get}
use Rattle.brc_client.specs.declared.data.Datum.{Datum}
use Rattle.brc_client.specs.declared.data.Datum.TheVariants as datums
use Rattle.brc_client.specs.declared.status.Status.{Status}
use Rattle.brc_client.specs.declared.status.Status.TheVariants as statuses
use Rattle.brc_client.specs.Clients.{ClientSeen}
use Rattle.brc_c.specs.declared.values.CValue.{CValue}

-- the datum that a value is: by 2 the number of a reference, else a scalar
abbrev pub datum_in : CValue → Datum
datum_in value = if nat_eq value.holds 2
    then datums.Object value.bits (record { label = value.label; bits = 0 })
    else datums.Scalar (record { label = value.label; bits = value.bits })

-- each is a scalar or a reference; or one is neither
abbrev pub AreValues : List CValue → Type 0
AreValues values = (at : ℕ) (value : CValue) → slice_get values at ≡ Some value → value.holds ≤ 2

pub record HasNoValue (values : List CValue) : Type 0 where
  pub at : ℕ
  pub value : CValue
  pub here : slice_get values at ≡ Some value
  pub holds : 2 < value.holds

-- a call on the data that they are; if one is neither, nothing is done
module _ {T : Type 0} where
  abbrev pub OrNotValues : List CValue → (List Datum → ClientSeen → ClientSeen → Result T Status → Type 0) → ClientSeen
      → ClientSeen → Result T Status → Type 0
  OrNotValues values call old new answer = (AreValues values × call (map datum_in values) old new answer)
      ⊎ ((answer ≡ Err statuses.NotValue) × HasNoValue values × (new ≡ old))
