-- What a look at the object of a place comes to.
use Rattle.std.specs.Prelude.{◌≡◌, ℕ, List, Option, Result, Err, MatchOption}
use Rattle.brc_words.specs.declared.fault.Fault.{Fault}
use Rattle.brc_words.specs.declared.fault.Fault.TheVariants as faults
use Rattle.brc_count.specs.Frames.{FrameSeen, HandleSeen}
use Rattle.brc_handles.specs.Handles.{slot}

module _ {A T : Type 0} where
  -- no handle is in place i, and nothing was done; or the call on its object answered so
  abbrev pub ReadsPlace : FrameSeen A → FrameSeen A → List (Option HandleSeen) → ℕ
      → (ℕ → Result T Fault → Type 0) → Result T Fault → Type 0
  ReadsPlace old new handles i call result =
      MatchOption (slot handles i) ((result ≡ Err faults.NoSuchPlace) × (new ≡ old))
      (λ object. call object.place result)
