-- Whether and where a dictionary has a key: no look that gives what is beside it.
use Rattle.std.specs.Prelude.{◌≢◌, ℕ, Bool, true, false, Result, Ok, Err}
use Rattle.std.specs.declared.alloc.Global.{Global}
use Rattle.brc_words.specs.declared.fault.Fault.{Fault}
use Rattle.brc_words.specs.declared.fault.Fault.TheVariants as faults
use Rattle.brc_words.specs.declared.key.Key.{Key}
use Rattle.brc_count.specs.Frames.{FrameSeen}
use Rattle.brc_things.specs.Dict_Calls.{DictPlace}

-- the place of the key, in the order in which the keys came
abbrev pub PlaceOf : Key Global → FrameSeen Global → FrameSeen Global → ℕ → Result ℕ Fault → Type 0
PlaceOf key old new k result = DictPlace old new k key result

-- it has a place, or it has none
abbrev pub HasKey : Key Global → FrameSeen Global → FrameSeen Global → ℕ → Result Bool Fault → Type 0
HasKey key old new k (Ok true) = (place : ℕ) × DictPlace old new k key (Ok place)
HasKey key old new k (Ok false) = DictPlace old new k key (Err faults.NoSuchKey)
HasKey key old new k (Err fault) = (fault ≢ faults.NoSuchKey) × DictPlace old new k key (Err fault)
