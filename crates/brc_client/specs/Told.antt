-- What a look tells by the cell alone. None, False, True and the integers from -5 to 256 keep what the heap was opened with
-- (`law::payloads_lie_in_their_cells`, `small`; PEP 703, "Immortal objects"). So nobody's lock has to be waited for.
use Rattle.std.specs.Prelude.{◌≡◌, ◌<◌, ◌≤◌, ℕ, ℤ, Some, Result, Ok, Err}
use Rattle.std.specs.declared.alloc.Global.{Global}
use Rattle.brc_words.specs.declared.limits.TheConstants.{GLOBALS}
use Rattle.brc_words.specs.declared.fault.Fault.{Fault}
use Rattle.brc_words.specs.declared.fault.Fault.TheVariants as faults
use Rattle.brc_words.specs.declared.kind.Kind.{Kind}
use Rattle.brc_count.specs.law.declared.rule.contents.Contents.{Contents}
use Rattle.brc_count.specs.law.declared.rule.contents.Contents.TheVariants as contents
use Rattle.brc_count.specs.law.rule.Logs.{kind_in, opening_contents}
use Rattle.brc_count.specs.Frames.{FrameSeen}
use Rattle.brc_count.specs.Locking.{cell_in}
use Rattle.brc_things.specs.Looking.{KindOf, IntOf}

-- the number of an integer; nothing else has one
abbrev pub number_in : Contents → Result ℤ Fault
number_in (contents.Int number) = Ok number
number_in found = Err faults.WrongKind

module _ {T : Type 0} where
  -- The object in the place is in one of those cells: the answer is of what it was opened with, and nothing was done. Any
  -- other is looked at by the heap's call.
  pub data Tells (of : Contents → Result T Fault)
      (call : FrameSeen Global → FrameSeen Global → ℕ → Result T Fault → Type 0)
      (old new : FrameSeen Global) (k : ℕ) (answer : Result T Fault) : Type 0 where
    ByCell : (cell : ℕ) → cell_in old k ≡ Some cell → cell < GLOBALS → answer ≡ of (opening_contents cell) → new ≡ old
        → Tells of call old new k answer
    ByLook : (cell : ℕ) → cell_in old k ≡ Some cell → GLOBALS ≤ cell → call old new k answer
        → Tells of call old new k answer

-- what kind of object is in the place
abbrev pub KindTold : FrameSeen Global → FrameSeen Global → ℕ → Result Kind Fault → Type 0
KindTold = Tells (λ found. Ok (kind_in found)) KindOf

-- the number of the integer in the place
abbrev pub IntTold : FrameSeen Global → FrameSeen Global → ℕ → Result ℤ Fault → Type 0
IntTold = Tells number_in IntOf
