-- Which objects are made, and which are there already.
use Rattle.std.specs.Prelude.{ℕ, ◌+◌, ◌-◌, nat_le, if◌then◌else◌, ℤ, pos, negsuc, Bool, true, false, Option, Some, None}
use Rattle.brc_words.specs.declared.fault.Fault.{Fault}
use Rattle.brc_count.specs.law.declared.world.event.Source.TheVariants.{Immortal}
use Rattle.brc_count.specs.law.declared.rule.contents.Contents.{Contents}
use Rattle.brc_count.specs.Frames.{FrameSeen, HandleSeen, GivenHandle, Refused, IsAsBefore}
use Rattle.brc_count.specs.Making.{Made, RefusedMaking}

-- the integers from -5 to 256 are immortals: integer i is cell i + 8
abbrev pub small_cell : ℤ → Option ℕ
small_cell (pos n) = if nat_le n 256 then Some (n + 8) else None
small_cell (negsuc n) = if nat_le n 4 then Some (7 - n) else None

-- False is cell 1, and True cell 2
abbrev pub truth_cell : Bool → ℕ
truth_cell false = 1
truth_cell true = 2

module _ {A : Type 0} where
  -- the handle is one to the immortal, where there is one; else to a new object with these contents
  abbrev pub Answered : FrameSeen A → FrameSeen A → Option ℕ → Contents → HandleSeen → Type 0
  Answered old new (Some c) contents given = GivenHandle old new (Immortal c) c given
  Answered old new None contents given = Made old new contents given

  -- why it wasn't answered
  abbrev pub RefusedTo : FrameSeen A → FrameSeen A → Option ℕ → Fault → Type 0
  RefusedTo old new (Some c) fault = Refused old fault × IsAsBefore old new
  RefusedTo old new None fault = RefusedMaking old new fault
