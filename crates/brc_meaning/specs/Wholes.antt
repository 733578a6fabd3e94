-- Whole states: each of their references means an object that was made, or an integer that is there always.
use Rattle.std.specs.Prelude.{ℕ, ◌<◌, length, Option, Result, Ok, Err, IfSome}
use Rattle.std.specs.List.{All}
use Rattle.brc_meaning.specs.declared.reference.Reference.{Reference}
use Rattle.brc_meaning.specs.declared.reference.Reference.TheVariants as references
use Rattle.brc_meaning.specs.declared.object.Object.{Object}
use Rattle.brc_meaning.specs.declared.object.Object.TheVariants as objects
use Rattle.brc_meaning.specs.declared.state.State.{State}
use Rattle.brc_meaning.specs.Sections.{SectionStop}

-- it means an integer that is there always, or one of so many objects
abbrev pub RefersWithin : ℕ → Reference → Type 0
RefersWithin made (references.Small number) = Unit {0}
RefersWithin made (references.Object place) = place < made

-- what a register holds, if it holds something, is there
abbrev pub RegisterIsWhole : ℕ → Option Reference → Type 0
RegisterIsWhole made held = IfSome held (RefersWithin made)

module _ {A : Type 0} where
  -- it is so of each of an object's references
  abbrev pub Each : (Reference → Type 0) → Object A → Type 0
  Each P (objects.List entries) = All P entries
  Each P (objects.Dict pairs) = All (λ pair. P pair.1) pairs
  Each P (objects.Mailbox entries) = All P entries
  Each P _ = Unit {0}

  -- what an object refers to is there
  abbrev pub ObjectIsWhole : ℕ → Object A → Type 0
  ObjectIsWhole made object = Each (RefersWithin made) object

  pub record IsWhole (s : State A) : Type 0 where
    pub held : All (RegisterIsWhole (length s.objects)) s.registers
    pub sound : All (ObjectIsWhole (length s.objects)) s.objects

  -- where lines ended, at the last of them or at the first fault
  abbrev pub ended : Result (State A) (SectionStop A) → State A
  ended (Ok s) = s
  ended (Err stop) = stop.state
