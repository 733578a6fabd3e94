-- A part of a section's objects that its instructions don't leave: registers refer into it, and so do its objects.
use Rattle.std.specs.Prelude.{◌≡◌, ℕ, nat_le, ◌||◌, Bool, true, Option, Some, IfSome, slice_get}
use Rattle.std.specs.List.{All}
use Rattle.brc_meaning.specs.declared.reference.Reference.{Reference}
use Rattle.brc_meaning.specs.declared.reference.Reference.TheVariants as references
use Rattle.brc_meaning.specs.declared.object.Object.{Object}
use Rattle.brc_meaning.specs.declared.state.State.{State}
use Rattle.brc_meaning.specs.Wholes.{Each}

-- the reference means an object of the part, or an integer that is there always
abbrev pub In : (ℕ → Bool) → Reference → Type 0
In part (references.Small number) = Unit {0}
In part (references.Object place) = part place ≡ true

-- what a register holds, if it holds something
abbrev pub HoldsIn : (ℕ → Bool) → Option Reference → Type 0
HoldsIn part held = IfSome held (In part)

module _ {A : Type 0} where
  -- Registers refer into the part, and its objects do. Of other objects, which nothing reaches any more, nothing is
  -- said.
  pub record IsWithin (part : ℕ → Bool) (s : State A) : Type 0 where
    pub registers : All (HoldsIn part) s.registers
    pub objects : (place : ℕ) (object : Object A) → part place ≡ true → slice_get s.objects place ≡ Some object
        → Each (In part) object

-- the part, with all objects that are made from a number on
abbrev pub joined : ℕ → (ℕ → Bool) → ℕ → Bool
joined made part place = part place || nat_le made place
