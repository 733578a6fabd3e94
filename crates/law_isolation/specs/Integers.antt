-- What an integer is by the plain meaning: one that is there always, or an object more.
use Rattle.std.specs.Prelude.{ℤ, if◌then◌else◌, [], ◌∷◌, ◌++◌, length}
use Rattle.brc_meaning.specs.declared.reference.Reference.{Reference}
use Rattle.brc_meaning.specs.declared.reference.Reference.TheVariants as references
use Rattle.brc_meaning.specs.declared.object.Object.{Object}
use Rattle.brc_meaning.specs.declared.object.Object.TheVariants as objects
use Rattle.brc_meaning.specs.declared.state.State.{State}
use Rattle.brc_meaning.specs.Objects.{is_small}

module _ {A : Type 0} where
  -- the state with one object more
  abbrev pub with_made : Object A → State A → State A
  with_made object s = record s { objects = s.objects ++ object ∷ [] }

  -- what refers to the integer, and the state in which it does
  abbrev pub integer_reference : ℤ → State A → Reference
  integer_reference number s = if is_small number then references.Small number else references.Object (length s.objects)

  abbrev pub integer_made : ℤ → State A → State A
  integer_made number s = if is_small number then s else with_made (objects.Int number) s
