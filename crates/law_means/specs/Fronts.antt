-- What a section has done stays done: more lines only add to what is printed, and make more objects.
use Rattle.std.specs.Prelude.{◌≡◌, ℕ, ◌≤◌, List, ◌++◌, length}
use Rattle.brc_meaning.specs.declared.state.State.{State}
use Rattle.brc_meaning.specs.Sections.{Meaning}

-- the list goes on from this front
abbrev pub IsFront : List ℕ → List ℕ → Type 0
IsFront front whole = (more : List ℕ) × (whole ≡ front ++ more)

module _ {A : Type 0} where
  -- what was printed is the front of what is, and no object is gone
  pub record AddsTo (s next : State A) : Type 0 where
    pub printed : IsFront s.printed next.printed
    pub objects : length s.objects ≤ length next.objects

  -- where a section has come to is a front of its meaning
  pub record IsFrontOf (s : State A) (whole : Meaning) : Type 0 where
    pub lines : IsFront s.printed whole.lines
    pub made : length s.objects ≤ whole.made
