-- What the root's own items tell: how many registrations there were, and of each number that was used whether its
-- thread is gathered; so which number is the next.
use Rattle.std.specs.Prelude.{ℕ, ◌+◌, nat_lt, Bool, false, true, if◌then◌else◌, List, [], ◌∷◌, ◌++◌, length, slice_set}
use Rattle.std.specs.Prelude.{slice_index_or}
use Rattle.law.specs.declared.world.edition.Edition.{Edition}
use Rattle.law.specs.declared.world.edition.Edition.TheVariants as editions
use Rattle.law.specs.declared.world.event.Step.TheVariants.{Register, Gather}
use Rattle.law.specs.world.Steps.{first_gathered}
use Rattle.law.specs.known.Items.{Item, Stepped}

abbrev pub registrations_on : Item → ℕ → ℕ
registrations_on (Stepped (Register u) number entries) n = n + 1
registrations_on x n = n

-- how many threads were registered
abbrev pub registrations_of : List Item → ℕ
registrations_of [] = 0
registrations_of (x ∷ items) = registrations_on x (registrations_of items)

-- a number is used for the first time, or again; or its thread is gathered
abbrev pub marks_on : Item → List Bool → List Bool
marks_on (Stepped (Register u) number entries) marks =
    if nat_lt u (length marks) then slice_set marks u false else marks ++ false ∷ []
marks_on (Stepped (Gather u) number entries) marks = slice_set marks u true
marks_on x marks = marks

-- whether the threads of the numbers that were used are gathered, the root's first
abbrev pub marks_of : List Item → List Bool
marks_of [] = false ∷ []
marks_of (x ∷ items) = marks_on x (marks_of items)

-- how many rows the world has; the root's own is there from the start
abbrev pub rows_of : List Item → ℕ
rows_of items = length (marks_of items)

-- whether the thread is gathered, and its number not in use again
abbrev pub gathered_of : List Item → ℕ → Bool
gathered_of items u = slice_index_or (marks_of items) u false

-- the number that is registered next: in the first edition the first that is new, in the second the lowest that isn't
-- in use
abbrev pub next_number : Edition → List Item → ℕ
next_number editions.One items = length (marks_of items)
next_number editions.Two items = first_gathered (marks_of items)
