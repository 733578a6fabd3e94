-- Lines that begin with a head.
use Rattle.std.specs.Prelude.{ℕ, List, [], ◌∷◌, ◌++◌, decimal}
use Rattle.std.specs.List.{flat_map}
use Rattle.brc_text.specs.declared.token.Token.{Token}
use Rattle.brc_text.specs.Tokens.{token}

-- a line of these words behind a head, with a space before each
abbrev pub headed_line : List ℕ → List Token → List ℕ
headed_line head words = (head ++ flat_map (λ word. 32 ∷ token word) words) ++ (10 ∷ [])

-- numbers, with a space before each
abbrev pub spaced_numbers : List ℕ → List ℕ
spaced_numbers numbers = flat_map (λ number. 32 ∷ decimal number) numbers

-- a line of these numbers behind a head
abbrev pub numbers_line : List ℕ → List ℕ → List ℕ
numbers_line head numbers = head ++ (spaced_numbers numbers ++ (10 ∷ []))
