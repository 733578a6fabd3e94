-- What is written for a word in an error line.
use Rattle.std.specs.Prelude.{ℕ, ◌+◌, ◌/◌, ◌%◌, nat_lt, nat_le, ◌&&◌, Bool, if◌then◌else◌, List, [], ◌∷◌, ◌++◌}
use Rattle.std.specs.List.{flat_map}

-- a byte of printable ASCII, from the space to ~
abbrev pub is_printable : ℕ → Bool
is_printable byte = nat_le 32 byte && nat_le byte 126

-- 0 to 9 and A to F
abbrev pub digit_of : ℕ → ℕ
digit_of number = if nat_lt number 10 then 48 + number else 55 + number

-- a byte as it is shown: itself where it is printable, else \x and its two digits in base 16
abbrev pub shown : ℕ → List ℕ
shown byte = if is_printable byte then byte ∷ [] else 92 ∷ 120 ∷ digit_of (byte / 16) ∷ digit_of (byte % 16) ∷ []

-- each byte as it is shown, between quotes
abbrev pub quoted : List ℕ → List ℕ
quoted word = (34 ∷ flat_map shown word) ++ (34 ∷ [])
