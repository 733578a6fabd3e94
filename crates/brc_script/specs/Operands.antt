-- The operands of a line: what bytes are read as each.
use Rattle.std.specs.Prelude.{ℕ, ◌^◌, ◌-◌, ◌==◌, ◌&&◌, nat_le, nat_lt, if◌then◌else◌, ℤ, pos, negsuc, Bool, List, []}
use Rattle.std.specs.Prelude.{◌∷◌, Option, Some, None}
use Rattle.brc_words.specs.declared.key.Key.{Key}
use Rattle.brc_words.specs.declared.key.Key.TheVariants as keys
use Rattle.brc_text.specs.Numbers.{number_at}
use Rattle.brc_text.specs.Tokens.{◌>>=◌}
use Rattle.brc_text.specs.Lines.{cut}
use Rattle.brc_script.specs.declared.limits.TheConstants.{MOST_TIMES}
use Rattle.brc_script.specs.Instructions.{is_register, is_index, is_name}

-- a number that passes the test
unfoldable pub within : (ℕ → Bool) → List ℕ → Option ℕ
within fits bytes = number_at bytes >>= λ n. if fits n then Some n else None

-- `r` and a number below 16
unfoldable pub register_at : List ℕ → Option ℕ
register_at [] = None
register_at (letter ∷ digits) = if letter == 114 then within is_register digits else None

abbrev pub is_times : ℕ → Bool
is_times times = nat_le times MOST_TIMES

-- how far from 0 an i64 above or below it is
abbrev pub is_above : ℕ → Bool
is_above n = nat_lt n (2 ^ 63)

abbrev pub is_below : ℕ → Bool
is_below n = nat_le 1 n && nat_le n (2 ^ 63)

abbrev pub below_at : List ℕ → Option ℤ
below_at digits = within is_below digits >>= λ n. Some (negsuc (n - 1))

abbrev pub above_at : List ℕ → Option ℤ
above_at digits = within is_above digits >>= λ n. Some (pos n)

-- a number, or `-` and a number that isn't 0
unfoldable pub integer_at : List ℕ → Option ℤ
integer_at [] = None
integer_at (first ∷ digits) =
    if first == 45 then below_at digits else above_at (first ∷ digits)

-- the bytes, where they pass the test
abbrev pub if_it_is : (List ℕ → Bool) → List ℕ → Option (List ℕ)
if_it_is fits bytes = if fits bytes then Some bytes else None

-- what is read before a space, and what stands behind it
unfoldable pub ahead : {X : Type 0} → (List ℕ → Option X) → List ℕ → Option (X × List ℕ)
ahead read bytes = do
  rest ← (cut 32 bytes).1
  x ← read (cut 32 bytes).0
  Some (x, rest)

module _ {A : Type 0} where
  -- `'` and a name, or else an integer
  unfoldable pub key_at : List ℕ → Option (Key A)
  key_at [] = None
  key_at (first ∷ name) =
      if first == 39 then (if_it_is is_name name >>= λ bytes. Some (keys.Text bytes))
      else (integer_at (first ∷ name) >>= λ number. Some (keys.Int number))

-- several operands

unfoldable pub two_at : List ℕ → Option (ℕ × ℕ)
two_at bytes = do
  first ← ahead register_at bytes
  second ← register_at first.1
  Some (first.0, second)

unfoldable pub three_at : List ℕ → Option (ℕ × ℕ × ℕ)
three_at bytes = do
  first ← ahead register_at bytes
  others ← two_at first.1
  Some (first.0, others.0, others.1)

unfoldable pub with_integer_at : List ℕ → Option (ℕ × ℤ)
with_integer_at bytes = do
  first ← ahead register_at bytes
  number ← integer_at first.1
  Some (first.0, number)

unfoldable pub two_with_index_at : List ℕ → Option (ℕ × ℕ × ℕ)
two_with_index_at bytes = do
  first ← ahead register_at bytes
  second ← ahead register_at first.1
  index ← within is_index second.1
  Some (first.0, second.0, index)

unfoldable pub index_between_at : List ℕ → Option (ℕ × ℕ × ℕ)
index_between_at bytes = do
  first ← ahead register_at bytes
  index ← ahead (within is_index) first.1
  second ← register_at index.1
  Some (first.0, index.0, second)
