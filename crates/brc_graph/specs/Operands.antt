-- The operands of a line: what bytes are read as each.
use Rattle.std.specs.Prelude.{ℕ, ◌^◌, ◌-◌, ◌&&◌, nat_le, ◌==◌, if◌then◌else◌, List, [], ◌∷◌, Option, Some, None, find}
use Rattle.std.specs.Str.{bytes_eq}
use Rattle.brc_text.specs.declared.keyword.Keyword.{Keyword}
use Rattle.brc_text.specs.declared.keyword.Keyword.TheVariants as words
use Rattle.brc_text.specs.Numbers.{number_at}
use Rattle.brc_text.specs.Keywords.{keyword}
use Rattle.brc_text.specs.Tokens.{◌>>=◌}
use Rattle.brc_text.specs.Lines.{cut}

-- a number from the least to the most
unfoldable pub within : ℕ → ℕ → List ℕ → Option ℕ
within least most bytes = number_at bytes >>= λ n. if nat_le least n && nat_le n most then Some n else None

-- the one of these words that the bytes spell
unfoldable pub word_among : List Keyword → List ℕ → Option Keyword
word_among those bytes = find (λ word. bytes_eq (keyword word) bytes) those

-- a local count is a u32; `-` stands for that of a merged object
unfoldable pub local_at : List ℕ → Option ℕ
local_at bytes = if bytes_eq (keyword words.Dash) bytes then Some 0 else within 0 (2 ^ 32 - 1) bytes

-- how far below 0 a count is
unfoldable pub below_at : List ℕ → Option ℕ
below_at digits = number_at digits >>= λ n. if nat_le 1 n then Some n else None

-- how far a count is from 0; `-` stands before one below 0
unfoldable pub count_at : List ℕ → Option ℕ
count_at [] = None
count_at (first ∷ digits) = if first == 45 then below_at digits else number_at (first ∷ digits)

-- what is read before a space, and what stands behind it
unfoldable pub ahead : {X : Type 0} → (List ℕ → Option X) → List ℕ → Option (X × List ℕ)
ahead read bytes = do
  rest ← (cut 32 bytes).1
  x ← read (cut 32 bytes).0
  Some (x, rest)
