use Rattle.std.specs.Prelude.{ℕ, ◌^◌, ◌<◌, List, [], ◌∷◌, Option, Some, None, ◌==◌, if◌then◌else◌, decimal}
use Rattle.std.specs.Prelude.{option_and_then}
use Rattle.brc_text.specs.declared.token.Letter.{Letter}
use Rattle.brc_text.specs.declared.token.Letter.TheVariants as letters
use Rattle.brc_text.specs.declared.token.Token.{Token}
use Rattle.brc_text.specs.declared.token.Token.TheVariants as tokens
use Rattle.brc_text.specs.Numbers.{number_at}
use Rattle.brc_text.specs.Keywords.{keyword, keyword_at}

infixl 10 ◌>>=◌
-- one reading after another, each on what the one before gave
abbrev pub ◌>>=◌ : {A B : Type 0} → Option A → (A → Option B) → Option B
o >>= f = option_and_then f o

-- the first reading, and where it gives nothing the second
abbrev pub or_else : {A : Type 0} → Option A → Option A → Option A
or_else (Some x) second = Some x
or_else None second = second

-- f, e, i, w and q
abbrev pub letter : Letter → ℕ
letter letters.Frame = 102
letter letters.Entry = 101
letter letters.Immortal = 105
letter letters.Work = 119
letter letters.Popped = 113

-- each token as it stands in a text
abbrev pub token : Token → List ℕ
token (tokens.Number n) = decimal n
token (tokens.Negative n) = 45 ∷ decimal n
token (tokens.Place l n) = letter l ∷ decimal n
token (tokens.Word k) = keyword k

-- the tokens that are read; one of another kind is only written
abbrev pub IsRead : Token → Type 0
IsRead (tokens.Number n) = n < 2 ^ 64
IsRead (tokens.Negative n) = ⊥
IsRead (tokens.Place l n) = n < 2 ^ 64
IsRead (tokens.Word k) = Unit {0}

abbrev pub letter_at : ℕ → Option Letter
letter_at byte =
    if byte == 102 then Some letters.Frame
    else if byte == 101 then Some letters.Entry
    else if byte == 105 then Some letters.Immortal
    else if byte == 119 then Some letters.Work
    else if byte == 113 then Some letters.Popped
    else None

-- a letter and a number behind it
unfoldable pub place_at : List ℕ → Option Token
place_at [] = None
place_at (first ∷ digits) = do
  l ← letter_at first
  n ← number_at digits
  Some (tokens.Place l n)

-- the token whose spelling the bytes are: a number, a place, or else a keyword
unfoldable pub token_at : List ℕ → Option Token
token_at bytes =
    or_else (number_at bytes >>= λ n. Some (tokens.Number n))
    (or_else (place_at bytes) (keyword_at bytes >>= λ k. Some (tokens.Word k)))
