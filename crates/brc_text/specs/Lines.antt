use Rattle.std.specs.Prelude.{◌≡◌, ◌&&◌, not, ℕ, zero, suc, List, [], ◌∷◌, ◌++◌, Option, Some, None, Bool, true, false}
use Rattle.std.specs.Prelude.{◌==◌, if◌then◌else◌}
use Rattle.std.specs.List.{flat_map}
use Rattle.brc_text.specs.declared.token.Token.{Token}
use Rattle.brc_text.specs.Tokens.{◌>>=◌, token, token_at}

-- what stands before the first mark, and what stands behind it, where there is one
unfoldable pub cut : ℕ → List ℕ → List ℕ × Option (List ℕ)
cut mark [] = ([], None)
cut mark (byte ∷ bytes) = if byte == mark then ([], Some bytes) else (byte ∷ (cut mark bytes).0, (cut mark bytes).1)

-- the mark is not among the bytes
abbrev pub lacks : ℕ → List ℕ → Bool
lacks mark [] = true
lacks mark (byte ∷ bytes) = not (byte == mark) && lacks mark bytes

-- what ends a word: a line feed where it is the last of its line, and else a space
abbrev pub end_of : Bool → ℕ
end_of last = if last then 10 else 32

-- the text begins with the word, what ends it, and the rest
pub record IsWordOfLine (text word : List ℕ) (last : Bool) (rest : List ℕ) : Type 0 where
  pub no_space : lacks 32 word ≡ true
  pub no_feed : lacks 10 word ≡ true
  pub whole : text ≡ word ++ (end_of last ∷ rest)

-- the last word, or one word and those that are read behind the space
abbrev pub words_from : Token → (List ℕ → Option (List Token)) → Option (List ℕ) → Option (List Token)
words_from word read None = Some (word ∷ [])
words_from word read (Some rest) = read rest >>= λ others. Some (word ∷ others)

-- the tokens of a line of at most so many words, with one space between them
unfoldable pub tokens_at : ℕ → List ℕ → Option (List Token)
tokens_at zero bytes = None
tokens_at (suc most) bytes = do
  word ← token_at (cut 32 bytes).0
  words_from word (tokens_at most) (cut 32 bytes).1

-- the words of the text's first line, which a line feed ends, and the text behind it
unfoldable pub first_line : ℕ → List ℕ → Option (List Token × List ℕ)
first_line most text = do
  rest ← (cut 10 text).1
  words ← tokens_at most (cut 10 text).0
  Some (words, rest)

-- the words of a line, with a space before each but the first
abbrev pub spaced : List Token → List ℕ
spaced [] = []
spaced (first ∷ others) = token first ++ flat_map (λ word. 32 ∷ token word) others

-- a line of these words
abbrev pub line : List Token → List ℕ
line words = spaced words ++ (10 ∷ [])

-- a byte before the first line
abbrev pub before_line : ℕ → List (List ℕ × Bool) → List (List ℕ × Bool)
before_line byte [] = (byte ∷ [], false) ∷ []
before_line byte (piece ∷ others) = (byte ∷ piece.0, piece.1) ∷ others

-- the lines of a text, each without its line feed, and whether a line feed ends it
unfoldable pub pieces : List ℕ → List (List ℕ × Bool)
pieces [] = []
pieces (byte ∷ bytes) = if byte == 10 then ([], true) ∷ pieces bytes else before_line byte (pieces bytes)
