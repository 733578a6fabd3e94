-- Which words are near one another.
use Rattle.std.specs.Prelude.{ℕ, ◌==◌, ◌||◌, if◌then◌else◌, Bool, false, List, ◌∷◌, drop, Option, find}
use Rattle.std.specs.Str.{bytes_eq}
use Rattle.brc_text.specs.Tokens.{or_else}
use Rattle.brc_mistakes.specs.declared.line_opening.Opening.{Opening}
use Rattle.brc_mistakes.specs.declared.line_opening.TheConstants.{OPENINGS}
use Rattle.brc_mistakes.specs.Openings.{word_of}

-- both begin, and with the same byte
unfoldable pub begin_alike : List ℕ → List ℕ → Bool
begin_alike (first ∷ word) (second ∷ other) = first == second
begin_alike word other = false

-- what stands in each from where they first differ on
unfoldable pub apart : List ℕ → List ℕ → List ℕ × List ℕ
apart (first ∷ word) (second ∷ other) =
    if first == second then apart word other else (first ∷ word, second ∷ other)
apart word other = (word, other)

-- the two pass the test once a byte is left out of one of them, or of both: it was left out, put in, or exchanged
abbrev pub by_one_edit : (List ℕ → List ℕ → Bool) → List ℕ × List ℕ → Bool
by_one_edit are parts =
    are (drop 1 parts.0) parts.1 || are parts.0 (drop 1 parts.1) || are (drop 1 parts.0) (drop 1 parts.1)

-- at most one edit makes them the same; at most two do
unfoldable pub within_one : List ℕ → List ℕ → Bool
within_one word other = by_one_edit bytes_eq (apart word other)

unfoldable pub within_two : List ℕ → List ℕ → Bool
within_two word other = by_one_edit within_one (apart word other)

-- the first opening that one edit makes of the word, or else that two make of it
unfoldable pub nearest_by_one : List ℕ → Option Opening
nearest_by_one word = find (λ opening. within_one (word_of opening) word) OPENINGS

unfoldable pub nearest_by_two : List ℕ → Option Opening
nearest_by_two word = find (λ opening. within_two (word_of opening) word) OPENINGS

abbrev pub nearest_to : List ℕ → Option Opening
nearest_to word = or_else (nearest_by_one word) (nearest_by_two word)
