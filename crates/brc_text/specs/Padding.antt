-- A word in a row of 64 bytes.
use Rattle.std.specs.Prelude.{◌≡◌, ◌≤◌, ℕ, ◌-◌, List, ◌++◌, length, take, replicate}
use Rattle.std.proofs.Common.{sym, ap, ◌∙◌}
use Rattle.brc_text.specs.declared.excerpt.TheConstants.{MOST_SHOWN}

-- the word with zeros behind it, up to 64 bytes
abbrev pub padded : List ℕ → List ℕ
padded word = word ++ replicate (MOST_SHOWN - length word) 0

-- the row has so many bytes of a word, and zeros behind them
pub record IsPadded (row : List ℕ) (count : ℕ) : Type 0 where
  pub short : count ≤ MOST_SHOWN
  pub counted : length (take count row) ≡ count
  pub zeros : row ≡ padded (take count row)

-- so the word gives the row back
pub unpadded : (row : List ℕ) (count : ℕ) → IsPadded row count → padded (take count row) ≡ row
unpadded row count kept = sym kept.zeros
