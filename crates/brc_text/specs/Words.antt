-- Reading the word with which a text begins.
use Rattle.std.specs.Prelude.{◌≡◌, ◌≤◌, ℕ, List, ◌++◌, Option, Some, slice_index}

-- a word ends where the text does, and before a byte that no word has
abbrev pub EndsWord : List ℕ → Type 0
EndsWord rest = slice_index rest 0 ≤ 32

-- the text begins with a word that is read as x, and the rest stands behind it
pub record Begins {A : Type 0} (read : List ℕ → Option A) (text : List ℕ) (x : A) (rest : List ℕ) : Type 0 where
  pub word : List ℕ
  pub whole : text ≡ word ++ rest
  pub reads : read word ≡ Some x
