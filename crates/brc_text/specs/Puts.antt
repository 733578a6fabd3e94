use Rattle.std.specs.Prelude.{◌≡◌, ℕ, List, ◌++◌, Option, Result, MatchResult}
use Rattle.std.specs.Io.KnownBytes.{Appends}
use Rattle.brc_words.specs.declared.fault.Fault.{Fault}
use Rattle.brc_words.specs.declared.fault.Fault.TheVariants.{Io}

-- the writer took the text up to what is left of it, where its bytes are known
pub record PutsUpTo (old new : Option (List ℕ)) (text rest : List ℕ) : Type 0 where
  pub front : List ℕ
  pub is : text ≡ front ++ rest
  pub put : Appends old new front

-- the writer took the whole text, or a front of it and the answer is Io
abbrev pub PutsText : Option (List ℕ) → Option (List ℕ) → Result (Unit {0}) Fault → List ℕ → Type 0
PutsText old new result text =
    MatchResult result (λ _. Appends old new text)
    (λ fault. (fault ≡ Io) × (rest : List ℕ) × PutsUpTo old new text rest)

-- the writer took the text but for an end that is kept, or a front of it and the answer is Io
abbrev pub PutsBut : Option (List ℕ) → Option (List ℕ) → Result (Unit {0}) Fault → List ℕ → List ℕ → Type 0
PutsBut old new result text kept =
    MatchResult result (λ _. PutsUpTo old new text kept)
    (λ fault. (fault ≡ Io) × (rest : List ℕ) × PutsUpTo old new text rest)
