-- What is said of writing the notes of a run. What they say is tested.
use Rattle.std.specs.Prelude.{ℕ, List, Option, Result}
use Rattle.std.specs.Io.KnownBytes.{Appends}
use Rattle.brc_words.specs.declared.fault.Fault.{Fault}
use Rattle.brc_text.specs.Puts.{PutsText}

-- where a gate refuses nothing
abbrev pub nowhere : ℕ → ℕ → Type 0
nowhere section line = ⊥

-- the writer took some text, where its bytes are known
abbrev pub AppendsSome : Option (List ℕ) → Option (List ℕ) → Type 0
AppendsSome old new = (text : List ℕ) × Appends old new text

-- the writer took some text, or a front of one and the answer is Io
abbrev pub PutsSome : Option (List ℕ) → Option (List ℕ) → Result (Unit {0}) Fault → Type 0
PutsSome old new result = (text : List ℕ) × PutsText old new result text
