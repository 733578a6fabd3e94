-- What a command line asks for.
use Rattle.std.specs.Prelude.{◌≡◌, ⊤, ℕ, Bool, false, List, [], ◌∷◌, String, string_bytes, codes, drop}
use Rattle.std.specs.List.{list_any}
use Rattle.std.specs.Str.{bytes_eq}
use Rattle.std.specs.declared.alloc.Global.{Global}
use Rattle.brc_program.specs.declared.command.Invocation.{Invocation}
use Rattle.brc_program.specs.declared.command.Invocation.TheVariants.{Replay, Run}
use Rattle.brc_run.specs.declared.options.RunOptions.{RunOptions}

-- the words are the program's name, whatever that is, and this one
abbrev pub AreWords : List (String Global) → List ℕ → Type 0
AreWords (name ∷ word ∷ []) said = string_bytes word ≡ said
AreWords _ said = ⊥

-- the word is the option that asks for reasons
abbrev pub is_explain : String Global → Bool
is_explain word = bytes_eq (string_bytes word) (codes "--explain")

-- a word behind the program's name is
abbrev pub asks_why : List (String Global) → Bool
asks_why words = list_any is_explain (drop 1 words)

-- where a run is asked for, this is so of its options
abbrev pub IfRun : Invocation → (RunOptions → Type 0) → Type 0
IfRun (Run options explain) IsSo = IsSo options
IfRun _ IsSo = ⊤

-- reasons are to be told
abbrev pub is_to_explain : Invocation → Bool
is_to_explain (Replay explain) = explain
is_to_explain (Run options explain) = explain
is_to_explain _ = false
