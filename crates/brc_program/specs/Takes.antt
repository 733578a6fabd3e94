-- What a command takes of the words behind the program's name.
use Rattle.std.specs.Prelude.{◌-◌, ℕ, Bool, ◌&&◌, ◌||◌, not, nat_eq, nat_lt, if◌then◌else◌}
use Rattle.std.specs.Prelude.{List, [], codes, String, string_bytes, take, drop, length, option_map, unwrap_or}
use Rattle.std.specs.List.{slice_get, starts_with, list_any}
use Rattle.std.specs.Str.{bytes_eq}
use Rattle.std.specs.declared.alloc.Global.{Global}

-- the bytes of the word at the place; none where no word stands there. The program's name stands at 0.
abbrev pub argument_at : List (String Global) → ℕ → List ℕ
argument_at words at = unwrap_or (option_map string_bytes (slice_get words at)) []

-- ---- words by themselves

-- the word is the option, or gives it a value behind an equals sign
abbrev pub is_option : List ℕ → List ℕ → Bool
is_option word option = starts_with nat_eq word option
    && (nat_eq (length (drop (length option) word)) 0
    || starts_with nat_eq (drop (length option) word) (codes "="))

-- it is so an option of `brc run` with a number
abbrev pub is_number_option : List ℕ → Bool
is_number_option word = is_option word (codes "--cells") || (is_option word (codes "--budget")
    || is_option word (codes "--local-limit"))

-- it is such an option without an equals sign, so that the next word is its value
abbrev pub wants_value : List ℕ → Bool
wants_value word = bytes_eq word (codes "--cells") || (bytes_eq word (codes "--budget")
    || bytes_eq word (codes "--local-limit"))

-- it begins with a dash, and isn't that alone: no value does
abbrev pub is_dashed : List ℕ → Bool
is_dashed word = starts_with nat_eq word (codes "-") && nat_lt 1 (length word)

abbrev pub is_command : List ℕ → Bool
is_command word = bytes_eq word (codes "replay") || (bytes_eq word (codes "run")
    || (bytes_eq word (codes "graph") || bytes_eq word (codes "help")))

-- it may stand right behind the program's name: a command, or the option that asks for the version
abbrev pub may_begin : List ℕ → Bool
may_begin word = is_command word || (is_option word (codes "--version") || bytes_eq word (codes "-V"))

-- the command has the option: each has help, a replay and a run have reasons, and a run has numbers
abbrev pub has_option : List ℕ → List ℕ → Bool
has_option command word = (is_option word (codes "--help") || bytes_eq word (codes "-h"))
    || (if bytes_eq command (codes "run") then is_option word (codes "--explain") || is_number_option word
    else (bytes_eq command (codes "replay") && is_option word (codes "--explain")))

-- ---- words in their places

-- the word at the place is the value of the one before it
abbrev pub is_value : List (String Global) → ℕ → Bool
is_value words at = wants_value (argument_at words (at - 1)) && not (is_dashed (argument_at words at))

abbrev pub is_dashes : String Global → Bool
is_dashes word = bytes_eq (string_bytes word) (codes "--")

-- two dashes stand before the place, behind which no word is an option
abbrev pub is_behind_dashes : List (String Global) → ℕ → Bool
is_behind_dashes words at = list_any is_dashes (take at words)

-- the word at the place is what may begin, an option of the command, or a value
abbrev pub is_taken : List (String Global) → ℕ → Bool
is_taken words at = not (is_behind_dashes words at)
    && ((nat_eq at 1 && may_begin (argument_at words at))
    || (has_option (argument_at words 1) (argument_at words at) || is_value words at))
