-- Small words on lists: places of a frame, bits of words, marks.
use Rattle.std.specs.Prelude.{ℕ, ◌+◌, ◌-◌, ◌/◌, ◌%◌, ◌^◌, ◌==◌, not, Bool, true, false, List, ◌++◌, length, take}
use Rattle.std.specs.Prelude.{replicate, Option, Some, None, is_some, slice_index_or, slice_get, slice_set, sum_by}
use Rattle.std.specs.Prelude.{count_by, bit_or, bit_xor}
use Rattle.std.specs.Int.{bit_at}

-- 1 for yes
abbrev pub one : Bool → ℕ
one true = 1
one false = 0

-- what stands at a place of a frame; nothing stands past its end
abbrev pub place_at : List (Option ℕ) → ℕ → Option ℕ
place_at frame k = slice_index_or frame k None

-- the frame, made long enough to have the place
abbrev pub reaching : List (Option ℕ) → ℕ → List (Option ℕ)
reaching frame k = frame ++ replicate (k + 1 - length frame) None

-- the frame with this cell in the place
abbrev pub filled : List (Option ℕ) → ℕ → ℕ → List (Option ℕ)
filled frame k c = slice_set (reaching frame k) k (Some c)

-- the frame with nothing in the place
abbrev pub vacated : List (Option ℕ) → ℕ → List (Option ℕ)
vacated frame k = slice_set frame k None

-- whether a place has this cell
abbrev pub names : ℕ → Option ℕ → Bool
names q None = false
names q (Some c) = c == q

-- in how many places the cell stands
abbrev pub times : ℕ → List (Option ℕ) → ℕ
times q frame = sum_by (λ x. one (names q x)) frame

-- how often the cell stands among entries
abbrev pub entry_times : ℕ → List ℕ → ℕ
entry_times q entries = sum_by (λ x. one (x == q)) entries

-- A word of the table has 64 bits: its number is below this one, and an atomic addition is taken modulo it.
abbrev pub WORD_LIMIT : ℕ
WORD_LIMIT = 2 ^ 64

-- the cell's bit, 0 or 1, in words of 32 cells each
abbrev pub bit_of : List ℕ → ℕ → ℕ
bit_of words c = bit_at (slice_index_or words (c / 32) 0) (c % 32)

-- whether a cell is marked
abbrev pub is_marked : List Bool → ℕ → Bool
is_marked marks c = slice_index_or marks c false

-- the last entry, if any
abbrev pub last_of : List ℕ → Option ℕ
last_of xs = slice_get xs (length xs - 1)

-- all entries but the last
abbrev pub front_of : List ℕ → List ℕ
front_of xs = take (length xs - 1) xs

-- the number in an option, or 0
abbrev pub number_in : Option ℕ → ℕ
number_in None = 0
number_in (Some n) = n

-- how many places of a frame have a cell, and that none has
abbrev pub filled_places : List (Option ℕ) → ℕ
filled_places frame = count_by is_some frame

abbrev pub is_bare : List (Option ℕ) → Bool
is_bare frame = filled_places frame == 0

-- how many cells are marked, and that none is
abbrev pub marked_cells : List Bool → ℕ
marked_cells marks = count_by (λ b. b) marks

abbrev pub is_unmarked : List Bool → Bool
is_unmarked marks = marked_cells marks == 0

-- how many words have a bit, and that none has
abbrev pub used_words : List ℕ → ℕ
used_words words = count_by (λ w. not (w == 0)) words

abbrev pub is_blank : List ℕ → Bool
is_blank words = used_words words == 0

abbrev pub word_at : List ℕ → ℕ → ℕ
word_at words k = slice_index_or words k 0

-- the words with the cell's bit set
abbrev pub with_bit : List ℕ → ℕ → List ℕ
with_bit words c = slice_set words (c / 32) (bit_or (word_at words (c / 32)) (2 ^ (c % 32)))

-- the words without the cell's bit, where it was set
abbrev pub without_bit : List ℕ → ℕ → List ℕ
without_bit words c = slice_set words (c / 32) (bit_xor (word_at words (c / 32)) (2 ^ (c % 32)))
