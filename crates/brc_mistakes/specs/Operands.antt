-- Which words may stand for what.
use Rattle.std.specs.Prelude.{ℕ, ◌==◌, ◌&&◌, nat_le, if◌then◌else◌, Bool, true, false, List, [], ◌∷◌, is_some}
use Rattle.std.specs.List.{list_all}
use Rattle.brc_script.specs.Instructions.{is_text, is_name, is_index}
use Rattle.brc_script.specs.Operands.{within, is_times, register_at, integer_at}
use Rattle.brc_script.specs.Rows.{is_section_name}
use Rattle.brc_mistakes.specs.declared.operand.Operand.{Operand}
use Rattle.brc_mistakes.specs.declared.operand.Operand.TheVariants as operands

-- a key: `'` and a name, or else an integer
unfoldable pub is_key : List ℕ → Bool
is_key [] = false
is_key (first ∷ name) = if first == 39 then is_name name else is_some (integer_at (first ∷ name))

-- the word may stand there
abbrev pub fits : Operand → List ℕ → Bool
fits operands.Register word = is_some (register_at word)
fits operands.Integer word = is_some (integer_at word)
fits operands.Index word = is_some (within is_index word)
fits operands.Turns word = is_some (within is_times word)
fits operands.Key word = is_key word
fits operands.Name word = is_name word
fits operands.SectionName word = is_section_name word
fits operands.Text word = is_text word

-- it is a number, or may be one
abbrev pub is_a_number : Operand → Bool
is_a_number operands.Integer = true
is_a_number operands.Index = true
is_a_number operands.Turns = true
is_a_number operands.Key = true
is_a_number _ = false

-- the word's first byte is this one
unfoldable pub begins_with : ℕ → List ℕ → Bool
begins_with byte [] = false
begins_with byte (first ∷ others) = first == byte

-- without a minus sign in front
unfoldable pub without_sign : List ℕ → List ℕ
without_sign [] = []
without_sign (first ∷ digits) = if first == 45 then digits else first ∷ digits

-- 0 to 9
abbrev pub is_digit : ℕ → Bool
is_digit byte = nat_le 48 byte && nat_le byte 57

-- a zero, and none but digits behind it, or a minus sign and such
abbrev pub begins_with_zero : List ℕ → Bool
begins_with_zero word = begins_with 48 (without_sign word) && list_all is_digit (without_sign word)
