-- Instructions as plain values, and which of them have a line in a script.
use Rattle.std.specs.Prelude.{◌≡◌, ℕ, ◌^◌, ◌&&◌, not, ◌==◌, nat_le, nat_lt, ℤ, pos, negsuc, List, [], ◌∷◌, length, Bool}
use Rattle.std.specs.Prelude.{true, false}
use Rattle.std.specs.List.{list_all, list_any}
use Rattle.brc_words.specs.declared.key.Key.{Key}
use Rattle.brc_words.specs.declared.key.Key.TheVariants as keys
use Rattle.brc_script.specs.declared.limits.TheConstants.{REGISTERS, MOST_TEXT, MOST_NAME}
use Rattle.brc_script.specs.declared.instruction.Instruction.{Instruction}
use Rattle.brc_script.specs.declared.instruction.Instruction.TheVariants as instructions

-- an instruction, and the number of its line
pub record NumberedLine (A : Type 0) : Type 0 where
  pub number : ℕ
  pub instruction : Instruction A

-- ---- the words of an instruction

-- a byte of a text: from the space to `~`
abbrev pub is_printed : ℕ → Bool
is_printed byte = nat_le 32 byte && nat_le byte 126

-- a byte of a name: from `!` to `~`
abbrev pub is_visible : ℕ → Bool
is_visible byte = nat_le 33 byte && nat_le byte 126

-- the text of an object has 0 to 4,096 bytes
unfoldable pub is_text : List ℕ → Bool
is_text bytes = nat_le (length bytes) MOST_TEXT && list_all is_printed bytes

-- a shared name, like a text that is a key, has 1 to 64
unfoldable pub is_name : List ℕ → Bool
is_name bytes = nat_le 1 (length bytes) && nat_le (length bytes) MOST_NAME && list_all is_visible bytes

-- an integer is an i64
unfoldable pub is_integer : ℤ → Bool
is_integer (pos n) = nat_lt n (2 ^ 63)
is_integer (negsuc n) = nat_lt n (2 ^ 63)

abbrev pub is_register : ℕ → Bool
is_register register = nat_lt register REGISTERS

-- an index is a u32
abbrev pub is_index : ℕ → Bool
is_index index = nat_lt index (2 ^ 32)

-- no two are the same
abbrev pub all_differ : List ℕ → Bool
all_differ [] = true
all_differ (register ∷ registers) = not (list_any (λ other. register == other) registers) && all_differ registers

module _ {A : Type 0} where
  abbrev pub is_key : Key A → Bool
  is_key (keys.Int number) = is_integer number
  is_key (keys.Text bytes) = is_name bytes

  -- the registers that an instruction names, as they stand in its line
  abbrev pub registers_of : Instruction A → List ℕ
  registers_of (instructions.Int to number) = to ∷ []
  registers_of (instructions.Text to text) = to ∷ []
  registers_of (instructions.List to) = to ∷ []
  registers_of (instructions.Dict to) = to ∷ []
  registers_of (instructions.Mailbox to) = to ∷ []
  registers_of (instructions.Copy to from) = to ∷ from ∷ []
  registers_of (instructions.Drop from) = from ∷ []
  registers_of (instructions.Push list value) = list ∷ value ∷ []
  registers_of (instructions.Pop to list) = to ∷ list ∷ []
  registers_of (instructions.Get to list index) = to ∷ list ∷ []
  registers_of (instructions.Set list index value) = list ∷ value ∷ []
  registers_of (instructions.Len to container) = to ∷ container ∷ []
  registers_of (instructions.Put dict key value) = dict ∷ value ∷ []
  registers_of (instructions.Find to dict key) = to ∷ dict ∷ []
  registers_of (instructions.Delete to dict key) = to ∷ dict ∷ []
  registers_of (instructions.Share name value) = value ∷ []
  registers_of (instructions.Fetch to name) = to ∷ []
  registers_of (instructions.Unshare to name) = to ∷ []
  registers_of (instructions.Send mailbox value) = mailbox ∷ value ∷ []
  registers_of (instructions.Receive to mailbox) = to ∷ mailbox ∷ []
  registers_of (instructions.Add to first second) = to ∷ first ∷ second ∷ []
  registers_of (instructions.Print from) = from ∷ []

  -- the registers of one instruction differ
  unfoldable pub registers_differ : Instruction A → Bool
  registers_differ instruction = all_differ (registers_of instruction)

  -- its numbers, texts, keys and names are in their limits
  abbrev pub operands_fit : Instruction A → Bool
  operands_fit (instructions.Int to number) = is_integer number
  operands_fit (instructions.Text to text) = is_text text
  operands_fit (instructions.Get to list index) = is_index index
  operands_fit (instructions.Set list index value) = is_index index
  operands_fit (instructions.Put dict key value) = is_key key
  operands_fit (instructions.Find to dict key) = is_key key
  operands_fit (instructions.Delete to dict key) = is_key key
  operands_fit (instructions.Share name value) = is_name name
  operands_fit (instructions.Fetch to name) = is_name name
  operands_fit (instructions.Unshare to name) = is_name name
  operands_fit _ = true

  -- the instructions that have a line in a script
  pub record HasLine (instruction : Instruction A) : Type 0 where
    pub registers : list_all is_register (registers_of instruction) ≡ true
    pub differ : registers_differ instruction ≡ true
    pub operands : operands_fit instruction ≡ true

  -- it looks into the globals, or changes them
  abbrev pub is_shared : Instruction A → Bool
  is_shared (instructions.Share name value) = true
  is_shared (instructions.Fetch to name) = true
  is_shared (instructions.Unshare to name) = true
  is_shared _ = false
