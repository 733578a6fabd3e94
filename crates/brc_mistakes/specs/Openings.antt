-- The words with which lines begin, and the forms of such lines.
use Rattle.std.specs.Prelude.{ℕ, List, [], ◌∷◌, Option, codes, find}
use Rattle.std.specs.Str.{bytes_eq}
use Rattle.brc_mistakes.specs.declared.line_opening.Opening.{Opening}
use Rattle.brc_mistakes.specs.declared.line_opening.Opening.TheVariants as openings
use Rattle.brc_mistakes.specs.declared.line_opening.TheConstants.{OPENINGS}
use Rattle.brc_mistakes.specs.declared.operand.Operand.{Operand}
use Rattle.brc_mistakes.specs.declared.operand.Operand.TheVariants as operands

-- each word as it stands in a script
abbrev pub word_of : Opening → List ℕ
word_of openings.Section = codes "section"
word_of openings.Int = codes "int"
word_of openings.Text = codes "text"
word_of openings.List = codes "list"
word_of openings.Dict = codes "dict"
word_of openings.Mailbox = codes "mailbox"
word_of openings.Copy = codes "copy"
word_of openings.Drop = codes "drop"
word_of openings.Add = codes "add"
word_of openings.Print = codes "print"
word_of openings.Push = codes "push"
word_of openings.Pop = codes "pop"
word_of openings.Get = codes "get"
word_of openings.Set = codes "set"
word_of openings.Put = codes "put"
word_of openings.Find = codes "find"
word_of openings.Del = codes "del"
word_of openings.Len = codes "len"
word_of openings.Share = codes "share"
word_of openings.Fetch = codes "fetch"
word_of openings.Unshare = codes "unshare"
word_of openings.Send = codes "send"
word_of openings.Recv = codes "recv"
word_of openings.Repeat = codes "repeat"
word_of openings.End = codes "end"

-- the form of its lines, as help has it
abbrev pub form_of : Opening → List ℕ
form_of openings.Section = codes "section NAME"
form_of openings.Int = codes "int R N"
form_of openings.Text = codes "text R BYTES"
form_of openings.List = codes "list R"
form_of openings.Dict = codes "dict R"
form_of openings.Mailbox = codes "mailbox R"
form_of openings.Copy = codes "copy R S"
form_of openings.Drop = codes "drop S"
form_of openings.Add = codes "add R A B"
form_of openings.Print = codes "print S"
form_of openings.Push = codes "push L V"
form_of openings.Pop = codes "pop R L"
form_of openings.Get = codes "get R L I"
form_of openings.Set = codes "set L I V"
form_of openings.Put = codes "put M KEY V"
form_of openings.Find = codes "find R M KEY"
form_of openings.Del = codes "del R M KEY"
form_of openings.Len = codes "len R C"
form_of openings.Share = codes "share NAME V"
form_of openings.Fetch = codes "fetch R NAME"
form_of openings.Unshare = codes "unshare R NAME"
form_of openings.Send = codes "send B V"
form_of openings.Recv = codes "recv R B"
form_of openings.Repeat = codes "repeat N"
form_of openings.End = codes "end"

-- what stands behind it, in order
abbrev pub operands_of : Opening → List Operand
operands_of openings.Section = operands.SectionName ∷ []
operands_of openings.Int = operands.Register ∷ operands.Integer ∷ []
operands_of openings.Text = operands.Register ∷ operands.Text ∷ []
operands_of openings.List = operands.Register ∷ []
operands_of openings.Dict = operands.Register ∷ []
operands_of openings.Mailbox = operands.Register ∷ []
operands_of openings.Copy = operands.Register ∷ operands.Register ∷ []
operands_of openings.Drop = operands.Register ∷ []
operands_of openings.Add = operands.Register ∷ operands.Register ∷ operands.Register ∷ []
operands_of openings.Print = operands.Register ∷ []
operands_of openings.Push = operands.Register ∷ operands.Register ∷ []
operands_of openings.Pop = operands.Register ∷ operands.Register ∷ []
operands_of openings.Get = operands.Register ∷ operands.Register ∷ operands.Index ∷ []
operands_of openings.Set = operands.Register ∷ operands.Index ∷ operands.Register ∷ []
operands_of openings.Put = operands.Register ∷ operands.Key ∷ operands.Register ∷ []
operands_of openings.Find = operands.Register ∷ operands.Register ∷ operands.Key ∷ []
operands_of openings.Del = operands.Register ∷ operands.Register ∷ operands.Key ∷ []
operands_of openings.Len = operands.Register ∷ operands.Register ∷ []
operands_of openings.Share = operands.Name ∷ operands.Register ∷ []
operands_of openings.Fetch = operands.Register ∷ operands.Name ∷ []
operands_of openings.Unshare = operands.Register ∷ operands.Name ∷ []
operands_of openings.Send = operands.Register ∷ operands.Register ∷ []
operands_of openings.Recv = operands.Register ∷ operands.Register ∷ []
operands_of openings.Repeat = operands.Turns ∷ []
operands_of openings.End = []

-- the opening that the bytes spell
unfoldable pub opening_at : List ℕ → Option Opening
opening_at bytes = find (λ opening. bytes_eq (word_of opening) bytes) OPENINGS
