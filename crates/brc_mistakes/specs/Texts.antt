-- What is written of a mistake.
use Rattle.std.specs.Prelude.{ℕ, List, [], ◌∷◌, ◌++◌, codes, decimal, Option, Some, None}
use Rattle.std.specs.List.{flat_map}
use Rattle.brc_text.specs.Excerpts.{quoted}
use Rattle.brc_mistakes.specs.declared.line_opening.Opening.{Opening}
use Rattle.brc_mistakes.specs.declared.operand.Operand.{Operand}
use Rattle.brc_mistakes.specs.declared.operand.Operand.TheVariants as operands
use Rattle.brc_mistakes.specs.declared.mistake.Mistake.{Mistake}
use Rattle.brc_mistakes.specs.declared.mistake.Mistake.TheVariants as mistakes
use Rattle.brc_mistakes.specs.Openings.{word_of, form_of}

-- texts as one, one behind the other
abbrev pub together : List (List ℕ) → List ℕ
together texts = flat_map (λ text. text) texts

-- what a word is to be, and which rule such words keep
abbrev pub rule_of : Operand → List ℕ
rule_of operands.Register = codes "register: r0 to r15"
rule_of operands.Integer = codes "integer of 64 bits"
rule_of operands.Index = codes "index: 0 to 4294967295"
rule_of operands.Turns = codes "number of turns: 0 to 1000000"
rule_of operands.Key = codes "key: an integer, or ' and 1 to 64 bytes"
rule_of operands.Name = codes "name: 1 to 64 bytes"
rule_of operands.SectionName = codes "name of a section: 1 to 32 of a to z and 0 to 9"
rule_of operands.Text = codes "text: 0 to 4096 bytes"

-- nothing, where no word is near
abbrev pub nearest_text : Option Opening → List (List ℕ)
nearest_text None = codes " is no instruction" ∷ []
nearest_text (Some opening) = codes " is no instruction; the nearest is " ∷ word_of opening ∷ []

-- the text of a mistake
abbrev pub mistake_text : Mistake → List ℕ
mistake_text mistakes.TooLong = codes "it has more than 16777216 bytes"
mistake_text mistakes.NoSection = codes "no line begins with section"
mistake_text mistakes.OddComment = codes "the comment has a byte that is not ASCII"
mistake_text mistakes.CarriageReturn = codes "it has a carriage return"
mistake_text mistakes.Tab = codes "it has a tab"
mistake_text mistakes.OddByte = codes "it has a byte that is not printed ASCII"
mistake_text mistakes.WideSpace = codes "a space stands at one of its ends or behind another"
mistake_text (mistakes.NoInstruction word nearest) = quoted word ++ together (nearest_text nearest)
mistake_text (mistakes.NotItsForm opening) = together (codes "its form is " ∷ form_of opening ∷ [])
mistake_text (mistakes.LeadingZero word) = quoted word ++ together (codes " begins with a zero" ∷ [])
mistake_text (mistakes.PlusSign word) = quoted word ++ together (codes " begins with a plus sign" ∷ [])
mistake_text (mistakes.Unfit word operand) = quoted word ++ together (codes " is no " ∷ rule_of operand ∷ [])
mistake_text (mistakes.Twice register) = together (codes "r" ∷ decimal register ∷ codes " stands twice in it" ∷ [])
mistake_text mistakes.BeforeSections = codes "no section begins above it"
mistake_text (mistakes.SameName name) = quoted name ++ together (codes " is the name of another section" ∷ [])
mistake_text mistakes.TooManySections = codes "a script has at most 63 sections"
mistake_text mistakes.NoRepeat = codes "no repeat is open"
mistake_text mistakes.NeverClosed = codes "no end closes it"
mistake_text (mistakes.NotClosedBefore turn line) =
    together (codes "no end closes it before the " ∷ word_of turn ∷ codes " of line " ∷ decimal line ∷ [])
