-- What `print` shows of an object, as the plain meaning of a section words it.
use Rattle.std.specs.Prelude.{◌≡◌, ℕ, true, false, List, [], ◌∷◌, ◌++◌, codes, decimal, Option, Result, Ok, Err}
use Rattle.std.specs.Prelude.{MatchResult}
use Rattle.std.specs.Fmt.{signed_decimal}
use Rattle.brc_words.specs.declared.fault.Fault.{Fault}
use Rattle.brc_script.specs.declared.instruction.Instruction.TheVariants as instructions
use Rattle.brc_count.specs.Frames.{FrameSeen, HandleSeen}
use Rattle.brc_meaning.specs.declared.state.State.{State}
use Rattle.brc_meaning.specs.Objects.{text_in}
use Rattle.brc_meaning.specs.Steps.{after}
use Rattle.brc_count.specs.law.living.Living.{OwnLog}
use Rattle.law_isolation.specs.Means.{Means}
use Rattle.law_isolation.specs.Goes.{is_want}
use Rattle.law_isolation.specs.Calls.{Finds}
use Rattle.brc_instructions.specs.declared.shown.Shown.{Shown}
use Rattle.brc_instructions.specs.Doing.{Reading}
use Rattle.brc_instructions.specs.declared.shown.Shown.TheVariants as shown

module _ {A : Type 0} where
  -- the text of its line
  abbrev pub text_shown : Shown A → List ℕ
  text_shown (shown.Integer number) = signed_decimal number
  text_shown (shown.Text bytes) = bytes
  text_shown (shown.List entries) = codes "list " ++ decimal entries
  text_shown (shown.Dict entries) = codes "dict " ++ decimal entries
  text_shown (shown.Mailbox entries) = codes "mailbox " ++ decimal entries

  -- ---- by the plain meaning of a section

  -- the state, with this line printed after all others
  abbrev pub with_line : List ℕ → State A → State A
  with_line text s = record s { printed = s.printed ++ (text ++ 10 ∷ []) }

  -- what is shown is the text of the object that the register refers to; nothing but want is in the way
  abbrev pub ShownAs : ℕ → State A → Result (Shown A) Fault → Type 0
  ShownAs r s result = MatchResult result (λ shown. Finds r s (λ object. text_in object ≡ text_shown shown))
      (λ fault. is_want fault ≡ true)

  -- `print` shows what it is meant to print; or it is refused as it is meant to be, unless something was wanting
  abbrev pub PrintsAs : ℕ → FrameSeen A → List (Option HandleSeen) → ℕ → State A → Result (Shown A) Fault → Type 0
  PrintsAs base frame registers from s result = MatchResult result
      (λ shown. (after (instructions.Print from) s ≡ Ok (with_line (text_shown shown) s))
      × Means base frame registers s)
      (λ fault. is_want fault ≡ false → (after (instructions.Print from) s ≡ Err fault) × Means base frame registers s)

  -- from any state that frame and registers meant
  abbrev pub PrintsFrom : ℕ → Reading (Shown A) A
  PrintsFrom from old new registers result = (base : ℕ) (s : State A) → OwnLog new.heap.cells new.seat.log
      → Means base old registers s → PrintsAs base new registers from s result
