-- Whether two texts have the same bytes, found piece by piece. A thread looks at one text and then at the other, and its log
-- has what each look found.
use Rattle.std.specs.Prelude.{◌≡◌, ◌≢◌, ◌+◌, ◌<◌, ◌≤◌, ℕ, Bool, true, false, Option, Some, None, Result, Ok, Err}
use Rattle.std.specs.Prelude.{List, ◌∷◌, ◌++◌, length, take, drop}
use Rattle.std.specs.declared.alloc.Global.{Global}
use Rattle.brc_words.specs.declared.fault.Fault.{Fault}
use Rattle.brc_count.specs.law.declared.world.event.Step.TheVariants.{Lock}
use Rattle.brc_count.specs.law.declared.rule.contents.Contents.{Contents}
use Rattle.brc_count.specs.law.declared.rule.contents.Contents.TheVariants as contents
use Rattle.brc_count.specs.law.declared.rule.told.Moved.TheVariants as moves
use Rattle.brc_count.specs.law.declared.rule.told.LogItem.{LogItem}
use Rattle.brc_count.specs.law.declared.rule.told.LogItem.TheVariants.{Stepped}
use Rattle.brc_count.specs.Frames.{FrameSeen}
use Rattle.brc_count.specs.Locking.{cell_in}
use Rattle.brc_things.specs.Called.{Looked}
use Rattle.brc_things.specs.Looking.{LooksAt, RefusedLook, HoldsBytes}
use Rattle.brc_client.specs.declared.status.Status.{Status}
use Rattle.brc_client.specs.Calls.{OfNamed, ByHeap}
use Rattle.brc_client.specs.Clients.{ClientSeen, Names, NamesNone}

-- ---- one piece of each

-- the text in the place, as one look found it; or why it was refused
abbrev pub TextFound : FrameSeen Global → FrameSeen Global → ℕ → Result (List ℕ) Fault → Type 0
TextFound old new k result =
    Looked old new (λ text. LooksAt old new k (contents.Text text)) (RefusedLook old new k HoldsBytes) result

-- Two texts are alike in a piece: they are of one length, and have the same bytes from a byte on, as many as these.
pub record IsAlike (from size : ℕ) (text beside : List ℕ) : Type 0 where
  pub lengths : length text ≡ length beside
  pub pieces : take size (drop from text) ≡ take size (drop from beside)

-- one look found the text in the one place, the next that in the other, and of the two this is so
pub record BothFound (old new : FrameSeen Global) (one other : ℕ) (P : List ℕ → List ℕ → Type 0) : Type 0 where
  pub between : FrameSeen Global
  pub text : List ℕ
  pub beside : List ℕ
  pub first : TextFound old between one (Ok text)
  pub second : TextFound between new other (Ok beside)
  pub so : P text beside

-- the look at the one place was refused; or it found a text, and the look at the other place was refused
pub data EitherRefused (old new : FrameSeen Global) (one other : ℕ) (fault : Fault) : Type 0 where
  OneRefused : TextFound old new one (Err fault) → EitherRefused old new one other fault
  OtherRefused : (between : FrameSeen Global) (text : List ℕ) → TextFound old between one (Ok text)
      → TextFound between new other (Err fault) → EitherRefused old new one other fault

-- One look at each, at a piece from a byte on. The texts differ. Or they are alike in it, and nothing is behind it. Or they
-- are alike in it, and more is behind it: there is no answer yet. Or a look was refused.
abbrev pub ComparesPiece : FrameSeen Global → FrameSeen Global → ℕ → ℕ → ℕ → ℕ → Result (Option Bool) Fault → Type 0
ComparesPiece old new one other from size (Ok (Some false)) =
    BothFound old new one other (λ text beside. IsAlike from size text beside → ⊥)
ComparesPiece old new one other from size (Ok (Some true)) =
    BothFound old new one other (λ text beside. IsAlike from size text beside × (length text ≤ from + size))
ComparesPiece old new one other from size (Ok None) =
    BothFound old new one other (λ text beside. IsAlike from size text beside × (from + size < length text))
ComparesPiece old new one other from size (Err fault) = EitherRefused old new one other fault

-- ---- all pieces

-- The texts in two places were compared from a byte on, in pieces of at most 4,096 bytes. A piece gave the answer, or was
-- refused; or both were alike in it, and were compared from its end on.
pub data Compares (one other : ℕ) : ℕ → FrameSeen Global → FrameSeen Global → Result Bool Fault → Type 0 where
  PieceAnswers : (from size : ℕ) (old new : FrameSeen Global) (answer : Bool) → size ≤ 4096
      → ComparesPiece old new one other from size (Ok (Some answer)) → Compares one other from old new (Ok answer)
  PieceRefused : (from : ℕ) (old new : FrameSeen Global) (fault : Fault) → EitherRefused old new one other fault
      → Compares one other from old new (Err fault)
  PieceAlike : (from size : ℕ) (old mid new : FrameSeen Global) (result : Result Bool Fault) → size ≤ 4096
      → ComparesPiece old mid one other from size (Ok None) → Compares one other (from + size) mid new result
      → Compares one other from old new result

-- One object is in both places: it is equal to itself, and nothing was done. Or the texts of two objects were compared.
pub data ComparesCells (old new : FrameSeen Global) (one other : ℕ) (result : Result Bool Fault) : Type 0 where
  OneCell : cell_in old one ≡ cell_in old other → new ≡ old → result ≡ Ok true → ComparesCells old new one other result
  TwoCells : cell_in old one ≢ cell_in old other → Compares one other 0 old new result
      → ComparesCells old new one other result

-- ---- two numbers

-- Why a call on the objects of two numbers was refused. One of the numbers names none, and nothing was done; or the heap
-- refused.
pub data RefusedOfTwo (call : ℕ → ℕ → Fault → Type 0) (old new : ClientSeen) (one other : ℕ) (status : Status) : Type 0 where
  OneUnnamed : NamesNone old one status → new ≡ old → RefusedOfTwo call old new one other status
  OtherUnnamed : Names old one → NamesNone old other status → new ≡ old → RefusedOfTwo call old new one other status
  OnObjects : OfNamed old one (λ first. OfNamed old other (λ second. ByHeap (call first.place second.place) status))
      → RefusedOfTwo call old new one other status

-- what the call on the objects of two numbers answered; or why it was refused
module _ {T : Type 0} where
  abbrev pub LooksAtTwo : (ℕ → ℕ → Result T Fault → Type 0) → ClientSeen → ClientSeen → ℕ → ℕ → Result T Status → Type 0
  LooksAtTwo call old new one other (Ok found) =
      OfNamed old one (λ first. OfNamed old other (λ second. call first.place second.place (Ok found)))
  LooksAtTwo call old new one other (Err status) =
      RefusedOfTwo (λ k j fault. call k j (Err fault)) old new one other status

-- ---- texts that nobody changes

-- each locking of the object in the place, from the one frame to the other, found this text
abbrev pub FindsOnly : FrameSeen Global → FrameSeen Global → ℕ → List ℕ → Type 0
FindsOnly old new k text = (later earlier : List LogItem) (number cell : ℕ) (found : Contents)
    → new.seat.log ≡ later ++ (Stepped (Lock k) number (moves.Found cell found) ∷ (earlier ++ old.seat.log))
    → found ≡ contents.Text text
