-- What a call on one object finds there, and the calls that look at one: each is told once, and both its forms cite it.
use Rattle.std.specs.Prelude.{◌≡◌, ◌<◌, ◌+◌, ◌++◌, ℕ, ℤ, Bool, true, List, ◌∷◌, Some, Result, length, take, drop}
use Rattle.std.specs.Str.{IsUtf8, bytes_eq}
use Rattle.std.specs.declared.string.String.{String}
use Rattle.std.specs.String.{string_bytes, string_len, string_capacity}
use Rattle.brc_words.specs.declared.fault.Fault.{Fault}
use Rattle.brc_words.specs.declared.fault.Fault.TheVariants as faults
use Rattle.brc_words.specs.declared.kind.Kind.{Kind}
use Rattle.brc_words.specs.declared.kind.Kind.TheVariants as kinds
use Rattle.brc_words.specs.Kinds.{is_container}
use Rattle.brc_count.specs.law.declared.world.event.Change.TheVariants.{Keep}
use Rattle.brc_count.specs.law.declared.world.event.Step.TheVariants.{Lock, Unlock}
use Rattle.brc_count.specs.law.declared.rule.contents.Contents.{Contents}
use Rattle.brc_count.specs.law.declared.rule.contents.Contents.TheVariants as contents
use Rattle.brc_count.specs.law.declared.rule.told.Moved.TheVariants as moves
use Rattle.brc_count.specs.law.declared.rule.told.LogItem.TheVariants.{Stepped}
use Rattle.brc_count.specs.law.rule.Logs.{kind_in, entries_in}
use Rattle.brc_count.specs.Frames.{FrameSeen}
use Rattle.brc_count.specs.Locking.{Busy, cell_in}
use Rattle.brc_things.specs.Called.{Looked}

-- what each call is for
abbrev pub IsInt : Contents → Type 0
IsInt found = kind_in found ≡ kinds.Int

-- a list of bytes; and one that is a text, since its bytes are UTF-8
abbrev pub HoldsBytes : Contents → Type 0
HoldsBytes found = kind_in found ≡ kinds.Text

abbrev pub IsText : Contents → Type 0
IsText (contents.Text text) = IsUtf8 text
IsText _ = ⊥

abbrev pub HoldsContainer : Contents → Type 0
HoldsContainer found = is_container (kind_in found) ≡ true

-- as much of the text, from a byte on, as there is room for; the rest of the room is as it was
abbrev pub shown_from : List ℕ → ℕ → List ℕ → List ℕ
shown_from text from room = take (length room) (drop from text) ++ drop (length (drop from text)) room

module _ {A : Type 0} where
  -- The object in the place was locked, found with these contents, and unlocked as it was found. Nothing else was done.
  pub record LooksAt (old new : FrameSeen A) (k : ℕ) (found : Contents) : Type 0 where
    pub cell : ℕ
    pub of_place : cell_in old k ≡ Some cell
    pub events : new.seat.log ≡ Stepped (Unlock Keep) 0 (moves.Put cell found) ∷ Stepped (Lock k) 0
        (moves.Found cell found)
        ∷ old.seat.log

  -- A call was refused: the object is locked by another thread, and nothing was done but to find that out; it was
  -- looked at, and is of a kind that the call isn't for; or it was looked at, and memory for the answer was missing.
  abbrev pub RefusedLook : FrameSeen A → FrameSeen A → ℕ → (Contents → Type 0) → Fault → Type 0
  RefusedLook old new k fits faults.Busy = Busy old new k
  RefusedLook old new k fits faults.WrongKind = (found : Contents) × LooksAt old new k found × (fits found → ⊥)
  RefusedLook old new k fits _ = ⊥

  -- the same of a call that wants memory for its answer
  abbrev pub RefusedCopy : FrameSeen A → FrameSeen A → ℕ → (Contents → Type 0) → Fault → Type 0
  RefusedCopy old new k fits faults.OutOfMemory = (found : Contents) × LooksAt old new k found × fits found
  RefusedCopy old new k fits fault = RefusedLook old new k fits fault

  -- ---- the calls

  -- what kind of object is in the place; Busy alone is a refusal
  abbrev pub KindOf : FrameSeen A → FrameSeen A → ℕ → Result Kind Fault → Type 0
  KindOf old new k result =
      Looked old new (λ kind. (found : Contents) × LooksAt old new k found × (kind_in found ≡ kind))
      (λ fault. (fault ≡ faults.Busy) × Busy old new k) result

  -- how many entries the container in the place has
  abbrev pub LenOf : FrameSeen A → FrameSeen A → ℕ → Result ℕ Fault → Type 0
  LenOf old new k result =
      Looked old new (λ len. (found : Contents) × LooksAt old new k found × HoldsContainer found
      × (length (entries_in found) ≡ len))
      (RefusedLook old new k HoldsContainer) result

  -- the number of the integer in the place
  abbrev pub IntOf : FrameSeen A → FrameSeen A → ℕ → Result ℤ Fault → Type 0
  IntOf old new k result = Looked old new (λ number. LooksAt old new k (contents.Int number))
      (RefusedLook old new k IsInt) result

  -- the bytes in the place, of which memory for a copy may be missing
  abbrev pub BytesOf : FrameSeen A → FrameSeen A → ℕ → Result (List ℕ) Fault → Type 0
  BytesOf old new k result = Looked old new (λ bytes. LooksAt old new k (contents.Text bytes))
      (RefusedCopy old new k HoldsBytes) result

  -- the same of a text: other bytes are of another kind
  abbrev pub TextOf : FrameSeen A → FrameSeen A → ℕ → Result (List ℕ) Fault → Type 0
  TextOf old new k result = Looked old new (λ text. LooksAt old new k (contents.Text text) × IsUtf8 text)
      (RefusedCopy old new k IsText) result

  -- the same of a call that puts a text into a buffer, and wants memory only where the buffer has no room for it
  abbrev pub RefusedInto : {B : Type 0} → FrameSeen A → FrameSeen A → ℕ → String B → Fault → Type 0
  RefusedInto old new k buffer faults.OutOfMemory =
      (text : List ℕ) × LooksAt old new k (contents.Text text) × IsUtf8 text
      × (string_capacity buffer < string_len buffer + length text)
  RefusedInto old new k buffer fault = RefusedLook old new k IsText fault

  -- the text in the place, after the bytes of a buffer that was `had` and is `has`
  abbrev pub TextInto : {B : Type 0} → FrameSeen A → FrameSeen A → ℕ → String B → String B
      → Result (Unit {0}) Fault → Type 0
  TextInto old new k had has result =
      Looked old new (λ done. (text : List ℕ) × LooksAt old new k (contents.Text text) × IsUtf8 text
      × (string_bytes has ≡ string_bytes had ++ text))
      (RefusedInto old new k had) result

  -- how many bytes are in the place, and these from one on, in room that had `had` and has `has`
  abbrev pub BytesShown : FrameSeen A → FrameSeen A → ℕ → ℕ → List ℕ → List ℕ → Result ℕ Fault → Type 0
  BytesShown old new k from had has result =
      Looked old new (λ len. (bytes : List ℕ) × LooksAt old new k (contents.Text bytes) × (length bytes ≡ len)
      × (has ≡ shown_from bytes from had))
      (RefusedLook old new k HoldsBytes) result

  -- the same of a text
  abbrev pub TextShown : FrameSeen A → FrameSeen A → ℕ → ℕ → List ℕ → List ℕ → Result ℕ Fault → Type 0
  TextShown old new k from had has result =
      Looked old new (λ len. (text : List ℕ) × LooksAt old new k (contents.Text text) × IsUtf8 text × (length text ≡ len)
      × (has ≡ shown_from text from had))
      (RefusedLook old new k IsText) result

  -- whether the bytes in the place are just these
  abbrev pub TextIs : FrameSeen A → FrameSeen A → ℕ → List ℕ → Result Bool Fault → Type 0
  TextIs old new k bytes result =
      Looked old new (λ same. (text : List ℕ) × LooksAt old new k (contents.Text text) × (same ≡ bytes_eq text bytes))
      (RefusedLook old new k HoldsBytes) result
