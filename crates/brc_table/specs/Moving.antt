-- Blocks that move: out of the table with a seat, and home.
use Rattle.std.specs.Prelude.{◌≡◌, ℕ, ◌/◌, ◌%◌, ◌==◌, ◌<◌, bit_and, Bool, true, false, List, [], ◌∷◌, Option, Some}
use Rattle.std.specs.Prelude.{None}
use Rattle.std.specs.Int.{bit_at}
use prog.Atomic.{either}
use Rattle.atomic_table.specs.Table.{Me, Allows, rest}
use Rattle.brc_block.specs.declared.payload.Payload.{Payload}
use Rattle.law.specs.declared.world.event.Step.{Step}
use Rattle.law.specs.world.Lists.{WORD_LIMIT}
use Rattle.law.specs.world.Steps.{takes_block}
use Rattle.law.specs.declared.known.word.Field.TheVariants.{Shared, Mutex}
use Rattle.law.specs.declared.known.word.Word.{Word}
use Rattle.law.specs.declared.known.word.Word.TheVariants.{Of, FreeWord}
use Rattle.law.specs.known.Items.{cell_told}
use Rattle.law.specs.declared.rule.contents.Contents.{Contents}
use Rattle.law.specs.declared.rule.contents.Contents.TheVariants.{Nothing}
use Rattle.law.specs.declared.rule.told.Moved.{Moved}
use Rattle.law.specs.declared.rule.told.Moved.TheVariants as moves
use Rattle.law.specs.declared.rule.told.LogItem.{LogItem}
use Rattle.law.specs.declared.rule.view.View.{View}
use Rattle.law.specs.rule.Layout.{spot}
use Rattle.law.specs.rule.Rule.{with_told, Kept}
use Rattle.law.specs.rule.Seen.{contents_locked, part_seen}
use Rattle.law.specs.steps.Taking.{EndedObject, Claimed, LockedOrBusy}
use Rattle.brc_table.specs.Shown.{shows, contents_of}

-- what the thread's newest locking found
abbrev pub found_or : Contents → Option Contents → Contents
found_or contents None = contents
found_or contents (Some found) = found

abbrev pub found_locked : List LogItem → Contents
found_locked log = found_or Nothing (contents_locked log)

-- what the thread has given back so far is a number of 64 bits
abbrev pub FewFrees : ℕ → List LogItem → Type 0
FewFrees n log = (part_seen n log).row.frees < WORD_LIMIT

module _ {A : Type 0} where
  -- ---- what a step that may take a block answers

  abbrev pub is_there : Option (ℕ × Payload A) → Bool
  is_there None = false
  is_there (Some block) = true

  -- what goes with the step: the contents of the block that it found
  abbrev pub found_in : ℕ → Option (ℕ × Payload A) → Moved
  found_in c None = moves.Nothing
  found_in c (Some block) = moves.Found c (contents_of block.1)

  -- the slots that are out with the seat: that of the block is among them, and it is empty
  abbrev pub out_with : ℕ → Option (ℕ × Payload A) → List (ℕ × Option (ℕ × Payload A))
      → List (ℕ × Option (ℕ × Payload A))
  out_with c None slots = slots
  out_with c (Some block) slots = (c, None) ∷ slots

  -- the slot that the seat took last is emptied
  abbrev pub emptied : ℕ → Option (ℕ × Payload A) → List (ℕ × Option (ℕ × Payload A))
      → List (ℕ × Option (ℕ × Payload A))
  emptied c None slots = slots
  emptied c (Some block) slots = (c, None) ∷ rest slots

  -- the slot that the seat took last is the cell's, and has a block
  pub record HasBlock (c : ℕ) (slots : List (ℕ × Option (ℕ × Payload A))) : Type 0 where
    pub block : ℕ × Payload A
    pub there : slots ≡ (c, Some block) ∷ rest slots

  -- what a step puts home: the block in the slot that the seat took last
  abbrev pub put_home : List (ℕ × Option (ℕ × Payload A)) → Moved
  put_home [] = moves.Nothing
  put_home ((c, None) ∷ slots) = moves.Nothing
  put_home ((c, Some block) ∷ slots) = moves.Put c (contents_of block.1)

  -- ---- what an operation may be

  module _ (n limit id : ℕ) (me : Me (Option (ℕ × Payload A)) View) where
    -- The shared word becomes f of what it was, as this step, and where the object is dead the seat has its block. m
    -- and d are n and c, as a ghost value gives them to what is told; so below.
    abbrev pub MayEnd : ℕ → (ℕ → ℕ) → ℕ → Step → ℕ → Type 0
    MayEnd c f m s d = Allows (Kept shows n limit) n id me (spot n (Of Shared c)) f
        (λ there after. EndedObject shows m me.0 me.1 s d there (takes_block s (cell_told s there)) after)

    -- the same of a step that is told another number than the one found
    abbrev pub MayEndAt : ℕ → (ℕ → ℕ) → (ℕ → ℕ) → ℕ → Step → ℕ → Type 0
    MayEndAt c f told m s d = Allows (Kept shows n limit) n id me (spot n (Of Shared c)) f
        (λ there after. EndedObject shows m me.0 me.1 s d (told there) (takes_block s (cell_told s (told there))) after)

    -- the cell's free word keeps the bits of the mask, and where it had the cell's bit the seat has its slot
    abbrev pub MayClaim : ℕ → ℕ → ℕ → ℕ → Type 0
    MayClaim c mask m d = Allows (Kept shows n limit) n id me (spot n (FreeWord (c / 64))) (λ there. bit_and there mask)
        (λ there after. Claimed m me.0 me.1 d there (bit_at there (d % 64) == 1) after)

    -- an unlocked object's mutex word becomes the new number, and the seat has its block
    abbrev pub MayLock : ℕ → ℕ → ℕ → ℕ → ℕ → Type 0
    MayLock c new m k d = Allows (Kept shows n limit) n id me (spot n (Of Mutex c))
        (λ there. either (there == 0) new there)
        (λ there after. LockedOrBusy shows m me.0 me.1 k d there (there == 0) after)

    -- A word becomes f of what it was, as the item that this tells, and the slot that the seat took last is home; what
    -- the thread has given back so far is a number of 64 bits.
    abbrev pub MayGiveBy : Word → (ℕ → ℕ) → (ℕ → LogItem) → Type 0
    MayGiveBy w f item = Allows (Kept shows n limit) n id me (spot n w) f
        (λ there after. after ≡ (with_told (item there) me.0, rest me.1))

    abbrev pub MayGiveByOfFew : Word → (ℕ → ℕ) → (ℕ → LogItem) → ℕ → Type 0
    MayGiveByOfFew w f item m = Allows (Kept shows n limit) n id me (spot n w) f
        (λ there after. (after ≡ (with_told (item there) me.0, rest me.1)) × FewFrees m after.0.log)

    -- the same by a store
    abbrev pub MayGive : Word → ℕ → LogItem → Type 0
    MayGive w new item = MayGiveBy w (λ _. new) (λ _. item)

    abbrev pub MayGiveOfFew : Word → ℕ → LogItem → ℕ → Type 0
    MayGiveOfFew w new item m = MayGiveByOfFew w (λ _. new) (λ _. item) m
