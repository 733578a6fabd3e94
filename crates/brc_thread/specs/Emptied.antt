-- What a heap in which every thread is gathered has at home.
use Rattle.std.specs.Prelude.{◌≡◌, ℕ, zero, suc, ◌<◌, ◌≤◌, ◌||◌, Bool, true, false, if◌then◌else◌, List, [], ◌∷◌, map}
use Rattle.std.specs.Prelude.{length, Option, Some, None}
use mathlib.Core.Option.{some}
use lib.ListN.{get_elem?}
use Rattle.brc_words.specs.declared.limits.TheConstants.{FIRST_MORTAL}
use Rattle.brc_count.specs.block.declared.payload.Payload.{Payload}
use Rattle.brc_count.specs.law.declared.rule.contents.Contents.{Contents}
use Rattle.brc_count.specs.law.rule.Logs.{Run, contents_at}
use Rattle.brc_count.specs.law.world.Heap.{Heap, is_immortal, is_registered, is_gathered}
use Rattle.brc_count.specs.law.world.Holding.{lives_at}
use Rattle.brc_count.specs.table.Shown.{contents_of}

-- every thread that was registered is gathered
abbrev pub AllGathered : Heap → Type 0
AllGathered h = (t : ℕ) → is_registered h t ≡ true → is_gathered h t ≡ true

-- an immortal, or an object that lives, is in the cell
abbrev pub is_used : Heap → ℕ → Bool
is_used h c = is_immortal c || lives_at h c

-- of so many cells from this one on, those in which one is, by rising number
abbrev pub used_from : Heap → ℕ → ℕ → List ℕ
used_from h c zero = []
used_from h c (suc more) = if is_used h c then c ∷ used_from h (suc c) more else used_from h (suc c) more

-- the blocks in the slots, one after the other, as `Rest` gives them
abbrev pub blocks_in : {B : Type 0} → List (Option B) → List B
blocks_in [] = []
blocks_in (None ∷ slots) = blocks_in slots
blocks_in (Some block ∷ slots) = block ∷ blocks_in slots

module _ {A : Type 0} where
  -- the slot has a block, which is the cell's and has these contents
  pub record SlotHas (slots : List (Option (ℕ × Payload A))) (c : ℕ) (contents : Contents) : Type 0 where
    pub payload : Payload A
    pub there : get_elem? slots c ≡ some (Some (c, payload))
    pub holds : contents_of payload ≡ contents

  -- Each object that lives is at home, and so is each immortal, with what was put home there last; and where none lives
  -- there is no block. So the blocks, one after the other, are those of these cells, each once.
  pub record AllAtHome (n : ℕ) (h : Heap) (run : Run) (slots : List (Option (ℕ × Payload A))) : Type 0 where
    pub deep : length slots ≡ n
    pub immortals : (c : ℕ) → c < FIRST_MORTAL → SlotHas slots c (contents_at run c)
    pub live : (c : ℕ) → c < n → lives_at h c ≡ true → SlotHas slots c (contents_at run c)
    pub free : (c : ℕ) → FIRST_MORTAL ≤ c → c < n → lives_at h c ≡ false → get_elem? slots c ≡ some None
    pub cells : map (λ (block : ℕ × Payload A). block.0) (blocks_in slots) ≡ used_from h 0 n
