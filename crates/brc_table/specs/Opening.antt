-- What a table opens with: the words of the opening world, and the block of each immortal.
use Rattle.std.specs.Prelude.{ℕ, zero, suc, ◌-◌, ◌*◌, ◌%◌, ◌^◌, ◌==◌, nat_lt, min, if◌then◌else◌, List, []}
use Rattle.std.specs.Prelude.{◌∷◌, ◌++◌, Option, Some, None}
use Rattle.brc_words.specs.declared.limits.TheConstants.{FIRST_MORTAL}
use Rattle.brc_words.specs.declared.look.TheConstants.{NO_COUNT}
use Rattle.brc_block.specs.declared.payload.Payload.{Payload}
use Rattle.law.specs.declared.rule.contents.Contents.{Contents}
use Rattle.law.specs.known.Free_Words.{free_words_for}
use Rattle.law.specs.rule.Layout.{counts_from, queues_from}
use Rattle.law.specs.rule.Logs.{opening_contents}
use Rattle.brc_table.specs.Shown.{shows}

-- how many of a free word's 64 bits stand for cells below this one
abbrev pub bits_below : ℕ → ℕ → ℕ
bits_below c k = min 64 (c - k * 64)

-- A free word has the bits of the cells from the first mortal one to the last: of 512 cells word 4 is
-- 18446744073709550592, and word 7 is all ones.
abbrev pub opening_free : ℕ → ℕ → ℕ
opening_free n k = 2 ^ bits_below n k - 2 ^ bits_below FIRST_MORTAL k

-- a shared word opens with the count 0; no mutex is locked, and nobody is an owner
abbrev pub opening_count : ℕ → ℕ
opening_count part = if part == 0 then NO_COUNT else 0

-- the word at a spot before the counts: behind the free words nobody is told anything
abbrev pub opening_low : ℕ → ℕ → ℕ
opening_low n at = if nat_lt at (free_words_for n) then opening_free n at else 0

-- the word at a spot from the counts on: behind these nothing is queued
abbrev pub opening_high : ℕ → ℕ → ℕ
opening_high n at = if nat_lt at (queues_from n) then opening_count ((at - counts_from) % 8) else 0

-- the word at a spot
abbrev pub opening_word : ℕ → ℕ → ℕ
opening_word n at = if nat_lt at counts_from then opening_low n at else opening_high n at

-- so many of the words, from the first on
abbrev pub opening_words : ℕ → ℕ → List ℕ
opening_words n zero = []
opening_words n (suc at) = opening_words n at ++ opening_word n at ∷ []

-- the cell of the block in a slot, and what it holds
abbrev pub slot_shows : {A : Type 0} → Option (ℕ × Payload A) → Option (ℕ × Contents)
slot_shows None = None
slot_shows (Some block) = Some (shows block)

abbrev pub opening_slot : ℕ → Option (ℕ × Contents)
opening_slot c = if nat_lt c FIRST_MORTAL then Some (c, opening_contents c) else None

-- so many of the slots, from the first on
abbrev pub opening_slots : ℕ → List (Option (ℕ × Contents))
opening_slots zero = []
opening_slots (suc c) = opening_slots c ++ opening_slot c ∷ []
