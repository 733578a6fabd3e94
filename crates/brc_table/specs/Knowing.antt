-- What a seat knows by its log, and what a call makes of it: so nobody above unfolds a log.
use Rattle.std.specs.Prelude.{◌≡◌, ◌≢◌, ℕ, ◌%◌, true, false, List, [], Option, Some, None}
use Rattle.brc_block.specs.declared.payload.Payload.{Payload}
use Rattle.brc_words.specs.declared.look.TheConstants.{ONE_COUNT}
use Rattle.law.specs.declared.world.event.Dropped.{Dropped}
use Rattle.law.specs.world.Lists.{names}
use Rattle.law.specs.declared.known.word.Field.{Field}
use Rattle.law.specs.declared.known.word.Word.TheVariants.{Of}
use Rattle.law.specs.known.Owners_Seen.{has_seen_owner}
use Rattle.law.specs.known.Risen.{drop_in}
use Rattle.law.specs.known.Locked.{locked_of}
use Rattle.law.specs.known.Going_On.{Known, known_of}
use Rattle.law.specs.declared.rule.told.LogItem.{LogItem}
use Rattle.law.specs.rule.Logs.{log_items, entries_in}
use Rattle.law.specs.rule.Noted.{is_of, noted, newest_step}
use Rattle.law.specs.rule.Seen.{part_seen, counts_seen, risen_seen, taken_seen}
use Rattle.brc_table.specs.Shown.{contents_of}

-- the thread's part of the world, the counts of its own objects, the dead blocks that it has, and what it has locked
abbrev pub known_seen : ℕ → List LogItem → Known
known_seen n log = known_of n (log_items log)

-- by this log that is what the seat knows
pub record Knows (n : ℕ) (log : List LogItem) (now : Known) : Type 0 where
  pub part : part_seen n log ≡ now.part
  pub counts : (c : ℕ) → counts_seen n log c ≡ now.counts c
  pub blocks : taken_seen n log ≡ now.blocks
  pub lock : locked_of (log_items log) ≡ now.lock

-- What was seen risen is seen so by this log too, exactly where its place, or its last entry, still has the cell; and
-- who was found as an owner stays found.
pub record KeepsNotes (n : ℕ) (before log : List LogItem) : Type 0 where
  pub risen : (drop : Dropped) (c : ℕ) → risen_seen n before drop c ≡ true
      → risen_seen n log drop c ≡ names c (drop_in (part_seen n log) drop)
  pub owners : (q : ℕ) → has_seen_owner (log_items before) q ≡ true → has_seen_owner (log_items log) q ≡ true

-- a shared word in another state than default was found: each place and last entry that has the cell has it seen risen
pub record SeesRisen (n : ℕ) (before : List LogItem) (c number : ℕ) (log : List LogItem) : Type 0 where
  pub risen : number % ONE_COUNT ≢ 0 → (drop : Dropped) → drop_in (part_seen n before) drop ≡ Some c
      → risen_seen n log drop c ≡ true

-- the number found in this word of the cell is noted, and what was noted of other words stays so
pub record NotesNumber (field : Field) (c number : ℕ) (before log : List LogItem) : Type 0 where
  pub here : noted field c log ≡ Some number
  pub others : (other : Field) (d : ℕ) → is_of other d (Of field c) ≡ false → noted other d log ≡ noted other d before
  pub newest : newest_step log ≡ newest_step before

module _ {A : Type 0} where
  -- the entries of the block that a call answers
  abbrev pub entries_of : Option (ℕ × Payload A) → List ℕ
  entries_of None = []
  entries_of (Some block) = entries_in (contents_of block.1)
