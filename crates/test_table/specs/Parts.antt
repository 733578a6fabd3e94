-- The logs of seats after the parts that worked runs share. The list is at cell 266, and the globals have it under a
-- key.
use Rattle.std.specs.Prelude.{◌≡◌, ℕ, ◌+◌, ◌*◌, ◌%◌, ◌^◌, ℤ, pos, true, List, [], ◌∷◌}
use Rattle.brc_words.specs.Notes.{bare}
use Rattle.brc_words.specs.declared.kind.Kind.{Kind}
use Rattle.brc_words.specs.declared.kind.Kind.TheVariants as kinds
use Rattle.law.specs.declared.world.event.Change.{Change}
use Rattle.law.specs.declared.world.event.Change.TheVariants as changes
use Rattle.law.specs.declared.world.event.Dropped.TheVariants as dropped
use Rattle.law.specs.declared.world.event.Source.TheVariants as sources
use Rattle.law.specs.declared.world.event.Step.TheVariants.{Claim, InitLocal, InitShared, Birth, LocalUp, LocalDown}
use Rattle.law.specs.declared.world.event.Step.TheVariants.{SeeZero, Untie, MergeZero, MergeAdd, SharedUp, Ask}
use Rattle.law.specs.declared.world.event.Step.TheVariants.{Enqueue, Lock, Unlock, Free, Offer}
use Rattle.law.specs.declared.world.row.Hand.TheVariants as hands
use Rattle.law.specs.world.Lists.{bit_of}
use Rattle.law.specs.world.Steps.{is_active, is_free_hand, stage_ok, lock_ok}
use Rattle.law.specs.declared.known.word.Field.TheVariants as fields
use Rattle.law.specs.declared.known.word.Word.TheVariants as words
use Rattle.law.specs.known.Items.{Part}
use Rattle.law.specs.declared.rule.contents.PlainKey.TheVariants as plain
use Rattle.law.specs.declared.rule.contents.Contents.{Contents}
use Rattle.law.specs.declared.rule.contents.Contents.TheVariants as contents
use Rattle.law.specs.declared.rule.told.Moved.TheVariants as moves
use Rattle.law.specs.declared.rule.told.LogItem.{LogItem}
use Rattle.law.specs.declared.rule.told.LogItem.TheVariants.{Stepped, Loaded}
use Rattle.law.specs.rule.Opening.{first_view}
use Rattle.law.specs.rule.Seen.{part_seen}
use Rattle.law.specs.steps.Joining.{registering}
use Rattle.brc_table.specs.Seated.{TableSeen, SeatSeen, RootSeen, Continues}
use Rattle.brc_biased.specs.Standing.{MayCountDown}
use Rattle.test_table.specs.declared.holding.Held.{Held}
use Rattle.test_table.specs.declared.holding.Held.TheVariants as held

-- the globals without entries, with one of this key, and with two of the keys 1 and 2
abbrev pub bare_globals : Contents
bare_globals = contents.Dict []

abbrev pub with_entry : ℤ → ℕ → Contents
with_entry key cell = contents.Dict ((plain.Int key, bare cell) ∷ [])

abbrev pub with_entries : ℕ → Contents
with_entries cell = contents.Dict ((plain.Int (pos 1), bare cell) ∷ (plain.Int (pos 2), bare cell) ∷ [])

abbrev pub globals_with : Held → Contents
globals_with held.Nothing = bare_globals
globals_with (held.One key cell) = with_entry key cell
globals_with (held.Two cell) = with_entries cell

-- two threads have been registered, besides the root, and nothing else was done by it
abbrev pub HasTwo : RootSeen → Type 0
HasTwo root = root.view ≡ registering (registering first_view)

module _ {A : Type 0} where
  -- a seat of this table of 512 cells, with this log and no block out
  abbrev pub StandsAt : List LogItem → TableSeen → SeatSeen A → Type 0
  StandsAt log table seat = (table.cells ≡ 512) × (seat.table ≡ table.table) × (seat.log ≡ log) × (seat.slots ≡ [])

  -- the same thread's seat later, with this log and no block out
  abbrev pub Went : List LogItem → SeatSeen A → SeatSeen A → Type 0
  Went log old new = (new.log ≡ log) × (new.slots ≡ []) × Continues old new

-- ---- what a thread does more than once, from any log

-- it has the globals in this place
abbrev pub globals_log : ℕ → List LogItem → List LogItem
globals_log place log = Stepped (LocalUp (sources.Immortal 265) place) 4294967295 moves.Nothing ∷ log

-- it has locked the globals, which it has in this place, and found these in them
abbrev pub locked_log : ℕ → Held → List LogItem → List LogItem
locked_log place from log = Stepped (Lock place) 0 (moves.Found 265 (globals_with from)) ∷ log

-- and has unlocked them with those
abbrev pub changed_log : ℕ → Held → Held → Change → List LogItem → List LogItem
changed_log place from to change log =
    Stepped (Unlock change) 0 (moves.Put 265 (globals_with to)) ∷ locked_log place from log

-- it has counted the list that is in place 1 up, in another place, where it found this shared word
abbrev pub more_log : ℕ → ℕ → List LogItem → List LogItem
more_log place shared log = Stepped (SharedUp (sources.Frame 1) place) shared moves.Nothing ∷ log

-- it has asked for the list, where it found this shared word and thread 1 as the owner
abbrev pub asked_log : ℕ → List LogItem → List LogItem
asked_log shared log =
    Loaded (words.Of fields.Owner 266) 1 ∷ Stepped (Ask (dropped.Frame 1)) shared moves.Nothing ∷ log

-- and the reference is the first entry in that owner's queue word
abbrev pub enqueued_log : ℕ → List LogItem → List LogItem
enqueued_log shared log = Stepped (Enqueue 266) 0 moves.Nothing ∷ asked_log shared log

-- it has seen the list with this shared word
abbrev pub seen_log : ℕ → List LogItem → List LogItem
seen_log shared log = Loaded (words.Of fields.Shared 266) shared ∷ log

-- then it has made it nobody's, and has added so many references of the owner's own to the shared word
abbrev pub added_log : ℕ → ℕ → List LogItem → List LogItem
added_log shared local log =
    Stepped (MergeAdd 266) ((shared + (local * 4 + 1)) % 2 ^ 64) moves.Nothing
    ∷ Stepped (Untie 266) 0 moves.Nothing
    ∷ seen_log shared log

-- the list is one of the cells that an active thread has popped, and its hand is free for it
pub record HasPopped (n : ℕ) (log : List LogItem) : Type 0 where
  pub active : is_active (part_seen n log).row.stage ≡ true
  pub stands : MayCountDown n log hands.Free
  pub popped : bit_of (part_seen n log).popped 266 ≡ 1

-- a merged list with one reference has this shared word
abbrev pub last_shared : ℕ
last_shared = 4398046511111

-- a thread whose part is this may give the list's cell back
pub record MayFree (part : Part) : Type 0 where
  pub hand : is_free_hand part.row.hand ≡ true
  pub stage : stage_ok part.row.stage (Free 266) ≡ true
  pub lock : lock_ok part.row.locked (Free 266) ≡ true

-- ---- the owner

-- it has made an object, and has it in place 0
abbrev pub made_log : Kind → Contents → ℕ → List LogItem
made_log kind contents thread =
    Stepped (Birth 266 kind 0) thread (moves.Put 266 contents)
    ∷ Stepped (InitShared 266) 4398046511104 moves.Nothing
    ∷ Stepped (InitLocal 266) 1 moves.Nothing
    ∷ Stepped (Claim 266) 18446744073709550592 moves.Nothing
    ∷ []

-- that is the number 7
abbrev pub seven_log : ℕ → List LogItem
seven_log thread = made_log kinds.Int (contents.Int (pos 7)) thread

-- or the list
abbrev pub born_log : ℕ → List LogItem
born_log thread = made_log kinds.List (contents.«List» []) thread

-- it has the globals in place 1, and has put the list into them
abbrev pub shared_log : ℕ → List LogItem
shared_log thread =
    changed_log 1 held.Nothing (held.One (pos 1) 266) (changes.Put 0) (globals_log 1 (born_log thread))

-- and has let the globals go, so that it has nothing any more
abbrev pub given_log : ℕ → List LogItem
given_log thread = Stepped (LocalDown (dropped.Frame 1)) 4294967295 moves.Nothing ∷ shared_log thread

-- and has handed the list over, for which another one has asked
abbrev pub handed_log : ℕ → List LogItem
handed_log thread =
    Stepped (MergeAdd 266) 4398046511111 moves.Nothing
    ∷ Stepped (Untie 266) 0 moves.Nothing
    ∷ Stepped (Offer 266) 4398046511106 moves.Nothing
    ∷ given_log thread

-- it has taken the list out again
abbrev pub taken_back_log : ℕ → List LogItem
taken_back_log thread =
    changed_log 1 (held.One (pos 1) 266) held.Nothing (changes.Take 0 0) (shared_log thread)

-- and has let it go, and merged it, where others had counted it
abbrev pub merged_log : ℕ → ℕ → List LogItem
merged_log thread number =
    Stepped (MergeZero 266) number moves.Nothing
    ∷ Stepped (Untie 266) 0 moves.Nothing
    ∷ Stepped (SeeZero 266) number moves.Nothing
    ∷ Stepped (LocalDown (dropped.Frame 0)) 0 moves.Nothing
    ∷ taken_back_log thread

-- it has the list in places 0 and 1, and the globals in place 2
abbrev pub kept_log : ℕ → List LogItem
kept_log thread = globals_log 2 (Stepped (LocalUp (sources.Frame 0) 1) 2 moves.Nothing ∷ born_log thread)

-- and has put the second reference into them
abbrev pub shared_twice_log : ℕ → List LogItem
shared_twice_log thread = changed_log 2 held.Nothing (held.One (pos 1) 266) (changes.Put 1) (kept_log thread)

-- ---- another thread, which has the globals in place 0

-- it has found the list there, and has counted it up, in place 1
abbrev pub counted_log : List LogItem
counted_log =
    Stepped (Unlock changes.Keep) 0 (moves.Put 265 (with_entry (pos 1) 266))
    ∷ Stepped (SharedUp (sources.Entry 0) 1) 4398046511104 moves.Nothing
    ∷ locked_log 0 (held.One (pos 1) 266) (globals_log 0 [])

-- it has taken the first reference out that was there, in place 1
abbrev pub taken_log : Held → Held → List LogItem
taken_log from to = changed_log 0 from to (changes.Take 0 1) (globals_log 0 [])
