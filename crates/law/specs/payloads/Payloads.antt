-- The payloads of private cells: what their thread put home there last, told by its log alone. No other thread opens
-- such a cell, so that is what a locking finds there.
use Rattle.std.specs.Prelude.{◌≡◌, ℕ, ◌<◌, Bool, true, if◌then◌else◌, List, [], ◌∷◌, Option, Some, None, slice_get}
use Rattle.brc_words.specs.declared.limits.TheConstants.{GLOBALS}
use Rattle.law.specs.declared.world.event.Step.TheVariants.{Lock}
use Rattle.law.specs.declared.rule.contents.Contents.{Contents}
use Rattle.law.specs.declared.rule.told.Moved.TheVariants as moves
use Rattle.law.specs.declared.rule.told.LogItem.{LogItem}
use Rattle.law.specs.declared.rule.told.LogItem.TheVariants.{Stepped}
use Rattle.law.specs.rule.Logs.{log_items, put_in, opening_contents, entries_in}
use Rattle.law.specs.rule.Seen.{contents_locked}
use Rattle.law.specs.private.Own_Entries.{is_own, keeps_own}
use Rattle.law.specs.private.Private.{private_of, locked_told}

-- the private cells of the log's thread, in a heap of n cells
abbrev pub private_seen : ℕ → List LogItem → ℕ → Bool
private_seen n log = private_of n (log_items log)

-- what the log's own steps put home last in a cell; before the first, what the heap was opened with
abbrev pub last_put : List LogItem → ℕ → Contents
last_put [] c = opening_contents c
last_put (x ∷ log) c = put_in x c (last_put log c)

-- the payload of each private cell, and of no other
abbrev pub payloads_of : ℕ → List LogItem → ℕ → Option Contents
payloads_of n log c = if private_seen n log c then Some (last_put log c) else None

-- What a locking of the cell found is its payload, where the cell was private before; in the cells below the globals,
-- None, False, True and the integers from -5 to 256, it found what the heap was opened with.
pub record FindsOwn (n : ℕ) (before : List LogItem) (c : ℕ) (found : Contents) : Type 0 where
  pub private : (payload : Contents) → payloads_of n before c ≡ Some payload → found ≡ payload
  pub small : c < GLOBALS → found ≡ opening_contents c

-- of an item with those before it
abbrev pub LockingFits : ℕ → List LogItem → LogItem → Type 0
LockingFits n before (Stepped (Lock k) number (moves.Found c found)) = FindsOwn n before c found
LockingFits n before x = Unit {0}

-- each locking of the log found what was the thread's own
abbrev pub OwnLocks : ℕ → List LogItem → Type 0
OwnLocks n [] = Unit {0}
OwnLocks n (x ∷ log) = OwnLocks n log × LockingFits n log x

-- the cell that the log's thread has locked
abbrev pub locked_seen : ℕ → List LogItem → Option ℕ
locked_seen n log = locked_told n (log_items log)

-- what is locked now was found so, and is so until the unlocking
pub record HasOwn (n : ℕ) (log : List LogItem) (c : ℕ) : Type 0 where
  pub private : (payload : Contents) → payloads_of n log c ≡ Some payload → contents_locked log ≡ Some payload
  pub small : c < GLOBALS → contents_locked log ≡ Some (opening_contents c)

-- ---- what payloads lead to

-- each unlock of the log put own cells alone into private ones
abbrev pub keeps_own_seen : ℕ → List LogItem → Bool
keeps_own_seen n log = keeps_own n (log_items log)

-- the cells that the contents hold are private to the log's thread, or below the globals
abbrev pub HoldsOwn : ℕ → List LogItem → Contents → Type 0
HoldsOwn n log contents = (i c : ℕ) → slice_get (entries_in contents) i ≡ Some c → is_own (private_seen n log) c ≡ true
