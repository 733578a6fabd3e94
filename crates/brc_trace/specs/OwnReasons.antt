-- Why a step doesn't fit its thread's own part: the tests of `law::world`, `specs/world/Steps.antt`, and which fails
-- first.
use Rattle.std.specs.Prelude.{◌≡◌, ◌≤◌, ℕ, ◌==◌, nat_lt, not, Bool, true, false, if◌then◌else◌, length}
use Rattle.std.specs.Prelude.{Option, Some, None, is_some, is_none}
use Rattle.brc_words.specs.declared.limits.TheConstants.{MOST_ENTRIES, MOST_BIRTHS, MOST_PLACES}
use Rattle.brc_words.specs.Kinds.{is_mortal}
use Rattle.law.specs.declared.world.event.Event.{Event}
use Rattle.law.specs.declared.world.event.Step.{Step}
use Rattle.law.specs.declared.world.event.Step.TheVariants.{Claim, Birth, LocalUp, Free, Untie, SharedUp, LastDown}
use Rattle.law.specs.declared.world.event.Step.TheVariants.{Drain, Close, Unlock, Gather, Offer, Reopen}
use Rattle.law.specs.declared.world.event.LastDropped.TheVariants as lasts
use Rattle.law.specs.declared.world.event.Change.{Change}
use Rattle.law.specs.declared.world.event.Change.TheVariants as changes
use Rattle.law.specs.declared.world.row.Stage.{Stage}
use Rattle.law.specs.world.Lists.{place_at, is_marked, bit_of, is_bare, is_blank, is_unmarked}
use Rattle.law.specs.world.Heap.{Heap, entries_at, row_at, frame_at, popped_at, worklist_at, words_for}
use Rattle.law.specs.world.Steps.{is_empty, is_closed, closes_next, opens_next, untie_ok, is_unlocked, may_begin_closing}
use Rattle.brc_state.specs.OwnPart.{locked_entries_at}
use Rattle.brc_trace.specs.Lowest.{lowest_at}
use Rattle.brc_trace.specs.declared.lowest.SoughtThread.TheVariants as sought
use Rattle.brc_trace.specs.declared.own_reasons.OwnReason.{OwnReason}
use Rattle.brc_trace.specs.declared.own_reasons.OwnReason.TheVariants as owns

-- ---- what a reason says

-- this is so of a lowest number, if there is one, and else of the whole pile
abbrev pub IsSoOfLowest : (ℕ → Type 0) → Type 0 → Option ℕ → Type 0
IsSoOfLowest IsSo pile None = pile
IsSoOfLowest IsSo pile (Some n) = IsSo n

-- what a reason says of the thread's own part
abbrev pub IsOwnSo : Heap → ℕ → OwnReason → Type 0
IsOwnSo h t owns.ManyBirths = MOST_BIRTHS ≤ (row_at h t).allocs
IsOwnSo h t (owns.ImmortalKind kind) = is_mortal kind ≡ false
IsOwnSo h t (owns.PlaceTooHigh k) = MOST_PLACES ≤ k
IsOwnSo h t (owns.PlaceFilled k) = is_some (place_at (frame_at h t) k) ≡ true
IsOwnSo h t (owns.PlaceVacant k) = is_some (place_at (frame_at h t) k) ≡ false
IsOwnSo h t (owns.PlaceLocked k) = (row_at h t).locked ≡ Some k
IsOwnSo h t (owns.NoEntry i) = length (locked_entries_at h t) ≤ i
IsOwnSo h t owns.ManyEntries = MOST_ENTRIES ≤ length (locked_entries_at h t)
IsOwnSo h t (owns.HasEntries c) = is_empty (entries_at h c) ≡ false
IsOwnSo h t (owns.NotOnWorklist c) = is_marked (worklist_at h t) c ≡ false
IsOwnSo h t (owns.OnWorklist c) = is_marked (worklist_at h t) c ≡ true
IsOwnSo h t (owns.NotPopped c) = (bit_of (popped_at h t) c == 1) ≡ false
IsOwnSo h t (owns.NoWord k) = words_for (length h.cells) ≤ k
IsOwnSo h t (owns.WordClosed k) = is_closed (row_at h t).stage k ≡ true
IsOwnSo h t (owns.WordOpen k) = is_closed (row_at h t).stage k ≡ false
IsOwnSo h t (owns.NotNextToClose k) = closes_next (row_at h t).stage k ≡ false
IsOwnSo h t (owns.NotNextToOpen k) = opens_next (row_at h t).stage k ≡ false
IsOwnSo h t (owns.StillFilled k) =
    IsSoOfLowest (λ n. is_some (place_at (frame_at h t) n) ≡ true) (is_bare (frame_at h t) ≡ false) k
IsOwnSo h t (owns.StillPopped c) =
    IsSoOfLowest (λ n. (bit_of (popped_at h t) n == 1) ≡ true) (is_blank (popped_at h t) ≡ false) c
IsOwnSo h t (owns.StillWork c) =
    IsSoOfLowest (λ n. is_marked (worklist_at h t) n ≡ true) (is_unmarked (worklist_at h t) ≡ false) c

-- ---- which reason is told

-- this reason, where the test fails; else the next, if any
abbrev pub unless : {Reason : Type 0} → Bool → Reason → Option Reason → Option Reason
unless true reason next = next
unless false reason next = Some reason

-- a place that is to be filled
abbrev pub vacancy : Heap → ℕ → ℕ → Option OwnReason → Option OwnReason
vacancy h t k next =
    unless (nat_lt k MOST_PLACES) (owns.PlaceTooHigh k)
    (unless (is_none (place_at (frame_at h t) k)) (owns.PlaceFilled k) next)

-- a place that an unlock changes isn't the locked one
abbrev pub place_reason : Heap → ℕ → ℕ → Option OwnReason
place_reason h t k = unless (is_unlocked (row_at h t).locked k) (owns.PlaceLocked k) None

-- an entry of the locked object that is to be there
abbrev pub entry_reason : Heap → ℕ → ℕ → Option OwnReason → Option OwnReason
entry_reason h t i next = unless (nat_lt i (length (locked_entries_at h t))) (owns.NoEntry i) next

-- a place whose cell is to become an entry
abbrev pub given_reason : Heap → ℕ → ℕ → Option OwnReason
given_reason h t k = unless (is_some (place_at (frame_at h t) k)) (owns.PlaceVacant k) (place_reason h t k)

abbrev pub put_reason : Heap → ℕ → ℕ → Option OwnReason
put_reason h t k =
    unless (nat_lt (length (locked_entries_at h t)) MOST_ENTRIES) owns.ManyEntries (given_reason h t k)

abbrev pub take_reason : Heap → ℕ → ℕ → ℕ → Option OwnReason
take_reason h t i k = entry_reason h t i (vacancy h t k (place_reason h t k))

abbrev pub swap_reason : Heap → ℕ → ℕ → ℕ → Option OwnReason
swap_reason h t i k = entry_reason h t i (given_reason h t k)

abbrev pub change_reason : Heap → ℕ → Change → Option OwnReason
change_reason h t changes.Keep = None
change_reason h t (changes.Put k) = put_reason h t k
change_reason h t (changes.Take i k) = take_reason h t i k
change_reason h t (changes.Swap i k) = swap_reason h t i k

-- a dead block that is to be given back
abbrev pub free_reason : Heap → ℕ → ℕ → Option OwnReason
free_reason h t c =
    unless (is_marked (worklist_at h t) c) (owns.NotOnWorklist c)
    (unless (is_empty (entries_at h c)) (owns.HasEntries c) None)

-- a queue word that is there
abbrev pub word_reason : Heap → ℕ → Option OwnReason → Option OwnReason
word_reason h k next = unless (nat_lt k (words_for (length h.cells))) (owns.NoWord k) next

-- a queue word that isn't the next to close, and one that isn't the next to open
abbrev pub unclosed : Stage → ℕ → OwnReason
unclosed stage k = if is_closed stage k then owns.WordClosed k else owns.NotNextToClose k

abbrev pub unopened : Stage → ℕ → OwnReason
unopened stage k = if is_closed stage k then owns.NotNextToOpen k else owns.WordOpen k

abbrev pub close_reason : Heap → ℕ → ℕ → Option OwnReason
close_reason h t k =
    word_reason h k
    (unless (closes_next (row_at h t).stage k) (unclosed (row_at h t).stage k)
    (unless (is_bare (frame_at h t)) (owns.StillFilled (lowest_at h t sought.Filled))
    (unless (may_begin_closing (popped_at h t) k) (owns.StillPopped (lowest_at h t sought.Popped)) None)))

abbrev pub reopen_reason : Heap → ℕ → ℕ → Option OwnReason
reopen_reason h t k =
    word_reason h k (unless (opens_next (row_at h t).stage k) (unopened (row_at h t).stage k) None)

-- a thread's step
abbrev pub own_reason : Heap → ℕ → Step → Option OwnReason
own_reason h t (Claim c) = unless (nat_lt (row_at h t).allocs MOST_BIRTHS) owns.ManyBirths None
own_reason h t (Birth c kind k) = unless (is_mortal kind) (owns.ImmortalKind kind) (vacancy h t k None)
own_reason h t (LocalUp source k) = vacancy h t k None
own_reason h t (Free c) = free_reason h t c
own_reason h t (Untie c) = unless (untie_ok (row_at h t).hand (popped_at h t) c) (owns.NotPopped c) None
own_reason h t (SharedUp source k) = vacancy h t k None
own_reason h t (LastDown (lasts.Popped c)) = unless (bit_of (popped_at h t) c == 1) (owns.NotPopped c) None
own_reason h t (Drain k) = word_reason h k None
own_reason h t (Close k) = close_reason h t k
own_reason h t (Unlock change) = change_reason h t change
own_reason h t (Offer c) = unless (not (is_marked (worklist_at h t) c)) (owns.OnWorklist c) None
own_reason h t (Reopen k) = reopen_reason h t k
own_reason h t _ = None

-- the root's: a thread that is gathered holds nothing
abbrev pub gather_reason : Heap → ℕ → Option OwnReason
gather_reason h u =
    unless (is_blank (popped_at h u)) (owns.StillPopped (lowest_at h u sought.Popped))
    (unless (is_unmarked (worklist_at h u)) (owns.StillWork (lowest_at h u sought.Work)) None)

abbrev pub root_reason : Heap → Step → Option OwnReason
root_reason h (Gather u) = gather_reason h u
root_reason h _ = None

abbrev pub own_reason_at : Heap → Event → Option OwnReason
own_reason_at h e = if e.thread == 0 then root_reason h e.step else own_reason h e.thread e.step
