-- The text of a world: what is written where a replay ends.
use Rattle.std.specs.Prelude.{ℕ, zero, suc, ◌+◌, ◌-◌, ◌==◌, Bool, true, false, if◌then◌else◌, ℤ, pos, negsuc, List, []}
use Rattle.std.specs.Prelude.{◌∷◌, ◌++◌, length, Option, Some, None, slice_index}
use Rattle.brc_words.specs.declared.limits.TheConstants.{GLOBALS}
use Rattle.brc_words.specs.declared.owner.Owner.{Owner}
use Rattle.brc_words.specs.declared.owner.Owner.TheVariants as owners
use Rattle.brc_words.specs.declared.state.State.{State}
use Rattle.brc_words.specs.declared.state.State.TheVariants as states
use Rattle.law.specs.declared.world.cell.Cell.{Cell}
use Rattle.law.specs.declared.world.edition.Edition.{Edition}
use Rattle.law.specs.declared.world.edition.Edition.TheVariants as editions
use Rattle.law.specs.declared.world.row.Hand.{Hand}
use Rattle.law.specs.declared.world.row.Hand.TheVariants as hands
use Rattle.law.specs.declared.world.row.Phase.{Phase}
use Rattle.law.specs.declared.world.row.Phase.TheVariants as phases
use Rattle.law.specs.world.Lists.{bit_of, place_at, is_marked, is_blank, is_unmarked}
use Rattle.law.specs.world.Heap.{Heap, cell_at, entries_at, row_at, frame_at, popped_at, worklist_at, queue_at}
use Rattle.law.specs.world.Heap.{is_gathered}
use Rattle.law.specs.world.Holding.{lives_at, total_of, live_count}
use Rattle.brc_core.specs.declared.readers.Status.{Status}
use Rattle.brc_core.specs.declared.readers.Status.TheVariants as statuses
use Rattle.brc_core.specs.declared.totals.Ledger.{Ledger}
use Rattle.brc_core.specs.Readings.{status_of, ledgers_of}
use Rattle.brc_text.specs.declared.keyword.Keyword.{Keyword}
use Rattle.brc_text.specs.declared.keyword.Keyword.TheVariants as words
use Rattle.brc_text.specs.declared.token.Token.{Token}
use Rattle.brc_text.specs.declared.token.Token.TheVariants as tokens
use Rattle.brc_text.specs.Lines.{line}
use Rattle.brc_trace.specs.declared.world_thread.Pile.{Pile}
use Rattle.brc_trace.specs.declared.world_thread.Pile.TheVariants as piles
use Rattle.brc_trace.specs.Operands.{kind_word}

-- the texts of so many numbers, this one and those behind it, one after the other
unfoldable pub over : (ℕ → List ℕ) → ℕ → ℕ → List ℕ
over text first zero = []
over text first (suc count) = text first ++ over text (first + 1) count

-- ---- single words

abbrev pub status_word : Status → Keyword
status_word statuses.Active = words.Active
status_word statuses.Closing = words.Closing
status_word statuses.Left = words.Left
status_word statuses.Gathered = words.Gathered
status_word statuses.Opening = words.Opening

abbrev pub phase_word : Phase → Keyword
phase_word phases.Claimed = words.Claimed
phase_word phases.Counted = words.Counted
phase_word phases.Ready = words.Ready
phase_word phases.Zero = words.Zero
phase_word phases.Over = words.Over
phase_word phases.Untied = words.Untied
phase_word phases.Asked = words.Asked
phase_word phases.Shut = words.Shut
phase_word phases.Taking = words.Taking
phase_word phases.Held = words.Held
phase_word phases.Popping = words.Popping
phase_word phases.Offered = words.Offered
phase_word phases.Yielding = words.Yielding

abbrev pub state_word : State → Keyword
state_word states.Default = words.Default
state_word states.Queued = words.Queued
state_word states.Merged = words.Merged

-- a thread's number, or 0
abbrev pub owner_number : Owner → ℕ
owner_number owners.Nobody = 0
owner_number (owners.Thread t) = t
owner_number (owners.Claimed t) = t
owner_number owners.Free = 0

-- the local count counts until the object is merged
abbrev pub local_token : State → ℕ → Token
local_token states.Default local = tokens.Number local
local_token states.Queued local = tokens.Number local
local_token states.Merged local = tokens.Word words.Dash

abbrev pub count_token : ℤ → Token
count_token (pos n) = tokens.Number n
count_token (negsuc n) = tokens.Negative (n + 1)

-- ---- a thread

abbrev pub thread_line : ℕ → Status → List ℕ
thread_line t status = line (tokens.Word words.Thread ∷ tokens.Number t ∷ tokens.Word (status_word status) ∷ [])

-- a hand that is free has no line
abbrev pub hand_text : ℕ → Hand → List ℕ
hand_text t hands.Free = []
hand_text t (hands.Busy phase c) =
    line (tokens.Word words.Hand ∷ tokens.Number t ∷ tokens.Word (phase_word phase) ∷ tokens.Number c ∷ [])

-- a place with nothing in it has no line
abbrev pub place_text : Keyword → ℕ → ℕ → Option ℕ → List ℕ
place_text word t k None = []
place_text word t k (Some c) = line (tokens.Word word ∷ tokens.Number t ∷ tokens.Number k ∷ tokens.Number c ∷ [])

abbrev pub frame_text : Heap → ℕ → ℕ → List ℕ
frame_text h t k = place_text words.Frame t k (place_at (frame_at h t) k)

abbrev pub locked_text : Heap → ℕ → Option ℕ → List ℕ
locked_text h t None = []
locked_text h t (Some k) = place_text words.Locked t k (place_at (frame_at h t) k)

abbrev pub pile_word : Pile → Keyword
pile_word piles.Queued = words.Queued
pile_word piles.Popped = words.Popped
pile_word piles.Work = words.Work

-- the cell lies on this pile of the thread
abbrev pub lies_on : Heap → ℕ → Pile → ℕ → Bool
lies_on h t piles.Queued c = bit_of (queue_at h t) c == 1
lies_on h t piles.Popped c = bit_of (popped_at h t) c == 1
lies_on h t piles.Work c = is_marked (worklist_at h t) c

-- no cell lies on this pile of the thread
abbrev pub is_empty_pile : Heap → ℕ → Pile → Bool
is_empty_pile h t piles.Queued = is_blank (queue_at h t)
is_empty_pile h t piles.Popped = is_blank (popped_at h t)
is_empty_pile h t piles.Work = is_unmarked (worklist_at h t)

abbrev pub lying_text : Heap → ℕ → Pile → ℕ → List ℕ
lying_text h t pile c =
    if lies_on h t pile c then line (tokens.Word (pile_word pile) ∷ tokens.Number t ∷ tokens.Number c ∷ []) else []

abbrev pub pile_text : Heap → ℕ → Pile → List ℕ
pile_text h t pile = over (lying_text h t pile) 0 (length h.cells)

-- what a thread has
unfoldable pub holdings_text : Heap → ℕ → List ℕ
holdings_text h t =
    hand_text t (row_at h t).hand
    ++ (locked_text h t (row_at h t).locked
    ++ (over (frame_text h t) 0 (length (frame_at h t))
    ++ (pile_text h t piles.Queued
    ++ (pile_text h t piles.Popped
    ++ pile_text h t piles.Work))))

abbrev pub is_over : Status → Bool
is_over statuses.Active = false
is_over statuses.Closing = false
is_over statuses.Left = false
is_over statuses.Gathered = true
is_over statuses.Opening = false

abbrev pub status_at : Heap → ℕ → Status
status_at h t = status_of (row_at h t).stage (is_gathered h t)

-- of a gathered thread one line is written
unfoldable pub thread_text : Heap → ℕ → List ℕ
thread_text h t = thread_line t (status_at h t) ++ (if is_over (status_at h t) then [] else holdings_text h t)

-- ---- a cell

abbrev pub entry_line : ℕ → List ℕ → ℕ → List ℕ
entry_line c entries i =
    line (tokens.Word words.Entry ∷ tokens.Number c ∷ tokens.Number i ∷ tokens.Number (slice_index entries i) ∷ [])

abbrev pub entries_text : ℕ → List ℕ → List ℕ
entries_text c entries = over (entry_line c entries) 0 (length entries)

unfoldable pub object_line : ℕ → Cell → List ℕ
object_line c x = line (
    tokens.Word words.Object
    ∷ tokens.Number c
    ∷ tokens.Word (kind_word x.kind)
    ∷ tokens.Number (owner_number x.owner)
    ∷ local_token x.state x.local
    ∷ count_token x.count
    ∷ tokens.Word (state_word x.state)
    ∷ count_token (total_of x)
    ∷ [])

-- a cell in which no mortal object lives has no line
unfoldable pub object_text : Heap → ℕ → List ℕ
object_text h c = if lives_at h c then object_line c (cell_at h c) ++ entries_text c (entries_at h c) else []

-- ---- the whole

-- of edition One nothing is said
abbrev pub edition_text : Edition → List ℕ
edition_text editions.One = []
edition_text editions.Two = line (tokens.Word words.Edition ∷ tokens.Number 2 ∷ [])

abbrev pub world_line : ℕ → ℕ → List ℕ
world_line cells limit = line (tokens.Word words.World ∷ tokens.Number cells ∷ tokens.Number limit ∷ [])

abbrev pub ledger_line : Ledger → ℕ → List ℕ
ledger_line ledger live =
    line (tokens.Word words.Ledger ∷ tokens.Number ledger.allocs ∷ tokens.Number ledger.frees ∷ tokens.Number live ∷ [])

-- Threads have the numbers from 1 on.
unfoldable pub world_text : Heap → List ℕ
world_text h =
    edition_text h.edition
    ++ (world_line (length h.cells) h.limit
    ++ (over (thread_text h) 1 (length h.rows - 1)
    ++ (entries_text GLOBALS (entries_at h GLOBALS)
    ++ (over (object_text h) 0 (length h.cells)
    ++ ledger_line (ledgers_of h) (live_count h)))))
