-- Why the one cell that a step means isn't as the step needs it: the tests of `law::world`, `specs/world/Steps.antt`,
-- and which fails first.
use Rattle.std.specs.Prelude.{◌≡◌, ◌≤◌, ◌≢◌, ℕ, ◌==◌, nat_lt, nat_le, ◌||◌, not, true, false, if◌then◌else◌}
use Rattle.std.specs.Prelude.{Option, Some, None}
use Rattle.brc_words.specs.declared.limits.TheConstants.{FIRST_MORTAL}
use Rattle.brc_words.specs.Kinds.{is_container}
use Rattle.law.specs.declared.world.cell.Cell.{Cell}
use Rattle.law.specs.declared.world.event.Step.{Step}
use Rattle.law.specs.declared.world.event.Step.TheVariants.{Claim, LocalUp, LocalDown, Untie, SharedUp, SharedDown, Ask}
use Rattle.law.specs.declared.world.event.Step.TheVariants.{LastDown, Lock, Unlock, Offer}
use Rattle.law.specs.declared.world.event.LastDropped.{LastDropped}
use Rattle.law.specs.declared.world.event.LastDropped.TheVariants as lasts
use Rattle.law.specs.declared.world.event.Change.{Change}
use Rattle.law.specs.declared.world.row.Row.{Row}
use Rattle.law.specs.declared.world.row.Hand.{Hand}
use Rattle.law.specs.declared.world.row.Hand.TheVariants as hands
use Rattle.law.specs.declared.world.row.Phase.TheVariants as phases
use Rattle.law.specs.declared.world.row.Stage.{Stage}
use Rattle.law.specs.world.Heap.{Heap, cell_at, row_at, is_immortal}
use Rattle.law.specs.world.Steps.{is_owned_by, is_nobody, is_free, is_default, is_queued, is_merged, is_positive, is_mine}
use Rattle.law.specs.world.Steps.{counts_up_locally, is_active, is_free_hand, is_keep}
use Rattle.brc_trace.specs.OwnReasons.{unless}
use Rattle.brc_trace.specs.declared.cell_reasons.CellReason.{CellReason}
use Rattle.brc_trace.specs.declared.cell_reasons.CellReason.TheVariants as cells

-- ---- what a reason says

-- by the local limit, the thread with its row, and the cell with its words
abbrev pub IsCellSo : ℕ → ℕ → Row → ℕ → Cell → CellReason → Type 0
IsCellSo limit t row c x cells.Immortal = is_immortal c ≡ true
IsCellSo limit t row c x cells.NotFree = is_free x.owner ≡ false
IsCellSo limit t row c x cells.NotItsOwn = is_owned_by t x.owner ≡ false
IsCellSo limit t row c x cells.OwnerInactive = is_active row.stage ≡ false
IsCellSo limit t row c x cells.ItsOwn = is_mine t row.stage x ≡ true
IsCellSo limit t row c x cells.AtLimit = limit ≤ x.local
IsCellSo limit t row c x cells.BelowLimit = counts_up_locally limit t row.stage x ≡ true
IsCellSo limit t row c x cells.NotQueued = is_queued x.state ≡ false
IsCellSo limit t row c x cells.NotMerged = is_merged x.state ≡ false
IsCellSo limit t row c x cells.NotDefault = is_default x.state ≡ false
IsCellSo limit t row c x cells.InDefault = is_default x.state ≡ true
IsCellSo limit t row c x cells.NotAboveZero = is_positive x.count ≡ false
IsCellSo limit t row c x cells.NoOwner = is_nobody x.owner ≡ true
IsCellSo limit t row c x cells.HasOwner = is_nobody x.owner ≡ false
IsCellSo limit t row c x cells.HandFree = is_free_hand row.hand ≡ true
IsCellSo limit t row c x (cells.LockedBy u) = (x.mutex ≡ u) × (u ≢ 0)
IsCellSo limit t row c x cells.NoContainer = is_container x.kind ≡ false

-- ---- which reason is told

abbrev pub claim_reason : ℕ → Cell → Option CellReason
claim_reason c x = unless (nat_le FIRST_MORTAL c) cells.Immortal (unless (is_free x.owner) cells.NotFree None)

-- a thread that is to count on the local word owns the cell and is active
abbrev pub owner_reason : ℕ → Stage → Cell → Option CellReason → Option CellReason
owner_reason t stage x next =
    unless (is_owned_by t x.owner) cells.NotItsOwn (unless (is_active stage) cells.OwnerInactive next)

-- an immortal is counted by nobody
abbrev pub up_reason : ℕ → ℕ → Stage → ℕ → Cell → Option CellReason
up_reason limit t stage c x =
    if is_immortal c then None else owner_reason t stage x (unless (nat_lt x.local limit) cells.AtLimit None)

abbrev pub down_reason : ℕ → Stage → ℕ → Cell → Option CellReason
down_reason t stage c x = if is_immortal c then None else owner_reason t stage x None

-- a popped entry's object is the thread's own and queued; one that was shut out has an owner
abbrev pub untie_reason : ℕ → Hand → Cell → Option CellReason
untie_reason t hands.Free x =
    unless (is_owned_by t x.owner) cells.NotItsOwn (unless (is_queued x.state) cells.NotQueued None)
untie_reason t (hands.Busy phases.Shut c) x = unless (not (is_nobody x.owner)) cells.NoOwner None
untie_reason t (hands.Busy phase c) x = None

abbrev pub shup_reason : ℕ → ℕ → Stage → ℕ → Cell → Option CellReason
shup_reason limit t stage c x =
    unless (not (is_immortal c)) cells.Immortal
    (unless (not (counts_up_locally limit t stage x)) cells.BelowLimit None)

-- a thread that is to count on the shared word of a mortal isn't its active owner
abbrev pub others_reason : ℕ → Stage → ℕ → Cell → Option CellReason → Option CellReason
others_reason t stage c x next =
    unless (not (is_immortal c)) cells.Immortal (unless (not (is_mine t stage x)) cells.ItsOwn next)

abbrev pub shdown_reason : ℕ → Stage → ℕ → Cell → Option CellReason
shdown_reason t stage c x =
    others_reason t stage c x
    (unless (is_default x.state) cells.NotDefault (unless (is_positive x.count) cells.NotAboveZero None))

-- a reference in the hand goes once the owner word is nobody's
abbrev pub ends_reason : Hand → Cell → Option CellReason
ends_reason hands.Free x = Some cells.HandFree
ends_reason (hands.Busy phases.Held c) x = None
ends_reason (hands.Busy phase c) x = unless (is_nobody x.owner) cells.HasOwner None

abbrev pub last_reason : ℕ → Row → LastDropped → ℕ → Cell → Option CellReason
last_reason t row (lasts.Dropped drop) c x = others_reason t row.stage c x None
last_reason t row (lasts.Popped d) c x = unless (is_merged x.state) cells.NotMerged None
last_reason t row lasts.Hand c x = ends_reason row.hand x

abbrev pub unlock_reason : Change → Cell → Option CellReason
unlock_reason change x = unless (is_keep change || is_container x.kind) cells.NoContainer None

-- any step
abbrev pub cell_reason : ℕ → ℕ → Row → Step → ℕ → Cell → Option CellReason
cell_reason limit t row (Claim d) c x = claim_reason c x
cell_reason limit t row (LocalUp source k) c x = up_reason limit t row.stage c x
cell_reason limit t row (LocalDown drop) c x = down_reason t row.stage c x
cell_reason limit t row (Untie d) c x = untie_reason t row.hand x
cell_reason limit t row (SharedUp source k) c x = shup_reason limit t row.stage c x
cell_reason limit t row (SharedDown drop) c x = shdown_reason t row.stage c x
cell_reason limit t row (Ask drop) c x = others_reason t row.stage c x None
cell_reason limit t row (LastDown last) c x =
    unless (not (is_default x.state)) cells.InDefault (last_reason t row last c x)
cell_reason limit t row (Lock k) c x = unless (x.mutex == 0) (cells.LockedBy x.mutex) None
cell_reason limit t row (Unlock change) c x = unlock_reason change x
cell_reason limit t row (Offer d) c x = unless (is_owned_by t x.owner) cells.NotItsOwn None
cell_reason limit t row _ c x = None

-- the cell that the step means in the world, if it means one
abbrev pub cell_reason_at : Heap → ℕ → Step → Option ℕ → Option CellReason
cell_reason_at h t s None = None
cell_reason_at h t s (Some c) = cell_reason h.limit t (row_at h t) s c (cell_at h c)
