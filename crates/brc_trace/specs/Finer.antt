-- What of a refused event's condition fails, where the condition has several parts.
use Rattle.std.specs.Prelude.{Bool, true, false, Option, None, IsSomeAnd}
use Rattle.std.specs.Option.{option_map}
use Rattle.law.specs.declared.world.event.Event.{Event}
use Rattle.law.specs.world.Heap.{Heap, cell_at, row_at}
use Rattle.brc_state.specs.declared.refusing.Refusal.{Refusal}
use Rattle.brc_state.specs.declared.refusing.Refusal.TheVariants as refusals
use Rattle.brc_trace.specs.Standing.{thread_spoken_of, meant_at}
use Rattle.brc_trace.specs.OwnReasons.{IsOwnSo, own_reason_at}
use Rattle.brc_trace.specs.ToldReasons.{IsToldSo, told_reason}
use Rattle.brc_trace.specs.CellReasons.{IsCellSo, cell_reason_at}
use Rattle.brc_trace.specs.declared.finer.Finer.{Finer}
use Rattle.brc_trace.specs.declared.finer.Finer.TheVariants as finer

-- what is told is so in the world, of the thread that the event speaks of and of the cell that it means
abbrev pub IsFinerSo : Heap → Event → Finer → Type 0
IsFinerSo h e (finer.Own reason) = IsOwnSo h (thread_spoken_of e.thread e.step) reason
IsFinerSo h e (finer.Told reason) = IsToldSo h e.thread reason
IsFinerSo h e (finer.Cell reason) = IsSomeAnd (meant_at h e.thread e.step)
    (λ c. IsCellSo h.limit e.thread (row_at h e.thread) c (cell_at h c) reason)

-- the conditions that have several parts
abbrev pub has_parts : Refusal → Bool
has_parts refusals.OwnPart = true
has_parts refusals.Told = true
has_parts refusals.Cell = true
has_parts _ = false

-- which part of the condition fails first
abbrev pub finer_of : Heap → Event → Refusal → Option Finer
finer_of h e refusals.OwnPart = option_map finer.Own (own_reason_at h e)
finer_of h e refusals.Told = option_map finer.Told (told_reason h e.thread e.step)
finer_of h e refusals.Cell = option_map finer.Cell (cell_reason_at h e.thread e.step (meant_at h e.thread e.step))
finer_of h e _ = None
