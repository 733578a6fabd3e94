-- What a thread's step does to one of the tables, whole: one item of it changes, by the definitions of `law::world`.
use Rattle.std.specs.Prelude.{ℕ, Bool, List, [], Option, slice_index_or, slice_set}
use Rattle.law.specs.declared.world.event.Change.{Change}
use Rattle.law.specs.declared.world.event.Dropped.{Dropped}
use Rattle.law.specs.declared.world.event.Step.{Step}
use Rattle.law.specs.declared.world.event.Step.TheVariants.{Close, Nudge, Reopen}
use Rattle.law.specs.world.Heap.{Heap, entries_at, frame_at}
use Rattle.law.specs.world.Steps.{frame_with, without_settled, worklist_with, frame_changed, entries_changed}
use Rattle.law.specs.world.Steps.{with_drained, without_drained}

-- ---- a step on one cell

-- all frames, where one thread's has a place filled, or a reference goes from it
abbrev pub frames_with : ℕ → Option ℕ → Option Dropped → ℕ → List (List (Option ℕ)) → List (List (Option ℕ))
frames_with t into out c frames = slice_set frames t (frame_with into out c (slice_index_or frames t []))

-- all popped bits, where a thread has dealt with one
abbrev pub popped_without : ℕ → Option ℕ → List (List ℕ) → List (List ℕ)
popped_without t settled popped = slice_set popped t (without_settled settled (slice_index_or popped t []))

-- all worklists, where the cell goes off a thread's, or comes onto it
abbrev pub worklists_with : ℕ → Bool → Bool → ℕ → List (List Bool) → List (List Bool)
worklists_with t frees takes c worklists =
    slice_set worklists t (worklist_with frees takes c (slice_index_or worklists t []))

-- ---- an unlock

-- references pass between the thread's frame and the cell's entries
abbrev pub exchanged : Heap → ℕ → Change → ℕ → Heap
exchanged h t change c = record h {
  entries = slice_set h.entries c (entries_changed change (frame_at h t) (entries_at h c));
  frames = slice_set h.frames t (frame_changed change (entries_at h c) (frame_at h t));
}

-- ---- the bits of a queue word

-- the queue word that a step of a thread names
abbrev pub named_word : Step → ℕ
named_word (Close k) = k
named_word (Reopen k) = k
named_word (Nudge u k) = k
named_word _ = 0

-- all popped bits, where a thread has those of a queue word besides
abbrev pub popped_with : ℕ → Option ℕ → List (List ℕ) → List (List ℕ) → List (List ℕ)
popped_with t drained queues popped =
    slice_set popped t (with_drained drained (slice_index_or queues t []) (slice_index_or popped t []))

-- all merge queues, where a word of a thread's is empty
abbrev pub queues_without : ℕ → Option ℕ → List (List ℕ) → List (List ℕ)
queues_without t drained queues = slice_set queues t (without_drained drained (slice_index_or queues t []))
