-- What a queue word has is a reference of each cell whose bit is set, so these are cells of the heap; and how many
-- objects a thread may have given back.
use Rattle.std.proofs.Common.{◌≡◌, ℕ, ◌+◌, ◌*◌, ◌/◌, ◌%◌, ◌<◌, ◌≤◌, ◌^◌, ◌==◌, nat_lt, Bool, true, false, if◌then◌else◌}
use Rattle.std.proofs.Common.{List, [], ◌∷◌, length, Option, Some, None, refl, sym, ◌∙◌, ap, subst, inl, inr, arith}
use Rattle.std.specs.Int.{bit_at}
use Rattle.std.proofs.lemmas.Bool.{cases_lt}
use Rattle.std.proofs.lemmas.List.{get_or_past}
use Rattle.std.proofs.lemmas.Nat.Bits.{bit_at-zero, bit_at_above}
use Rattle.law.specs.declared.world.cell.Cell.{Cell}
use Rattle.law.specs.declared.world.edition.Edition.{Edition}
use Rattle.law.specs.declared.world.event.Event.{Event}
use Rattle.law.specs.declared.world.event.Step.{Step}
use Rattle.law.specs.declared.world.event.Step.TheVariants.{Register}
use Rattle.law.specs.declared.world.row.Row.{Row}
use Rattle.law.specs.world.Lists.{bit_of, word_at}
use Rattle.law.specs.world.Heap.{Heap, row_at, queue_at, no_cell, is_registered, AreOptions}
use Rattle.law.specs.world.Steps.{after, after_target, root_after, target_at, registered, registered_again}
use Rattle.law.specs.world.Runs.{IsReached, world_after}
use Rattle.law.specs.world.Sound.{held}
use Rattle.law.proofs.world.Naming.{sum_one}
use Rattle.law.proofs.world.Reached.{reached_sound}
use Rattle.law.proofs.world.Headlines.{frees_fit}
use Rattle.law.proofs.lasting.Lasting.{held_live, live_owner}
use Rattle.law.specs.known.Start.{start_of}
use Rattle.law.proofs.known.Starting.{run_reached}
use Rattle.law.specs.known.Items.{ItemRun, AreItems, events_of, world_of_items, part_of, own}
use Rattle.law.proofs.known.Items_Told.{QueuesFit}
use Rattle.law.proofs.known.Items_Queues.{queues_in}
use Rattle.law.proofs.known.Items_Runs.{events_run}
use Rattle.law.proofs.known.Items_Law.{parts_are_told}

-- ---- queue words

queued_held : (h : Heap) (t c : ℕ) → bit_of (queue_at h t) c ≡ 1 → 1 ≤ held h c
queued_held h t c on = omega (
  arith,
  on,
  sum_one (λ (words : List ℕ). bit_of words c) h.queues t []
      (bit_at-zero (c % 32)),
)

-- what is queued lives
queued_inside : (h : Heap) (t c : ℕ) → IsReached h → bit_of (queue_at h t) c ≡ 1 → c < length h.cells
queued_inside h t c reached on = elim (cases_lt c (length h.cells)) [
  | inl inside ↦ inside
  | inr past ↦ absurd (live_owner _ (held_live h c (reached_sound h reached) (queued_held h t c on))
      (ap (λ (x : Cell). x.owner) (get_or_past h.cells c no_cell past)))
]

pub reached_queues : (h : Heap) → IsReached h → QueuesFit h
reached_queues h reached =
    subst QueuesFit reached.leads_here (queues_in reached.edition reached.cells reached.limit reached.run)

bits_below : (word i : ℕ) → word < 4294967296 → bit_at word i ≡ 1 → i < 32
bits_below word i small on = elim (cases_lt i 32) [
  | inl low ↦ low
  | inr past ↦ absurd (omega (arith, on, bit_at_above word 32 i small past))
]

-- each bit of a queue word is one of its 32 cells, and that is a cell of the heap
pub queue_bits : (h : Heap) (t k i : ℕ) → IsReached h → bit_at (word_at (queue_at h t) k) i ≡ 1
    → (i < 32) × (k * 32 + i < length h.cells)
queue_bits h t k i reached on =
    let low : i < 32 = bits_below (word_at (queue_at h t) k) i ((reached_queues h reached).small t k) on in
    let word : (k * 32 + i) / 32 ≡ k = omega (arith, low) in
    let bit : (k * 32 + i) % 32 ≡ i = omega (arith, low) in (
      low,
      queued_inside h t (k * 32 + i) reached (ap (λ m. bit_at (word_at (queue_at h t) m) ((k * 32 + i) % 32)) word
          ∙ ap (bit_at (word_at (queue_at h t) k)) bit ∙ on),
    )

-- ---- what a thread has given back

-- no more than all threads have made
pub reached_frees : (h : Heap) (t : ℕ) → IsReached h → (row_at h t).frees < 2 ^ 64
reached_frees h t reached = omega (arith, frees_fit h (reached_sound h reached) t)

pub frees_are_few : (cells limit : ℕ) (items : ItemRun) (t : ℕ) → AreOptions cells limit
    → AreItems (start_of cells limit) items
    → is_registered (world_of_items (start_of cells limit) items) t ≡ true
    → (part_of cells (own t items)).row.frees < 2 ^ 64
frees_are_few cells limit items t options are there =
    let h : Heap = world_of_items (start_of cells limit) items in
    subst (λ (row : Row). row.frees < 2 ^ 64) (parts_are_told cells limit items t options are there).row_is
    (reached_frees h t (run_reached cells limit (events_of items) options (events_run (start_of cells limit) items are)))
