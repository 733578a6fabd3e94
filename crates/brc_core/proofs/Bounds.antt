-- How large the numbers of a reached world get.
use Rattle.std.proofs.Common.{◌≡◌, ℕ, ◌<◌, ◌≤◌, ◌^◌, List, [], ◌∷◌, length, drop, sum_by, count_by, cond, pos, ◌+◌}
use Rattle.std.proofs.Common.{true, false, refl, sym, subst, inl, inr, arith, length-drop}
use Rattle.std.proofs.lemmas.List.Sums.{sum_by-cons, count_by-le-length}
use Rattle.brc_words.specs.declared.limits.TheConstants.{FIRST_MORTAL, MOST_CELLS, MOST_ENTRIES, MOST_PLACES}
use Rattle.brc_words.specs.declared.limits.TheConstants.{MOST_THREADS, MOST_REGISTRATIONS}
use Rattle.law.proofs.world.Sizes.{reached_births, reached_entries}
use Rattle.law.proofs.world.Reached.{reached_sound, reached_headline}
use Rattle.law.proofs.world.Headlines.{sums_fit, past_fits}
use Rattle.law.proofs.world.Lifetimes.{by_whom}
use Rattle.law.proofs.world.Asking.{may_parts}
use Rattle.law.proofs.world.Reusing.{fresh, reused, registers}
use Rattle.law.specs.declared.world.event.Event.{Event}
use Rattle.law.specs.declared.world.event.Step.TheVariants.{Register}
use Rattle.law.specs.world.Steps.{enabled, root_may, thread_may}
use Rattle.std.proofs.lemmas.Bool.{true≢false}
use Rattle.law.specs.declared.world.cell.Cell.{Cell}
use Rattle.law.specs.world.Lists.{one}
use Rattle.law.specs.world.Heap.{Heap, cell_at, row_at, entries_at, frame_at}
use Rattle.law.specs.world.Holding.{lives, lives_at, total_of, holders_of}
use Rattle.law.specs.world.Runs.{IsReached}

-- two sums with equal terms
sum_by-same : {X : Type 0} (f g : X → ℕ) → ((x : X) → f x ≡ g x) → (xs : List X) → sum_by f xs ≡ sum_by g xs
sum_by-same f g same [] = refl
sum_by-same f g same (x ∷ xs) = cc (sum_by-cons f x xs, sum_by-cons g x xs, same x, sum_by-same f g same xs)

pub cells_fit : (h : Heap) → IsReached h → length h.cells ≤ MOST_CELLS
cells_fit h reached = (reached_sound h reached).shaped.options.few_enough

pub threads_fit : (h : Heap) → IsReached h → length h.rows ≤ MOST_THREADS + 1
threads_fit h reached = (reached_sound h reached).shaped.threads

pub places_fit : (h : Heap) → IsReached h → (t : ℕ) → length (frame_at h t) ≤ MOST_PLACES
places_fit h reached t = ((reached_sound h reached).threads t).places

pub entries_fit : (h : Heap) → IsReached h → (c : ℕ) → length (entries_at h c) ≤ MOST_ENTRIES
entries_fit h reached c = reached_entries h reached c

pub allocs_fit : (h : Heap) → IsReached h → sum_by (λ row. row.allocs) h.rows < 2 ^ 64
allocs_fit h reached = reached_births h reached

pub frees_fit : (h : Heap) → IsReached h → sum_by (λ row. row.frees) h.rows < 2 ^ 64
frees_fit h reached = omega (arith, (sums_fit h (reached_sound h reached)).1)

-- with those of registrations that are over
pub all_allocs_fit : (h : Heap) → IsReached h → sum_by (λ row. row.allocs) h.rows + h.past_allocs < 2 ^ 64
all_allocs_fit h reached = (sums_fit h (reached_sound h reached)).0

pub all_frees_fit : (h : Heap) → IsReached h → sum_by (λ row. row.frees) h.rows + h.past_frees < 2 ^ 64
all_frees_fit h reached = (sums_fit h (reached_sound h reached)).1

pub past_allocs_fit : (h : Heap) → IsReached h → (t : ℕ) → h.past_allocs + (row_at h t).allocs < 2 ^ 64
past_allocs_fit h reached t = (past_fits h (reached_sound h reached) t).0

pub past_frees_fit : (h : Heap) → IsReached h → (t : ℕ) → h.past_frees + (row_at h t).frees < 2 ^ 64
past_frees_fit h reached t = (past_fits h (reached_sound h reached) t).1

-- one more registration can be counted
pub registers_few : (h : Heap) (e : Event) → IsReached h → enabled h e ≡ true → (u : ℕ) → e.step ≡ Register u
    → h.registrations < MOST_REGISTRATIONS
registers_few h e reached ok u is = elim (by_whom h e ok) [
  | inl root ↦ elim (registers h u (reached_sound h reached) (subst (λ s. root_may h s ≡ true) is root.may)) [
    | fresh new most few leads ↦ few
    | reused v few leads ↦ few
  ]
  | inr thread ↦ absurd (true≢false
      (sym (may_parts h e.thread (Register u) (subst (λ s. thread_may h e.thread s ≡ true) is thread.may)).hand))
]

pub references : (h : Heap) → IsReached h → (c : ℕ) → lives_at h c ≡ true
    → total_of (cell_at h c) ≡ pos (length (holders_of h c))
references h reached c lives = (reached_headline h reached).counted c lives

-- live objects, counted one way or the other
pub live-count_by : (cells : List Cell) → count_by (λ x. lives x.owner) cells ≡ sum_by (λ x. one (lives x.owner)) cells
live-count_by cells = sum_by-same (λ x. cond (lives x.owner) 1 0) (λ x. one (lives x.owner))
    (λ x. elim (lives x.owner) as (λ b. cond b 1 0 ≡ one b) [ true ↦ refl | false ↦ refl ]) cells

pub live_fits : (h : Heap) → IsReached h → count_by (λ x. lives x.owner) (drop FIRST_MORTAL h.cells) ≤ MOST_CELLS
live_fits h reached = omega (
  arith,
  count_by-le-length (λ (x : Cell). lives x.owner) (drop FIRST_MORTAL h.cells),
  length-drop FIRST_MORTAL h.cells,
  cells_fit h reached,
)
