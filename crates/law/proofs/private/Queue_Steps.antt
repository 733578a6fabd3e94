-- Steps on words that are no cell's keep private cells apart.
use Rattle.std.proofs.Common.{◌≡◌, ℕ, ◌/◌, ◌%◌, ◌<◌, Bool, List, [], length, get_or, set, Option, Some, None, sym, ◌∙◌}
use Rattle.std.proofs.Common.{ap, subst, inl, inr, arith}
use Rattle.std.proofs.lemmas.Bool.{cases_eq, cases_lt}
use Rattle.std.proofs.lemmas.List.{get_or_past, length-set}
use Rattle.law.specs.declared.world.event.Step.{Step}
use Rattle.law.specs.declared.world.row.Row.{Row}
use Rattle.law.specs.world.Lists.{bit_of}
use Rattle.law.specs.world.Heap.{Heap, row_at, popped_at, queue_at, no_row, words_for}
use Rattle.law.specs.world.Steps.{kept_cells, stage_after, drained_word, with_drained, without_drained}
use Rattle.law.proofs.world.Bitwise.{length-with_taken, taken_here, taken_else, untaken_here, untaken_else}
use Rattle.law.proofs.world.Changes.{read_here, read_there}
use Rattle.std.specs.Int.{bit_at}
use Rattle.law.specs.private.Private.{Isolated}

none_drained : (o : Option ℕ) (queue popped : List ℕ) (q : ℕ) → bit_of queue q ≡ 0 → bit_of popped q ≡ 0
    → bit_of (with_drained o queue popped) q ≡ 0
none_drained None queue popped q off none = none
none_drained (Some k) queue popped q off none = elim (cases_eq (q / 32) k) [
  | inr other ↦ taken_else k queue popped q other ∙ none
  | inl same ↦ elim (cases_lt k (length popped)) [
    | inl inside ↦ omega (arith, taken_here k queue popped q inside same, off, none)
    | inr past ↦ ap (λ v. bit_at v (q % 32)) (get_or_past (with_drained (Some k) queue popped) (q / 32) 0
        (omega (arith, past, same, length-with_taken k queue popped))
        ∙ sym (get_or_past popped (q / 32) 0 (omega (arith, past, same)))) ∙ none
  ]
]

none_left : (o : Option ℕ) (queue : List ℕ) (q : ℕ) → bit_of queue q ≡ 0 → bit_of (without_drained o queue) q ≡ 0
none_left None queue q off = off
none_left (Some k) queue q off = elim (cases_eq (q / 32) k) [
  | inr other ↦ untaken_else k queue q other ∙ off
  | inl same ↦ untaken_here k queue q same
]

-- a list of a list at one place is changed, and what is said of each stays
each_list : (P : List ℕ → Type 0) (lists : List (List ℕ)) (u v : ℕ) (new : List ℕ) → P new → P (get_or lists v [])
    → P (get_or (set lists u new) v [])
each_list P lists u v new here there = elim (cases_eq v u) [
  | inr off ↦ subst P (sym (read_there lists u v new [] off)) there
  | inl same ↦ elim (cases_lt u (length lists)) [
    | inl inside ↦ subst (λ i. P (get_or (set lists u new) i [])) (sym same)
        (subst P (sym (read_here lists u new [] inside)) here)
    | inr past ↦ subst P (get_or_past lists v [] (omega (arith, past, same))
        ∙ sym (get_or_past (set lists u new) v [] (omega (arith, past, same, length-set lists u new)))) there
  ]
]

pub apart_kept : (h : Heap) (t u : ℕ) (mine : ℕ → Bool) (s : Step) → u < length h.rows → Isolated h t mine
    → Isolated (kept_cells h u s) t mine
apart_kept h t u mine s inside apart =
    let row : Row = record (row_at h u) { stage = stage_after (words_for (length h.cells)) s (row_at h u).stage } in
    record {
      mortal = apart.mortal;
      cells = apart.cells;
      frames = apart.frames;
      hands = λ v c p is busy. elim (cases_eq v u) [
        | inr off ↦ apart.hands v c p is (ap (λ (r : Row). r.hand) (sym (read_there h.rows u v row no_row off)) ∙ busy)
        | inl same ↦ apart.hands v c p is (ap (λ i. (row_at h i).hand) same
            ∙ ap (λ (r : Row). r.hand) (sym (read_here h.rows u row no_row inside))
            ∙ ap (λ i. (row_at (kept_cells h u s) i).hand) (sym same) ∙ busy)
      ];
      popped = λ v c is. each_list (λ ws. bit_of ws c ≡ 0) h.popped u v
          (with_drained (drained_word s) (queue_at h u) (popped_at h u))
          (none_drained (drained_word s) (queue_at h u) (popped_at h u) c (apart.queues u c is) (apart.popped u c is))
          (apart.popped v c is);
      queues = λ v c is. each_list (λ ws. bit_of ws c ≡ 0) h.queues u v
          (without_drained (drained_word s) (queue_at h u))
          (none_left (drained_word s) (queue_at h u) c (apart.queues u c is)) (apart.queues v c is);
      worklists = apart.worklists;
      entries = apart.entries;
    }
