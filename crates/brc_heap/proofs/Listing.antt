-- The contents of a heap whose threads are all gathered: from its blocks, and what remains of them.
use Rattle.std.proofs.Common.{◌≡◌, ◌≢◌, ℕ, zero, suc, ◌+◌, ◌-◌, ◌<◌, ◌≤◌, ◌++◌, nat_lt, ◌&&◌, ◌||◌, not, Bool, true}
use Rattle.std.proofs.Common.{false, if◌then◌else◌, List, [], ◌∷◌, map, length, drop, drop-cons, Option, Some, None}
use Rattle.std.proofs.Common.{refl, sym, ◌∙◌, ap, subst, inl, inr, arith}
use Rattle.std.specs.Prelude.{sum_by}
use Rattle.std.proofs.lemmas.Bool.{cases_lt, cases_Bool, lt-ltb, le-ltb, true≢false}
use Rattle.std.specs.Cmp.Derive.{both_true}
use Rattle.std.proofs.lemmas.List.Sums.{sum_by-cons}
use Rattle.std.specs.Option.{option_map}
use mathlib.Core.Option.{some}
use lib.ListN.{get_elem?}
use Rattle.brc_words.specs.declared.limits.TheConstants.{FIRST_MORTAL, GLOBALS}
use Rattle.brc_count.specs.block.declared.payload.Payload.{Payload}
use Rattle.brc_count.specs.block.Payload.{entries_of}
use Rattle.brc_count.specs.law.declared.world.cell.Cell.{Cell}
use Rattle.brc_count.specs.law.world.Lists.{one}
use Rattle.brc_count.specs.law.world.Heap.{Heap, cell_at, is_immortal, no_cell}
use Rattle.brc_count.specs.law.world.Holding.{lives, lives_at, live_count}
use Rattle.brc_report.specs.declared.content.Content.{Content}
use Rattle.brc_report.specs.declared.content.Remain.{Remain}
use Rattle.brc_report.specs.Holding.{has, holder_of, joined, remain_of, remains_among}
use Rattle.brc_report.specs.Spelled.{all_spelled}
use Rattle.brc_words.specs.Kinds.{is_mortal}
use Rattle.brc_report.specs.Reports.{rises, are_contents}
use Rattle.brc_count.specs.law.rule.Logs.{Run, kind_in, entries_in, contents_at}
use Rattle.brc_count.specs.table.Shown.{contents_of}
use Rattle.brc_thread.proofs.Payloads.{entries_shown, kind_shown}
use Rattle.brc_thread.specs.Emptied.{is_used, used_from, blocks_in, SlotHas, AllAtHome}
use Rattle.brc_heap.specs.Contents.{live_from, live_cells, content_at, contents_of_heap, content_in, contents_in}

-- ---- what blocks show

module _ {A : Type 0} where
  content_same : (run : Run) (block : ℕ × Payload A) → contents_of block.1 ≡ contents_at run block.0
      → ◌≡◌ {A = Content A} (content_in block) (content_at run block.0)
  content_same run block same =
      ap (λ k. record { cell = block.0; kind = k; entries = entries_of block.1 }) (sym (kind_shown block.1)
      ∙ ap kind_in same)
      ∙ ap (λ es. record { cell = block.0; kind = kind_in (contents_at run block.0); entries = es })
      (sym (entries_shown block.1) ∙ ap entries_in same)

  -- each block has what was put home in its cell
  abbrev Honest : Run → List (ℕ × Payload A) → Type 0
  Honest run [] = Unit {0}
  Honest run (block ∷ blocks) = (contents_of block.1 ≡ contents_at run block.0) × Honest run blocks

  honest : (run : Run) (slots : List (Option (ℕ × Payload A)))
      → ((i : ℕ) (block : ℕ × Payload A) → get_elem? slots i ≡ some (Some block)
      → contents_of block.1 ≡ contents_at run block.0) → Honest run (blocks_in slots)
  honest run [] each = tt
  honest run (None ∷ slots) each = honest run slots (λ i block there. each (suc i) block there)
  honest run (Some first ∷ slots) each =
      (each 0 first refl, honest run slots (λ i block there. each (suc i) block there))

  inside_slots : (slots : List (Option (ℕ × Payload A))) (i : ℕ) (x : Option (ℕ × Payload A))
      → get_elem? slots i ≡ some x → i < length slots
  inside_slots [] i x there = cc
  inside_slots (first ∷ slots) zero x there = omega arith
  inside_slots (first ∷ slots) (suc i) x there = omega (arith, inside_slots slots i x there)

  -- two slots that are one
  one_block : (slots : List (Option (ℕ × Payload A))) (i : ℕ) (block other : ℕ × Payload A)
      → get_elem? slots i ≡ some (Some block)
      → get_elem? slots i ≡ some (Some other) → other ≡ block
  one_block slots i block other there also = inside (sym also ∙ there)
    where
      inside : {x y : ℕ × Payload A} → some (Some x) ≡ some (Some y) → x ≡ y
      inside same = cc

  no_block : (slots : List (Option (ℕ × Payload A))) (i : ℕ) (block : ℕ × Payload A)
      → get_elem? slots i ≡ some (Some block) → get_elem? slots i ≡ some None → ⊥
  no_block slots i block there none = apart (sym none ∙ there)
    where
      apart : {y : ℕ × Payload A} → some None ≡ some (Some y) → ⊥
      apart same = cc

  block_honest : (n : ℕ) (h : Heap) (run : Run) (slots : List (Option (ℕ × Payload A))) → AllAtHome n h run slots
      → (i : ℕ) (block : ℕ × Payload A)
      → get_elem? slots i ≡ some (Some block) → contents_of block.1 ≡ contents_at run block.0
  block_honest n h run slots home i block there =
      let low : i < n = subst (λ m. i < m) home.deep (inside_slots slots i (Some block) there) in
      elim (cases_lt i FIRST_MORTAL) [
        | inl immortal ↦ by_block (home.immortals i immortal)
        | inr mortal ↦ elim (cases_Bool (lives_at h i)) [
          | inl live ↦ by_block (home.live i low live)
          | inr dead ↦ absurd (no_block slots i block there (home.free i mortal low dead))
        ]
      ]
    where
      by_block : SlotHas slots i (contents_at run i) → contents_of block.1 ≡ contents_at run block.0
      by_block has =
          let same : (i, has.payload) ≡ block = one_block slots i block (i, has.payload) there has.there in
          ap (λ (b : ℕ × Payload A). contents_of b.1) (sym same) ∙ has.holds
          ∙ ap (λ (b : ℕ × Payload A). contents_at run b.0) same

-- ---- from the globals' cell on

from_globals : List ℕ → List ℕ
from_globals [] = []
from_globals (c ∷ cells) = if nat_lt c GLOBALS then from_globals cells else c ∷ from_globals cells

above : (h : Heap) (c more : ℕ) → GLOBALS ≤ c → from_globals (used_from h c more) ≡ used_from h c more
unfolding from_globals
above h c zero high = refl
above h c (suc more) high = elim (cases_Bool (is_used h c)) [
  | inl used ↦
      ap (λ b. from_globals (if b then c ∷ used_from h (suc c) more else used_from h (suc c) more)) used
      ∙ ap (λ b. if b then from_globals (used_from h (suc c) more) else c ∷ from_globals (used_from h (suc c) more))
      (le-ltb c GLOBALS high)
      ∙ ap (λ cells. c ∷ cells) (above h (suc c) more (omega (arith, high)))
      ∙ sym (ap (λ b. if b then c ∷ used_from h (suc c) more else used_from h (suc c) more) used)
  | inr unused ↦
      ap (λ b. from_globals (if b then c ∷ used_from h (suc c) more else used_from h (suc c) more)) unused
      ∙ above h (suc c) more (omega (arith, high))
      ∙ sym (ap (λ b. if b then c ∷ used_from h (suc c) more else used_from h (suc c) more) unused)
]

below : (h : Heap) (k c m more : ℕ) → c + k ≡ GLOBALS → m ≡ k + more
    → from_globals (used_from h c m) ≡ used_from h GLOBALS more
unfolding from_globals
below h zero c m more at long =
    let here : c ≡ GLOBALS = omega (arith, at) in
    let same : m ≡ more = omega (arith, long) in
    ap (λ i. from_globals (used_from h i m)) here ∙ above h GLOBALS m (omega arith) ∙ ap (used_from h GLOBALS) same
below h (suc k) c zero more at long = absurd (omega (arith, long))
below h (suc k) c (suc m) more at long = elim (cases_Bool (is_used h c)) [
  | inl used ↦
      ap (λ b. from_globals (if b then c ∷ used_from h (suc c) m else used_from h (suc c) m)) used
      ∙ ap (λ b. if b then from_globals (used_from h (suc c) m) else c ∷ from_globals (used_from h (suc c) m))
      (lt-ltb c GLOBALS (omega (arith, at)))
      ∙ below h k (suc c) m more (omega (arith, at)) (omega (arith, long))
  | inr unused ↦
      ap (λ b. from_globals (if b then c ∷ used_from h (suc c) m else used_from h (suc c) m)) unused
      ∙ below h k (suc c) m more (omega (arith, at)) (omega (arith, long))
]

module _ {A : Type 0} where
  shown_blocks : (run : Run) (blocks : List (ℕ × Payload A)) → Honest run blocks
      → ◌≡◌ {A = List (Content A)} (contents_in blocks)
      (map (content_at run) (from_globals (map (λ (b : ℕ × Payload A). b.0) blocks)))
  unfolding from_globals
  shown_blocks run [] each = refl
  shown_blocks run (block ∷ blocks) each = elim (cases_Bool (nat_lt block.0 GLOBALS)) [
    | inl low ↦
        ap (λ b. (if b then [] else content_in block ∷ []) ++ contents_in blocks) low
        ∙ shown_blocks run blocks each.1
        ∙ sym (ap (λ b. map (content_at {A = A} run)
        (if b then from_globals (map (λ (x : ℕ × Payload A). x.0) blocks) else block.0 ∷ from_globals
        (map (λ (x : ℕ × Payload A). x.0) blocks))) low)
    | inr high ↦
        ap (λ b. (if b then [] else content_in block ∷ []) ++ contents_in blocks) high
        ∙ ap (λ x. x ∷ contents_in blocks) (content_same run block each.0)
        ∙ ap (λ xs. content_at run block.0 ∷ xs) (shown_blocks run blocks each.1)
        ∙ sym (ap (λ b. map (content_at {A = A} run)
        (if b then from_globals (map (λ (x : ℕ × Payload A). x.0) blocks) else block.0 ∷ from_globals
        (map (λ (x : ℕ × Payload A). x.0) blocks))) high)
  ]

  -- what the blocks that are left show is what was put home last in the globals and in each live mortal cell
  pub contents_shown : (n : ℕ) (h : Heap) (run : Run) (slots : List (Option (ℕ × Payload A))) → GLOBALS ≤ n
      → AllAtHome n h run slots
      → ◌≡◌ {A = List (Content A)} (contents_in (blocks_in slots)) (contents_of_heap h run n)
  contents_shown n h run slots enough home =
      shown_blocks run (blocks_in slots) (honest run slots (block_honest n h run slots home))
      ∙ ap (λ cells. map (content_at {A = A} run) (from_globals cells)) home.cells
      ∙ ap (map (content_at {A = A} run)) (below h GLOBALS 0 n (n - GLOBALS) (omega arith) (omega (arith, enough)))

-- ---- what remains

module _ (A : Type 0) (h : Heap) (run : Run) where
  -- who has the cell among what was put home is found
  pub holder_among : (c more d q : ℕ) → c ≤ d → d < c + more → is_used h d ≡ true
      → has (entries_in (contents_at run d)) q ≡ true
      → (x : ℕ) × (holder_of (map (content_at {A = A} run) (used_from h c more)) q ≡ Some x)
  holder_among c zero d q from to used among = absurd (omega (arith, from, to))
  holder_among c (suc more) d q from to used among = elim (cases_Bool (is_used h c)) [
    | inl here ↦ elim (cases_Bool (has (entries_in (contents_at run c)) q)) [
      | inl holds ↦ (
        c,
        ap (λ b. holder_of (map (content_at {A = A} run) (if b then c ∷ used_from h (suc c) more else used_from h
            (suc c) more)) q) here
            ∙ ap (λ b. if b then Some c else holder_of
            (map (content_at {A = A} run) (used_from h (suc c) more)) q) holds,
      )
      | inr other ↦
          let apart : c ≢ d = λ same. true≢false (sym among ∙ ap (λ i. has (entries_in (contents_at run i)) q)
          (sym same) ∙ other) in
          let later = holder_among (suc c) more d q (omega (arith, from, apart)) (omega (arith, to)) used among in (
            later.0,
            ap (λ b. holder_of (map (content_at {A = A} run) (if b then c ∷ used_from h (suc c) more else used_from h
                (suc c) more)) q) here
                ∙ ap (λ b. if b then Some c else holder_of (map (content_at {A = A} run) (used_from h (suc c) more)) q)
                other ∙ later.1,
          )
    ]
    | inr none ↦
        let apart : c ≢ d = λ same. true≢false (sym used ∙ ap (is_used h) (sym same) ∙ none) in
        let later = holder_among (suc c) more d q (omega (arith, from, apart)) (omega (arith, to)) used among in (
          later.0,
          ap (λ b. holder_of (map (content_at {A = A} run) (if b then c ∷ used_from h (suc c) more else used_from h
              (suc c) more)) q) none ∙ later.1,
        )
  ]

  -- each live mortal cell is a remain, and nothing else is
  pub record Remaining (contents : List (Content A)) (c more : ℕ) : Type 0 where
    pub remains : List Remain
    pub are : remains_among contents (map (content_at run) (used_from h c more)) ≡ Some remains
    pub cells : map (λ (r : Remain). r.cell) remains ≡ live_from h c more
    pub spelled : all_spelled remains ≡ true

  pub all_remain : (contents : List (Content A)) (c more : ℕ)
      → ((q : ℕ) → lives_at h q ≡ true → q < c + more → (x : ℕ) × (holder_of contents q ≡ Some x))
      → ((q : ℕ) → lives_at h q ≡ true → is_mortal (kind_in (contents_at run q)) ≡ true) → Remaining contents c more
  all_remain contents c zero held kinds = record { remains = []; are = refl; cells = refl; spelled = refl }
  all_remain contents c (suc more) held kinds =
      let later = all_remain contents (suc c) more (λ q live low. held q live (omega (arith, low))) kinds in
      elim (cases_Bool (is_immortal c)) [
        | inl immortal ↦ skipped later (ap (λ b. not b && lives (cell_at h c).owner) immortal) (by_used later immortal)
        | inr mortal ↦ elim (cases_Bool (lives_at h c)) [
          | inl live ↦
              let holder = held c live (omega arith) in
              record {
                remains = record { cell = c; kind = kind_in (contents_at run c); held_by = holder.0 } ∷ later.remains;
                are = ap (λ b. remains_among contents
                    (map (content_at run) (if b then c ∷ used_from h (suc c) more else used_from h (suc c) more)))
                    (ap (λ b. is_immortal c || b) live ∙ or_end (is_immortal c))
                    ∙ ap (λ b. if b then remains_among contents (map (content_at run) (used_from h (suc c) more))
                    else joined (remain_of contents (content_at run c))
                    (remains_among contents (map (content_at run) (used_from h (suc c) more)))) mortal
                    ∙ ap (λ o. joined (option_map
                    (λ x. record { cell = c; kind = kind_in (contents_at run c); held_by = x }) o)
                    (remains_among contents (map (content_at run) (used_from h (suc c) more)))) holder.1
                    ∙ ap (joined (Some (record { cell = c; kind = kind_in (contents_at run c); held_by = holder.0 })))
                    later.are;
                spelled = both_true (both_true (ap not mortal) (kinds c live)) later.spelled;
                cells = ap (λ cells. c ∷ cells) later.cells
                    ∙ sym (ap (λ b. if b then c ∷ live_from h (suc c) more else live_from h (suc c) more) live);
              }
          | inr dead ↦ skipped later dead
              (ap (λ b. remains_among contents
              (map (content_at run) (if b then c ∷ used_from h (suc c) more else used_from h (suc c) more)))
              (both_false mortal dead) ∙ later.are)
        ]
      ]
    where
      or_end : (b : Bool) → (b || true) ≡ true
      or_end true = refl
      or_end false = refl

      both_false : is_immortal c ≡ false → lives_at h c ≡ false → is_used h c ≡ false
      both_false mortal dead = ap (λ b. b || lives_at h c) mortal ∙ dead

      by_used : (later : Remaining contents (suc c) more) → is_immortal c ≡ true
          → remains_among contents (map (content_at run) (used_from h c (suc more))) ≡ Some later.remains
      by_used later immortal =
          ap (λ b. remains_among contents
          (map (content_at run) (if b then c ∷ used_from h (suc c) more else used_from h (suc c) more)))
          (ap (λ b. b || lives_at h c) immortal)
          ∙ ap (λ b. if b then remains_among contents (map (content_at run) (used_from h (suc c) more))
          else joined (remain_of contents (content_at run c))
          (remains_among contents (map (content_at run) (used_from h (suc c) more)))) immortal
          ∙ later.are

      skipped : (later : Remaining contents (suc c) more) → lives_at h c ≡ false
          → remains_among contents (map (content_at run) (used_from h c (suc more))) ≡ Some later.remains
          → Remaining contents c (suc more)
      skipped later dead are = record {
        remains = later.remains;
        spelled = later.spelled;
        are = are;
        cells = later.cells ∙ sym (ap (λ b. if b then c ∷ live_from h (suc c) more else live_from h (suc c) more) dead);
      }

  -- the cells rise
  pub used_rise : (last c more : ℕ) → last < c → rises last (map (content_at {A = A} run) (used_from h c more)) ≡ true
  used_rise last c zero low = refl
  used_rise last c (suc more) low = elim (cases_Bool (is_used h c)) [
    | inl used ↦
        ap (λ b. rises last (map (content_at {A = A} run) (if b then c ∷ used_from h (suc c) more else used_from h
        (suc c) more))) used
        ∙ both_true (lt-ltb last c low) (used_rise c (suc c) more (omega arith))
    | inr unused ↦
        ap (λ b. rises last (map (content_at {A = A} run) (if b then c ∷ used_from h (suc c) more else used_from h
        (suc c) more))) unused
        ∙ used_rise last (suc c) more (omega (arith, low))
  ]

  pub contents_begin : (n : ℕ) → FIRST_MORTAL ≤ n → are_contents (contents_of_heap {A = A} h run n) ≡ true
  contents_begin n enough =
      ap (λ m. are_contents (map (content_at {A = A} run) (used_from h GLOBALS m))) (n_is n enough)
      ∙ both_true (used_rise GLOBALS (suc GLOBALS) (n - FIRST_MORTAL) (omega arith)) refl
    where
      n_is : (n : ℕ) → FIRST_MORTAL ≤ n → n - GLOBALS ≡ suc (n - FIRST_MORTAL)
      n_is n enough = omega (arith, enough)

-- ---- how many there are

pub live_beside : (h : Heap) (n : ℕ) → FIRST_MORTAL ≤ n → live_from h GLOBALS (n - GLOBALS) ≡ live_cells h n
live_beside h n enough = ap (live_from h GLOBALS) (n_is n enough)
  where
    n_is : (n : ℕ) → FIRST_MORTAL ≤ n → n - GLOBALS ≡ suc (n - FIRST_MORTAL)
    n_is n enough = omega (arith, enough)

live_long : (h : Heap) (c more : ℕ) → FIRST_MORTAL ≤ c → c + more ≡ length h.cells
    → length (live_from h c more) ≡ sum_by (λ (x : Cell). one (lives x.owner)) (drop c h.cells)
live_long h c zero mortal long = ap (sum_by (λ (x : Cell). one (lives x.owner)))
    (sym (drop_past h.cells c (omega (arith, long))))
  where
    drop_past : {X : Type 0} (xs : List X) (i : ℕ) → length xs ≤ i → drop i xs ≡ []
    drop_past [] zero past = refl
    drop_past [] (suc i) past = refl
    drop_past (x ∷ xs) zero past = absurd (omega (arith, past))
    drop_past (x ∷ xs) (suc i) past = drop_past xs i (omega (arith, past))
live_long h c (suc more) mortal long =
    let later = live_long h (suc c) more (omega (arith, mortal)) (omega (arith, long)) in
    let split : sum_by (λ (x : Cell). one (lives x.owner)) (drop c h.cells) ≡ one (lives (cell_at h c).owner) + sum_by
    (λ (x : Cell). one (lives x.owner)) (drop (suc c) h.cells) =
    ap (sum_by (λ (x : Cell). one (lives x.owner))) (drop-cons h.cells c no_cell (omega (arith, long)))
    ∙ sum_by-cons (λ (x : Cell). one (lives x.owner)) (cell_at h c) (drop (suc c) h.cells) in
    let owner : lives_at h c ≡ lives (cell_at h c).owner = ap (λ b. not b && lives (cell_at h c).owner)
    (le-ltb c FIRST_MORTAL mortal) in
    elim (cases_Bool (lives_at h c)) [
      | inl live ↦ omega (
        arith,
        ap (λ b. length (if b then c ∷ live_from h (suc c) more else live_from h (suc c) more)) live,
        later,
        split,
        ap one (sym owner ∙ live),
      )
      | inr dead ↦ omega (
        arith,
        ap (λ b. length (if b then c ∷ live_from h (suc c) more else live_from h (suc c) more)) dead,
        later,
        split,
        ap one (sym owner ∙ dead),
      )
    ]

pub live_counted : (h : Heap) (n : ℕ) → FIRST_MORTAL ≤ n → length h.cells ≡ n → length (live_cells h n) ≡ live_count h
live_counted h n enough long = live_long h FIRST_MORTAL (n - FIRST_MORTAL) (omega arith) (omega (arith, enough, long))
