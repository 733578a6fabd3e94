-- A thread's own step changes its part as its item says.
use Rattle.std.proofs.Common.{◌≡◌, ◌≢◌, ℕ, ◌+◌, ◌<◌, ◌≤◌, slice_get, Bool, true, false, if◌then◌else◌, List, [], length}
use Rattle.std.proofs.Common.{get_or, set, Option, Some, None, refl, sym, ◌∙◌, ap, subst, inl, inr, ◌⊎◌, arith}
use Rattle.std.specs.Int.RustNames.{bit_or}
use Rattle.std.proofs.lemmas.List.{get_or-set_same, get_or-set_other, get_or_past, length-set}
use Rattle.std.proofs.lemmas.Bool.{cases_eq, cases_lt, cases_Bool, eq-eqb, ne_eqb, eqb-true, le-ltb, and_parts}
use Rattle.std.proofs.lemmas.Bool.{true≢false}
use Rattle.law.specs.declared.world.cell.Cell.{Cell}
use Rattle.law.specs.declared.world.event.Source.TheVariants as sources
use Rattle.law.specs.declared.world.event.Dropped.{Dropped}
use Rattle.law.specs.declared.world.event.Dropped.TheVariants as dropped
use Rattle.law.specs.declared.world.event.LastDropped.TheVariants as lasts
use Rattle.law.specs.declared.world.event.Step.{Step}
use Rattle.law.specs.declared.world.event.Step.TheVariants.{Birth, LocalUp, LocalDown, Free, SharedUp, SharedDown, Ask}
use Rattle.law.specs.declared.world.event.Step.TheVariants.{LastDown, Drain, Close, Lock, Unlock, Register}
use Rattle.law.specs.declared.world.row.Hand.{Hand}
use Rattle.law.specs.declared.world.row.Row.{Row}
use Rattle.law.specs.declared.world.row.Stage.{Stage}
use Rattle.law.specs.declared.world.row.Stage.TheVariants as stages
use Rattle.law.specs.world.Lists.{place_at, filled, front_of, last_of, is_marked, word_at}
use Rattle.law.specs.world.Heap.{Heap, cell_at, entries_at, row_at, frame_at, popped_at, worklist_at, queue_at, no_row}
use Rattle.law.specs.world.Heap.{words_for}
use Rattle.law.specs.world.Steps.{target, target_at, target_ok, after_target, kept_cells, stepped, locked_cell}
use Rattle.law.specs.world.Steps.{entry_of, dropped_cell, lock_ok, stage_ok, closes_next, is_closed, is_shut, row_after}
use Rattle.law.specs.world.Steps.{locked_after, allocs_after, frees_after, frame_after, frame_without, frame_changed}
use Rattle.law.specs.world.Steps.{entries_after, entries_without, entries_changed, gone, takes_block, worklist_after}
use Rattle.law.specs.world.Steps.{stage_after, drained_word, with_drained, locked_at, hand_ok}
use Rattle.law.specs.world.Sound.{IsSound, Locks}
use Rattle.law.specs.known.Items.{own_stage_after, closing_bit, told_at, told_of, told_apart, finds, found_at, Part, cell_told}
use Rattle.law.specs.known.Items.{popped_told, put, has_found, has_without, has_after, part_by, part_after, IsPart}
use Rattle.law.specs.known.Items.{Stepped}
use Rattle.law.proofs.world.Changes.{read_here}
use Rattle.law.proofs.world.Asking.{May, on_cell, Vacant, vacant}
use Rattle.law.proofs.world.Framing.{place_at-filled_else}
use Rattle.law.proofs.known.Items_Told.{Alike, alike, finds_alike, QueuesFit}

-- ---- entries that are known

put_here : (c d : ℕ) (entries : List ℕ) (has : ℕ → List ℕ) → d ≡ c → put c entries has d ≡ entries
put_here c d entries has same = ap (λ b. if b then entries else has d) (eq-eqb d c same)

pub put_else : (c d : ℕ) (entries : List ℕ) (has : ℕ → List ℕ) → d ≢ c → put c entries has d ≡ has d
put_else c d entries has other = ap (λ b. if b then entries else has d) (ne_eqb d c other)

-- the thread's locked cell and those on its worklist have these entries
pub record Knows (h : Heap) (t : ℕ) (has : ℕ → List ℕ) : Type 0 where
  pub locked : (c : ℕ) → locked_at h t ≡ Some c → entries_at h c ≡ has c
  pub worklists : (c : ℕ) → is_marked (worklist_at h t) c ≡ true → entries_at h c ≡ has c

-- ---- the cell that a step means

entry_alike : (h : Heap) (t : ℕ) (has : ℕ → List ℕ) (o : Option ℕ) (i : ℕ) → Knows h t has → locked_at h t ≡ o
    → entry_of has o i ≡ entry_of (entries_at h) o i
entry_alike h t has None i knows at = refl
entry_alike h t has (Some c) i knows at = ap (λ (es : List ℕ). slice_get es i) (sym (knows.locked c at))

pub drop_alike : (h : Heap) (t : ℕ) (has : ℕ → List ℕ) (drop : Dropped) → Knows h t has
    → dropped_cell (frame_at h t) (worklist_at h t) has drop ≡ dropped_cell (frame_at h t) (worklist_at h t)
    (entries_at h) drop
drop_alike h t has (dropped.Frame k) knows = refl
drop_alike h t has (dropped.Work c) knows = elim (cases_Bool (is_marked (worklist_at h t) c)) [
  | inl marked ↦ ap (λ (es : List ℕ). if is_marked (worklist_at h t) c then last_of es else None)
      (sym (knows.worklists c marked))
  | inr off ↦ ap (λ b. if b then last_of (has c) else None) off
      ∙ sym (ap (λ b. if b then last_of (entries_at h c) else None) off)
]

pub target_alike : (h : Heap) (t : ℕ) (has : ℕ → List ℕ) (s : Step) → Knows h t has
    → target (row_at h t) (frame_at h t) (worklist_at h t) has s ≡ target_at h t s
target_alike h t has (LocalUp (sources.Entry i) k) knows = entry_alike h t has (locked_at h t) i knows refl
target_alike h t has (SharedUp (sources.Entry i) k) knows = entry_alike h t has (locked_at h t) i knows refl
target_alike h t has (LocalDown drop) knows = drop_alike h t has drop knows
target_alike h t has (SharedDown drop) knows = drop_alike h t has drop knows
target_alike h t has (Ask drop) knows = drop_alike h t has drop knows
target_alike h t has (LastDown (lasts.Dropped drop)) knows = drop_alike h t has drop knows
target_alike h t has _ knows = refl

-- ---- what is known afterwards was known, or is found

finds_taken : (s : Step) (x : Cell) → takes_block s x ≡ true → finds s x ≡ true
finds_taken (Lock k) x takes = refl
finds_taken _ x takes = takes

marked_if : (b : Bool) (worklist : List Bool) (c d : ℕ) → is_marked (if b then set worklist c true else worklist) d
    ≡ true → (is_marked worklist d ≡ true) ⊎ ((d ≡ c) × (b ≡ true))
marked_if false worklist c d marked = inl marked
marked_if true worklist c d marked = elim (cases_eq d c) [
  | inl same ↦ inr (same, refl)
  | inr other ↦ inl (sym (get_or-set_other worklist c d true false other) ∙ marked)
]

unmarked_here : (worklist : List Bool) (c d : ℕ) → is_marked (set worklist c false) d ≡ true
    → is_marked worklist d ≡ true
unmarked_here worklist c d marked = elim (cases_eq d c) [
  | inr other ↦ sym (get_or-set_other worklist c d false false other) ∙ marked
  | inl same ↦ absurd (true≢false (sym marked ∙ ap (is_marked (set worklist c false)) same ∙ off))
]
  where
    off : is_marked (set worklist c false) c ≡ false
    off = elim (cases_lt c (length worklist)) [
      | inl inside ↦ get_or-set_same worklist c false false inside
      | inr past ↦ get_or_past (set worklist c false) c false (omega (arith, past, length-set worklist c false))
    ]

was_marked : (s : Step) (c : ℕ) (x : Cell) (worklist : List Bool) (d : ℕ) → is_marked (worklist_after s c x worklist) d
    ≡ true → (is_marked worklist d ≡ true) ⊎ ((d ≡ c) × (finds s x ≡ true))
was_marked (Free e) c x worklist d marked = inl (unmarked_here worklist c d marked)
was_marked (Lock k) c x worklist d marked = inl marked
was_marked s c x worklist d marked = marked_if (takes_block s x) worklist c d marked

-- a locked place stays as it was, where another is filled
was_named : (h : Heap) (t k c j d : ℕ) → IsSound h → Vacant (frame_at h t) k → (row_at h t).locked ≡ Some j
    → place_at (filled (frame_at h t) k c) j ≡ Some d → place_at (frame_at h t) j ≡ Some d
was_named h t k c j d sound room is at =
    let lock : (q : ℕ) × Locks h t j q × ((cell_at h q).mutex ≡ t) = sound.locks t j is in
    elim (cases_eq j k) [
      | inl same ↦ absurd (let e : None ≡ Some lock.0 = sym room.none ∙ ap (place_at (frame_at h t)) (sym same)
          ∙ lock.1.names in cc)
      | inr other ↦ sym (place_at-filled_else (frame_at h t) k c j other) ∙ at
    ]

was_locked : (h : Heap) (t : ℕ) (s : Step) (c : ℕ) (x : Cell) (entries : List ℕ) (locked : Option ℕ) (d : ℕ) → IsSound h
    → May h t s → (row_at h t).locked ≡ locked → target_at h t s ≡ Some c
    → locked_cell (frame_after s c x entries (frame_at h t)) (locked_after s locked) ≡ Some d
    → (locked_cell (frame_at h t) locked ≡ Some d) ⊎ ((d ≡ c) × (finds s x ≡ true))
was_locked h t (Lock k) c x entries locked d sound may is named at = inr (let e : Some d ≡ Some c = sym at
    ∙ named in (cc, refl))
was_locked h t (Unlock change) c x entries locked d sound may is named at = absurd (let e : None ≡ Some d = at in cc)
was_locked h t s c x entries None d sound may is named at = absurd (let e : None ≡ Some d = at in cc)
was_locked h t (LocalUp (sources.Entry i) k) c x entries (Some j) d sound may is named at =
    inl (was_named h t k c j d sound (vacant _ k may.own) is at)
was_locked h t (SharedUp (sources.Entry i) k) c x entries (Some j) d sound may is named at =
    inl (was_named h t k c j d sound (vacant _ k may.own) is at)
was_locked h t s c x entries (Some j) d sound may is named at =
    absurd (true≢false (sym (ap (λ o. lock_ok o s) (sym is) ∙ may.lock)))

-- ---- the entries afterwards

-- a list put among the lists, and among those that are known
set_put : (lists : List (List ℕ)) (c : ℕ) (new known : List ℕ) (has : ℕ → List ℕ) (d : ℕ) → (d ≡ c → new ≡ known)
    → (length lists ≤ c → new ≡ []) → get_or lists d [] ≡ has d
    → get_or (set lists c new) d [] ≡ put c known has d
set_put lists c new known has d same_new past_new is = elim (cases_eq d c) [
  | inr other ↦ get_or-set_other lists c d new [] other ∙ is ∙ sym (put_else c d known has other)
  | inl same ↦ ap (λ i. get_or (set lists c new) i []) same
      ∙ elim (cases_lt c (length lists)) [
        | inl inside ↦ get_or-set_same lists c new [] inside
        | inr past ↦ get_or_past (set lists c new) c [] (omega (arith, past, length-set lists c new))
            ∙ sym (past_new past)
      ]
      ∙ same_new same ∙ sym (put_here c d known has same)
]

without_alike : (o : Option Dropped) (lists : List (List ℕ)) (has : ℕ → List ℕ) (d : ℕ) → get_or lists d [] ≡ has d
    → get_or (entries_without o lists) d [] ≡ has_without o has d
without_alike None lists has d is = is
without_alike (Some (dropped.Frame k)) lists has d is = is
without_alike (Some (dropped.Work c)) lists has d is =
    set_put lists c (front_of (get_or lists c [])) (front_of (has c)) has d
    (λ same. ap front_of (ap (λ i. get_or lists i []) (sym same) ∙ is ∙ ap has same))
    (λ past. ap front_of (get_or_past lists c [] past)) is

pub after_alike : (s : Step) (c : ℕ) (x y : Cell) (frame : List (Option ℕ)) (lists : List (List ℕ)) (has : ℕ → List ℕ)
    (d : ℕ) → gone s y ≡ gone s x → c < length lists → get_or lists d [] ≡ has d
    → get_or (entries_after s c x frame lists) d [] ≡ has_after s c y frame has d
after_alike (Birth e kind k) c x y frame lists has d same inside is = set_put lists e [] [] has d (λ _. refl)
    (λ _. refl) is
after_alike (Unlock change) c x y frame lists has d same inside is =
    set_put lists c (entries_changed change frame (get_or lists c [])) (entries_changed change frame (has c)) has d
    (λ at. ap (entries_changed change frame) (ap (λ i. get_or lists i []) (sym at) ∙ is ∙ ap has at))
    (λ past. absurd (omega (arith, inside, past))) is
after_alike s c x y frame lists has d same inside is = without_alike (gone s x) lists has d is
    ∙ ap (λ o. has_without o has d) (sym same)

-- entries that were found are known
found_known : (h : Heap) (c d : ℕ) (b : Bool) (entries : List ℕ) (has : ℕ → List ℕ)
    → entries ≡ (if b then entries_at h c else []) → (entries_at h d ≡ has d) ⊎ ((d ≡ c) × (b ≡ true))
    → entries_at h d ≡ has_found b c entries has d
found_known h c d false entries has are known = elim known [ inl is ↦ is | inr new ↦ absurd (true≢false (sym new.1)) ]
found_known h c d true entries has are known = elim (cases_eq d c) [
  | inl same ↦ ap (entries_at h) same ∙ sym are ∙ sym (put_here c d entries has same)
  | inr other ↦ elim known [ inl is ↦ is ∙ sym (put_else c d entries has other) | inr new ↦ absurd (other new.0) ]
]

-- ---- the part afterwards

frame_alike : (s : Step) (c : ℕ) (x y : Cell) (old known : List ℕ) (frame : List (Option ℕ)) → gone s y ≡ gone s x
    → old ≡ known → frame_after s c x old frame ≡ frame_after s c y known frame
frame_alike (Birth d kind k) c x y old known frame same is = refl
frame_alike (LocalUp source k) c x y old known frame same is = refl
frame_alike (SharedUp source k) c x y old known frame same is = refl
frame_alike (Unlock change) c x y old known frame same is = ap (λ es. frame_changed change es frame) is
frame_alike s c x y old known frame same is = ap (λ o. frame_without o frame) (sym same)

-- only an unlock reads entries, and it knows them
frame_known : (h : Heap) (t : ℕ) (s : Step) (c : ℕ) (x y : Cell) (has : ℕ → List ℕ) → Knows h t has
    → target_at h t s ≡ Some c → gone s y ≡ gone s x
    → frame_after s c x (entries_at h c) (frame_at h t) ≡ frame_after s c y (has c) (frame_at h t)
frame_known h t (Unlock change) c x y has knows named same = frame_alike (Unlock change) c x y (entries_at h c) (has c)
    (frame_at h t) same (knows.locked c named)
frame_known h t (Birth d kind k) c x y has knows named same = refl
frame_known h t (LocalUp source k) c x y has knows named same = refl
frame_known h t (SharedUp source k) c x y has knows named same = refl
frame_known h t s c x y has knows named same = ap (λ o. frame_without o (frame_at h t)) (sym same)

work_alike : (s : Step) (c : ℕ) (x y : Cell) (worklist : List Bool) → takes_block s y ≡ takes_block s x
    → worklist_after s c x worklist ≡ worklist_after s c y worklist
work_alike (Free d) c x y worklist same = refl
work_alike s c x y worklist same = ap (λ b. if b then set worklist c true else worklist) (sym same)

-- the thread's part of the world, and what it knows
abbrev pub now : Heap → ℕ → (ℕ → List ℕ) → Part
now h t has = record {
  row = row_at h t;
  frame = frame_at h t;
  popped = popped_at h t;
  worklist = worklist_at h t;
  has = has;
}

stepped_part : (cells : ℕ) (h : Heap) (t : ℕ) (s : Step) (c number : ℕ) (entries : List ℕ) (has : ℕ → List ℕ)
    → IsSound h → May h t s → target_at h t s ≡ Some c → Alike h s c number
    → entries ≡ (if finds s (cell_at h c) then entries_at h c else []) → Knows h t has
    → IsPart (stepped h t s c) t (part_by cells (now h t has) s number entries (Some c))
stepped_part cells h t s c number entries has sound may named same are knows =
    let x : Cell = cell_at h c in
    let y : Cell = cell_told s number in
    let inside : c < length h.entries =
    omega (
      arith,
      (on_cell h t s c (subst (λ o. target_ok h t (row_at h t) s o ≡ true) named may.on_target)).inside,
      sound.shaped.entries,
    ) in
    let row : row_at (stepped h t s c) t ≡ row_after s c x (is_shut h c) (row_at h t) =
    read_here h.rows t _ no_row may.inside in
    let frame : frame_at (stepped h t s c) t ≡ frame_after s c x (entries_at h c) (frame_at h t) =
    read_here h.frames t _ [] (omega (arith, sound.shaped.frames, may.inside)) in
    let worklist : worklist_at (stepped h t s c) t ≡ worklist_after s c x (worklist_at h t) = read_here h.worklists t _
    [] (omega (arith, sound.shaped.worklists, may.inside)) in
    let found : finds s y ≡ finds s x = finds_alike h s c number same in
    let entries_now : (d : ℕ) → (entries_at h d ≡ has d) ⊎ ((d ≡ c) × (finds s x ≡ true))
    → entries_at (stepped h t s c) d ≡ has_after s c y (frame_at h t) (has_found (finds s y) c entries has) d =
    λ d known. after_alike s c x y (frame_at h t) h.entries (has_found (finds s y) c entries has) d same.gone_is inside
    (subst (λ b. entries_at h d ≡ has_found b c entries has d) (sym found)
    (found_known h c d (finds s x) entries has are known)) in
    record {
      row_is = row ∙ ap (λ g. record (row_at h t) {
        hand = g;
        locked = locked_after s (row_at h t).locked;
        allocs = allocs_after s (row_at h t).allocs;
        frees = frees_after s (row_at h t).frees;
      }) (sym (same.hand (row_at h t).hand));
      frame_is = frame ∙ frame_known h t s c x y has knows named same.gone_is;
      popped_is = read_here h.popped t _ [] (omega (arith, sound.shaped.popped, may.inside));
      work_is = worklist ∙ work_alike s c x y (worklist_at h t) same.takes;
      locked_has = λ d at. entries_now d
          (elim (was_locked h t s c x (entries_at h c) (row_at h t).locked d sound may refl named
          (ap (λ (f : List (Option ℕ)). locked_cell f (locked_after s (row_at h t).locked)) (sym frame)
          ∙ ap (λ (r : Row). locked_cell (frame_at (stepped h t s c) t) r.locked) (sym row) ∙ at)) [
            | inl was ↦ inl (knows.locked d was)
            | inr new ↦ inr new
          ]);
      work_has = λ d marked. entries_now d
          (elim (was_marked s c x (worklist_at h t) d (ap (λ (ws : List Bool). is_marked ws d) (sym worklist)
          ∙ marked)) [
            | inl was ↦ inl (knows.worklists d was)
            | inr new ↦ inr new
          ]);
    }

-- ---- steps that mean no cell

pub next_open : (stage : Stage) (k : ℕ) → closes_next stage k ≡ true → is_closed stage k ≡ false
next_open stages.Active k next = refl
next_open (stages.Closing n) k next = le-ltb k n (omega (arith, eqb-true k n next))
next_open stages.Left k next = absurd (true≢false (sym next))
next_open (stages.Opening n) k next = absurd (true≢false (sym next))

pub drains_open : (stage : Stage) (k : ℕ) → stage_ok stage (Drain k) ≡ true → is_closed stage k ≡ false
drains_open stages.Active k ok = refl
drains_open (stages.Closing n) k ok = absurd (true≢false (sym ok))
drains_open stages.Left k ok = absurd (true≢false (sym ok))
drains_open (stages.Opening n) k ok = absurd (true≢false (sym ok))

-- the bits that are taken are those of the word, which is open
taken_alike : (h : Heap) (t k : ℕ) → is_closed (row_at h t).stage k ≡ false
    → with_drained (Some k) (queue_at h t) (popped_at h t) ≡ popped_told (Some k)
    (word_at (queue_at h t) k + closing_bit (is_closed (row_at h t).stage k)) (popped_at h t)
taken_alike h t k closed =
    let e : word_at (queue_at h t) k ≡ word_at (queue_at h t) k + closing_bit (is_closed (row_at h t).stage k) =
    omega (arith, ap closing_bit closed) in
    ap (λ w. set (popped_at h t) k (bit_or (word_at (popped_at h t) k) w)) e

popped_alike : (h : Heap) (t : ℕ) (s : Step) → May h t s → with_drained (drained_word s) (queue_at h t) (popped_at h t)
    ≡ popped_told (drained_word s) (told_apart h t s) (popped_at h t)
popped_alike h t (Drain k) may = taken_alike h t k (drains_open (row_at h t).stage k may.stage)
popped_alike h t (Close k) may =
    let next : closes_next (row_at h t).stage k ≡ true =
    (and_parts _ _ (and_parts _ _ (and_parts _ _ may.own).0).0).1 in
    taken_alike h t k (next_open (row_at h t).stage k next)
popped_alike h t _ may = refl

-- no thread registers
own_stage : (words : ℕ) (stage : Stage) (hand : Hand) (s : Step) → hand_ok hand s ≡ true
    → own_stage_after words s stage ≡ stage_after words s stage
own_stage words stage hand (Register u) ok = absurd (true≢false (sym ok))
own_stage words stage hand _ ok = refl

kept_part : (h : Heap) (t : ℕ) (s : Step) (entries : List ℕ) (has : ℕ → List ℕ) → IsSound h → May h t s → Knows h t has
    → IsPart (kept_cells h t s) t (part_by (length h.cells) (now h t has) s (told_apart h t s) entries None)
kept_part h t s entries has sound may knows =
    let row : row_at (kept_cells h t s) t ≡ record (row_at h t) {
      stage = stage_after (words_for (length h.cells)) s
          (row_at h t).stage;
    } = read_here h.rows t _ no_row may.inside in
    record {
      row_is = row ∙ ap (λ stage. record (row_at h t) { stage = stage })
          (sym (own_stage (words_for (length h.cells)) (row_at h t).stage (row_at h t).hand s may.hand));
      frame_is = refl;
      popped_is = read_here h.popped t _ [] (omega (arith, sound.shaped.popped, may.inside)) ∙ popped_alike h t s may;
      work_is = refl;
      locked_has = λ d at. knows.locked d (ap (λ (r : Row). locked_cell (frame_at h t) r.locked) (sym row) ∙ at);
      work_has = knows.worklists;
    }

-- ---- both

by_target : (h : Heap) (t : ℕ) (s : Step) (entries : List ℕ) (has : ℕ → List ℕ) (o : Option ℕ) → IsSound h → QueuesFit h
    → May h t s → target_at h t s ≡ o
    → entries ≡ found_at h s o → Knows h t has
    → IsPart (after_target h t s o) t (part_by (length h.cells) (now h t has) s (told_at h t s o) entries o)
by_target h t s entries has None sound fit may named are knows = kept_part h t s entries has sound may knows
by_target h t s entries has (Some c) sound fit may named are knows =
    stepped_part (length h.cells) h t s c (told_of h t s c) entries has sound may named
    (alike h t s c sound fit may named) are knows

-- the step, from what the thread knows
pub own_step : (h : Heap) (t : ℕ) (s : Step) (entries : List ℕ) (has : ℕ → List ℕ) → IsSound h → QueuesFit h → May h t s
    → entries ≡ found_at h s (target_at h t s) → Knows h t has
    → IsPart (after_target h t s (target_at h t s)) t
    (part_after (length h.cells) (now h t has) (Stepped s (told_at h t s (target_at h t s)) entries))
own_step h t s entries has sound fit may are knows =
    subst (λ o. IsPart (after_target h t s (target_at h t s)) t
    (part_by (length h.cells) (now h t has) s (told_at h t s (target_at h t s)) entries o))
    (sym (target_alike h t has s knows))
    (by_target h t s entries has (target_at h t s) sound fit may refl are knows)
