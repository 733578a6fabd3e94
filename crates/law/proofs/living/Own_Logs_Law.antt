-- What the own log of an active thread tells of what lives, in every run, and so of every seat.
use Rattle.std.proofs.Common.{◌≡◌, ◌≢◌, ℕ, ◌<◌, ◌==◌, Bool, true, false, if◌then◌else◌, List, [], ◌∷◌, Option, Some, ◌⊎◌}
use Rattle.std.proofs.Common.{slice_get, refl, sym, ◌∙◌, ap, subst, inl, inr, arith}
use Rattle.std.proofs.lemmas.Bool.{cases_eq, cases_Bool, and_parts, eqb-true, true≢false}
use mathlib.Core.Option.{some}
use lib.ListN.{get_elem?}
use Rattle.atomic_table.specs.Table.{State}
use Rattle.brc_words.specs.declared.kind.Kind.{Kind}
use Rattle.law.specs.declared.world.event.Event.{Event}
use Rattle.law.specs.declared.world.event.Step.{Step}
use Rattle.law.specs.declared.world.event.Step.TheVariants.{Birth, Free, Lock, Register, Gather}
use Rattle.law.specs.declared.world.row.Phase.TheVariants as phases
use Rattle.law.specs.declared.world.row.Row.{Row}
use Rattle.law.specs.world.Lists.{place_at, is_marked}
use Rattle.law.specs.world.Heap.{Heap, row_at, frame_at, worklist_at, entries_at, AreOptions}
use Rattle.law.specs.world.Holding.{lives}
use Rattle.law.specs.world.Sound.{IsSound}
use Rattle.law.specs.world.Steps.{enabled, after, root_after, root_may, thread_may, target_at, is_active}
use Rattle.law.proofs.world.Asking.{May, may_parts}
use Rattle.law.proofs.world.Counting.{held_unmarked}
use Rattle.law.proofs.world.Dropping.{held_by_place, held_by_entry}
use Rattle.law.specs.declared.world.row.Stage.TheVariants as stages
use Rattle.law.proofs.world.Naming.{one-false, busy_hand}
use Rattle.law.specs.lasting.Staying.{is_about}
use Rattle.law.proofs.lasting.Lasting.{others_own, bearing}
use Rattle.law.specs.known.Items.{IsPart, MayCome, is_start, is_used, part_of}
use Rattle.law.proofs.known.Items_Law.{parts_are_told}
use Rattle.law.specs.declared.rule.contents.Contents.{Contents}
use Rattle.law.specs.declared.rule.told.Moved.{Moved}
use Rattle.law.specs.declared.rule.told.Moved.TheVariants as moves
use Rattle.law.specs.declared.rule.told.LogItem.{LogItem}
use Rattle.law.specs.declared.rule.told.LogItem.TheVariants.{Stepped, Loaded, Lost}
use Rattle.law.specs.declared.rule.view.View.{View}
use Rattle.law.specs.rule.Homes.{AtRest, ContentsFit}
use Rattle.law.specs.rule.Logs.{item_of, Run, items_of, begins, own_of, world, entries_in, IsLegal}
use Rattle.law.specs.rule.Rule.{Kept}
use Rattle.law.specs.rule.Seen.{part_seen}
use Rattle.law.proofs.rule.Contents_Law.{contents_fit}
use Rattle.law.proofs.rule.Knowing.{Known, kept_part}
use Rattle.law.proofs.rule.Once.{rule_logs}
use Rattle.law.proofs.rule.Own_Logs.{own_items, own_more}
use Rattle.law.proofs.rule.Stepping.{moved_on}
use Rattle.law.specs.private.Private.{Isolated}
use Rattle.law.proofs.private.Private_Law.{active_or_opens, opening_before}
use Rattle.law.specs.payloads.Payloads.{private_seen, last_put, LockingFits, OwnLocks}
use Rattle.law.proofs.payloads.Own_Puts.{active_registered, opening_registered, isolated, none_begins, legal_before}
use Rattle.law.proofs.payloads.Own_Puts.{legal_sound}
use Rattle.law.proofs.payloads.Payloads_Law.{has_payload, payload_is_there, own_locks}
use Rattle.law.specs.living.Living.{is_dead, Living, ItemFits, OwnLog}

-- a thread that is active, or whose number is used again and which opens its words
abbrev IsUp : Heap → ℕ → Type 0
IsUp h t = (is_active (row_at h t).stage ≡ true) ⊎ ((m : ℕ) × ((row_at h t).stage ≡ stages.Opening m))

module _ (n limit : ℕ) (options : AreOptions n limit) where
  -- the thread is active, or its number is used again and it opens its words
  IsUpIn : Run → ℕ → Type 0
  IsUpIn run t = IsUp (world n limit run) t

  -- the part of the world of such a thread is what its log says
  part_is : (run : Run) (t : ℕ) → IsLegal n limit run → 0 < t → IsUpIn run t
      → IsPart (world n limit run) t (part_seen n (own_of t run))
  unfolding IsUpIn
  part_is run t legal some_thread up =
      subst (λ log. IsPart (world n limit run) t (part_of n log)) (own_items t run)
      (parts_are_told n limit (items_of run) t options legal.items (elim up [
        | inl active ↦ active_registered (world n limit run) t some_thread active
        | inr opens ↦ opening_registered (world n limit run) t opens.0 some_thread opens.1
      ]))

  -- a private cell is an active thread's
  active_own : (run : Run) (t c : ℕ) → IsLegal n limit run → 0 < t → IsUpIn run t
      → private_seen n (own_of t run) c ≡ true → is_active (row_at (world n limit run) t).stage ≡ true
  unfolding IsUpIn
  active_own run t c legal some_thread up mine = elim up [
    | inl active ↦ active
    | inr opens ↦ absurd (true≢false (sym mine ∙ none_begins n limit options run t opens.0 c legal some_thread opens.1))
  ]

  -- ---- what lives

  -- what is held is on no worklist
  held_alive : (run : Run) (t c : ℕ) → IsLegal n limit run → 0 < t → IsUpIn run t
      → is_marked (worklist_at (world n limit run) t) c ≡ false → is_dead n (own_of t run) c ≡ false
  held_alive run t c legal some_thread active off = ap (λ marks. is_marked marks c)
      (sym (part_is run t legal some_thread active).work_is) ∙ off

  -- a private cell that isn't dead is at rest
  at_rest : (run : Run) (t c : ℕ) → IsLegal n limit run → 0 < t → IsUpIn run t
      → private_seen n (own_of t run) c ≡ true → is_dead n (own_of t run) c ≡ false → AtRest (world n limit run) c
  at_rest run t c legal some_thread active mine alive =
      let h : Heap = world n limit run in
      let apart : Isolated h t (private_seen n (own_of t run)) =
      isolated n limit options run t legal some_thread (active_own run t c legal some_thread active mine) in
      let work : worklist_at h t ≡ (part_seen n (own_of t run)).worklist =
      (part_is run t legal some_thread active).work_is in
      record {
        live = (apart.cells c mine).live;
        off = λ u. elim (cases_Bool (is_marked (worklist_at h u) c)) [
          | inr off ↦ off
          | inl on ↦
              let same : u ≡ t = apart.worklists u c mine on in
              absurd (true≢false (sym on ∙ ap (λ v. is_marked (worklist_at h v) c) same
              ∙ ap (λ marks. is_marked marks c) work ∙ alive))
        ];
      }

  -- what a place has, and what a private cell has that isn't dead, isn't dead
  living : (run : Run) (t : ℕ) → IsLegal n limit run → 0 < t → IsUpIn run t → Living n (own_of t run)
  living run t legal some_thread active =
      let h : Heap = world n limit run in
      let sound : IsSound h = legal_sound n limit options run legal in
      record {
        placed = λ k c at.
            let there : place_at (frame_at h t) k ≡ Some c = ap (λ frame. place_at frame k)
            (part_is run t legal some_thread active).frame_is ∙ at in
            held_alive run t c legal some_thread active
            (one-false (is_marked (worklist_at h t) c) (held_unmarked h t c sound (held_by_place h t k c there)));
        entered = λ c i d payload has alive at.
            let mine : private_seen n (own_of t run) c ≡ true =
            (has_payload (private_seen n (own_of t run) c) (last_put (own_of t run) c) payload has).0 in
            let fits : ContentsFit h run c = contents_fit n limit run c options legal
            (at_rest run t c legal some_thread active mine alive) in
            let same : entries_in payload ≡ entries_at h c =
            ap entries_in (sym (payload_is_there n limit options run t c payload legal some_thread
            (active_own run t c legal some_thread active mine) has))
            ∙ fits.entries in
            let there : slice_get (entries_at h c) i ≡ Some d = ap (λ es. slice_get es i) (sym same) ∙ at in
            held_alive run t d legal some_thread active
            (one-false (is_marked (worklist_at h t) d) (held_unmarked h t d sound (held_by_entry h c i d there)));
      }

  -- ---- active before

  -- nobody makes a thread active but who registers it
  no_about : (h : Heap) (u : ℕ) (s : Step) (t : ℕ) → May h u s → is_about t s ≡ false
  no_about h u (Register v) t may = absurd (true≢false (sym may.hand))
  no_about h u (Gather v) t may = absurd (true≢false (sym may.hand))
  no_about h u _ t may = refl

  by_others : (h : Heap) (e : Event) (t : ℕ) → IsSound h → enabled h e ≡ true → e.thread ≢ t → is_about t e.step ≡ false
      → IsUp (after h e) t → IsUp h t
  by_others h e t sound ok other apart up =
      let row = (others_own h e t sound ok (record { other = other; apart = apart })).row in
      elim up [
        | inl active ↦ inl (ap (λ (r : Row). is_active r.stage) (sym row) ∙ active)
        | inr opens ↦ inr (opens.0, ap (λ (r : Row). r.stage) (sym row) ∙ opens.1)
      ]

  by_root : (h : Heap) (t : ℕ) (s : Step) (number : ℕ) (moved : Moved) → IsSound h → 0 < t
      → enabled h (record { thread = 0; step = s }) ≡ true → root_may h s ≡ true
      → is_start t (item_of (Stepped s number moved)) ≡ false
      → IsUp (after h (record { thread = 0; step = s })) t → IsUp h t
  by_root h t (Register v) number moved sound some_thread ok may older up =
      by_others h (record { thread = 0; step = Register v }) t sound ok (λ e. omega (arith, e, some_thread))
      older up
  by_root h t (Gather v) number moved sound some_thread ok may older up = up
  by_root h t s number moved sound some_thread ok may older up = absurd (true≢false (sym may))

  -- a thread's own step
  by_self : (h : Heap) (t : ℕ) (s : Step) → May h t s → IsUp (moved_on h t s) t → IsUp h t
  by_self h t s may up = elim up [
    | inl active ↦ elim (active_or_opens h t s (target_at h t s) may active) [
      | inl was ↦ inl was
      | inr opens ↦ inr (opens.0, opens.2)
    ]
    | inr opening ↦
        let opens = opening_before h t opening.0 s (target_at h t s) may opening.1 in inr (opens.0, opens.2)
  ]

  by_step : (h : Heap) (t u : ℕ) (s : Step) (number : ℕ) (moved : Moved) → IsSound h → 0 < t
      → enabled h (record { thread = u; step = s }) ≡ true → is_start t (item_of (Stepped s number moved)) ≡ false
      → IsUp (after h (record { thread = u; step = s })) t → IsUp h t
  by_step h t u s number moved sound some_thread ok older up = elim (cases_Bool (u == 0)) [
    | inl root ↦
        let zero_is : u ≡ 0 = eqb-true u 0 root in
        by_root h t s number moved sound some_thread
        (subst (λ v. enabled h (record { thread = v; step = s }) ≡ true) zero_is ok)
        (subst (λ b. (if b then root_may h s else thread_may h u s) ≡ true) root ok) older
        (subst (λ v. IsUp (after h (record { thread = v; step = s })) t) zero_is up)
    | inr thread ↦
        let may : May h u s = may_parts h u s
        (subst (λ b. (if b then root_may h s else thread_may h u s) ≡ true) thread ok) in
        elim (cases_eq u t) [
          | inr other ↦ by_others h (record { thread = u; step = s }) t sound ok other (no_about h u s t may) up
          | inl mine ↦
              let is_after : after h (record { thread = u; step = s }) ≡ moved_on h u s =
              ap (λ b. if b then root_after h s else moved_on h u s) thread in
              by_self h t s (subst (λ v. May h v s) mine may)
              (subst (λ v. IsUp (moved_on h v s) t) mine (subst (λ w. IsUp w t) is_after up))
        ]
  ]

  -- whoever is up after an item that doesn't register it was so before
  was_active : (run : Run) (t u : ℕ) (x : LogItem) → IsLegal n limit run → 0 < t
      → MayCome (world n limit run) u (item_of x) → is_start t (item_of x) ≡ false → IsUpIn ((u, x) ∷ run) t
      → IsUpIn run t
  unfolding IsUpIn
  was_active run t u (Stepped s number moved) legal some_thread comes older active =
      by_step (world n limit run) t u s number moved (legal_sound n limit options run legal)
      some_thread comes.0 older active
  was_active run t u (Loaded word number) legal some_thread comes older active = active
  was_active run t u (Lost word number) legal some_thread comes older active = active

  -- ---- items

  -- a free is of a cell on the worklist
  free_fits : (run : Run) (t c number : ℕ) (moved : Moved) → IsLegal n limit run → 0 < t → IsUpIn run t
      → May (world n limit run) t (Free c) → is_dead n (own_of t run) c ≡ true
  free_fits run t c number moved legal some_thread active may =
      ap (λ marks. is_marked marks c) (sym (part_is run t legal some_thread active).work_is) ∙ (and_parts _ _ may.own).0

  -- and a birth in a cell that is claimed, so that no object lives there
  birth_fits : (run : Run) (t c : ℕ) (kind : Kind) (k : ℕ) → IsLegal n limit run → 0 < t → IsUpIn run t
      → May (world n limit run) t (Birth c kind k) → private_seen n (own_of t run) c ≡ false
  birth_fits run t c kind k legal some_thread active may = elim (cases_Bool (private_seen n (own_of t run) c)) [
    | inr other ↦ other
    | inl mine ↦
        let h : Heap = world n limit run in
        let claimed = (bearing phases.Ready (inr (inr refl)) h t c (legal_sound n limit options run legal)
        (busy_hand phases.Ready c (row_at h t).hand may.hand)).1 in
        let own = isolated n limit options run t legal some_thread (active_own run t c legal some_thread active mine) in
        absurd (true≢false (sym (own.cells c mine).live ∙ ap lives claimed))
  ]

  -- the root makes no step of a thread
  thread_step : (h : Heap) (t : ℕ) (s : Step) → 0 < t → enabled h (record { thread = t; step = s }) ≡ true → May h t s
  thread_step h t s some_thread ok = elim (cases_Bool (t == 0)) [
    | inl root ↦ absurd (omega (arith, some_thread, eqb-true t 0 root))
    | inr thread ↦ may_parts h t s (subst (λ b. (if b then root_may h s else thread_may h t s) ≡ true) thread ok)
  ]

  fits : (run : Run) (t : ℕ) (x : LogItem) → IsLegal n limit run → 0 < t → IsUpIn run t
      → MayCome (world n limit run) t (item_of x) → LockingFits n (own_of t run) x → ItemFits n (own_of t run) x
  fits run t (Stepped (Lock k) number (moves.Found c found)) legal some_thread active comes locking = locking
  fits run t (Stepped (Free c) number moved) legal some_thread active comes locking =
      free_fits run t c number moved legal some_thread active
      (thread_step (world n limit run) t (Free c) some_thread comes.0)
  fits run t (Stepped (Birth c kind k) number moved) legal some_thread active comes locking =
      birth_fits run t c kind k legal some_thread active
      (thread_step (world n limit run) t (Birth c kind k) some_thread comes.0)
  fits run t x legal some_thread active comes locking = tt

  -- ---- logs

  -- what a log begins with
  begun : (t : ℕ) (x : LogItem) (used : Bool) → is_start t (item_of x) ≡ true → Living n (begins used x)
      → OwnLog n (begins used x)
  begun t x false starts living = tt
  begun t (Stepped (Register v) number moved) true starts living = (tt, tt, living)
  begun t (Stepped _ number moved) true starts living = absurd (true≢false (sym starts))
  begun t (Loaded word number) true starts living = absurd (true≢false (sym starts))
  begun t (Lost word number) true starts living = absurd (true≢false (sym starts))

  own_log_by : (t : ℕ) (x : LogItem) (starts mine used : Bool) (log : List LogItem) → is_start t (item_of x) ≡ starts
      → (starts ≡ true → Living n (begins used x)) → (starts ≡ false → OwnLog n log)
      → (starts ≡ false → mine ≡ true → ItemFits n log x × Living n (x ∷ log))
      → OwnLog n (if starts then begins used x else (if mine then x ∷ log else log))
  own_log_by t x true mine used log is first before more = begun t x used is (first refl)
  own_log_by t x false true used log is first before more =
      let new : ItemFits n log x × Living n (x ∷ log) = more refl refl in
      (before refl, new.0, new.1)
  own_log_by t x false false used log is first before more = before refl

  -- the log of such a thread is an own log
  up_log : (run : Run) (t : ℕ) → IsLegal n limit run → 0 < t → IsUpIn run t → OwnLog n (own_of t run)
  up_log [] t legal some_thread active = tt
  up_log (x ∷ run) t legal some_thread active =
      let older : IsLegal n limit run = legal_before n limit options x run legal in
      let used : Bool = is_used t (items_of run) in
      let before : is_start t (item_of x.1) ≡ false
      → IsUpIn run t = λ off. was_active run t x.0 x.1 older some_thread legal.items.1 off active in
      own_log_by t x.1 (is_start t (item_of x.1)) (x.0 == t) used (own_of t run) refl
      (λ starts. subst (Living n)
      (ap (λ b. if b then begins used x.1 else (if x.0 == t then x.1 ∷ own_of t run else own_of t run)) starts)
      (living (x ∷ run) t legal some_thread active))
      (λ off. up_log run t older some_thread (before off))
      (λ off mine.
      let same : x.0 ≡ t = eqb-true x.0 t mine in
      let own : own_of t (x ∷ run) ≡ x.1 ∷ own_of t run = ap (λ v. own_of t ((v, x.1) ∷ run)) same
      ∙ own_more t x.1 run off in
      let locks : OwnLocks n (x.1 ∷ own_of t run) = subst (OwnLocks n) own
      (own_locks n limit options (x ∷ run) t legal) in (
        fits run t x.1 older some_thread (before off)
            (subst (λ v. MayCome (world n limit run) v (item_of x.1)) same legal.items.1) locks.1,
        subst (Living n) own (living (x ∷ run) t legal some_thread active),
      ))

  -- so is that of an active one
  pub own_log : (run : Run) (t : ℕ) → IsLegal n limit run → 0 < t → is_active (row_at (world n limit run) t).stage
      ≡ true → OwnLog n (own_of t run)
  unfolding IsUpIn
  own_log run t legal some_thread active = up_log run t legal some_thread (inl active)

-- whoever knows its part of a run, and is active, has an own log
pub known_own_log : (n limit : ℕ) (h : Heap) (t : ℕ) (log : List LogItem) → Known n limit h t log → 0 < t
    → is_active (part_seen n log).row.stage ≡ true → OwnLog n log
known_own_log n limit h t log known some_thread stage =
    subst (OwnLog n) known.is_own
    (own_log n limit known.options known.run t known.legal some_thread
    (ap (λ w. is_active (row_at w t).stage) known.is_world
    ∙ ap (λ (row : Row). is_active row.stage) known.part.row_is ∙ stage))

module _ {B : Type 0} (shows : B → ℕ × Contents) (n limit : ℕ) where
  -- so is that of the seat of an active thread
  pub seats_own_log : (s : State (Option B) View) (r : Kept shows n limit s) (j : ℕ) (v : View)
      → get_elem? s.views j ≡ some v → v.active ≡ true → 0 < v.thread
      → is_active (part_seen n v.log).row.stage ≡ true → OwnLog n v.log
  seats_own_log s r j v there active some_thread stage =
      let h : Heap = world n limit r.run in
      let part : IsPart h v.thread (part_seen n v.log) = kept_part shows n limit s r j v there active some_thread in
      subst (OwnLog n) (rule_logs shows n limit s r j v there active)
      (own_log n limit r.options r.run v.thread r.legal some_thread
      (ap (λ (row : Row). is_active row.stage) part.row_is ∙ stage))
