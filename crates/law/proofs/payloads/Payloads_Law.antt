-- Each locking found what was its thread's own, in the log of every run and in that of every seat.
use Rattle.std.proofs.Common.{◌≡◌, ℕ, ◌<◌, ◌==◌, Bool, true, false, if◌then◌else◌, [], ◌∷◌, Option, Some, None, refl}
use Rattle.std.proofs.Common.{sym, ◌∙◌, ap, subst, inl, inr}
use Rattle.std.proofs.lemmas.Bool.{cases_Bool, eqb-true, true≢false}
use mathlib.Core.Option.{some}
use lib.ListN.{get_elem?}
use Rattle.atomic_table.specs.Table.{State}
use Rattle.law.specs.declared.world.event.Step.TheVariants.{Lock, Register}
use Rattle.law.specs.declared.world.row.Row.{Row}
use Rattle.law.specs.declared.world.row.Stage.{Stage}
use Rattle.law.specs.declared.world.row.Stage.TheVariants as stages
use Rattle.law.specs.world.Heap.{Heap, row_at, frame_at, AreOptions}
use Rattle.law.specs.world.Steps.{enabled, root_may, thread_may, stage_ok, is_active, locked_cell, locked_at}
use Rattle.law.proofs.world.Asking.{may_parts}
use Rattle.law.specs.known.Items.{MayCome, is_start, is_used, IsPart}
use Rattle.law.specs.declared.rule.contents.Contents.{Contents}
use Rattle.law.specs.declared.rule.told.Moved.TheVariants as moves
use Rattle.law.specs.declared.rule.told.LogItem.{LogItem}
use Rattle.law.specs.declared.rule.told.LogItem.TheVariants.{Stepped, Loaded, Lost}
use Rattle.law.specs.declared.rule.view.View.{View}
use Rattle.law.specs.rule.Logs.{item_of, Run, items_of, begins, own_of, world, contents_at, IsMoved, IsLegal}
use Rattle.law.specs.rule.Rule.{Kept}
use Rattle.law.specs.rule.Seen.{part_seen, contents_locked}
use Rattle.law.proofs.rule.Knowing.{kept_part}
use Rattle.law.proofs.rule.Locked_Contents.{locked_contents}
use Rattle.law.proofs.rule.Once.{rule_logs}
use Rattle.law.specs.payloads.Payloads.{private_seen, last_put, payloads_of, LockingFits, OwnLocks, locked_seen, HasOwn}
use Rattle.law.proofs.payloads.Own_Puts.{last_put_is_there, legal_sound, legal_before}
use Rattle.law.proofs.payloads.Small_Contents.{small_is_there}

-- a cell that has a payload is private, and has it by the thread's own last put
pub has_payload : (b : Bool) (put payload : Contents) → (if b then Some put else None) ≡ Some payload
    → (b ≡ true) × (put ≡ payload)
has_payload true put payload is = (refl, (cc))
has_payload false put payload is = absurd (let bad : None ≡ Some payload = is in cc)

-- only an active thread locks
locks_active : (g : Stage) (k : ℕ) → stage_ok g (Lock k) ≡ true → is_active g ≡ true
locks_active stages.Active k ok = refl
locks_active (stages.Closing m) k ok = absurd (true≢false (sym ok))
locks_active stages.Left k ok = absurd (true≢false (sym ok))
locks_active (stages.Opening m) k ok = absurd (true≢false (sym ok))

module _ (n limit : ℕ) (options : AreOptions n limit) where
  -- the payload of a private cell lies there
  pub payload_is_there : (run : Run) (t c : ℕ) (payload : Contents) → IsLegal n limit run → 0 < t
      → is_active (row_at (world n limit run) t).stage ≡ true
      → payloads_of n (own_of t run) c ≡ Some payload → contents_at run c ≡ payload
  payload_is_there run t c payload legal some_thread active is =
      let has = has_payload (private_seen n (own_of t run) c) (last_put (own_of t run) c) payload is in
      last_put_is_there n limit options run t c legal some_thread active has.0 ∙ has.1

  -- the root doesn't lock
  by_thread : (h : Heap) (t k : ℕ) → enabled h (record { thread = t; step = Lock k }) ≡ true
      → thread_may h t (Lock k) ≡ true
  by_thread h t k ok = elim (cases_Bool (t == 0)) [
    | inr thread ↦ subst (λ b. (if b then root_may h (Lock k) else thread_may h t (Lock k)) ≡ true) thread ok
    | inl root ↦ absurd (true≢false
        (sym (subst (λ b. (if b then root_may h (Lock k) else thread_may h t (Lock k)) ≡ true) root ok)))
  ]

  fits : (run : Run) (t : ℕ) (x : LogItem) → IsLegal n limit run → MayCome (world n limit run) t (item_of x)
      → IsMoved (world n limit run) run t x → LockingFits n (own_of t run) x
  fits run t (Stepped (Lock k) number (moves.Found c found)) legal comes goes =
      let may = may_parts (world n limit run) t (Lock k) (by_thread (world n limit run) t k comes.0) in
      record {
        private = λ payload is. goes.there ∙ payload_is_there run t c payload legal may.some_thread
            (locks_active (row_at (world n limit run) t).stage k may.stage) is;
        small = λ low. goes.there ∙ small_is_there n limit options run c legal low;
      }
  fits run t x legal comes goes = tt

  -- the root's item locks nothing
  begun : (t : ℕ) (x : LogItem) (used : Bool) → is_start t (item_of x) ≡ true → OwnLocks n (begins used x)
  begun t x false starts = tt
  begun t (Stepped (Register v) number moved) true starts = (tt, tt)
  begun t (Stepped _ number moved) true starts = absurd (true≢false (sym starts))
  begun t (Loaded word number) true starts = absurd (true≢false (sym starts))
  begun t (Lost word number) true starts = absurd (true≢false (sym starts))

  more : (t u : ℕ) (x : LogItem) (run : Run) (starts mine used : Bool) → is_start t (item_of x) ≡ starts
      → OwnLocks n (own_of t run) → (mine ≡ true → LockingFits n (own_of t run) x)
      → OwnLocks n (if starts then begins used x else (if mine then x ∷ own_of t run else own_of t run))
  more t u x run true mine used first before new = begun t x used first
  more t u x run false true used first before new = (before, new refl)
  more t u x run false false used first before new = before

  -- each locking of a thread found what was its own
  pub own_locks : (run : Run) (t : ℕ) → IsLegal n limit run → OwnLocks n (own_of t run)
  own_locks [] t legal = tt
  own_locks (x ∷ run) t legal =
      let older : IsLegal n limit run = legal_before n limit options x run legal in
      more t x.0 x.1 run (is_start t (item_of x.1)) (x.0 == t) (is_used t (items_of run)) refl (own_locks run t older)
      (λ mine. subst (λ v. LockingFits n (own_of v run) x.1) (eqb-true x.0 t mine)
      (fits run x.0 x.1 older legal.items.1 legal.moved.1))

  -- a thread that has locked a cell is active
  pub locked_active : (run : Run) (t c : ℕ) → IsLegal n limit run → locked_at (world n limit run) t ≡ Some c
      → is_active (row_at (world n limit run) t).stage ≡ true
  locked_active run t c legal named = elim (cases_Bool (is_active (row_at (world n limit run) t).stage)) [
    | inl active ↦ active
    | inr off ↦ absurd (let none : None ≡ Some c = ap (locked_cell (frame_at (world n limit run) t))
        (sym (((legal_sound n limit options run legal).threads t).inactive_lock off)) ∙ named in cc)
  ]

  -- what is locked was found so
  pub has_own : (run : Run) (t c : ℕ) → IsLegal n limit run → 0 < t → locked_at (world n limit run) t ≡ Some c
      → HasOwn n (own_of t run) c
  has_own run t c legal some_thread named =
      let there : contents_locked (own_of t run) ≡ Some (contents_at run c) =
      locked_contents n limit run t c options legal some_thread named in
      record {
        private = λ payload is. there
            ∙ ap Some (payload_is_there run t c payload legal some_thread (locked_active run t c legal named) is);
        small = λ low. there ∙ ap Some (small_is_there n limit options run c legal low);
      }

module _ {B : Type 0} (shows : B → ℕ × Contents) (n limit : ℕ) where
  pub seats_own_locks : (s : State (Option B) View) (r : Kept shows n limit s) (j : ℕ) (v : View)
      → get_elem? s.views j ≡ some v → v.active ≡ true → OwnLocks n v.log
  seats_own_locks s r j v there active = subst (OwnLocks n) (rule_logs shows n limit s r j v there active)
      (own_locks n limit r.options r.run v.thread r.legal)

  -- what the seat's log says is locked is locked
  pub seat_locked : (s : State (Option B) View) (r : Kept shows n limit s) (j : ℕ) (v : View) (c : ℕ)
      → get_elem? s.views j ≡ some v → v.active ≡ true → 0 < v.thread
      → locked_seen n v.log ≡ Some c → locked_at (world n limit r.run) v.thread ≡ Some c
  seat_locked s r j v c there active some_thread named =
      let h : Heap = world n limit r.run in
      let part : IsPart h v.thread (part_seen n v.log) = kept_part shows n limit s r j v there active some_thread in
      ap (λ (row : Row). locked_cell (frame_at h v.thread) row.locked) part.row_is
      ∙ ap (λ frame. locked_cell frame (part_seen n v.log).row.locked) part.frame_is ∙ named

  pub seats_have_own : (s : State (Option B) View) (r : Kept shows n limit s) (j : ℕ) (v : View) (c : ℕ)
      → get_elem? s.views j ≡ some v → v.active ≡ true → 0 < v.thread
      → locked_seen n v.log ≡ Some c → HasOwn n v.log c
  seats_have_own s r j v c there active some_thread named =
      subst (λ log. HasOwn n log c) (rule_logs shows n limit s r j v there active)
      (has_own n limit r.options r.run v.thread c r.legal some_thread
      (seat_locked s r j v c there active some_thread named))
