-- What lies in a private cell that its thread has locked leads to own cells.
use Rattle.std.proofs.Common.{◌≡◌, ℕ, ◌<◌, true, Option, Some, sym, ◌∙◌, ap, subst, inl, inr, slice_get, arith}
use Rattle.std.proofs.lemmas.Bool.{cases_Bool}
use mathlib.Core.Option.{some}
use lib.ListN.{get_elem?}
use Rattle.atomic_table.specs.Table.{State}
use Rattle.law.specs.world.Lists.{is_marked}
use Rattle.law.specs.world.Heap.{Heap, row_at, worklist_at, entries_at, AreOptions}
use Rattle.law.specs.world.Steps.{is_active, locked_at}
use Rattle.law.proofs.lasting.Lasting.{dead_unlocked, locked_mutex}
use Rattle.law.specs.declared.rule.contents.Contents.{Contents}
use Rattle.law.specs.declared.rule.view.View.{View}
use Rattle.law.specs.rule.Homes.{AtRest, ContentsFit}
use Rattle.law.specs.rule.Logs.{Run, items_of, own_of, world, entries_in, IsLegal}
use Rattle.law.specs.rule.Rule.{Kept}
use Rattle.law.proofs.rule.Contents_Law.{contents_fit}
use Rattle.law.proofs.rule.Once.{rule_logs}
use Rattle.law.proofs.rule.Own_Logs.{own_items}
use Rattle.law.specs.private.Private.{private_of}
use Rattle.law.specs.private.Own_Entries.{keeps_own, OwnEntries}
use Rattle.law.proofs.private.Own_Entries_Law.{entries_stay_own}
use Rattle.law.specs.payloads.Payloads.{private_seen, last_put, payloads_of, locked_seen, keeps_own_seen, HoldsOwn}
use Rattle.law.proofs.payloads.Own_Puts.{active_registered, isolated, legal_reached, legal_sound}
use Rattle.law.proofs.payloads.Payloads_Law.{has_payload, payload_is_there, locked_active, seat_locked}

module _ (n limit : ℕ) (options : AreOptions n limit) where
  -- a private cell that is locked is on no worklist
  at_rest : (run : Run) (t c : ℕ) → IsLegal n limit run → 0 < t → locked_at (world n limit run) t ≡ Some c
      → private_seen n (own_of t run) c ≡ true → AtRest (world n limit run) c
  at_rest run t c legal some_thread named mine =
      let h : Heap = world n limit run in
      record {
        live = ((isolated n limit options run t legal some_thread
            (locked_active n limit options run t c legal named)).cells c mine).live;
        off = λ u. elim (cases_Bool (is_marked (worklist_at h u) c)) [
          | inr off ↦ off
          | inl on ↦ absurd (omega (
            arith,
            some_thread,
            (locked_mutex h t c (legal_sound n limit options run legal) named).1,
            dead_unlocked h u c (legal_reached n limit options run legal) on,
          ))
        ];
      }

  -- the entries of the thread's private cells are own ones
  own_entries : (run : Run) (t : ℕ) → IsLegal n limit run → 0 < t → is_active (row_at (world n limit run) t).stage
      ≡ true → keeps_own_seen n (own_of t run) ≡ true → OwnEntries (world n limit run) (private_seen n (own_of t run))
  own_entries run t legal some_thread active =
      subst (λ log. keeps_own n log ≡ true → OwnEntries (world n limit run) (private_of n log)) (own_items t run)
      (entries_stay_own n limit (items_of run) t options legal.items
      (active_registered (world n limit run) t some_thread active) active)

  pub holds_own : (run : Run) (t c : ℕ) (payload : Contents) → IsLegal n limit run → 0 < t
      → locked_at (world n limit run) t ≡ Some c → keeps_own_seen n (own_of t run) ≡ true
      → payloads_of n (own_of t run) c ≡ Some payload → HoldsOwn n (own_of t run) payload
  holds_own run t c payload legal some_thread named keeps has i e at =
      let h : Heap = world n limit run in
      let active : is_active (row_at h t).stage ≡ true = locked_active n limit options run t c legal named in
      let mine : private_seen n (own_of t run) c ≡ true =
      (has_payload (private_seen n (own_of t run) c) (last_put (own_of t run) c) payload has).0 in
      let fits : ContentsFit h run c = contents_fit n limit run c options legal
      (at_rest run t c legal some_thread named mine) in
      let there : entries_in payload ≡ entries_at h c =
      ap entries_in (sym (payload_is_there n limit options run t c payload legal some_thread active has))
      ∙ fits.entries in
      own_entries run t legal some_thread active keeps c i e mine (ap (λ es. slice_get es i) (sym there) ∙ at)

module _ {B : Type 0} (shows : B → ℕ × Contents) (n limit : ℕ) where
  pub seats_hold_own : (s : State (Option B) View) (r : Kept shows n limit s) (j : ℕ) (v : View) (c : ℕ)
      (payload : Contents) → get_elem? s.views j ≡ some v → v.active ≡ true → 0 < v.thread
      → locked_seen n v.log ≡ Some c → keeps_own_seen n v.log ≡ true → payloads_of n v.log c ≡ Some payload
      → HoldsOwn n v.log payload
  seats_hold_own s r j v c payload there active some_thread named =
      subst (λ log. keeps_own_seen n log ≡ true → payloads_of n log c ≡ Some payload → HoldsOwn n log payload)
      (rule_logs shows n limit s r j v there active)
      (holds_own n limit r.options r.run v.thread c payload r.legal some_thread
      (seat_locked shows n limit s r j v c there active some_thread named))
