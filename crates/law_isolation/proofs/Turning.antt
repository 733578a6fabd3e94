-- What a call on the object of a place makes of payloads: what it puts home is the payload of the object's cell, where
-- that is private; and where it keeps what it found, all is left alone.
use Rattle.std.proofs.Common.{◌≡◌, ◌∙◌, sym, ap, ℕ, ◌+◌, eqb, cond, true, List, ◌∷◌, Some, inl, inr}
use Rattle.std.proofs.lemmas.Bool.{cases_Bool, cases_lt, eqb-true, cond-true, cond-false}
use Rattle.brc_count.specs.law.declared.world.event.Change.{Change}
use Rattle.brc_count.specs.law.declared.world.event.Change.TheVariants as changes
use Rattle.brc_count.specs.law.declared.world.event.Source.{Source}
use Rattle.brc_count.specs.law.declared.world.event.Source.TheVariants as sources
use Rattle.brc_count.specs.law.declared.world.event.Step.TheVariants.{Lock, Unlock, LocalUp, SharedUp}
use Rattle.brc_words.specs.declared.entry.Entry.{Entry}
use Rattle.brc_words.specs.declared.limits.TheConstants.{FIRST_MORTAL}
use Rattle.brc_count.specs.law.declared.rule.contents.Contents.{Contents}
use Rattle.brc_count.specs.law.declared.rule.told.Moved.TheVariants as moves
use Rattle.brc_count.specs.law.declared.rule.told.LogItem.{LogItem}
use Rattle.brc_count.specs.law.declared.rule.told.LogItem.TheVariants.{Stepped}
use Rattle.brc_count.specs.law.rule.Seen.{part_seen, counts_seen}
use Rattle.brc_count.specs.Frames.{FrameSeen, HandleSeen, CountsUp, place_seen}
use Rattle.brc_count.specs.Locking.{Changes}
use Rattle.brc_count.specs.Locking.{cell_in}
use Rattle.brc_things.specs.Changing.{PlainCall, Shares}
use Rattle.brc_things.specs.Looking.{LooksAt}
use Rattle.brc_count.specs.law.payloads.Payloads.{private_seen, last_put, payloads_of, locked_seen, FindsOwn}
use Rattle.brc_count.proofs.law.payloads.Payloads_Law.{has_payload}
use Rattle.brc_count.specs.law.living.Living.{OwnLog}
use Rattle.law_isolation.proofs.Left_Alone.{Leaves, Replaces, LeavesAll, ReplacesIn, leaves_on, replaces_on}
use Rattle.law_isolation.proofs.Left_Alone.{lock_leaves, unlock_replaces, keep_leaves, locks_its_cell, never_shares}
use Rattle.law_isolation.proofs.Left_Alone.{on_frame, off_frame, up_leaves, counts_here}

-- a payload that is what it was
pub replaces_same : {n m : ℕ} {before log : List LogItem} (cell : ℕ) (found : Contents) → Leaves n before m log
    → payloads_of n before cell ≡ Some found
    → Replaces n before m log cell found
replaces_same {n = n} {m = m} {before = before} {log = log} cell found leaves is =
    record { payloads = payloads; dead = leaves.dead; allocs = leaves.allocs }
  where
    payloads : (c : ℕ) → payloads_of m log c ≡ cond (eqb cell c) (Some found) (payloads_of n before c)
    payloads c = leaves.payloads c ∙ (elim (cases_Bool (eqb cell c)) [
      | inr off ↦ sym (cond-false (eqb cell c) (Some found) (payloads_of n before c) off)
      | inl on ↦ ap (payloads_of n before) (sym (eqb-true cell c on)) ∙ is
          ∙ sym (cond-true (eqb cell c) (Some found) (payloads_of n before c) on)
    ])

module _ (n : ℕ) (log : List LogItem) (k cell : ℕ) (found : Contents) (there : place_seen n log k ≡ Some cell) where
  -- the log with the locking
  abbrev locked_log : List LogItem
  locked_log = Stepped (Lock k) 0 (moves.Found cell found) ∷ log

  private_still : (payload : Contents) → payloads_of n log cell ≡ Some payload → private_seen n locked_log cell ≡ true
  private_still payload is =
      (has_payload (private_seen n locked_log cell) (last_put locked_log cell) payload
      ((lock_leaves n log k 0 cell found).payloads cell ∙ is)).0

  turn_replaces : (change : Change) (put payload : Contents) → payloads_of n log cell ≡ Some payload
      → Replaces n log n (Stepped (Unlock change) 0 (moves.Put cell put) ∷ locked_log) cell put
  turn_replaces change put payload is =
      replaces_on (lock_leaves n log k 0 cell found)
      (unlock_replaces n locked_log change 0 cell put
      (never_shares (private_seen n locked_log) (part_seen n locked_log).frame (locked_seen n locked_log) cell change
      (locks_its_cell n log k 0 cell (moves.Found cell found) there) (private_still payload is))
      (private_still payload is))

  turn_leaves : FindsOwn n log cell found
      → Leaves n log n (Stepped (Unlock changes.Keep) 0 (moves.Put cell found) ∷ locked_log)
  turn_leaves finds =
      leaves_on (lock_leaves n log k 0 cell found)
      (keep_leaves n locked_log 0 cell found
      (λ payload is. finds.private payload (sym ((lock_leaves n log k 0 cell found).payloads cell) ∙ is)))

module _ {A : Type 0} where
  -- What the object in the place was found to have is what its thread put home there last, and what was put home
  -- replaces that.
  pub record Turns (old new : FrameSeen A) (k : ℕ) (found put : Contents) : Type 0 where
    pub cell : ℕ
    pub of_place : cell_in old k ≡ Some cell
    pub finds : FindsOwn old.heap.cells old.seat.log cell found
    pub replaces : (payload : Contents) → payloads_of old.heap.cells old.seat.log cell ≡ Some payload
        → ReplacesIn old new cell put

  -- it was so, and nothing is replaced
  pub record LooksOn (old new : FrameSeen A) (k : ℕ) (found : Contents) : Type 0 where
    pub cell : ℕ
    pub of_place : cell_in old k ≡ Some cell
    pub finds : FindsOwn old.heap.cells old.seat.log cell found
    pub leaves : LeavesAll old new

  pub changes_turn : (old new : FrameSeen A) (k : ℕ) (found put : Contents) (change : Change)
      → OwnLog new.heap.cells new.seat.log
      → Changes old new k found change put → Turns old new k found put
  changes_turn old new k found put change own did =
      let log : List LogItem = Stepped (Unlock change) 0 (moves.Put did.cell put) ∷ Stepped (Lock k) 0
      (moves.Found did.cell found)
      ∷ old.seat.log in
      let own_here : OwnLog old.heap.cells log = off_frame old new log OwnLog did.keeps.heap did.events own in
      record {
        cell = did.cell;
        of_place = did.of_place;
        finds = own_here.0.1;
        replaces = λ payload is.
            on_frame old new log (λ m there. Replaces old.heap.cells old.seat.log m there did.cell put) did.keeps.heap
            did.events
            (turn_replaces old.heap.cells old.seat.log k did.cell found did.of_place change put payload is);
      }

  kept_looks : (old new : FrameSeen A) (k cell : ℕ) (found : Contents) → OwnLog new.heap.cells new.seat.log
      → new.heap ≡ old.heap → cell_in old k ≡ Some cell
      → new.seat.log ≡ Stepped (Unlock changes.Keep) 0 (moves.Put cell found) ∷ Stepped (Lock k) 0
      (moves.Found cell found)
      ∷ old.seat.log
      → LooksOn old new k found
  kept_looks old new k cell found own heap of_place events =
      let log : List LogItem = Stepped (Unlock changes.Keep) 0 (moves.Put cell found) ∷ Stepped (Lock k) 0
      (moves.Found cell found)
      ∷ old.seat.log in
      let own_here : OwnLog old.heap.cells log = off_frame old new log OwnLog heap events own in
      record {
        cell = cell;
        of_place = of_place;
        finds = own_here.0.1;
        leaves = on_frame old new log (Leaves old.heap.cells old.seat.log) heap events
            (turn_leaves old.heap.cells old.seat.log k cell found of_place own_here.0.1);
      }

  pub keep_looks : (old new : FrameSeen A) (k : ℕ) (found : Contents) → OwnLog new.heap.cells new.seat.log
      → Changes old new k found changes.Keep found → LooksOn old new k found
  keep_looks old new k found own did = kept_looks old new k did.cell found own did.keeps.heap did.of_place did.events

  pub look_looks : (old new : FrameSeen A) (k : ℕ) (found : Contents) → OwnLog new.heap.cells new.seat.log
      → new.heap ≡ old.heap
      → LooksAt old new k found → LooksOn old new k found
  look_looks old new k found own heap did = kept_looks old new k did.cell found own heap did.of_place did.events

  -- counting up is one item
  up_item : (old new : FrameSeen A) (source : Source) (k c : ℕ) → CountsUp old new source k c
      → (x : LogItem) × (new.seat.log ≡ x ∷ old.seat.log)
  up_item old new source k c counts = elim (cases_lt c FIRST_MORTAL) [
    | inl fixed ↦ (Stepped (LocalUp source k) (counts.immortal fixed).found moves.Nothing, (counts.immortal fixed).told)
    | inr mortal ↦ elim (counts_here old.heap.cells old.heap.local_limit old.seat.log c) [
      | inl here ↦ (
        Stepped (LocalUp source k) (counts_seen old.heap.cells old.seat.log c + 1) moves.Nothing,
        counts.own mortal here,
      )
      | inr elsewhere ↦ (
        Stepped (SharedUp source k) (counts.shared mortal elsewhere).found moves.Nothing,
        (counts.shared mortal elsewhere).told,
      )
    ]
  ]

  pub shares_turn : (old new : FrameSeen A) (k : ℕ) (call : PlainCall Entry) (given : HandleSeen)
      → OwnLog new.heap.cells new.seat.log
      → (did : Shares old new k call given) → Turns old new k did.found did.found
  shares_turn old new k call given own did =
      let n : ℕ = old.heap.cells in
      let up = up_item did.locked did.shared (sources.Entry did.index) given.place did.entry.cell did.gives.counted in
      let lock : LogItem = Stepped (Lock k) 0 (moves.Found did.cell did.found) in
      let last : LogItem = Stepped (Unlock changes.Keep) 0 (moves.Put did.cell did.found) in
      let shared_log : did.shared.seat.log ≡ up.0 ∷ lock ∷ old.seat.log = up.1
      ∙ ap (λ (log : List LogItem). up.0 ∷ log) did.locks in
      let events : new.seat.log ≡ last ∷ up.0 ∷ lock ∷ old.seat.log = did.unlocks
      ∙ ap (λ (log : List LogItem). last ∷ log) shared_log in
      let own_here : OwnLog n (last ∷ up.0 ∷ lock ∷ old.seat.log) =
      off_frame old new (last ∷ up.0 ∷ lock ∷ old.seat.log) OwnLog did.keeps.heap events own in
      let finds : FindsOwn n old.seat.log did.cell did.found = own_here.0.0.1 in
      let locked : LeavesAll old did.locked =
      on_frame old did.locked (lock ∷ old.seat.log) (Leaves n old.seat.log) did.same_heap did.locks
      (lock_leaves n old.seat.log k 0 did.cell did.found) in
      let shared : LeavesAll old did.shared =
      leaves_on locked (up_leaves did.locked did.shared (sources.Entry did.index) given.place did.entry.cell (did.shared_heap
      ∙ sym did.same_heap) did.gives.counted) in
      let keeps : LeavesAll did.shared new =
      on_frame did.shared new (last ∷ did.shared.seat.log) (Leaves did.shared.heap.cells did.shared.seat.log)
      (did.keeps.heap ∙ sym did.shared_heap) did.unlocks
      (keep_leaves did.shared.heap.cells did.shared.seat.log 0 did.cell did.found
      (λ payload is. finds.private payload (sym (shared.payloads did.cell) ∙ is))) in
      record {
        cell = did.cell;
        of_place = did.of_place;
        finds = finds;
        replaces = λ payload is. replaces_same did.cell did.found (leaves_on shared keeps)
            (is ∙ ap Some (sym (finds.private payload is)));
      }
