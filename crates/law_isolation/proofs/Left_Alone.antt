-- What items that neither bear nor free leave alone: private cells' payloads, but that of an unlocked one; dead cells;
-- births.
use Rattle.std.proofs.Common.{◌≡◌, ◌∙◌, refl, sym, ap, subst, ℕ, ◌+◌, eqb, Bool, true, false, ◌&&◌, not, cond, arith}
use Rattle.std.proofs.Common.{List, ◌∷◌, Option, Some, None, ◌⊎◌, inl, inr}
use Rattle.std.proofs.lemmas.Bool.{cases_Bool, cases_lt, eqb-true, cond-true, cond-false}
use Rattle.brc_count.specs.law.declared.world.event.Change.{Change}
use Rattle.brc_count.specs.law.declared.world.event.Change.TheVariants as changes
use Rattle.brc_count.specs.law.declared.world.event.Source.{Source}
use Rattle.brc_count.specs.law.declared.world.event.Step.TheVariants.{Lock, Unlock, LocalUp, SharedUp}
use Rattle.brc_count.specs.law.world.Lists.{place_at, is_marked}
use Rattle.brc_count.specs.law.world.Steps.{locked_cell}
use Rattle.brc_words.specs.declared.limits.TheConstants.{FIRST_MORTAL}
use Rattle.brc_count.specs.law.known.Items.{Part, part_by, meant}
use Rattle.brc_count.specs.law.declared.known.word.Field.TheVariants.{Mutex}
use Rattle.brc_count.specs.law.declared.known.word.Word.{Word}
use Rattle.brc_count.specs.law.declared.known.word.Word.TheVariants.{Of}
use Rattle.brc_count.specs.law.declared.rule.contents.Contents.{Contents}
use Rattle.brc_count.specs.law.declared.rule.told.Moved.{Moved}
use Rattle.brc_count.specs.law.declared.rule.told.Moved.TheVariants as moves
use Rattle.brc_count.specs.law.declared.rule.told.LogItem.{LogItem}
use Rattle.brc_count.specs.law.declared.rule.told.LogItem.TheVariants.{Stepped, Lost}
use Rattle.brc_count.specs.law.rule.Logs.{entries_found}
use Rattle.brc_count.specs.law.rule.Seen.{part_seen, counts_seen}
use Rattle.brc_count.specs.biased.Up.{CountsHere}
use Rattle.brc_count.specs.Frames.{FrameSeen, CountsUp, place_seen}
use Rattle.brc_count.specs.table.Seated.{TableSeen}
use Rattle.brc_things.specs.Waiting.{Waits, NoTry, OneMore}
use Rattle.brc_count.specs.law.private.Private.{is_shared, is_in, place_put}
use Rattle.brc_count.specs.law.payloads.Payloads.{private_seen, last_put, payloads_of, locked_seen}
use Rattle.brc_count.proofs.law.payloads.Going_On as payloads
use Rattle.brc_count.specs.law.living.Living.{is_dead}

-- the second log, in a heap of m cells, has the payloads, the dead cells and the births of the first, in one of n
pub record Leaves (n : ℕ) (before : List LogItem) (m : ℕ) (log : List LogItem) : Type 0 where
  pub payloads : (c : ℕ) → payloads_of m log c ≡ payloads_of n before c
  pub dead : (c : ℕ) → is_dead m log c ≡ is_dead n before c
  pub allocs : (part_seen m log).row.allocs ≡ (part_seen n before).row.allocs

-- the same, but one cell has this payload now
pub record Replaces (n : ℕ) (before : List LogItem) (m : ℕ) (log : List LogItem) (cell : ℕ)
    (put : Contents) : Type 0 where
  pub payloads : (c : ℕ) → payloads_of m log c ≡ cond (eqb cell c) (Some put) (payloads_of n before c)
  pub dead : (c : ℕ) → is_dead m log c ≡ is_dead n before c
  pub allocs : (part_seen m log).row.allocs ≡ (part_seen n before).row.allocs

pub leaves_itself : (n : ℕ) (log : List LogItem) → Leaves n log n log
leaves_itself n log = record { payloads = λ c. refl; dead = λ c. refl; allocs = refl }

pub leaves_on : {n m q : ℕ} {one other log : List LogItem} → Leaves n one m other → Leaves m other q log
    → Leaves n one q log
leaves_on first second = record {
  payloads = λ c. second.payloads c ∙ first.payloads c;
  dead = λ c. second.dead c ∙ first.dead c;
  allocs = second.allocs ∙ first.allocs;
}

pub replaces_on : {n m q cell : ℕ} {one other log : List LogItem} {put : Contents} → Leaves n one m other
    → Replaces m other q log cell put → Replaces n one q log cell put
replaces_on {cell = cell} {put = put} first second = record {
  payloads = λ c. second.payloads c ∙ ap (cond (eqb cell c) (Some put)) (first.payloads c);
  dead = λ c. second.dead c ∙ first.dead c;
  allocs = second.allocs ∙ first.allocs;
}

-- ---- what a step makes of the own part

-- it marks none, and bears none
abbrev pub Spares : Part → Part → Type 0
Spares part after = (after.worklist ≡ part.worklist) × (after.row.allocs ≡ part.row.allocs)

lock_spares : (n : ℕ) (part : Part) (k number : ℕ) (entries : List ℕ) (m : Option ℕ)
    → Spares part (part_by n part (Lock k) number entries m)
lock_spares n part k number entries None = (refl, refl)
lock_spares n part k number entries (Some c) = (refl, refl)

unlock_spares : (n : ℕ) (part : Part) (change : Change) (number : ℕ) (entries : List ℕ) (m : Option ℕ)
    → Spares part (part_by n part (Unlock change) number entries m)
unlock_spares n part change number entries None = (refl, refl)
unlock_spares n part change number entries (Some c) = (refl, refl)

local_up_spares : (n : ℕ) (part : Part) (source : Source) (k number : ℕ) (entries : List ℕ) (m : Option ℕ)
    → Spares part (part_by n part (LocalUp source k) number entries m)
local_up_spares n part source k number entries None = (refl, refl)
local_up_spares n part source k number entries (Some c) = (refl, refl)

shared_up_spares : (n : ℕ) (part : Part) (source : Source) (k number : ℕ) (entries : List ℕ) (m : Option ℕ)
    → Spares part (part_by n part (SharedUp source k) number entries m)
shared_up_spares n part source k number entries None = (refl, refl)
shared_up_spares n part source k number entries (Some c) = (refl, refl)

-- ---- items

module _ (n : ℕ) (log : List LogItem) where
  leaves_sparing : (x : LogItem) → ((c : ℕ) → payloads_of n (x ∷ log) c ≡ payloads_of n log c)
      → Spares (part_seen n log) (part_seen n (x ∷ log)) → Leaves n log n (x ∷ log)
  leaves_sparing x keeps spares =
      record { payloads = keeps; dead = λ c. ap (λ (marks : List Bool). is_marked marks c) spares.0; allocs = spares.1 }

  pub lost_leaves : (w : Word) (number : ℕ) → Leaves n log n (Lost w number ∷ log)
  lost_leaves w number = record { payloads = λ c. refl; dead = λ c. refl; allocs = refl }

  pub lock_leaves : (k number d : ℕ) (found : Contents)
      → Leaves n log n (Stepped (Lock k) number (moves.Found d found) ∷ log)
  lock_leaves k number d found =
      leaves_sparing (Stepped (Lock k) number (moves.Found d found))
      (λ c. payloads.found n log (Lock k) number d found c refl)
      (lock_spares n (part_seen n log) k number (entries_found (moves.Found d found))
      (meant (part_seen n log) (Lock k)))

  pub local_up_leaves : (source : Source) (k number : ℕ)
      → Leaves n log n (Stepped (LocalUp source k) number moves.Nothing ∷ log)
  local_up_leaves source k number =
      leaves_sparing (Stepped (LocalUp source k) number moves.Nothing)
      (λ c. payloads.plain n log (LocalUp source k) number c refl)
      (local_up_spares n (part_seen n log) source k number (entries_found moves.Nothing)
      (meant (part_seen n log) (LocalUp source k)))

  pub shared_up_leaves : (source : Source) (k number : ℕ)
      → Leaves n log n (Stepped (SharedUp source k) number moves.Nothing ∷ log)
  shared_up_leaves source k number =
      leaves_sparing (Stepped (SharedUp source k) number moves.Nothing)
      (λ c. payloads.plain n log (SharedUp source k) number c refl)
      (shared_up_spares n (part_seen n log) source k number (entries_found moves.Nothing)
      (meant (part_seen n log) (SharedUp source k)))

  -- an unlocking that shares nothing changes the payload of the cell that it puts home, where that is private
  pub unlock_replaces : (change : Change) (number d : ℕ) (put : Contents)
      → is_shared (private_seen n log) (part_seen n log).frame (locked_seen n log) change ≡ false
      → private_seen n log d ≡ true
      → Replaces n log n (Stepped (Unlock change) number (moves.Put d put) ∷ log) d put
  unlock_replaces change number d put kept own =
      let spares : Spares (part_seen n log) (part_seen n (Stepped (Unlock change) number (moves.Put d put) ∷ log)) =
      unlock_spares n (part_seen n log) change number (entries_found (moves.Put d put))
      (meant (part_seen n log) (Unlock change)) in
      record {
        payloads = λ c. payloads.changed n log change number d put c kept own;
        dead = λ c. ap (λ (marks : List Bool). is_marked marks c) spares.0;
        allocs = spares.1;
      }

  -- one that keeps what it found changes nothing, where what was found is the payload
  pub keep_leaves : (number d : ℕ) (found : Contents) → ((payload : Contents) → payloads_of n log d ≡ Some payload
      → found ≡ payload)
      → Leaves n log n (Stepped (Unlock changes.Keep) number (moves.Put d found) ∷ log)
  keep_leaves number d found own =
      leaves_sparing (Stepped (Unlock changes.Keep) number (moves.Put d found)) keeps
      (unlock_spares n (part_seen n log) changes.Keep number (entries_found (moves.Put d found))
      (meant (part_seen n log) (Unlock changes.Keep)))
    where
      was_there : (b : Bool) → private_seen n log d ≡ b → (c : ℕ)
          → payloads_of n (Stepped (Unlock changes.Keep) number (moves.Put d found) ∷ log) c ≡ payloads_of n log c
      was_there false out c = payloads.outside n log changes.Keep number d found c refl out
      was_there true in_it c = payloads.changed n log changes.Keep number d found c refl in_it
          ∙ (elim (cases_Bool (eqb d c)) [
            | inr off ↦ cond-false (eqb d c) (Some found) (payloads_of n log c) off
            | inl on ↦
                let there : payloads_of n log d ≡ Some (last_put log d) = cond-true (private_seen n log d)
                (Some (last_put log d)) None in_it in
                cond-true (eqb d c) (Some found) (payloads_of n log c) on ∙ ap Some (own (last_put log d) there)
                ∙ sym there
                ∙ ap (payloads_of n log) (eqb-true d c on)
          ])

      keeps : (c : ℕ) → payloads_of n (Stepped (Unlock changes.Keep) number (moves.Put d found) ∷ log) c
          ≡ payloads_of n log c
      keeps c = was_there (private_seen n log d) refl c

  -- ---- what is locked

  locks_by : (part : Part) (k number c : ℕ) (entries : List ℕ) (m : Option ℕ) → m ≡ Some c
      → place_at part.frame k ≡ Some c
      → locked_cell (part_by n part (Lock k) number entries m).frame
      (part_by n part (Lock k) number entries m).row.locked ≡ Some c
  locks_by part k number c entries None is there = absurd (let bad : None ≡ Some c = is in cc)
  locks_by part k number c entries (Some d) is there = there

  -- a locking locks the cell of its place
  pub locks_its_cell : (k number c : ℕ) (moved : Moved) → place_seen n log k ≡ Some c
      → locked_seen n (Stepped (Lock k) number moved ∷ log) ≡ Some c
  locks_its_cell k number c moved there =
      locks_by (part_seen n log) k number c (entries_found moved) (meant (part_seen n log) (Lock k)) there there

-- ---- what shares

and_not_true : (b x : Bool) → x ≡ true → (b && not x) ≡ false
and_not_true true x is = ap not is
and_not_true false x is = refl

-- what goes into a private cell that is locked isn't shared by that
pub never_shares : (set : ℕ → Bool) (frame : List (Option ℕ)) (into : Option ℕ) (d : ℕ) (change : Change)
    → into ≡ Some d → set d ≡ true
    → is_shared set frame into change ≡ false
never_shares set frame into d change is own =
    and_not_true (is_in set (locked_cell frame (place_put change))) (is_in set into) (ap (is_in set) is ∙ own)

-- ---- frames

-- either the thread counts the cell here, or it doesn't
pub counts_here : (n limit : ℕ) (log : List LogItem) (c : ℕ) → CountsHere n limit log c ⊎ ¬ CountsHere n limit log c
counts_here n limit log c = elim (cases_lt 0 (counts_seen n log c)) [
  | inr none ↦ inr (λ (here : CountsHere n limit log c). omega (arith, none, here.some_count))
  | inl some ↦ elim (cases_lt (counts_seen n log c) limit) [
    | inl below ↦ inl (record { some_count = some; below = below })
    | inr past ↦ inr (λ (here : CountsHere n limit log c). omega (arith, past, here.below))
  ]
]

module _ {A : Type 0} where
  abbrev pub LeavesAll : FrameSeen A → FrameSeen A → Type 0
  LeavesAll old new = Leaves old.heap.cells old.seat.log new.heap.cells new.seat.log

  abbrev pub ReplacesIn : FrameSeen A → FrameSeen A → ℕ → Contents → Type 0
  ReplacesIn old new cell put = Replaces old.heap.cells old.seat.log new.heap.cells new.seat.log cell put

  -- what is so of the log that the new frame has, in the old one's heap
  pub on_frame : (old new : FrameSeen A) (log : List LogItem) (P : ℕ → List LogItem → Type 0) → new.heap ≡ old.heap
      → new.seat.log ≡ log → P old.heap.cells log → P new.heap.cells new.seat.log
  on_frame old new log P heap events is =
      subst (λ (there : TableSeen). P there.cells new.seat.log) (sym heap) (subst (P old.heap.cells) (sym events) is)

  -- and the other way round
  pub off_frame : (old new : FrameSeen A) (log : List LogItem) (P : ℕ → List LogItem → Type 0) → new.heap ≡ old.heap
      → new.seat.log ≡ log → P new.heap.cells new.seat.log → P old.heap.cells log
  off_frame old new log P heap events is =
      subst (P old.heap.cells) events (subst (λ (there : TableSeen). P there.cells new.seat.log) heap is)

  -- counting up leaves them
  pub up_leaves : (old new : FrameSeen A) (source : Source) (k c : ℕ) → new.heap ≡ old.heap
      → CountsUp old new source k c → LeavesAll old new
  up_leaves old new source k c heap counts = elim (cases_lt c FIRST_MORTAL) [
    | inl fixed ↦
        let up = counts.immortal fixed in
        on_frame old new (Stepped (LocalUp source k) up.found moves.Nothing ∷ old.seat.log)
        (Leaves old.heap.cells old.seat.log) heap up.told
        (local_up_leaves old.heap.cells old.seat.log source k up.found)
    | inr mortal ↦ elim (counts_here old.heap.cells old.heap.local_limit old.seat.log c) [
      | inl here ↦
          on_frame old new (Stepped (LocalUp source k) (counts_seen old.heap.cells old.seat.log c + 1) moves.Nothing
          ∷ old.seat.log) (Leaves old.heap.cells old.seat.log) heap (counts.own mortal here)
          (local_up_leaves old.heap.cells old.seat.log source k (counts_seen old.heap.cells old.seat.log c + 1))
      | inr elsewhere ↦
          let up = counts.shared mortal elsewhere in
          on_frame old new (Stepped (SharedUp source k) up.found moves.Nothing ∷ old.seat.log)
          (Leaves old.heap.cells old.seat.log) heap up.told
          (shared_up_leaves old.heap.cells old.seat.log source k up.found)
    ]
  ]

  -- so do lost tries
  pub waits_leave : {old : FrameSeen A} {k : ℕ} {mid : FrameSeen A} → Waits old k mid → LeavesAll old mid
  waits_leave NoTry = leaves_itself _ _
  waits_leave (OneMore mid new waits busy) =
      leaves_on (waits_leave waits)
      (on_frame mid new (Lost (Of Mutex busy.busy.cell) busy.busy.found ∷ mid.seat.log)
      (Leaves mid.heap.cells mid.seat.log) busy.keeps.heap busy.busy.note
      (lost_leaves mid.heap.cells mid.seat.log (Of Mutex busy.busy.cell) busy.busy.found))
