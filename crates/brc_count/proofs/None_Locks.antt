-- The unlockings by which references to None come and go without a place of their own.
use Rattle.std.proofs.Common.{◌≡◌, ◌<◌, ℕ, Bool, true, List, ◌∷◌, Option, None, Some, refl, sym, ◌∙◌, ap, subst, arith}
use Rattle.brc_words.specs.declared.limits.TheConstants.{FIRST_MORTAL, MOST_PLACES}
use Rattle.brc_table.specs.block.declared.payload.Payload.{Payload}
use Rattle.brc_table.specs.law.declared.world.event.Change.TheVariants as changes
use Rattle.brc_table.specs.law.declared.world.event.Dropped.{Dropped}
use Rattle.brc_table.specs.law.declared.world.event.Source.TheVariants as sources
use Rattle.brc_table.specs.law.declared.rule.told.Moved.TheVariants as moves
use Rattle.brc_table.specs.law.declared.rule.told.LogItem.{LogItem}
use Rattle.brc_table.specs.law.declared.rule.told.LogItem.TheVariants.{Stepped}
use Rattle.brc_table.specs.law.known.Items.{Part}
use Rattle.brc_table.specs.law.rule.Seen.{part_seen}
use Rattle.brc_table.specs.law.world.Steps.{is_active, lock_ok}
use Rattle.brc_table.specs.law.declared.world.event.Step.TheVariants.{LocalUp, LocalDown}
use Rattle.brc_table.specs.Knowing.{known_seen, KeepsNotes}
use Rattle.brc_table.specs.Seated.{TableSeen, SeatSeen}
use Rattle.brc_biased.specs.Up.{Raising, KnowsPart}
use Rattle.brc_biased.specs.Released.{Released, ReleaseImmortal, ReleaseOwn, ReleaseSeen, ReleaseShared}
use Rattle.brc_table.specs.law.known.Going_On.{unlocking}
use Rattle.brc_count.specs.declared.held.PlaceEntry.{PlaceEntry}
use Rattle.brc_count.specs.declared.ledger.Ledger.{Ledger}
use Rattle.brc_count.specs.Frames.{Holding, place_seen}
use Rattle.brc_count.specs.Places.{PlacesSeen, held_at, cell_held}
use Rattle.brc_count.proofs.Changes.{raising, same_cell}
use Rattle.brc_count.proofs.Place_Marks.{with_place, updates_with}

module _ {A : Type 0} {heap : TableSeen} {seat : SeatSeen A} {places : PlacesSeen} {works : List (ℕ × Payload A)}
    {popped : List ℕ} {ledger : Ledger} where
  -- a heap in which a place has None has cells
  pub none_inside : (k : ℕ) → Holding A heap seat places works popped ledger
      → place_seen heap.cells seat.log k ≡ Some 0 → 0 < heap.cells
  none_inside k keeps at = by (held_at places k) refl (sym (keeps.placed k) ∙ at)
    where
      by : (o : Option PlaceEntry) → held_at places k ≡ o → cell_held o ≡ Some 0 → 0 < heap.cells
      by None is cell = absurd (let bad : None ≡ Some 0 = cell in cc)
      by (Some held) is cell = subst (λ c. c < heap.cells) (same_cell cell) (keeps.inside k held is)

-- once a place is vacated by an unlocking, it may get a reference to None
pub none_raises : {A : Type 0} {heap : TableSeen} (before : SeatSeen A) {mid : SeatSeen A} (places : PlacesSeen)
    {works : List (ℕ × Payload A)} {popped : List ℕ} {ledger : Ledger} (c k : ℕ)
    → Holding A heap mid (with_place places k None) works popped ledger
    → is_active (part_seen heap.cells before.log).row.stage ≡ true
    → KnowsPart heap.cells mid.log (unlocking (changes.Put k) c (known_seen heap.cells before.log))
    → k < MOST_PLACES → Raising heap.cells mid.log (sources.Immortal 0) k 0
none_raises before places c k keeps active knows low =
    raising (sources.Immortal 0) k 0 keeps (ap (λ (p : Part). is_active p.row.stage) knows.part ∙ active)
    (ap (λ (p : Part). lock_ok p.row.locked (LocalUp (sources.Immortal 0) k)) knows.part) refl low
    (updates_with places k None).changed

-- an immortal that is let go of ends nothing
pub none_ends_nothing : {A : Type 0} (n : ℕ) (drop : Dropped) (seen : Bool) (block : Option (ℕ × Payload A))
    (before log : List LogItem) → Released n drop 0 seen block before log
    → (block ≡ None) × ((found : ℕ) × (log ≡ Stepped (LocalDown drop) found moves.Nothing ∷ before))
none_ends_nothing n drop seen block before log (ReleaseImmortal found low none told) = (none, (found, told))
none_ends_nothing n drop seen block before log (ReleaseOwn high counts goes) = absurd (omega (arith, high))
none_ends_nothing n drop seen block before log (ReleaseSeen high counts is goes) = absurd (omega (arith, high))
none_ends_nothing n drop seen block before log (ReleaseShared high counts is goes) = absurd (omega (arith, high))
