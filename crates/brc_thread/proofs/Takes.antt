-- A take of an object's last entry, and some after one another.
use Rattle.std.proofs.Common.{◌≡◌, ◌≢◌, ◌+◌, ◌++◌, ℕ, zero, suc, List, [], ◌∷◌, Some, sym, ◌∙◌, ap, subst, arith}
use Rattle.std.proofs.Common.{length, length-append, slice_get, remove}
use Rattle.brc_count.specs.block.declared.payload.Payload.{Payload}
use Rattle.brc_count.specs.block.Payload.{kind_of, entries_of}
use Rattle.brc_count.specs.law.declared.world.event.Change.TheVariants.{Take}
use Rattle.brc_count.specs.law.declared.world.event.Step.TheVariants.{Unlock}
use Rattle.brc_count.specs.law.declared.rule.told.Moved.TheVariants as moves
use Rattle.brc_count.specs.law.declared.rule.told.LogItem.TheVariants.{Stepped}
use Rattle.brc_count.specs.law.rule.Logs.{entries_in}
use Rattle.brc_count.specs.table.Shown.{contents_of}
use Rattle.brc_count.specs.Frames.{FrameSeen, HandleSeen, IsAsBefore, ReleasedOf}
use Rattle.brc_count.specs.Locking.{Changes}
use Rattle.brc_count.specs.Locking.{Began, UnlockedBy, KeepsThread, KeepsFrame, ChangesPlace, cell_in, contents_found}
use Rattle.brc_count.specs.Locking.{entries_found}
use Rattle.brc_count.specs.Owned.{Keeps, Gains, Loses}
use Rattle.brc_count.proofs.Kept.{thread_kept_on}
use Rattle.brc_thread.specs.Clearing.{TakesLast, TakesSome, OneTake}
use Rattle.brc_thread.proofs.Payloads.{entries_shown, kind_shown}

-- a list is all before its last entry, and that entry
last_split : {X : Type 0} (xs : List X) (i : ℕ) (x : X) → i + 1 ≡ length xs → slice_get xs i ≡ Some x
    → xs ≡ remove xs i ++ x ∷ []
last_split [] i x last at = cc
last_split (y ∷ []) zero x last at = cc
last_split (y ∷ z ∷ xs) zero x last at = absurd (omega (arith, last))
last_split (y ∷ xs) (suc i) x last at = ap (λ ys. y ∷ ys) (last_split xs i x (omega (arith, last)) at)

module _ {A : Type 0} where
  -- an object is locked, and no place has changed since; more of them may need no memory
  record Stands (before mid : FrameSeen A) (k : ℕ) (block : ℕ × Payload A) : Type 0 where
    pub began : Began before mid k block
    pub keeps : KeepsThread before mid
    pub places : (j : ℕ) → cell_in mid j ≡ cell_in before j

  stands : (before now mid : FrameSeen A) (k : ℕ) (block : ℕ × Payload A) → Began before now k block
      → KeepsThread before now
      → KeepsFrame before now → IsAsBefore now mid → Stands before mid k block
  stands before now mid k block began keeps frame same =
      let P : FrameSeen A → Type 0 = λ f. Stands before f k block in
      subst P (sym same) (record {
        began = record {
          cell = began.cell;
          event = began.event;
          locked = began.locked;
          locks_place = began.locks_place;
          locks_cell = began.locks_cell;
          found = began.found;
          own = began.own;
        };
        keeps = record {
          heap = keeps.heap;
          thread = keeps.thread;
          stage = keeps.stage;
          popped = keeps.popped;
          works = keeps.works;
          from = keeps.from;
          near = keeps.near;
        };
        places = frame.places;
      })

  -- what was found has the block's entries
  pub entries_mid : (now mid : FrameSeen A) (payload : Payload A) → IsAsBefore now mid
      → contents_found now ≡ contents_of payload
      → entries_found mid ≡ entries_of payload
  entries_mid now mid payload same found = ap entries_found same ∙ ap entries_in found ∙ entries_shown payload

  pub takes_last : (before now mid new : FrameSeen A) (k : ℕ) (block : ℕ × Payload A) (left : Payload A)
      (index cell : ℕ) (given : HandleSeen)
      → Began before now k block → KeepsThread before now → KeepsFrame before now → IsAsBefore now mid
      → UnlockedBy mid new (Take index given.place) (block.0, left)
      → index + 1 ≡ length (entries_of block.1) → slice_get (entries_of block.1) index ≡ Some cell
      → entries_of left ≡ remove (entries_of block.1) index → kind_of left ≡ kind_of block.1
      → ChangesPlace mid new given.place (Some cell) → TakesLast before new k given
  takes_last before now mid new k block left index cell given began keeps frame same ended last at leaves kind places =
      let was = stands before now mid k block began keeps frame same in
      let split : entries_of block.1 ≡ remove (entries_of block.1) index ++ cell ∷ [] =
      last_split (entries_of block.1) index cell last at in
      let long : length (entries_in (contents_of left)) ≡ index =
      ap length (entries_shown left ∙ leaves)
      ∙ omega (arith, last, ap length split, length-append (remove (entries_of block.1) index) (cell ∷ [])) in
      let P : ℕ → Type 0 = λ i. Changes before new k (contents_of block.1) (Take i given.place) (contents_of left) in
      record {
        found = contents_of block.1;
        put = contents_of left;
        entry = cell;
        last = entries_shown block.1 ∙ split ∙ ap (λ es. es ++ cell ∷ []) (sym (entries_shown left ∙ leaves));
        kind = kind_shown left ∙ kind ∙ sym (kind_shown block.1);
        changes = subst P (sym long) (record {
          cell = block.0;
          of_place = was.began.cell;
          events = ended.event ∙ ap
              (λ log. Stepped (Unlock (Take index given.place)) 0 (moves.Put block.0 (contents_of left)) ∷ log)
              was.began.event;
          unlocked = ended.unlocked;
          keeps = thread_kept_on was.keeps ended.keeps;
        });
        has = places.has;
        others = λ j else. places.others j else ∙ was.places j;
      }

  -- ---- a take and a release

  pub take_keeps : {old mid new : FrameSeen A} {given : HandleSeen} → Gains old mid given → Loses mid new given
      → Keeps old new
  take_keeps {given = given} gains loses = record {
    heap = loses.heap ∙ gains.heap;
    len = omega (arith, gains.len, loses.len);
    owns = λ h owns. loses.owns h (gains.owns h owns) (gains.apart h owns);
  }

  -- one more
  pub took_on : (old mid taken new : FrameSeen A) (k n : ℕ) (given : HandleSeen) → TakesSome old k n mid
      → TakesLast mid taken k given
      → ((c : ℕ) → cell_in taken given.place ≡ Some c → ReleasedOf taken new given.place c)
      → TakesSome old k (n + 1) new
  took_on old mid taken new k n given took takes releases =
      OneTake n mid new took (record { mid = taken; given = given; takes = takes; releases = releases })

  -- the object's own place has what it had
  pub same_cell_on : (mid taken new : FrameSeen A) (k : ℕ) (given : HandleSeen) → given.place ≢ k
      → TakesLast mid taken k given
      → ((c : ℕ) → cell_in taken given.place ≡ Some c → ReleasedOf taken new given.place c)
      → cell_in new k ≡ cell_in mid k
  same_cell_on mid taken new k given apart takes releases =
      let goes = releases takes.entry takes.has in
      goes.others k (λ same. apart (sym same)) ∙ takes.others k (λ same. apart (sym same))
