-- After quiet items a frame shows what it showed, where its registers' places have what they had.
use Rattle.std.proofs.Common.{◌≡◌, ℕ, Bool, List, Option, Some, None, IfSome, slice_index_or, refl, sym, ◌∙◌, subst}
use Rattle.brc_count.specs.law.declared.rule.told.LogItem.{LogItem}
use Rattle.brc_count.specs.table.Seated.{TableSeen}
use Rattle.brc_count.specs.Frames.{FrameSeen, HandleSeen, IsAsBefore, place_seen}
use Rattle.brc_things.specs.Waiting.{Waits, NoTry, OneMore as OneTry}
use Rattle.brc_handles.specs.Handles.{slot}
use Rattle.brc_meaning.specs.declared.reference.Reference.{Reference}
use Rattle.brc_meaning.specs.declared.object.Object.{Object}
use Rattle.brc_meaning.specs.declared.state.State.{State}
use Rattle.brc_count.specs.law.living.Living.{OwnLog}
use Rattle.brc_count.specs.law.living.Quiet.{Quietly, NoItem, OneMore}
use Rattle.law_isolation.specs.Means.{Lives, HasAt, HeldAs, ShowsState, Means, MeansBesides, left}
use Rattle.law_isolation.specs.Keeping.{KeepsPlace, KeepsRegisters}
use Rattle.law_isolation.proofs.Quiet_Lives.{lives_quietly, held_quietly, allocs_quietly}

module _ {A : Type 0} where
  -- ---- one log

  register_quietly : (n : ℕ) (before log : List LogItem) (cells : ℕ → ℕ) (part : ℕ → Bool) (made : List (Object A))
      → OwnLog n log → Quietly before log → Lives n before cells part made
      → (register : Option HandleSeen) (reference : Option Reference) → HeldAs n before cells part register reference
      → IfSome register (λ h. place_seen n log h.place ≡ place_seen n before h.place)
      → HeldAs n log cells (left n log cells part) register reference
  register_quietly n before log cells part made own goes lives None None held same = held
  register_quietly n before log cells part made own goes lives None (Some reference) held same = held
  register_quietly n before log cells part made own goes lives (Some handle) None held same = held
  register_quietly n before log cells part made own goes lives (Some handle) (Some reference) held same =
      held_quietly n before log cells part made handle.place reference own goes lives held (same ∙ held.cell)

  -- ---- frames

  -- a frame at a heap that is the same shows the same
  at_same_heap : (base : ℕ) (cells : ℕ → ℕ) (part : ℕ → Bool) (old : FrameSeen A) (registers : List (Option HandleSeen))
      (s : State A) (heap : TableSeen) → heap ≡ old.heap
      → ShowsState base cells part old registers s → ShowsState base cells part (record old { heap = heap }) registers s
  at_same_heap base cells part old registers s heap same =
      subst (λ h. ShowsState base cells part (record old { heap = h }) registers s) (sym same)

  keeps_at_heap : (old new : FrameSeen A) (registers : List (Option HandleSeen)) (heap : TableSeen) → heap ≡ old.heap
      → KeepsRegisters old new registers → KeepsRegisters (record old { heap = heap }) new registers
  keeps_at_heap old new registers heap same = subst (λ h. KeepsRegisters (record old { heap = h }) new registers)
      (sym same)

  pub shows_quietly : (base : ℕ) (cells : ℕ → ℕ) (part : ℕ → Bool) (old new : FrameSeen A)
      (registers : List (Option HandleSeen)) (s : State A)
      → ShowsState base cells part old registers s → new.heap ≡ old.heap → Quietly old.seat.log new.seat.log
      → OwnLog new.heap.cells new.seat.log → KeepsRegisters old new registers
      → ShowsState base cells (left new.heap.cells new.seat.log cells part) new registers s
  shows_quietly base cells part old new registers s shows same goes own keeps =
      let n : ℕ = new.heap.cells in
      let was : ShowsState base cells part (record old { heap = new.heap }) registers s =
      at_same_heap base cells part old registers s new.heap same shows in
      let kept : KeepsRegisters (record old { heap = new.heap }) new registers =
      keeps_at_heap old new registers new.heap same keeps in
      record {
        lives = lives_quietly n old.seat.log new.seat.log cells part s.objects own goes was.lives;
        held = λ r. register_quietly n old.seat.log new.seat.log cells part s.objects own goes was.lives
            (slot registers r) (slice_index_or s.registers r None) (was.held r) (kept r);
        size = was.size;
        same_size = was.same_size;
        made = allocs_quietly n old.seat.log new.seat.log goes ∙ was.made;
      }

  -- what has one place that is kept too
  has_quietly : (base : ℕ) (cells : ℕ → ℕ) (part : ℕ → Bool) (old new : FrameSeen A)
      (registers : List (Option HandleSeen)) (s : State A) (loose : HandleSeen) (reference : Reference)
      → ShowsState base cells part old registers s → new.heap ≡ old.heap → Quietly old.seat.log new.seat.log
      → OwnLog new.heap.cells new.seat.log → KeepsPlace old new loose
      → HasAt old.heap.cells old.seat.log cells part loose.place reference
      → HasAt new.heap.cells new.seat.log cells (left new.heap.cells new.seat.log cells part) loose.place reference
  has_quietly base cells part old new registers s loose reference shows same goes own keeps has =
      let n : ℕ = new.heap.cells in
      let was : ShowsState base cells part (record old { heap = new.heap }) registers s =
      at_same_heap base cells part old registers s new.heap same shows in
      held_quietly n old.seat.log new.seat.log cells part s.objects loose.place reference own goes was.lives
      (subst (λ h. HasAt h.cells old.seat.log cells part loose.place reference) (sym same) has) (keeps ∙ has.cell)

  pub means_quietly : (base : ℕ) (old new : FrameSeen A) (registers : List (Option HandleSeen)) (s : State A)
      → Means base old registers s → new.heap ≡ old.heap → Quietly old.seat.log new.seat.log
      → OwnLog new.heap.cells new.seat.log → KeepsRegisters old new registers
      → Means base new registers s
  means_quietly base old new registers s means same goes own keeps = record {
    cells = means.cells;
    part = left new.heap.cells new.seat.log means.cells means.part;
    shows = shows_quietly base means.cells means.part old new registers s means.shows same goes own keeps;
  }

  pub besides_quietly : (base : ℕ) (old new : FrameSeen A) (registers : List (Option HandleSeen)) (s : State A)
      (loose : HandleSeen) (reference : Reference)
      → MeansBesides base old registers s loose reference → new.heap ≡ old.heap → Quietly old.seat.log new.seat.log
      → OwnLog new.heap.cells new.seat.log → KeepsRegisters old new registers → KeepsPlace old new loose
      → MeansBesides base new registers s loose reference
  besides_quietly base old new registers s loose reference means same goes own keeps kept = record {
    cells = means.cells;
    part = left new.heap.cells new.seat.log means.cells means.part;
    shows = shows_quietly base means.cells means.part old new registers s means.shows same goes own keeps;
    has = has_quietly base means.cells means.part old new registers s loose reference means.shows same goes own kept
        means.has;
  }

  -- where every place has what it had
  pub all_kept : (old new : FrameSeen A) (registers : List (Option HandleSeen))
      → ((k : ℕ) → place_seen new.heap.cells new.seat.log k ≡ place_seen old.heap.cells old.seat.log k)
      → KeepsRegisters old new registers
  all_kept old new registers places r = each (slot registers r)
    where
      each : (o : Option HandleSeen) → IfSome o (KeepsPlace old new)
      each None = tt
      each (Some h) = places h.place

  -- nothing changed that a log or a heap has
  pub means_same : (base : ℕ) (old new : FrameSeen A) (registers : List (Option HandleSeen)) (s : State A)
      → Means base old registers s → IsAsBefore old new → Means base new registers s
  means_same base old new registers s means same =
      let is : record old { spare = new.spare } ≡ new = sym same in
      subst (λ frame. Means base frame registers s) is
      (record { cells = means.cells; part = means.part; shows = of_spare means.cells means.part means.shows })
    where
      of_spare : (cells : ℕ → ℕ) (part : ℕ → Bool) → ShowsState base cells part old registers s
          → ShowsState base cells part (record old { spare = new.spare }) registers s
      of_spare cells part shows = record {
        lives = shows.lives;
        held = shows.held;
        size = shows.size;
        same_size = shows.same_size;
        made = shows.made;
      }

  pub besides_same : (base : ℕ) (old new : FrameSeen A) (registers : List (Option HandleSeen)) (s : State A)
      (loose : HandleSeen) (reference : Reference)
      → MeansBesides base old registers s loose reference → IsAsBefore old new
      → MeansBesides base new registers s loose reference
  besides_same base old new registers s loose reference means same =
      let is : record old { spare = new.spare } ≡ new = sym same in
      subst (λ frame. MeansBesides base frame registers s loose reference) is
      (record {
        cells = means.cells;
        part = means.part;
        shows = of_spare means.cells means.part means.shows;
        has = means.has;
      })
    where
      of_spare : (cells : ℕ → ℕ) (part : ℕ → Bool) → ShowsState base cells part old registers s
          → ShowsState base cells part (record old { spare = new.spare }) registers s
      of_spare cells part shows = record {
        lives = shows.lives;
        held = shows.held;
        size = shows.size;
        same_size = shows.same_size;
        made = shows.made;
      }

  -- ---- waiting

  -- some tries to lock leave all but notes
  pub record Waited (old new : FrameSeen A) : Type 0 where
    pub heap : new.heap ≡ old.heap
    pub places : (j : ℕ) → place_seen new.heap.cells new.seat.log j ≡ place_seen old.heap.cells old.seat.log j
    pub quiet : Quietly old.seat.log new.seat.log

  pub waited : (old : FrameSeen A) (k : ℕ) (new : FrameSeen A) → Waits old k new → Waited old new
  waited old k new NoTry = record { heap = refl; places = λ j. refl; quiet = NoItem }
  waited old k new (OneTry mid now waits busy) =
      let was : Waited old mid = waited old k mid waits in
      record {
        heap = busy.keeps.heap ∙ was.heap;
        places = λ j. busy.frame.places j ∙ was.places j;
        quiet = subst (Quietly old.seat.log) (sym busy.busy.note) (OneMore _ mid.seat.log was.quiet refl);
      }

  pub waits_quietly : (old new : FrameSeen A) (k : ℕ) → Waits old k new → Quietly old.seat.log new.seat.log
  waits_quietly old new k waits = (waited old k new waits).quiet

  pub means_waited : (base : ℕ) (old new : FrameSeen A) (registers : List (Option HandleSeen)) (s : State A) (k : ℕ)
      → Means base old registers s → Waits old k new → OwnLog new.heap.cells new.seat.log → Means base new registers s
  means_waited base old new registers s k means waits own =
      let was : Waited old new = waited old k new waits in
      means_quietly base old new registers s means was.heap was.quiet own (all_kept old new registers was.places)

  pub besides_waited : (base : ℕ) (old new : FrameSeen A) (registers : List (Option HandleSeen)) (s : State A)
      (loose : HandleSeen) (reference : Reference) (k : ℕ)
      → MeansBesides base old registers s loose reference → Waits old k new → OwnLog new.heap.cells new.seat.log
      → MeansBesides base new registers s loose reference
  besides_waited base old new registers s loose reference k means waits own =
      let was : Waited old new = waited old k new waits in
      besides_quietly base old new registers s loose reference means was.heap was.quiet own
      (all_kept old new registers was.places) (was.places loose.place)
