-- The events of items are a run, each run is the events of items, and what a step is told where it meets a closed word.
use Rattle.std.proofs.Common.{◌≡◌, ℕ, ◌/◌, Bool, true, false, if◌then◌else◌, List, [], ◌∷◌, refl, sym, ◌∙◌, ap, subst}
use Rattle.std.proofs.Common.{arith, ◌≤◌, ◌/◌, le-leb}
use Rattle.law.specs.declared.world.event.Event.{Event}
use Rattle.law.specs.declared.world.event.Step.{Step}
use Rattle.law.specs.declared.world.event.Step.TheVariants.{Enqueue}
use Rattle.law.specs.declared.world.row.Hand.TheVariants as hands
use Rattle.law.specs.declared.world.row.Phase.TheVariants as phases
use Rattle.law.specs.world.Heap.{Heap, cell_at}
use Rattle.law.specs.world.Steps.{enabled, is_shut}
use Rattle.law.specs.world.Runs.{IsRun, world_after}
use Rattle.law.specs.known.Items.{Item, Stepped, Loaded, Lost, ItemRun, with_event, events_of, world_of_items, MayCome}
use Rattle.law.specs.known.Items.{AreItems, told, found, Part, part_after, IsNumberFound, spelled, ToldBy, Queue}
use Rattle.law.specs.known.Items.{closing_bit}

-- ---- what a step is told, where it meets a closed word

pub closed_word : (h : Heap) (d : ℕ) → is_shut h d ≡ true
    → 9223372036854775808 ≤ spelled h (Queue (cell_at h d).bearer (d / 32))
closed_word h d shut = omega (arith, ap closing_bit shut)

-- the number that a step is told is one that it may be told
pub told_is_told : (h : Heap) (t : ℕ) (s : Step) → IsNumberFound h t s (told h t s)
told_is_told h t (Enqueue d) = by_shut (is_shut h d) refl
  where
    by_shut : (b : Bool) → is_shut h d ≡ b → ToldBy b (told h t (Enqueue d)) (told h t (Enqueue d))
    by_shut true shut = closed_word h d shut
    by_shut false apart = refl
told_is_told h t _ = refl

-- a thread's part goes on alike with each of the numbers that its step may be told
pub told_alike : (h : Heap) (t cells : ℕ) (s : Step) (number : ℕ) (entries : List ℕ) (part : Part)
    → IsNumberFound h t s number
    → part_after cells part (Stepped s (told h t s) entries) ≡ part_after cells part (Stepped s number entries)
told_alike h t cells (Enqueue d) number entries part is = by_shut (is_shut h d) refl is
  where
    with_hand : Bool → Part
    with_hand shut = record part {
      row = record part.row {
        hand = if shut then hands.Busy phases.Shut
            d else hands.Free;
      };
    }

    by_shut : (b : Bool) → is_shut h d ≡ b → ToldBy b (told h t (Enqueue d)) number
        → part_after cells part (Stepped (Enqueue d) (told h t (Enqueue d)) entries) ≡ part_after cells part
        (Stepped (Enqueue d) number entries)
    by_shut true shut high = ap with_hand (le-leb _ _ (closed_word h d shut)
        ∙ sym (le-leb 9223372036854775808 number high))
    by_shut false apart same = ap (λ n. part_after cells part (Stepped (Enqueue d) n entries)) (sym same)
told_alike h t cells s number entries part is = ap (λ n. part_after cells part (Stepped s n entries)) (sym is)

-- ---- the events of items are a run

item_run : (start : Heap) (t : ℕ) (item : Item) (items : ItemRun) → IsRun start (events_of items)
    → MayCome (world_of_items start items) t item → IsRun start (with_event t item (events_of items))
item_run start t (Stepped s number entries) items is_run may = (is_run, may.0)
item_run start t (Loaded word number) items is_run may = is_run
item_run start t (Lost word number) items is_run may = is_run

pub events_run : (start : Heap) (items : ItemRun) → AreItems start items → IsRun start (events_of items)
events_run start [] are = tt
events_run start (x ∷ items) are = item_run start x.0 x.1 items (events_run start items are.0) are.1

-- and each run is the events of items
item_for : (start : Heap) (e : Event) (run : List Event) (items : ItemRun) → events_of items ≡ run
    → enabled (world_after start run) e ≡ true
    → MayCome (world_of_items start items) e.thread (Stepped e.step (told (world_after start run) e.thread e.step)
    (found (world_after start run) e.thread e.step))
item_for start e run items is may =
    subst (λ r. MayCome (world_after start r) e.thread (Stepped e.step (told (world_after start run) e.thread e.step)
    (found (world_after start run) e.thread e.step))) (sym is)
    (may, told_is_told (world_after start run) e.thread e.step, refl)

pub run_items : (start : Heap) (run : List Event) → IsRun start run
    → (items : ItemRun) × AreItems start items × (events_of items ≡ run)
run_items start [] is_run = ([], tt, refl)
run_items start (e ∷ run) is_run =
    let before : (items : ItemRun) × AreItems start items × (events_of items ≡ run) = run_items start run is_run.0 in
    let h : Heap = world_after start run in (
      (e.thread, Stepped e.step (told h e.thread e.step) (found h e.thread e.step)) ∷ before.0,
      (before.1, item_for start e run before.0 before.2 is_run.1),
      ap (λ r. e ∷ r) before.2,
    )
