-- A held cell is no step's to free or to bear.
use Rattle.std.proofs.Common.{◌≡◌, ℕ, ◌≤◌, Some, ap, ◌∙◌, subst}
use Rattle.brc_count.specs.law.declared.world.event.Event.{Event}
use Rattle.brc_count.specs.law.world.Heap.{Heap}
use Rattle.brc_count.specs.law.known.Start.{start_of}
use Rattle.brc_count.proofs.law.known.Starting.{run_reached}
use Rattle.brc_count.specs.law.world.Lists.{place_at}
use Rattle.brc_count.specs.law.world.Runs.{IsReached}
use Rattle.brc_count.specs.law.world.Sound.{held}
use Rattle.brc_count.proofs.law.world.Dropping.{held_by_place}
use Rattle.brc_count.proofs.law.lasting.Standing.{held_not_freed, held_not_born}
use Rattle.brc_count.specs.law.known.Items.{IsPart, events_of}
use Rattle.brc_count.proofs.law.known.Items_Runs.{events_run}
use Rattle.brc_count.specs.law.declared.rule.told.LogItem.{LogItem}
use Rattle.brc_count.specs.law.declared.rule.told.LogItem.TheVariants.{Stepped, Loaded, Lost}
use Rattle.brc_count.specs.law.rule.Logs.{Run, items_of, own_of, world}
use Rattle.brc_count.specs.law.rule.Seen.{part_seen}
use Rattle.brc_count.specs.table.Seated.{TableSeen}
use Rattle.brc_count.specs.Frames.{FrameSeen, HandleSeen}
use Rattle.brc_thread.specs.Handed.{IsHeldHandle, OwnsIn, Next, Spares, world_of}
use Rattle.brc_thread.proofs.Ending.{own_part}

-- what the thread's own steps say of the place, the world has there
held_there : (runs : TableSeen → Run) (handle : HandleSeen) (c u : ℕ) (told : LogItem) → IsHeldHandle runs handle c
    → Next handle.heap (runs handle.heap) u told
    → 1 ≤ held (world_of handle.heap (runs handle.heap)) c
held_there runs handle c u told handed next =
    let n = handle.heap.cells in
    let limit = handle.heap.local_limit in
    let run = runs handle.heap in
    let t = handle.thread in
    let part : IsPart (world n limit run) t (part_seen n (own_of t run)) =
    own_part n limit run t next.options next.legal.items.0 handed.registered in
    held_by_place (world n limit run) t handle.place c (ap (λ f. place_at f handle.place) part.frame_is ∙ handed.there)

pub spared : (runs : TableSeen → Run) (handle : HandleSeen) (c u : ℕ) (told : LogItem) → IsHeldHandle runs handle c
    → Next handle.heap (runs handle.heap) u told
    → Spares c told
spared runs handle c u (Stepped s number moved) handed next =
    let n = handle.heap.cells in
    let limit = handle.heap.local_limit in
    let run = runs handle.heap in
    let h : Heap = world n limit run in
    let e : Event = record { thread = u; step = s } in
    let reached : IsReached h = run_reached n limit (events_of (items_of run)) next.options
    (events_run (start_of n limit) (items_of run) next.legal.items.0) in
    let some : 1 ≤ held h c = held_there runs handle c u (Stepped s number moved) handed next in (
      held_not_freed h e c reached next.legal.items.1.0 some,
      λ kind j. held_not_born h e c kind j reached
          next.legal.items.1.0 some,
    )
spared runs handle c u (Loaded word number) handed next = tt
spared runs handle c u (Lost word number) handed next = tt

-- a handle that a frame owns is of the frame's heap and thread
pub held_where_owned : {A : Type 0} (runs : TableSeen → Run) (frame : FrameSeen A) (handle : HandleSeen) (c : ℕ)
    → OwnsIn runs frame handle c
    → IsHeldHandle runs handle c
held_where_owned runs frame handle c owned =
    rw (owned.owns.heap, owned.owns.thread) record {
      some_thread = owned.some_thread;
      registered = owned.registered;
      there = subst (λ log. place_at (part_seen frame.heap.cells log).frame handle.place ≡ Some c) owned.did owned.cell;
    }
