-- One turn of a replay: the events so far are a run to the world, and stay so with one more that is enabled.
use Rattle.std.proofs.Common.{◌≡◌, ℕ, ◌+◌, ◌<◌, ◌≤◌, true, false, List, [], ◌∷◌, length, take, reverse, get_or, Result}
use Rattle.std.proofs.Common.{Ok, Err, OnOk, sym, subst, ap, ◌∙◌}
use Rattle.std.proofs.lemmas.List.{take_more, reverse-append, take_all}
use Rattle.std.proofs.lemmas.Option.{slice_get-get_or}
use Rattle.brc_core.specs.Replays.{IsFirstNotEnabled}
use Rattle.law.specs.declared.world.edition.Edition.{Edition}
use Rattle.law.specs.declared.world.event.Event.{Event}
use Rattle.law.specs.world.Heap.{Heap, opening_in, AreOptions}
use Rattle.law.specs.world.Steps.{enabled, after}
use Rattle.law.specs.world.Runs.{IsRun, IsReached, world_after}

-- what follows from two facts of a value
pub both_ok : {T E P Q R : Type 0} (r : Result T E) → (P → Q → R) → OnOk r P → OnOk r Q → OnOk r R
both_ok (Ok v) f p q = f p q
both_ok (Err e) f p q = tt

-- the events, the newest first, are a run and lead to the world
pub record LeadsTo (start : Heap) (run : List Event) (world : Heap) : Type 0 where
  pub is_run : IsRun start run
  pub world_is : world ≡ world_after start run

-- one more event, of a list that is turned round, stands first
reverse_take_more : (events : List Event) (at : ℕ) (d : Event) → at < length events
    → reverse (take (at + 1) events) ≡ get_or events at d ∷ reverse (take at events)
reverse_take_more events at d within =
    ap (λ (xs : List Event). reverse xs) (take_more events at d within)
    ∙ reverse-append (take at events) (get_or events at d ∷ [])

leads_on : (start : Heap) (run : List Event) (old new : Heap) (e : Event) → LeadsTo start run old → enabled old e ≡ true
    → new ≡ after old e → LeadsTo start (e ∷ run) new
leads_on start run old new e leads may is =
    let P : Heap → Type 0 = λ h. enabled h e ≡ true in
    record {
      is_run = (leads.is_run, subst P leads.world_is may);
      world_is = is
          ∙ ap (λ (h : Heap). after h e) leads.world_is;
    }

-- a turn of the loop
pub turn : (start : Heap) (events : List Event) (at : ℕ) (old new : Heap) (d : Event)
    → LeadsTo start (reverse (take at events)) old → at < length events
    → enabled old (get_or events at d) ≡ true → new ≡ after old (get_or events at d)
    → LeadsTo start (reverse (take (at + 1) events)) new
turn start events at old new d leads within may is =
    let P : List Event → Type 0 = λ run. LeadsTo start run new in
    subst P (sym (reverse_take_more events at d within))
    (leads_on start (reverse (take at events)) old new (get_or events at d) leads may is)

-- where the loop stops at an event
pub first_not_enabled : (start : Heap) (events : List Event) (at : ℕ) (old : Heap) (d : Event)
    → LeadsTo start (reverse (take at events)) old → at < length events
    → enabled old (get_or events at d) ≡ false
    → IsFirstNotEnabled start events at
first_not_enabled start events at old d leads within refused =
    let P : Heap → Type 0 = λ h. enabled h (get_or events at d) ≡ false in
    record {
      event = get_or events at d;
      there = slice_get-get_or events at d within;
      earlier = leads.is_run;
      refused = subst P leads.world_is refused;
    }

-- where the loop ends
pub leads_whole : (start : Heap) (events : List Event) (at : ℕ) (world : Heap)
    → LeadsTo start (reverse (take at events)) world → length events ≤ at → LeadsTo start (reverse events) world
leads_whole start events at world leads past =
    let P : List Event → Type 0 = λ run. LeadsTo start (reverse run) world in
    subst P (take_all at events past) leads

pub leads_reached : (edition : Edition) (cells limit : ℕ) (run : List Event) (world : Heap) → AreOptions cells limit
    → LeadsTo (opening_in edition cells limit) run world → IsReached world
leads_reached edition cells limit run world options leads = record {
  edition = edition;
  cells = cells;
  limit = limit;
  options = options;
  run = run;
  is_run = leads.is_run;
  leads_here = sym leads.world_is;
}
