-- Events that are made as their lines are read: one turn, and how it ends.
use Rattle.std.proofs.Common.{◌≡◌, ◌∙◌, ℕ, ◌+◌, ◌<◌, ◌≤◌, true, false, List, [], ◌∷◌, ◌++◌, length, take, reverse, Some}
use Rattle.std.proofs.Common.{None, Result, Ok, Err, refl, sym, ap, subst, append-nil, length-append, arith}
use Rattle.std.specs.Prelude.{slice_get}
use Rattle.std.proofs.lemmas.List.{reverse-append}
use Rattle.std.proofs.Math.Seq.{take-append_seam}
use Rattle.brc_words.specs.declared.fault.Fault.{Fault}
use Rattle.brc_words.specs.declared.limits.TheConstants.{MOST_INPUT}
use Rattle.law.specs.declared.world.edition.Edition.{Edition}
use Rattle.law.specs.declared.world.edition.Edition.TheVariants as editions
use Rattle.law.specs.declared.world.event.Event.{Event}
use Rattle.law.specs.world.Heap.{Heap, opening_in}
use Rattle.law.specs.world.Steps.{enabled, after}
use Rattle.law.specs.world.Runs.{IsRun, world_after}
use Rattle.brc_text.specs.Lines.{pieces}
use Rattle.brc_trace.specs.Events.{event_at}
use Rattle.brc_trace.specs.Traces.{by_line, before_others, first_number, events_at, below_head, IsHead}
use Rattle.brc_trace.specs.Replaying.{AreMade, told, ReplaysLines, IsReplayed}
use Rattle.brc_trace.proofs.ReadingLoop.{with_front, bad_line, good_line, line_shorter, no_line, joined, nothing_before}

-- ---- behind an event that isn't enabled

told_alike : (refused number : ℕ) (event : Event) (later : Result (List Event) ℕ)
    → told refused later ≡ told refused (before_others number (Some event) later)
told_alike refused number event (Ok later) = refl
told_alike refused number event (Err bad) = refl

pub told_behind : (edition : Edition) (refused number : ℕ) (rest behind : List ℕ) (event : Event)
    → by_line (event_at edition) rest ≡ Some (event, behind)
    → told refused (events_at edition (number + 1) (pieces behind)) ≡ told refused
    (events_at edition number (pieces rest))
told_behind edition refused number rest behind event some =
    told_alike refused number event (events_at edition (number + 1) (pieces behind))
    ∙ ap (told refused) (sym (good_line edition number rest behind event some))

-- ---- from line to line

-- the events that were read were made: the lines behind are still to be read
pub record SteppedTo (edition : Edition) (first : ℕ) (start : Heap) (text rest : List ℕ) (number : ℕ)
    (world : Heap) : Type 0 where
  pub front : List Event
  pub so_far : with_front front (events_at edition number (pieces rest)) ≡ events_at edition first (pieces text)
  pub run : IsRun start (reverse front)
  pub leads : world ≡ world_after start (reverse front)
  pub counted : number ≡ length front + first
  pub short : number + length rest ≤ MOST_INPUT + 3

-- the first event stands on one of the first three lines
pub first_early : (edition : Edition) → first_number edition ≤ 3
first_early editions.One = omega arith
first_early editions.Two = omega arith

pub nothing_made : (edition : Edition) (first : ℕ) (start : Heap) (text : List ℕ) → first ≤ 3 → length text ≤ MOST_INPUT
    → SteppedTo edition first start text text first start
nothing_made edition first start text early short = record {
  front = [];
  so_far = nothing_before (events_at edition first (pieces text));
  run = tt;
  leads = refl;
  counted = omega arith;
  short = omega (arith, early, short);
}

-- the events, and one more that is enabled there
one_made : (start old new : Heap) (front : List Event) (event : Event) → IsRun start (reverse front)
    → old ≡ world_after start (reverse front)
    → enabled old event ≡ true → new ≡ after old event
    → IsRun start (reverse (front ++ (event ∷ []))) × (new ≡ world_after start (reverse (front ++ (event ∷ []))))
one_made start old new front event run leads may is =
    let P : List Event → Type 0 = λ es. IsRun start es × (new ≡ world_after start es) in
    let Q : Heap → Type 0 = λ h. enabled h event ≡ true in
    subst P (sym (reverse-append front (event ∷ []))) (
      (run, subst Q leads may),
      is
          ∙ ap (λ (h : Heap). after h event) leads,
    )

pub step_made : (edition : Edition) (first : ℕ) (start old new : Heap) (text rest behind : List ℕ) (number : ℕ)
    (event : Event) → SteppedTo edition first start text rest number old
    → by_line (event_at edition) rest ≡ Some (event, behind) → enabled old event ≡ true → new ≡ after old event
    → SteppedTo edition first start text behind (number + 1) new
step_made edition first start old new text rest behind number event so some may is =
    let made = one_made start old new so.front event so.run so.leads may is in
    let later = events_at edition (number + 1) (pieces behind) in
    let longer : length (so.front ++ (event ∷ [])) ≡ length so.front + 1 = length-append so.front (event ∷ []) in
    record {
      front = so.front ++ (event ∷ []);
      so_far = sym (joined so.front event number later)
          ∙ ap (with_front so.front) (sym (good_line edition number rest behind event some)) ∙ so.so_far;
      run = made.0;
      leads = made.1;
      counted = omega (arith, so.counted, longer);
      short = omega (arith, so.short, line_shorter edition rest behind event some);
    }

pub all_made : (edition : Edition) (first : ℕ) (start world : Heap) (text rest : List ℕ) (number : ℕ)
    → SteppedTo edition first start text rest number world → length rest ≡ 0
    → AreMade start (events_at edition first (pieces text)) world
all_made edition first start world text rest number so none = record {
  events = so.front;
  spelled = sym so.so_far ∙ ap (with_front so.front) (no_line edition number rest none)
      ∙ ap (λ (es : List Event). Ok es) (append-nil so.front);
  run = so.run;
  leads = so.leads;
}

pub line_is_bad : (edition : Edition) (first : ℕ) (start world : Heap) (text rest : List ℕ) (number : ℕ)
    → SteppedTo edition first start text rest number world → 0 < length rest → by_line (event_at edition) rest ≡ None
    → events_at edition first (pieces text) ≡ Err number
line_is_bad edition first start world text rest number so some none = sym so.so_far
    ∙ ap (with_front so.front) (bad_line edition number rest some none)

-- an event stands behind those before it
stands_behind : (front : List Event) (event : Event) (later : List Event)
    → slice_get (front ++ (event ∷ later)) (length front) ≡ Some event
stands_behind [] event later = refl
stands_behind (first ∷ front) event later = stands_behind front event later

refused_by : (edition : Edition) (first : ℕ) (start world new : Heap) (text rest behind : List ℕ) (number : ℕ)
    (event : Event) (later : Result (List Event) ℕ)
    → SteppedTo edition first start text rest number world
    → events_at edition number (pieces rest) ≡ before_others number (Some event) later → enabled world event ≡ false
    → ReplaysLines (Err (told number later)) start new first (events_at edition first (pieces text))
refused_by edition first start world new text rest behind number event (Err bad) so here refused = sym so.so_far
    ∙ ap (with_front so.front) here
refused_by edition first start world new text rest behind number event (Ok later) so here refused =
    let P : List Event → Type 0 = λ es. IsRun start (reverse es) in
    let Q : List Event → Type 0 = λ es. enabled (world_after start (reverse es)) event ≡ false in
    let R : Heap → Type 0 = λ h. enabled h event ≡ false in
    let before : so.front ≡ take (length so.front) (so.front ++ (event ∷ later)) =
    sym (take-append_seam so.front (event ∷ later)) in
    record {
      events = so.front ++ (event ∷ later);
      spelled = sym so.so_far ∙ ap (with_front so.front) here;
      at = length so.front;
      first = record {
        event = event;
        there = stands_behind so.front event later;
        earlier = subst P before so.run;
        refused = subst Q before (subst R so.leads refused);
      };
      counted = so.counted;
    }

pub line_is_refused : (edition : Edition) (first : ℕ) (start world new : Heap) (text rest behind : List ℕ) (number : ℕ)
    (event : Event) (fault : Fault)
    → SteppedTo edition first start text rest number world → by_line (event_at edition) rest ≡ Some (event, behind)
    → enabled world event ≡ false
    → fault ≡ told number (events_at edition (number + 1) (pieces behind))
    → ReplaysLines (Err fault) start new first (events_at edition first (pieces text))
line_is_refused edition first start world new text rest behind number event fault so some refused is =
    let P : Fault → Type 0 = λ f. ReplaysLines (Err f) start new first (events_at edition first (pieces text)) in
    subst P (sym is) (refused_by edition first start world new text rest behind number event
    (events_at edition (number + 1) (pieces behind)) so (good_line edition number rest behind event some) refused)

-- ---- the whole text

pub lines_replayed : (edition : Edition) (text rest : List ℕ) (cells limit : ℕ) (world : Heap)
    → IsHead text edition (cells, limit) rest
    → AreMade (opening_in edition cells limit) (events_at edition (first_number edition) (pieces rest)) world
    → IsReplayed text world
lines_replayed edition text rest cells limit world is made = record {
  trace = record { edition = edition; cells = cells; local_limit = limit; events = made.events };
  spelled = is.read ∙ ap (below_head edition (Some (cells, limit))) made.spelled;
  run = made.run;
  leads = made.leads;
}
