-- An event that is refused, with why; and that a replay and what is told of it name one line.
use Rattle.std.proofs.Common.{◌≡◌, ◌∙◌, ℕ, zero, suc, ◌+◌, ◌-◌, ◌<◌, ◌≤◌, Bool, true, false, List, [], ◌∷◌, ◌++◌}
use Rattle.std.proofs.Common.{length, take, reverse, get_or, Option, Some, None, Result, Ok, Err, refl, sym, ap, subst}
use Rattle.std.proofs.Common.{inl, inr, append_assoc, arith}
use Rattle.std.specs.Prelude.{◌⊎◌, IfSome, slice_get}
use Rattle.std.proofs.lemmas.Bool.{cases_order}
use Rattle.std.proofs.lemmas.List.{reverse-append, length-take-le}
use Rattle.std.proofs.lemmas.Option.{slice_get-get_or, slice_get_within}
use Rattle.std.proofs.Math.Seq.{take-append-add}
use Rattle.brc_words.specs.declared.fault.Fault.{Fault}
use Rattle.brc_words.specs.declared.fault.Fault.TheVariants as faults
use Rattle.brc_words.specs.declared.fault.Reason.{Reason}
use Rattle.brc_words.specs.declared.fault.Reason.TheVariants as reasons
use Rattle.law.specs.declared.world.event.Event.{Event}
use Rattle.law.specs.world.Heap.{Heap, opening_in}
use Rattle.law.specs.world.Runs.{IsRun, world_after}
use Rattle.law.specs.world.Steps.{enabled}
use Rattle.brc_core.specs.Replays.{IsFirstNotEnabled}
use Rattle.brc_core.proofs.Turns.{LeadsTo}
use Rattle.brc_text.proofs.KeywordLaws.{same_some}
use Rattle.brc_trace.specs.declared.explaining.Refused.{Refused}
use Rattle.brc_trace.specs.declared.explaining.Why.{Why}
use Rattle.brc_trace.specs.declared.explaining.Why.TheVariants as whys
use Rattle.brc_trace.specs.Traces.{Listing, first_number}
use Rattle.brc_trace.specs.Replaying.{IsReplayed, IsBad, Replays}
use Rattle.brc_trace.specs.Explaining.{WhyRefused, IsRefusedAt, Explains, Agrees, fault_of_why}
use Rattle.brc_trace.proofs.TextLaws.{same_ok}
use Rattle.brc_trace.proofs.ReadingLoop.{long_text}

pub refused_at : (start : Heap) (number : ℕ) (events : List Event) (at : ℕ) (old here : Heap) (d : Event)
    (told : Refused)
    → LeadsTo start (reverse (take at events)) old → at < length events → enabled old (get_or events at d) ≡ false
    → here ≡ old
    → WhyRefused here (get_or events at d) (at + number) told → IsRefusedAt start number events told
refused_at start number events at old here d told leads within refused same why =
    let P : Heap → Type 0 = λ h. enabled h (get_or events at d) ≡ false in
    let Q : Heap → Type 0 = λ h. WhyRefused h (get_or events at d) (at + number) told in
    record {
      at = at;
      first = record {
        event = get_or events at d;
        there = slice_get-get_or events at d within;
        earlier = leads.is_run;
        refused = subst P leads.world_is refused;
      };
      why = subst Q (same ∙ leads.world_is) why;
    }

-- ---- one line is told

-- an event among those of a run is enabled where those before it lead; the newest stands first
enabled_behind : (start : Heap) (newer older : List Event) (event : Event) → IsRun start (newer ++ (event ∷ older))
    → enabled (world_after start older) event ≡ true
enabled_behind start [] older event run = run.1
enabled_behind start (first ∷ newer) older event run = enabled_behind start newer older event run.0

turned : (front later : List Event) (event : Event) → reverse (front ++ (event ∷ later)) ≡ reverse later
    ++ (event ∷ reverse front)
turned front later event =
    reverse-append front (event ∷ later) ∙ ap (λ (es : List Event). es ++ reverse front)
    (reverse-append (event ∷ []) later)
    ∙ append_assoc (reverse later) (event ∷ []) (reverse front)

enabled_within : (start : Heap) (front later : List Event) (event : Event)
    → IsRun start (reverse (front ++ (event ∷ later)))
    → enabled (world_after start (reverse front)) event ≡ true
enabled_within start front later event run =
    enabled_behind start (reverse later) (reverse front) event
    (subst (λ (es : List Event). IsRun start es) (turned front later event) run)

split_at : (events : List Event) (at : ℕ) (event : Event) → slice_get events at ≡ Some event
    → (later : List Event) × (events ≡ take at events ++ (event ∷ later))
split_at [] at event there = absurd cc
split_at (first ∷ events) zero event there = (events, ap (λ (e : Event). e ∷ events) (same_some there))
split_at (first ∷ events) (suc at) event there =
    let rest = split_at events at event there in
    (rest.0, ap (λ (es : List Event). first ∷ es) rest.1)

-- an event that isn't enabled is in no run
pub refused_in_run : (start : Heap) (events : List Event) (at : ℕ) → IsFirstNotEnabled start events at
    → IsRun start (reverse events) → ⊥
refused_in_run start events at first run =
    let split = split_at events at first.event first.there in
    let enabled_there = enabled_within start (take at events) split.0 first.event
    (subst (λ (es : List Event). IsRun start (reverse es)) split.1 run) in
    true_not_false enabled_there first.refused
  where
    true_not_false : {b : Bool} → b ≡ true → b ≡ false → ⊥
    true_not_false is isnt = absurd cc

longer_front : (events later : List Event) (at other : ℕ) (event : Event) → at < other → at ≤ length events
    → events ≡ take at events ++ (event ∷ later)
    → take other events ≡ take at events ++ (event ∷ take (other - at - 1) later)
longer_front events later at other event more within split =
    let count : length (take at events) ≡ at = length-take-le at events within in
    let parts : other ≡ length (take at events) + suc (other - at - 1) = omega (arith, count) in
    ap (λ (n : ℕ). take n events) parts ∙ ap (take (length (take at events) + suc (other - at - 1))) split
    ∙ take-append-add (take at events) (event ∷ later) (suc (other - at - 1))

not_before : (start : Heap) (events : List Event) (at other : ℕ) → IsFirstNotEnabled start events at
    → IsFirstNotEnabled start events other → at < other → ⊥
not_before start events at other first second more =
    let split = split_at events at first.event first.there in
    let within = slice_get_within events at first.event first.there in
    let longer = longer_front events split.0 at other first.event more (omega (arith, within)) split.1 in
    let enabled_there = enabled_within start (take at events) (take (other - at - 1) split.0) first.event
    (subst (λ (es : List Event). IsRun start (reverse es)) longer second.earlier) in
    true_not_false enabled_there first.refused
  where
    true_not_false : {b : Bool} → b ≡ true → b ≡ false → ⊥
    true_not_false is isnt = absurd cc

-- there is one first event that isn't enabled
one_first : (start : Heap) (events : List Event) (at other : ℕ) → IsFirstNotEnabled start events at
    → IsFirstNotEnabled start events other → at ≡ other
one_first start events at other first second = by_order (cases_order at other)
  where
    by_order : (at ≡ other) ⊎ ((at < other) ⊎ (other < at)) → at ≡ other
    by_order (inl same) = same
    by_order (inr (inl less)) = absurd (not_before start events at other first second less)
    by_order (inr (inr more)) = absurd (not_before start events other at second first more)

same_err : {A E : Type 0} {x y : E} → ◌≡◌ {A = Result A E} (Err x) (Err y) → x ≡ y
same_err e = cc

told_of_trace : (start : Heap) (number : ℕ) (events : List Event) (at line : ℕ) (told : Refused)
    → IsRefusedAt start number events told → IsFirstNotEnabled start events at → line ≡ at + number
    → line ≡ told.line
told_of_trace start number events at line told is first counted =
    counted ∙ ap (λ (n : ℕ). n + number) (one_first start events at is.at first is.first) ∙ sym is.why.line_is

-- a replay's fault and what is told of it have one line, and are of one sort
pub told_alike : (bytes : List ℕ) (why : Why) (line : ℕ) (reason : Reason) → Explains bytes (Some why)
    → IsBad reason line bytes
    → faults.BadTrace line reason ≡ fault_of_why why
told_alike bytes whys.TooLong line reasons.NotALine long bad =
    ap (λ (n : ℕ). faults.BadTrace n reasons.NotALine) (same_err (sym bad ∙ long_text bytes long))
told_alike bytes whys.TooLong line reasons.NotEnabled long bad =
    let neither : ◌≡◌ {A = Result Listing ℕ} (Ok bad.trace) (Err 0) = sym bad.spelled
    ∙ long_text bytes long in absurd cc
told_alike bytes (whys.Bad first cause) line reasons.NotALine is bad =
    ap (λ (n : ℕ). faults.BadTrace n reasons.NotALine) (same_err (sym bad ∙ is.0))
told_alike bytes (whys.Bad first cause) line reasons.NotEnabled is bad =
    let neither : ◌≡◌ {A = Result Listing ℕ} (Ok bad.trace) (Err first) = sym bad.spelled ∙ is.0 in absurd cc
told_alike bytes (whys.Refused told) line reasons.NotALine is bad =
    let neither : ◌≡◌ {A = Result Listing ℕ} (Ok is.trace) (Err line) = sym is.spelled ∙ bad in absurd cc
told_alike bytes (whys.Refused told) line reasons.NotEnabled is bad =
    let same : bad.trace ≡ is.trace = same_ok (sym bad.spelled ∙ is.spelled) in
    let first = subst (λ (t : Listing). IsFirstNotEnabled (opening_in t.edition t.cells t.local_limit) t.events bad.at)
    same bad.first in
    let counted = subst (λ (t : Listing). line ≡ bad.at + first_number t.edition) same bad.counted in
    ap (λ (n : ℕ). faults.BadTrace n reasons.NotEnabled)
    (told_of_trace (opening_in is.trace.edition is.trace.cells is.trace.local_limit) (first_number is.trace.edition)
    is.trace.events bad.at line told is.events first counted)

pub agrees_with : (bytes : List ℕ) (fault : Fault) (line : ℕ) (reason : Reason) (why : Option Why)
    → fault ≡ faults.BadTrace line reason → Explains bytes why
    → Agrees bytes fault why
agrees_with bytes fault line reason why is told =
    subst (λ (f : Fault). Agrees bytes f why) (sym is) (by_why why told)
  where
    by_why : (why : Option Why) → Explains bytes why → Agrees bytes (faults.BadTrace line reason) why
    by_why None told = tt
    by_why (Some reason_told) told = λ bad. told_alike bytes reason_told line reason told bad

-- the fault of a replay of the bytes, and why
pub faults_alike : (bytes : List ℕ) (old new : Option (List ℕ)) (fault : Fault) (why : Option Why)
    → Replays (Some bytes) old new (Err fault) → Agrees bytes fault why
    → IfSome why (λ told. fault ≡ fault_of_why told)
faults_alike bytes old new fault None h agrees = tt
faults_alike bytes old new (faults.BadTrace line reason) (Some told) h agrees = agrees h.1
faults_alike bytes old new _ (Some told) h agrees = absurd agrees

-- nothing is told of bytes that are replayed
pub told_of_none : (bytes : List ℕ) (world : Heap) (why : Option Why) → IsReplayed bytes world → Explains bytes why
    → why ≡ None
told_of_none bytes world None is told = refl
told_of_none bytes world (Some whys.TooLong) is told =
    let neither : ◌≡◌ {A = Result Listing ℕ} (Ok is.trace) (Err 0) = sym is.spelled ∙ long_text bytes told in absurd cc
told_of_none bytes world (Some (whys.Bad line cause)) is told =
    let neither : ◌≡◌ {A = Result Listing ℕ} (Ok is.trace) (Err line) = sym is.spelled ∙ told.0 in absurd cc
told_of_none bytes world (Some (whys.Refused refused)) is told =
    let same : is.trace ≡ told.trace = same_ok (sym is.spelled ∙ told.spelled) in
    let run = subst (λ (t : Listing). IsRun (opening_in t.edition t.cells t.local_limit) (reverse t.events))
    same is.run in
    absurd (refused_in_run (opening_in told.trace.edition told.trace.cells told.trace.local_limit) told.trace.events
    told.events.at told.events.first run)
