-- A call on the object that a register refers to: what it comes to by the plain meaning, and what is shown after the
-- heap's.
use Rattle.std.proofs.Common.{◌≡◌, ◌∙◌, refl, sym, ap, subst, ℕ, ℤ, Bool, List, Option, Some, None, IfSome, Result, Ok}
use Rattle.std.proofs.Common.{Err, IfOk}
use Rattle.std.specs.Option.{option_map}
use Rattle.std.proofs.lemmas.Option.{same_Some}
use Rattle.brc_words.specs.declared.fault.Fault.{Fault}
use Rattle.brc_words.specs.declared.fault.Fault.TheVariants as faults
use Rattle.brc_count.specs.law.declared.rule.contents.Contents.{Contents}
use Rattle.brc_count.specs.Frames.{FrameSeen, HandleSeen}
use Rattle.brc_count.specs.Locking.{cell_in}
use Rattle.brc_handles.specs.Handles.{slot}
use Rattle.brc_things.specs.Changing.{PlainCall, RefusedPlainly}
use Rattle.brc_plain.specs.Outcomes.{or_fault}
use Rattle.brc_meaning.specs.declared.reference.Reference.{Reference}
use Rattle.brc_meaning.specs.declared.reference.Reference.TheVariants as references
use Rattle.brc_meaning.specs.declared.object.Object.{Object}
use Rattle.brc_meaning.specs.declared.object.Object.TheVariants as objects
use Rattle.brc_meaning.specs.declared.state.State.{State}
use Rattle.brc_meaning.specs.Outcomes.{◌>>=◌}
use Rattle.brc_meaning.specs.States.{meant, changed}
use Rattle.brc_meaning.specs.Wholes.{Each}
use Rattle.brc_meaning.proofs.WholeCalls.{IsKept}
use Rattle.brc_count.specs.law.payloads.Payloads.{payloads_of}
use Rattle.brc_count.specs.law.living.Living.{OwnLog}
use Rattle.law_isolation.specs.Means.{cell_meant, contents_meant, IsMeant, ShowsState}
use Rattle.law_isolation.specs.Calls.{with_objects, ComesAsMeant, GivesNone, GivesOne}
use Rattle.law_isolation.proofs.Matching.{ObjectCall, Matches, told, outcome_meant}
use Rattle.law_isolation.proofs.Left_Alone.{ReplacesIn}
use Rattle.law_isolation.proofs.Found_There.{FoundAs, found_as}
use Rattle.law_isolation.proofs.Showing.{KeepsPlacesOf, shows_left, shows_replaced}
use Rattle.law_isolation.proofs.Turning.{Turns, LooksOn, keep_looks}

-- ---- outcomes

module _ {X Y E : Type 0} where
  first_or : X → Result (X × Y) E → X
  first_or x (Ok done) = done.0
  first_or x (Err fault) = x

  second_or : Y → Result (X × Y) E → Y
  second_or y (Ok done) = done.1
  second_or y (Err fault) = y

module _ {X Y E : Type 0} (x z : X) (y w : Y) (is : ◌≡◌ {A = Result (X × Y) E} (Ok (x, y)) (Ok (z, w))) where
  same_first : x ≡ z
  unfolding first_or
  same_first = ap (first_or x) is

  same_second : y ≡ w
  unfolding second_or
  same_second = ap (second_or y) is

module _ {A R : Type 0} (cells : ℕ → ℕ) (call : ObjectCall A) (plain : PlainCall R) (answered : R → Option ℕ)
    (matches : Matches cells call plain answered) (object : Object A) where
  -- the call on the object is done, with this answer and this left
  pub record IsDone (answer : R) (put : Contents) : Type 0 where
    pub done : Option Reference × Object A
    pub went : call object ≡ Ok done
    pub answers : option_map (cell_meant cells) done.0 ≡ answered answer
    pub leaves : contents_meant cells done.1 ≡ put

  done_by : (answer : R) (put : Contents) (r : Result (Option Reference × Object A) Fault) → call object ≡ r
      → Ok (answered answer, put) ≡ outcome_meant cells r → IsDone answer put
  done_by answer put (Ok done) went is = record {
    done = done;
    went = went;
    answers = sym (same_first (answered answer) (option_map (cell_meant cells) done.0) put
        (contents_meant cells done.1) is);
    leaves = sym (same_second (answered answer) (option_map (cell_meant cells) done.0) put
        (contents_meant cells done.1) is);
  }
  done_by answer put (Err fault) went is =
      absurd (let bad : ◌≡◌ {A = Result (Option ℕ × Contents) Fault} (Ok (answered answer, put)) (Err fault) = is in cc)

  pub is_done : (answer : R) (put : Contents) → plain (contents_meant cells object) ≡ Ok (answer, put)
      → IsDone answer put
  is_done answer put is = done_by answer put (call object) refl (ap (told answered) (sym is) ∙ matches object)

  refused_by : (fault : Fault) (r : Result (Option Reference × Object A) Fault) → call object ≡ r
      → Err fault ≡ outcome_meant cells r → call object ≡ Err fault
  refused_by fault (Ok done) went is =
      absurd (let bad : ◌≡◌ {A = Result (Option ℕ × Contents) Fault} (Err fault)
      (Ok (option_map (cell_meant cells) done.0, contents_meant cells done.1)) = is in cc)
  refused_by fault (Err other) went is =
      went ∙ ap Err (let alike : ◌≡◌ {A = Result (Option ℕ × Contents) Fault} (Err fault) (Err other) = is in cc)

  pub is_refused : (fault : Fault) → plain (contents_meant cells object) ≡ Err fault → call object ≡ Err fault
  is_refused fault is = refused_by fault (call object) refl (ap (told answered) (sym is) ∙ matches object)

-- ---- calls on what a register refers to

module _ {A : Type 0} (cells : ℕ → ℕ) (part : ℕ → Bool) (s : State A) (container cell : ℕ) (found : Contents)
    (there : FoundAs cells part s container cell found) (call : ObjectCall A) where
  -- what is done with the call's outcome
  abbrev then : Option Reference × Object A → Result (Option Reference × List (Object A)) Fault
  then done = Ok (done.0, changed there.reference done.1 s.objects)

  calls_it : (o : Option (Object A)) (r : Result (Option Reference × Object A) Fault) → o ≡ Some there.object
      → call there.object ≡ r
      → (or_fault faults.WrongKind o >>= call) >>= then ≡ r >>= then
  calls_it o r stands went =
      ap (λ (seen : Option (Object A)). (or_fault faults.WrongKind seen >>= call) >>= then) stands
      ∙ ap (λ (outcome : Result (Option Reference × Object A) Fault). outcome >>= then) went

  pub comes_done : (done : Option Reference × Object A) → call there.object ≡ Ok done
      → ComesAsMeant call container s (Ok (done.0, changed there.reference done.1 s.objects))
  comes_done done went =
      record {
        reference = there.reference;
        refers = there.refers;
        comes = calls_it (meant there.reference s.objects)
            (Ok done) there.stands went;
      }

  pub comes_refused : (fault : Fault) → call there.object ≡ Err fault → ComesAsMeant call container s (Err fault)
  comes_refused fault went =
      record {
        reference = there.reference;
        refers = there.refers;
        comes = calls_it (meant there.reference s.objects)
            (Err fault) there.stands went;
      }

module _ {A : Type 0} (base : ℕ) (cells : ℕ → ℕ) (part : ℕ → Bool) (old new : FrameSeen A)
    (registers : List (Option HandleSeen)) (s : State A) (shows : ShowsState base cells part old registers s)
    (own : OwnLog new.heap.cells new.seat.log) (container : ℕ) (h : HandleSeen)
    (in_register : slot registers container ≡ Some h) (call : ObjectCall A)
    (places : KeepsPlacesOf old new registers) where
  -- ---- the call is refused

  pub refused : {R : Type 0} (plain : PlainCall R) (answered : R → Option ℕ) → Matches cells call plain answered
      → (fault : Fault) → RefusedPlainly old new h.place plain fault
      → ComesAsMeant call container s (Err fault) × ShowsState base cells part new registers s
  refused plain answered matches fault why =
      let looks : LooksOn old new h.place why.found = keep_looks old new h.place why.found own why.looks in
      let there : FoundAs cells part s container looks.cell why.found =
      found_as base cells part old registers s shows container h in_register looks.cell why.found looks.of_place
      looks.finds in (
        comes_refused cells part s container looks.cell why.found there call fault
            (is_refused cells call plain answered matches there.object fault (ap plain (sym there.found_is)
            ∙ why.plain)),
        shows_left base cells part old new registers s shows looks.leaves places,
      )

  -- ---- the call is done

  -- it came to this, and it is shown; the answer's cell is that
  pub record Went (told_cell : Option ℕ) : Type 0 where
    pub answer : Option Reference
    pub made : List (Object A)
    pub comes : ComesAsMeant call container s (Ok (answer, made))
    pub shown : ShowsState base cells part new registers (with_objects made s)
    pub is_cell : option_map (cell_meant cells) answer ≡ told_cell
    pub is_meant : IfSome answer (IsMeant part)

  module _ (no_int : (number : ℤ) → call (objects.Int number) ≡ Err faults.WrongKind)
      (keeps : (object : Object A) → Each (IsMeant part) object
      → IfOk (call object) (IsKept (IsMeant part) (Each (IsMeant part)))) where
    shown_after : (cell : ℕ) (found put : Contents) (replaces : (payload : Contents)
        → payloads_of old.heap.cells old.seat.log cell ≡ Some payload → ReplacesIn old new cell put)
        (reference : Reference) → IsMeant part reference → (object : Object A) → meant reference s.objects ≡ Some object
        → cell ≡ cell_meant cells reference
        → (done : Option Reference × Object A) → call object ≡ Ok done → contents_meant cells done.1 ≡ put
        → Each (IsMeant part) done.1
        → ShowsState base cells part new registers (with_objects (changed reference done.1 s.objects) s)
    shown_after cell found put replaces (references.Small number) is_meant object stands cell_is done went
        leaves leads =
        absurd (
        let bad : ◌≡◌ {A = Result (Option Reference × Object A) Fault} (Ok done) (Err faults.WrongKind) =
        sym went ∙ ap call (sym (same_Some (objects.Int number) object stands)) ∙ no_int number in
        cc
        )
    shown_after cell found put replaces (references.Object place) is_meant object stands cell_is done went
        leaves leads =
        let at = shows.lives.there place is_meant in
        let here : ReplacesIn old new cell put = replaces (contents_meant cells at.object)
        (ap (payloads_of old.heap.cells old.seat.log) cell_is ∙ at.payload) in
        let there : ReplacesIn old new (cells place) put = subst (λ c. ReplacesIn old new c put) cell_is here in
        shows_replaced base cells part old new registers s shows place done.1 is_meant leads
        (subst (λ (contents : Contents). ReplacesIn old new (cells place) contents) (sym leaves) there) places

    pub went : {R : Type 0} (plain : PlainCall R) (answered : R → Option ℕ) → Matches cells call plain answered
        → (found put : Contents) (answer : R) → plain found ≡ Ok (answer, put) → Turns old new h.place found put
        → Went (answered answer)
    went plain answered matches found put answer is turn =
        let there : FoundAs cells part s container turn.cell found =
        found_as base cells part old registers s shows container h in_register turn.cell found turn.of_place
        turn.finds in
        let done : IsDone cells call plain answered matches there.object answer put =
        is_done cells call plain answered matches there.object answer put (ap plain (sym there.found_is) ∙ is) in
        let kept : IsKept (IsMeant part) (Each (IsMeant part)) done.done =
        subst (λ (r : Result (Option Reference × Object A) Fault). IfOk r (IsKept (IsMeant part) (Each (IsMeant part))))
        done.went (keeps there.object there.leads) in
        record {
          answer = done.done.0;
          made = changed there.reference done.done.1 s.objects;
          comes = comes_done cells part s container turn.cell found there call done.done done.went;
          shown = shown_after turn.cell found put turn.replaces there.reference there.is_meant there.object there.stands
              there.cell_is done.done done.went done.leaves kept.1;
          is_cell = done.answers;
          is_meant = kept.0;
        }

  none_only : (o : Option Reference) → option_map (cell_meant cells) o ≡ None → o ≡ None
  none_only None is = refl
  none_only (Some reference) is = absurd (let bad : Some (cell_meant cells reference) ≡ None = is in cc)

  one_only : (o : Option Reference) (c : ℕ) → option_map (cell_meant cells) o ≡ Some c → IfSome o (IsMeant part)
      → (reference : Reference) × (o ≡ Some reference) × (c ≡ cell_meant cells reference) × IsMeant part reference
  one_only None c is each = absurd (let bad : None ≡ Some c = is in cc)
  one_only (Some reference) c is each = (reference, refl, sym (same_Some (cell_meant cells reference) c is), each)

  pub gives_none : Went None → GivesNone call container base new registers s
  gives_none done = record {
    made = done.made;
    comes = subst (λ (answer : Option Reference). ComesAsMeant call container s (Ok (answer, done.made)))
        (none_only done.answer done.is_cell) done.comes;
    means = record { cells = cells; part = part; shows = done.shown };
  }

  pub gives_one : (given : HandleSeen) (c : ℕ) → cell_in new given.place ≡ Some c → Went (Some c)
      → GivesOne call container base new registers s given
  gives_one given c has done =
      let one = one_only done.answer c done.is_cell done.is_meant in
      record {
        reference = one.0;
        made = done.made;
        comes = subst (λ (answer : Option Reference). ComesAsMeant call container s (Ok (answer, done.made))) one.1
            done.comes;
        means = record {
          cells = cells;
          part = part;
          shows = done.shown;
          has = record { cell = has ∙ ap Some one.2; meant = one.3 };
        };
      }
