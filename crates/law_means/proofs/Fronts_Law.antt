-- Lines only add: what is printed, and how many objects there are.
use Rattle.std.proofs.Common.{◌≡◌, ℕ, List, [], ◌∷◌, ◌++◌, length, Option, Result, Ok, Err, IfOk, length-set}
use Rattle.std.proofs.Common.{length-append, append_assoc, append-nil, arith, refl, sym, ◌∙◌, ap, subst}
use Rattle.brc_words.specs.declared.fault.Fault.{Fault}
use Rattle.brc_script.specs.declared.instruction.Instruction.{Instruction}
use Rattle.brc_script.specs.declared.script.Section.{Section}
use Rattle.brc_script.specs.Instructions.{NumberedLine}
use Rattle.brc_meaning.specs.declared.reference.Reference.{Reference}
use Rattle.brc_meaning.specs.declared.reference.Reference.TheVariants as references
use Rattle.brc_meaning.specs.declared.object.Object.{Object}
use Rattle.brc_meaning.specs.declared.state.State.{State}
use Rattle.brc_meaning.specs.Outcomes.{◌>>=◌}
use Rattle.brc_meaning.specs.States.{held, holding, asked, changed, calling, start, called}
use Rattle.brc_meaning.specs.Steps.{after}
use Rattle.brc_meaning.specs.Sections.{SectionStop, line_after, lines_after, written_out, told, meaning}
use Rattle.brc_meaning.specs.Wholes.{ended}
use Rattle.brc_meaning.proofs.Keeping.{kept_after}
use Rattle.brc_meaning.proofs.WrittenOut.{section_written_out, lines_append}
use Rattle.law_means.specs.Fronts.{AddsTo, IsFrontOf}

pub adds_nothing : {A : Type 0} (s : State A) → AddsTo s s
adds_nothing s = record { printed = ([], sym (append-nil s.printed)); objects = omega arith }

adds_twice : {A : Type 0} (s z next : State A) → AddsTo s z → AddsTo z next → AddsTo s next
adds_twice s z next one other = record {
  printed = (
    one.printed.0 ++ other.printed.0,
    other.printed.1
        ∙ ap (λ (bytes : List ℕ). bytes ++ other.printed.0) one.printed.1
        ∙ append_assoc s.printed one.printed.0 other.printed.0,
  );
  objects = omega (arith, one.objects, other.objects);
}

module _ {A : Type 0} where
  same_many : (reference : Reference) (object : Object A) (made : List (Object A))
      → length (changed reference object made) ≡ length made
  same_many (references.Small number) object made = refl
  same_many (references.Object place) object made = length-set made place object

  adds_call : (s : State A) (call : Object A → Result (Option Reference × Object A) Fault) (container to : ℕ)
      → IfOk (called call container to s) (AddsTo s)
  adds_call s call container to = by_held (held container s.registers)
    where
      next : Option Reference × List (Object A) → Result (State A) Fault
      next done = Ok (record { registers = holding to done.0 s.registers; objects = done.1; printed = s.printed })

      by_asked : (reference : Reference) (r : Result (Option Reference × Object A) Fault)
          → IfOk ((r >>= λ done. Ok (done.0, changed reference done.1 s.objects)) >>= next) (AddsTo s)
      by_asked reference (Ok done) =
          record {
            printed = ([], sym (append-nil s.printed));
            objects = omega (arith, same_many reference done.1 s.objects);
          }
      by_asked reference (Err fault) = tt

      by_held : (r : Result Reference Fault) → IfOk (r >>= λ reference. calling call reference s.objects >>= next)
          (AddsTo s)
      by_held (Ok reference) = by_asked reference (asked call reference s.objects)
      by_held (Err fault) = tt

  pub adds_after : (instruction : Instruction A) (s : State A) → IfOk (after instruction s) (AddsTo s)
  adds_after instruction s = kept_after s (λ reference. Unit {0}) (AddsTo s) (record {
    held = λ register. any (held register s.registers);
    small = λ number. tt;
    same = adds_nothing s;
    register = λ to reference here. record { printed = ([], sym (append-nil s.printed)); objects = omega arith };
    object = λ to object each. record {
      printed = ([], sym (append-nil s.printed));
      objects = omega (arith, length-append s.objects (object ∷ []));
    };
    call = λ call container to keeps. adds_call s call container to;
    print = λ more. record { printed = (more, refl); objects = omega arith };
  }) instruction
    where
      any : (r : Result Reference Fault) → IfOk r (λ reference. Unit {0})
      any (Ok reference) = tt
      any (Err fault) = tt

  -- ---- lines

  by_line : (r : Result (State A) Fault) (s : State A) (line : ℕ) → IfOk r (AddsTo s)
      → AddsTo s (ended (elim r [
        | Ok next ↦ Ok next
        | Err fault ↦ Err (record { state = s; fault = fault; line = line })
      ]))
  by_line (Ok next) s line adds = adds
  by_line (Err fault) s line adds = adds_nothing s

  pub adds_line : (line : NumberedLine A) (s : State A) → AddsTo s (ended (line_after line s))
  adds_line line s = by_line (after line.instruction s) s line.number (adds_after line.instruction s)

  -- what comes after only adds
  adds_later : (r : Result (State A) (SectionStop A)) (next : State A → Result (State A) (SectionStop A))
      → ((s : State A) → AddsTo s (ended (next s))) → AddsTo (ended r) (ended (r >>= next))
  adds_later (Ok s) next adds = adds s
  adds_later (Err stop) next adds = adds_nothing stop.state

  adds_lines : (lines : List (NumberedLine A)) (s : State A) → AddsTo s (ended (lines_after lines s))
  adds_lines [] s = adds_nothing s
  adds_lines (line ∷ lines) s =
      adds_twice s (ended (line_after line s)) (ended (lines_after (line ∷ lines) s)) (adds_line line s)
      (adds_later (line_after line s) (λ next. lines_after lines next) (λ z. adds_lines lines z))

  pub front_adds : (lines later : List (NumberedLine A)) (s : State A)
      → AddsTo (ended (lines_after lines s)) (ended (lines_after (lines ++ later) s))
  front_adds lines later s =
      subst (λ r. AddsTo (ended (lines_after lines s)) (ended r)) (lines_append lines later s)
      (adds_later (lines_after lines s) (λ next. lines_after later next) (λ z. adds_lines later z))

  -- ---- meanings

  -- what is told is where the lines ended
  told_front : (s : State A) (r : Result (State A) (SectionStop A)) → AddsTo s (ended r) → IsFrontOf s (told r)
  told_front s (Ok next) adds = record { lines = adds.printed; made = adds.objects }
  told_front s (Err stop) adds = record { lines = adds.printed; made = adds.objects }

  meant_by : (section : Section A) (lines later : List (NumberedLine A)) → written_out section.pieces ≡ lines ++ later
      → meaning section ≡ told (lines_after (lines ++ later) start)
  meant_by section lines later are = section_written_out section
      ∙ ap (λ (all : List (NumberedLine A)). told (lines_after all start)) are

  pub front_meant : (section : Section A) (lines later : List (NumberedLine A))
      → written_out section.pieces ≡ lines ++ later → IsFrontOf (ended (lines_after lines start)) (meaning section)
  front_meant section lines later are =
      subst (IsFrontOf (ended (lines_after lines start))) (sym (meant_by section lines later are))
      (told_front (ended (lines_after lines start)) (lines_after (lines ++ later) start) (front_adds lines later start))

  pub stop_meant : (section : Section A) (lines later : List (NumberedLine A)) (stop : SectionStop A)
      → written_out section.pieces ≡ lines ++ later → lines_after lines start ≡ Err stop
      → meaning section ≡ told (Err stop)
  stop_meant section lines later stop are stopped =
      meant_by section lines later are
      ∙ ap told (sym (lines_append lines later start)
      ∙ ap (λ (r : Result (State A) (SectionStop A)). r >>= λ next. lines_after later next) stopped)
