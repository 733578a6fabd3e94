-- What a run of the bytes that were read says of the whole input.
use Rattle.std.proofs.Common.{◌≡◌, ◌∙◌, ℕ, ◌+◌, Bool, true, false, List, length, take, Option, Some, None, Ok, Err}
use Rattle.std.proofs.Common.{refl, sym, ap, subst, arith, ltb, inr}
use Rattle.std.specs.Prelude.{IfSome}
use Rattle.std.specs.declared.alloc.Global.{Global}
use Rattle.std.proofs.KnownBytes.{Keeps-refl}
use Rattle.std.proofs.lemmas.Bool.{ltb-true, ltb-false}
use Rattle.std.proofs.lemmas.List.{take_all, length-take-le}
use Rattle.brc_words.specs.declared.fault.Fault.{Fault}
use Rattle.brc_words.specs.declared.fault.Fault.TheVariants as faults
use Rattle.brc_words.specs.declared.limits.TheConstants.{MOST_INPUT}
use Rattle.brc_text.specs.Puts.{PutsUpTo}
use Rattle.brc_script.specs.declared.script.Section.{Section}
use Rattle.brc_script.specs.Walks.{script_at, RefusesScript}
use Rattle.brc_run.specs.Words.{SectionEnd}
use Rattle.brc_report.specs.declared.report.Report.{Report}
use Rattle.brc_run.specs.declared.options.RunOptions.{RunOptions}
use Rattle.brc_run.specs.Runs.{InOrder, EndsAs, IsReportOf}
use Rattle.brc_run.specs.Tellings.{run_text}
use Rattle.brc_run.specs.Scripts_Run.{IsRunOf, Runs}

front_or_whole : (input : List ℕ) (long : Bool) → ltb MOST_INPUT (length input) ≡ long
    → script_at {A = Global} (take (MOST_INPUT + 1) input) ≡ script_at input
unfolding script_at
front_or_whole input true long =
    let over = ltb-true MOST_INPUT (length input) long in
    let kept : length (take (MOST_INPUT + 1) input) ≡ (MOST_INPUT + 1) = length-take-le (MOST_INPUT + 1) input
    (omega (arith, over)) in
    rw (kept, long) refl
front_or_whole input false long =
    ap script_at (take_all (MOST_INPUT + 1) input (omega (arith, ltb-false MOST_INPUT (length input) long)))

-- what is behind the limit doesn't matter
script_of_front : (input : List ℕ) → script_at {A = Global} (take (MOST_INPUT + 1) input) ≡ script_at input
script_of_front input = front_or_whole input (ltb MOST_INPUT (length input)) refl

same_script : (bytes input : List ℕ) → bytes ≡ take (MOST_INPUT + 1) input
    → script_at {A = Global} input ≡ script_at bytes
same_script bytes input is = sym (script_of_front input) ∙ ap script_at (sym is)

module _ (options : RunOptions) (refuses : ℕ → ℕ → Type 0) where
  bad : (input : Option (List ℕ)) (bytes : List ℕ) (line : ℕ) → IfSome input (λ all. bytes ≡ take (MOST_INPUT + 1) all)
      → script_at {A = Global} bytes ≡ Err line → IfSome input (λ all. script_at {A = Global} all ≡ Err line)
  bad None bytes line is h = tt
  bad (Some all) bytes line is h = same_script bytes all is ∙ h

  pub not_spelled : (input old : Option (List ℕ)) (bytes : List ℕ) (fault : Fault)
      → IfSome input (λ all. bytes ≡ take (MOST_INPUT + 1) all)
      → RefusesScript fault (script_at {A = Global} bytes) → Runs options refuses input old old (Err fault)
  not_spelled input old bytes faults.OutOfMemory is h = Keeps-refl old
  not_spelled input old bytes (faults.BadScript line) is h = (Keeps-refl old, bad input bytes line is h)
  not_spelled input old bytes _ is h = absurd h

  -- what was read and run is a run of the whole input
  pub run_of : (input : Option (List ℕ)) (bytes : List ℕ) (script : List (Section Global))
      (ends : List (SectionEnd Global)) (report : Report Global)
      → IfSome input (λ all. bytes ≡ take (MOST_INPUT + 1) all) → script_at bytes ≡ Ok script
      → InOrder (EndsAs refuses) 1 script ends
      → IsReportOf options script ends report → IsRunOf options refuses input script ends report
  run_of None bytes script ends report is spelled in_order reported =
      record { spelled = tt; in_order = in_order; reported = reported }
  run_of (Some all) bytes script ends report is spelled in_order reported =
      record { spelled = same_script bytes all is ∙ spelled; in_order = in_order; reported = reported }

  pub not_written : (input old new : Option (List ℕ)) (left : List ℕ) (script : List (Section Global))
      (ends : List (SectionEnd Global)) (report : Report Global) (fault : Fault)
      → IsRunOf options refuses input script ends report → fault ≡ faults.Io
      → PutsUpTo old new (run_text script ends report) left
      → Runs options refuses input old new (Err fault)
  not_written input old new left script ends report fault run io put =
      let P : Fault → Type 0 = λ f. Runs options refuses input old new (Err f) in
      subst P (sym io) (
        put.front,
        put.put,
        inr (record { script = script; ends = ends; report = report; run = run; left = left; text = put.is }),
      )
