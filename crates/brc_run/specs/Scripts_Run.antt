-- A script, run from bytes to bytes.
use Rattle.std.specs.Prelude.{◌≡◌, ◌⊎◌, ℕ, Bool, List, [], ◌++◌, Option, Result, Ok, Err, IfSome, nat_lt}
use Rattle.std.specs.List.{list_any}
use Rattle.std.specs.declared.alloc.Global.{Global}
use Rattle.std.specs.Io.KnownBytes.{Appends, Keeps}
use Rattle.brc_words.specs.declared.fault.Fault.{Fault}
use Rattle.brc_words.specs.declared.fault.Fault.TheVariants as faults
use Rattle.brc_script.specs.declared.script.Section.{Section}
use Rattle.brc_script.specs.Walks.{script_at}
use Rattle.brc_run.specs.Words.{SectionEnd}
use Rattle.brc_report.specs.declared.report.Report.{Report}
use Rattle.brc_run.specs.declared.options.RunOptions.{RunOptions}
use Rattle.brc_run.specs.Options.{AreRunOptions}
use Rattle.brc_run.specs.Runs.{InOrder, EndsAs, IsReportOf}
use Rattle.brc_run.specs.declared.ended.RunEnded.{RunEnded}
use Rattle.brc_run.specs.Tellings.{run_text, ends_by_fault}

-- The input spells this script, where its bytes are known. Its sections ended so, each with a fault of one of its lines
-- at most, and with Busy only where its gate may refuse; their heap was closed, and this is its report, of a run that
-- tells what each section's thread did.
pub record IsRunOf (options : RunOptions) (refuses : ℕ → ℕ → Type 0) (input : Option (List ℕ))
    (script : List (Section Global))
    (ends : List (SectionEnd Global)) (report : Report Global) : Type 0 where
  pub spelled : IfSome input (λ bytes. script_at bytes ≡ Ok script)
  pub in_order : InOrder (EndsAs refuses) 1 script ends
  pub reported : IsReportOf options script ends report

-- the whole text of a run is written, and it is said whether an object lives and whether a fault ended a section
pub record IsRunWritten (options : RunOptions) (refuses : ℕ → ℕ → Type 0) (input old new : Option (List ℕ))
    (ended : RunEnded) : Type 0 where
  pub script : List (Section Global)
  pub ends : List (SectionEnd Global)
  pub report : Report Global
  pub run : IsRunOf options refuses input script ends report
  pub written : Appends old new (run_text script ends report)
  pub lives : ended.lives ≡ nat_lt 0 report.live
  pub faulted : ended.faulted ≡ list_any ends_by_fault ends

-- the text of a run is written up to what is left of it
pub record IsHalfTold (options : RunOptions) (refuses : ℕ → ℕ → Type 0) (input : Option (List ℕ))
    (front : List ℕ) : Type 0 where
  pub script : List (Section Global)
  pub ends : List (SectionEnd Global)
  pub report : Report Global
  pub run : IsRunOf options refuses input script ends report
  pub left : List ℕ
  pub text : run_text script ends report ≡ front ++ left

-- What a run from bytes to bytes does, by its answer. Nothing is written until all sections have ended and their heap
-- is closed; a read or a write that fails ends it, the write after a front of the text.
abbrev pub Runs : RunOptions → (ℕ → ℕ → Type 0) → Option (List ℕ) → Option (List ℕ) → Option (List ℕ)
    → Result RunEnded Fault → Type 0
Runs options refuses input old new (Ok ended) = IsRunWritten options refuses input old new ended
Runs options refuses input old new (Err faults.BadOptions) = Keeps old new × ¬ (AreRunOptions options)
Runs options refuses input old new (Err (faults.BadScript line)) =
    Keeps old new × IfSome input (λ bytes. script_at {A = Global} bytes ≡ Err line)
Runs options refuses input old new (Err faults.OutOfMemory) = Keeps old new
Runs options refuses input old new (Err faults.Io) =
    (front : List ℕ) × Appends old new front × ((front ≡ []) ⊎ IsHalfTold options refuses input front)
Runs options refuses input old new (Err _) = ⊥
