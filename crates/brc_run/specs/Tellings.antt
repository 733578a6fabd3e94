-- What a run is told as.
use Rattle.std.specs.Prelude.{ℕ, Bool, List, [], ◌∷◌, ◌++◌, is_some}
use Rattle.brc_script.specs.declared.script.Section.{Section}
use Rattle.brc_run.specs.Words.{SectionEnd}
use Rattle.brc_report.specs.declared.report.Report.{Report}
use Rattle.brc_report.specs.Texts.{report_text}
use Rattle.brc_run.specs.Sections.{section_text}

module _ {A B : Type 0} where
  -- the sections in the script's order: what each printed, and the fault that ended it
  abbrev pub sections_text : List (Section A) → List (SectionEnd B) → List ℕ
  sections_text [] ends = []
  sections_text (section ∷ sections) [] = []
  sections_text (section ∷ sections) (end ∷ ends) =
      section_text section.name end.lines.items end.fault ++ sections_text sections ends

  -- the sections, and behind them the report of their heap
  abbrev pub run_text : List (Section A) → List (SectionEnd B) → Report B → List ℕ
  run_text sections ends report =
      sections_text sections ends ++ report_text report.ledger report.live report.remains.items report.cycles.items

module _ {B : Type 0} where
  abbrev pub ends_by_fault : SectionEnd B → Bool
  ends_by_fault end = is_some end.fault
