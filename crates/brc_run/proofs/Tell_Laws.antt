-- What is left to be told of sections.
use Rattle.std.proofs.Common.{◌≡◌, ◌∙◌, ◌≤◌, ◌<◌, ◌+◌, ◌++◌, ℕ, suc, List, [], ◌∷◌, length, get_or, drop, drop-cons}
use Rattle.std.proofs.Common.{add-one, refl, ap, sym}
use Rattle.std.proofs.lemmas.List.{drop_all}
use Rattle.brc_script.specs.declared.script.Section.{Section}
use Rattle.brc_run.specs.Words.{SectionEnd}
use Rattle.brc_report.specs.declared.report.Report.{Report}
use Rattle.brc_report.specs.Texts.{report_text}
use Rattle.brc_run.specs.Sections.{section_text}
use Rattle.brc_run.specs.Tellings.{sections_text, run_text}

no_ends : {A : Type 0} (B : Type 0) (sections : List (Section A)) → sections_text {B = B} sections [] ≡ []
no_ends B [] = refl
no_ends B (section ∷ sections) = refl

module _ {A B : Type 0} where
  -- nothing is left behind the last section
  pub sections_done : (sections : List (Section A)) (ends : List (SectionEnd B)) (at : ℕ) → length sections ≤ at
      → sections_text (drop at sections) (drop at ends) ≡ []
  sections_done sections ends at done = ap (λ (left : List (Section A)). sections_text left (drop at ends))
      (drop_all at sections done)

  -- nor behind the last end
  pub ends_done : (sections : List (Section A)) (ends : List (SectionEnd B)) (at : ℕ) → length ends ≤ at
      → sections_text (drop at sections) (drop at ends) ≡ []
  ends_done sections ends at done =
      ap (λ (left : List (SectionEnd B)). sections_text (drop at sections) left) (drop_all at ends done)
      ∙ no_ends B (drop at sections)

  -- the next section is told, and then what is left
  pub next_section : (sections : List (Section A)) (ends : List (SectionEnd B)) (at : ℕ) (section : Section A)
      (end : SectionEnd B) (name lines : List ℕ)
      → at < length sections → at < length ends → section ≡ get_or sections at section → end ≡ get_or ends at end
      → name ≡ section.name → lines ≡ end.lines.items
      → sections_text (drop at sections) (drop at ends)
      ≡ section_text name lines end.fault ++ sections_text (drop (at + 1) sections) (drop (at + 1) ends)
  next_section sections ends at section end name lines more_sections more_ends its_section its_end its_name its_lines =
      let left_sections : drop at sections ≡ section ∷ drop (at + 1) sections =
      drop-cons sections at section more_sections
      ∙ (ap (λ (s : Section A). s ∷ drop (suc at) sections) (sym its_section)
      ∙ ap (λ (n : ℕ). section ∷ drop n sections) (sym (add-one at))) in
      let left_ends : drop at ends ≡ end ∷ drop (at + 1) ends =
      drop-cons ends at end more_ends
      ∙ (ap (λ (e : SectionEnd B). e ∷ drop (suc at) ends) (sym its_end)
      ∙ ap (λ (n : ℕ). end ∷ drop n ends) (sym (add-one at))) in
      rw (left_sections, left_ends, its_name, its_lines) refl

  -- the sections are told, and then the report
  pub run_is : (script sections : List (Section A)) (ends its_ends : List (SectionEnd B)) (report : Report B)
      → sections ≡ script → its_ends ≡ ends
      → run_text script ends report ≡ sections_text sections its_ends ++ report_text report.ledger report.live
      report.remains.items report.cycles.items
  run_is script sections ends its_ends report same_script same_ends = rw (same_script, same_ends) refl
