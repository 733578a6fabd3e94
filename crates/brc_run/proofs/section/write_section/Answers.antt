use Rattle.std.proofs.Common.{◌≡◌, ◌++◌, ℕ, List, Option, refl}
use Rattle.std.proofs.lemmas.Result.{err_from_is_err_and}
use Rattle.brc_text.proofs.PutLaws.{starts, goes_on, fails, rest_puts}
use Rattle.brc_run.specs.Sections.{told_lines, fault_part, section_text}
use Rattle.brc_run.proofs.section.write_section.Goals as goal

text_is : (name lines : List ℕ) (fault : Option (ℕ × ℕ)) → section_text name lines fault ≡ told_lines name lines
    ++ fault_part name fault
unfolding section_text
text_is name lines fault = refl

pub returns-in_err-put_told_lines : goal.returns-in_err-put_told_lines
returns-in_err-put_told_lines g c =
    let p = err_from_is_err_and c.from_residual.result c.from_residual.ensures.1 in
    let split = text_is c.args.name.now c.args.lines.now c.args.fault in
    let behind = fault_part c.args.name.now c.args.fault in
    let whole = starts (g.W.Write.contents c.args.writer.now)
    (section_text c.args.name.now c.args.lines.now c.args.fault) in
    rw (p.1, p.2) (
      c.in_err-put_told_lines.ensures.0,
      c.in_err-put_told_lines.ensures.1 ++ behind,
      fails (told_lines c.args.name.now c.args.lines.now) behind whole split c.in_err-put_told_lines.ensures.2,
    )

pub returns : goal.returns
returns g c =
    let split = text_is c.args.name.now c.args.lines.now c.args.fault in
    let behind = fault_part c.args.name.now c.args.fault in
    let whole = starts (g.W.Write.contents c.args.writer.now)
    (section_text c.args.name.now c.args.lines.now c.args.fault) in
    rest_puts _ c.put_fault.result
    (goes_on _ (told_lines c.args.name.now c.args.lines.now) behind whole split c.in_ok-put_told_lines.ensures)
    c.put_fault.ensures
