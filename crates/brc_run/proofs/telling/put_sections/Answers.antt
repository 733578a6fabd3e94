use Rattle.std.proofs.Common.{◌++◌, ◌+◌, drop, ◌∙◌}
use Rattle.std.proofs.lemmas.Result.{err_from_is_err_and}
use Rattle.brc_text.proofs.PutLaws.{goes_on, fails, ends}
use Rattle.brc_run.specs.Tellings.{sections_text}
use Rattle.brc_run.proofs.Tell_Laws.{sections_done, ends_done, next_section}
use Rattle.brc_run.proofs.telling.put_sections.Goals as goal

pub returns-in_default : goal.returns-in_default
returns-in_default g c =
    ends c.loop-at.invariant (ends_done c.args.sections.now c.args.ends.now c.loop-at.at c.in_default.ensures.lookup.3)

pub returns-in_err-write_section : goal.returns-in_err-write_section
returns-in_err-write_section g c =
    let p = err_from_is_err_and c.from_residual.result c.from_residual.ensures.1 in
    let found = c.in-Some.ensures.lookup in
    let split = next_section c.args.sections.now c.args.ends.now c.loop-at.at c.index-sections-at.result
    c.in-Some.end.now c.as_bytes.result.now c.as_slice.result.now
    c.loop-at-test.true found.3.0 c.index-sections-at.is found.1 c.as_bytes.ensures
    c.as_slice.ensures.value in
    let behind = sections_text (drop (c.loop-at.at + 1) c.args.sections.now)
    (drop (c.loop-at.at + 1) c.args.ends.now) in
    rw (p.1, p.2) (
      c.in_err-write_section.ensures.0,
      c.in_err-write_section.ensures.1 ++ behind,
      fails _ behind c.loop-at.invariant split c.in_err-write_section.ensures.2,
    )

pub loop-at-preserved : goal.loop-at-preserved
loop-at-preserved g c =
    let found = c.in-Some.ensures.lookup in
    let split = next_section c.args.sections.now c.args.ends.now c.loop-at.at c.index-sections-at.result
    c.in-Some.end.now c.as_bytes.result.now c.as_slice.result.now
    c.loop-at-test.true found.3.0 c.index-sections-at.is found.1 c.as_bytes.ensures
    c.as_slice.ensures.value in
    goes_on _ _ (sections_text (drop (c.loop-at.at + 1) c.args.sections.now) (drop (c.loop-at.at + 1) c.args.ends.now))
    c.loop-at.invariant split c.in_ok-write_section.ensures

pub returns : goal.returns
returns g c = ends c.loop-at.invariant
    (sections_done c.args.sections.now c.args.ends.now c.loop-at.at c.loop-at-test.false)
