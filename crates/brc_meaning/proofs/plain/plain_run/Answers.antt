use Rattle.std.proofs.Common.{◌∙◌, ℕ, Some, sym, ap}
use Rattle.std.proofs.lemmas.Bool.{false≢true}
use Rattle.brc_meaning.specs.Sections.{Meaning}
use Rattle.brc_meaning.proofs.Turns.{stopped_so}
use Rattle.brc_meaning.proofs.plain.plain_run.Goals as goal

pub returns-else-is_want_of_memory : goal.returns-else-is_want_of_memory
returns-else-is_want_of_memory g c =
    let stopped = stopped_so c.args.section.now c.as_slice.result.now c.start-state.result _ c.as_slice.ensures
    c.start-state.ensures
    (c.in-Err.ensures (λ is. false≢true (sym c.if-is_want_of_memory.false ∙ c.is_want_of_memory.ensures.1 is))) in
    record {
      lines = c.told-in-Err.ensures.lines ∙ ap (λ (m : Meaning). m.lines) (sym stopped);
      fault =
          c.told-in-Err.ensures.fault ∙ ap (λ (n : ℕ). Some (n, c.in-Err.halt.line)) c.number.ensures
          ∙ ap (λ (m : Meaning). m.fault) (sym stopped);
      made = c.told-in-Err.ensures.made ∙ ap (λ (m : Meaning). m.made) (sym stopped);
      refused = tt;
    }
