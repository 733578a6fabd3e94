use Rattle.std.proofs.Common.{List, sym, subst, ◌∙◌}
use Rattle.law.specs.declared.rule.told.LogItem.{LogItem}
use Rattle.law.specs.steps.Owing.{MayUnlock}
use Rattle.brc_table.specs.Moving.{found_locked}
use Rattle.brc_table.specs.Shown.{contents_of, shows}
use Rattle.test_table.specs.Parts.{globals_with, locked_log}
use Rattle.test_table.proofs.parts.changes_globals.Goals as goal

pub unlock-requires-clause-unlocks : goal.unlock-requires-clause-unlocks
unlock-requires-clause-unlocks g c =
    let block = c.holding-globals.result in
    let change = c.args.change in
    let before = locked_log c.args.place c.args.from c.args.seat.now.log in
    let found = globals_with c.args.from in
    subst (λ n. MayUnlock n c.locked-globals.new.seat.log (shows block) (found_locked c.locked-globals.new.seat.log)
    change block.0) (sym c.requires.stands.0)
    (subst (λ (log : List LogItem). MayUnlock 512 log (shows block) (found_locked log) change block.0)
    (sym c.locked-globals.ensures.told)
    (subst (λ cell. MayUnlock 512 before (cell, contents_of block.1) found change cell)
    (sym (c.holding-globals.ensures.cell ∙ c.locked-globals.ensures.of_cell))
    (subst (λ home. MayUnlock 512 before (265, home) found change 265) (sym c.holding-globals.ensures.contents)
    c.requires.unlocks)))
