use Rattle.std.proofs.Common.{rules}
use Rattle.brc_biased.specs.Released.{AskedLate, AskTurned}
use Rattle.brc_biased.proofs.Keeping.{fresh_before}
use Rattle.brc_biased.proofs.shared.release_asking.Goals as goal

pub returns-then-is_risen_word-clause-told : goal.returns-then-is_risen_word-clause-told
returns-then-is_risen_word-clause-told g c = AskedLate c.ask-found.result (search rules)
    (rw c.ask-found.ensures.told at c.release_risen.ensures.told)

pub returns-clause-told : goal.returns-clause-told
returns-clause-told g c = AskTurned c.ask-found.result (search rules)
    (rw c.ask-found.ensures.told at c.hand_over.ensures.told)

pub returns-clause-block : goal.returns-clause-block
returns-clause-block g c =
    let answers = c.hand_over.ensures.block in record {
      of_cell = answers.of_cell;
      fresh = fresh_before _ c.args.table.now.cells c.args.seat.now.log c.ask-found.new.seat.log c.args.cell
          c.hand_over.result c.ask-found.ensures.knows.blocks answers.fresh;
      entries = answers.entries;
      out = search rules;
    }
