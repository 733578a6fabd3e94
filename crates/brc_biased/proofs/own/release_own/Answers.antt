use Rattle.std.proofs.Common.{◌∙◌, Some, ap, rules}
use Rattle.brc_table.specs.law.known.Items.{Part}
use Rattle.brc_biased.specs.Released.{OwnEnded}
use Rattle.brc_biased.proofs.Keeping.{fresh_before, drop_keeps, keeps_on}
use Rattle.brc_biased.proofs.own.release_own.Goals as goal

pub returns-then-count-eq1-clause-told : goal.returns-then-count-eq1-clause-told
returns-then-count-eq1-clause-told g c =
    let ended = rw c.local_down.ensures.told at c.end_own.ensures.told in
    OwnEnded (c.requires.counted ∙ c.if-count-eq1.true) (rw c.if-count-eq1.true at ended)

pub returns-then-count-eq1-clause-block : goal.returns-then-count-eq1-clause-block
returns-then-count-eq1-clause-block g c =
    let answers = c.end_own.ensures.block in record {
      of_cell = answers.of_cell;
      fresh = fresh_before (Some c.args.drop) c.args.table.now.cells c.args.seat.now.log c.local_down.new.seat.log
          c.args.cell c.end_own.result c.local_down.ensures.knows.blocks answers.fresh;
      entries = answers.entries;
      out = search rules;
    }

pub returns-then-count-eq1-clause-keeps : goal.returns-then-count-eq1-clause-keeps
returns-then-count-eq1-clause-keeps g c =
    keeps_on (drop_keeps c.args.drop (ap (λ (p : Part). p.frame) c.local_down.ensures.knows.part)
    c.local_down.ensures.keeps) c.end_own.ensures.keeps
