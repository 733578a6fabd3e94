use Rattle.std.proofs.Common.{rules}
use Rattle.brc_biased.proofs.Marking.{dead_settled}
use Rattle.brc_biased.proofs.Owning.{owns_gone, counts_gone, counts_apart}
use Rattle.brc_biased.specs.Released.{SettledMerged, SettledMerging}
use Rattle.brc_biased.proofs.counter.Counter.settle.Goals as goal

pub returns-then-is_merged_word-clause-told : goal.returns-then-is_merged_word-clause-told
returns-then-is_merged_word-clause-told g c =
    rw (← c.self.view_is) (SettledMerged c.load_shared-shared.result (search rules) (search rules))

pub returns-then-cell-ge-FIRST_MORTAL-clause-told : goal.returns-then-cell-ge-FIRST_MORTAL-clause-told
returns-then-cell-ge-FIRST_MORTAL-clause-told g c =
    rw (← c.self.view_is) (SettledMerging c.load_shared-shared.result (search rules)
    (rw c.load_shared-shared.ensures.told at c.merge_popped-block.ensures.told))

pub returns-else-cell-ge-FIRST_MORTAL-clause-told : goal.returns-else-cell-ge-FIRST_MORTAL-clause-told
returns-else-cell-ge-FIRST_MORTAL-clause-told g c =
    rw (← c.self.view_is) (SettledMerging c.load_shared-shared.result (search rules)
    (rw c.load_shared-shared.ensures.told at c.merge_popped-block.ensures.told))

pub returns-then-is_merged_word-clause-dead : goal.returns-then-is_merged_word-clause-dead
returns-then-is_merged_word-clause-dead g c =
    let known = rw c.table-table.ensures at c.last_popped-number.ensures.knows.part in
    rw (← c.self.view_is) (dead_settled _ c.load_shared-shared.new.seat.log c.last_popped-number.new.seat.log
    c.args.cell c.last_popped-number.result.block known (search rules))

pub returns-then-cell-ge-FIRST_MORTAL-clause-dead : goal.returns-then-cell-ge-FIRST_MORTAL-clause-dead
returns-then-cell-ge-FIRST_MORTAL-clause-dead g c =
    let known = rw c.table-table.ensures at c.merge_popped-block.ensures.knows.part in
    rw (← c.self.view_is) (dead_settled _ c.load_shared-shared.new.seat.log c.merge_popped-block.new.seat.log
    c.args.cell c.merge_popped-block.result known (search rules))

pub returns-else-cell-ge-FIRST_MORTAL-clause-dead : goal.returns-else-cell-ge-FIRST_MORTAL-clause-dead
returns-else-cell-ge-FIRST_MORTAL-clause-dead g c =
    let known = rw c.table-table.ensures at c.merge_popped-block.ensures.knows.part in
    rw (← c.self.view_is) (dead_settled _ c.load_shared-shared.new.seat.log c.merge_popped-block.new.seat.log
    c.args.cell c.merge_popped-block.result known (search rules))

pub invariant_of-self-then-cell-ge-FIRST_MORTAL : goal.invariant_of-self-then-cell-ge-FIRST_MORTAL
invariant_of-self-then-cell-ge-FIRST_MORTAL g c = record {
  same_table = search rules;
  fit = counts_gone _ c.self.inside.seat.log c.merge_popped-block.new.seat.log c.self.inside.counts.items c.args.cell
      c.self.invariant.fit (search rules) (search rules) c.if-cell-ge-FIRST_MORTAL.true;
  owns = owns_gone _ c.self.inside.counts.items c.self.inside.owned.items c.args.cell c.self.invariant.owns
      c.self.invariant.fit.wide c.clear_owned.new.words.items c.clear_owned.ensures.wide c.clear_owned.ensures.others;
}

pub invariant_of-self-else-cell-ge-FIRST_MORTAL : goal.invariant_of-self-else-cell-ge-FIRST_MORTAL
invariant_of-self-else-cell-ge-FIRST_MORTAL g c = record {
  same_table = search rules;
  fit = counts_apart _ c.self.inside.seat.log c.merge_popped-block.new.seat.log c.self.inside.counts.items c.args.cell
      c.self.invariant.fit (search rules) (search rules) (search rules);
  owns = c.self.invariant.owns;
}

pub returns-else-cell-ge-FIRST_MORTAL-clause-block : goal.returns-else-cell-ge-FIRST_MORTAL-clause-block
returns-else-cell-ge-FIRST_MORTAL-clause-block g c =
    let answers = rw c.table-table.ensures at c.merge_popped-block.ensures.block in
    rw (← c.self.view_is) (record {
      of_cell = answers.of_cell;
      fresh = search rules;
      entries = answers.entries;
      out = search rules;
    })
