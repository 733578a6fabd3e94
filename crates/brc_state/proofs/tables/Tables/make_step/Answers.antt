use Rattle.brc_state.proofs.Enabling.{thread_there, cell_there, thread_cell}
use Rattle.brc_state.proofs.Parting.{plain_step}
use Rattle.brc_state.proofs.tables.Tables.make_step.Goals as goal

pub make_cell_step-requires : goal.make_cell_step-requires
make_cell_step-requires g c = record {
  plain = plain_step c.args.step c.in_default.not-Unlock;
  thread_there = thread_there c.args.self.now c.args.thread c.args.step c.requires.may;
  cell_there = cell_there c.args.self.now c.args.thread c.args.step c.args.cell c.requires.may c.requires.target;
  cell = thread_cell c.args.self.now c.args.thread c.args.step c.args.cell c.requires.may c.requires.target;
  allocs = c.requires.allocs;
  frees = c.requires.frees;
  count = c.requires.count;
}
