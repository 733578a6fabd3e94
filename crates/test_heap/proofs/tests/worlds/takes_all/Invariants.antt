use Rattle.std.proofs.Common.{◌≡◌}
use Rattle.test_heap.specs.Calls.{OwnsAll}
use Rattle.test_heap.proofs.tests.worlds.takes_all.Given as goal

abbrev pub invariant-loop-text : goal.invariant-loop-text
invariant-loop-text g l = record {
  one : OwnsAll l.one l.ones;
  ones_heap : l.one.heap ≡ l.fn.heap;
  two : OwnsAll l.two l.twos;
  twos_heap : l.two.heap ≡ l.fn.heap;
  three : OwnsAll l.three l.threes;
  threes_heap : l.three.heap ≡ l.fn.heap;
  root : l.root.table ≡ l.fn.heap.table;
}
