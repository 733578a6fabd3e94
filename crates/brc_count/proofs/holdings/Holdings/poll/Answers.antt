use Rattle.std.proofs.Common.{◌+◌, ◌/◌}
use Rattle.brc_table.specs.law.world.Heap.{words_for}
use Rattle.brc_count.specs.Frames.{popped_seen}
use Rattle.brc_count.proofs.Popping.{nothing_named, blank_from}
use Rattle.brc_count.proofs.holdings.Holdings.poll.Goals as goal

pub returns-then-named-ne0-clause-blank : goal.returns-then-named-ne0-clause-blank
returns-then-named-ne0-clause-blank g c =
    blank_from (popped_seen c.drain_named.new.self) c.drain_named.ensures.blank

pub returns-else-named-ne0-clause-polled : goal.returns-else-named-ne0-clause-polled
returns-else-named-ne0-clause-polled g c =
    let words = words_for c.args.self.now.heap.cells in
    record {
      mid = c.wake-named.new.self;
      heap = c.wake-named.ensures.keeps.heap;
      woken = c.wake-named.ensures.told;
      works = c.wake-named.ensures.works;
      drains = rw c.if-named-ne0.false (nothing_named words c.wake-named.new.self ((words + 31) / 32));
    }
