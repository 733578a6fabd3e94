use Rattle.std.proofs.Common.{subst}
use Rattle.brc_count.specs.Frames.{popped_seen}
use Rattle.brc_count.specs.Polling.{DealsBits}
use Rattle.brc_count.proofs.Popping.{nothing_dealt, still_blank}
use Rattle.brc_count.proofs.holdings.Holdings.drain_one.Goals as goal

pub returns-then-bits-eq0-clause-drains : goal.returns-then-bits-eq0-clause-drains
returns-then-bits-eq0-clause-drains g c = record {
  bits = 0;
  mid = c.drain-bits.new.self;
  heap = c.drain-bits.ensures.keeps.heap;
  drained = rw c.if-bits-eq0.true at c.drain-bits.ensures.told;
  works = c.drain-bits.ensures.works;
  dealt = nothing_dealt c.args.word c.drain-bits.new.self 32;
}

pub returns-clause-drains : goal.returns-clause-drains
returns-clause-drains g c =
    let drained = c.drain-bits.ensures in
    let none = c.requires.blank c.args.word in
    record {
      bits = c.drain-bits.result;
      mid = c.drain-bits.new.self;
      heap = drained.keeps.heap;
      drained = drained.told;
      works = drained.works;
      dealt = subst (λ b. DealsBits c.args.word b c.drain-bits.new.self 32 c.settle_word.new.self)
          (drained.found none) c.settle_word.ensures.dealt;
    }

pub returns-clause-blank : goal.returns-clause-blank
returns-clause-blank g c =
    still_blank c.args.word c.drain-bits.result (popped_seen c.args.self.now) (popped_seen c.drain-bits.new.self)
    (popped_seen c.settle_word.new.self)
    c.requires.blank c.drain-bits.ensures.popped c.settle_word.ensures.done c.settle_word.ensures.others
