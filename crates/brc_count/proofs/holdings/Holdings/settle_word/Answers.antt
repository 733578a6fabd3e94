use Rattle.std.proofs.Common.{◌+◌, subst, sym, ◌∙◌, arith}
use Rattle.brc_table.specs.law.world.Lists.{word_at}
use Rattle.brc_count.specs.Frames.{AreBits, FrameSeen, popped_seen, KeepsHandles}
use Rattle.brc_count.specs.Polling.{DealsBits, NoBit, NotSet, Dealt}
use Rattle.brc_count.proofs.Changes.{kept, kept_on}
use Rattle.brc_count.proofs.Popping.{Sifted, sifted_none, sifted_unset, sifted_set, sifted_all}
use Rattle.brc_count.proofs.holdings.Holdings.settle_word.Goals as goal
use Rattle.brc_count.proofs.holdings.Holdings.settle_word.Goals.{then-has_bit, else-has_bit}

pub loop-bit-init : goal.loop-bit-init
loop-bit-init g c = (NoBit, kept c.args.self.now, sifted_none c.args.word (popped_seen c.args.self.now))

pub loop-bit-preserved : goal.loop-bit-preserved
loop-bit-preserved g c =
    let inv = c.loop-bit.invariant in
    let word = c.args.word in
    let P = λ (s : FrameSeen g.row.A.Denot). DealsBits word (word_at (popped_seen c.args.self.now) word) c.args.self.now
    (c.loop-bit.bit + 1) s × KeepsHandles c.args.self.now s
    × Sifted word (c.loop-bit.bit + 1) (popped_seen c.args.self.now) (popped_seen s) in
    elim c.if-has_bit.branch [
      | then-has_bit w ↦
          let one = c.has_bit.ensures.set w.if-has_bit.true in
          subst P (sym w.self-is) (
            Dealt c.loop-bit.bit c.loop-bit.self w.settle.new.self inv.0 (sym (inv.2.there c.loop-bit.bit (omega arith))
                ∙ one) w.settle.ensures.deals,
            kept_on inv.1 w.settle.ensures.keeps,
            sifted_set word c.loop-bit.bit (popped_seen c.args.self.now) (popped_seen c.loop-bit.self) inv.2 one
                c.loop-bit-test.true (popped_seen w.settle.new.self) w.settle.ensures.popped,
          )
      | else-has_bit w ↦
          let none = c.has_bit.ensures.unset w.if-has_bit.false in
          subst P (sym w.self-is) (
            NotSet c.loop-bit.bit c.loop-bit.self inv.0 (sym (inv.2.there c.loop-bit.bit (omega arith)) ∙ none),
            inv.1,
            sifted_unset word c.loop-bit.bit (popped_seen c.args.self.now) (popped_seen c.loop-bit.self) inv.2 none,
          )
    ]

pub returns-clause-done : goal.returns-clause-done
returns-clause-done g c =
    let all = subst (λ i. Sifted c.args.word i (popped_seen c.args.self.now) (popped_seen c.loop-bit.self))
    (omega (arith, c.loop-bit-test.false, c.loop-bit.auto.bit-end)) c.loop-bit.invariant.2 in
    let fit = subst (λ f. AreBits c.self.inside.counter.heap.cells (popped_seen f)) c.self.view_is
    (subst (AreBits c.self.inside.counter.heap.cells) c.self.invariant.popped_is c.self.invariant.bits) in
    sifted_all c.self.inside.counter.heap.cells c.args.word (popped_seen c.args.self.now)
    (popped_seen c.loop-bit.self) fit all
