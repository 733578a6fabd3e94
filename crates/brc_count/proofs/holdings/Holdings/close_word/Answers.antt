use Rattle.std.proofs.Common.{◌≡◌, true, refl, sym, subst}
use Rattle.brc_table.specs.law.world.Heap.{words_for}
use Rattle.brc_table.specs.law.world.Lists.{word_at, is_blank}
use Rattle.brc_table.specs.law.rule.Seen.{part_seen}
use Rattle.brc_count.specs.Closing.{Closed, stage_with}
use Rattle.brc_count.specs.Frames.{FrameSeen, IsUnlocked, popped_seen}
use Rattle.brc_count.proofs.Leaving.{may_close}
use Rattle.brc_count.proofs.Popping.{after_pops, closed_pops}
use Rattle.brc_count.proofs.holdings.Holdings.close_word.Goals as goal

pub close-bits-requires-clause-closes : goal.close-bits-requires-clause-closes
close-bits-requires-clause-closes g c =
    may_close c.args.word c.self.invariant (rw (← c.self.view_is) at c.requires.idle)
    (subst IsUnlocked (sym c.self.view_is) c.requires.unlocked) (rw (← c.self.view_is) at c.requires.none)
    (subst (λ (f : FrameSeen g.row.A.Denot). (part_seen f.heap.cells f.seat.log).row.stage ≡ stage_with
    (words_for f.heap.cells) c.args.word) (sym c.self.view_is) c.requires.stage)
    (rw (← c.self.view_is) at c.requires.inside)
    (λ first. subst (λ f. is_blank (popped_seen f) ≡ true) (sym c.self.view_is) (c.requires.blank first))

pub invariant_of-self : goal.invariant_of-self
invariant_of-self g c =
    let up = c.close-bits.ensures in
    rw (up.heap, c.join.ensures) (after_pops c.self.inside.counter.seat c.close-bits.new.self.seat c.args.word
    c.close-bits.result
    (word_at c.self.inside.popped.items c.args.word) c.self.invariant up.seat
    (closed_pops c.self.inside.counter.heap.cells c.self.inside.counter.seat.log c.close-bits.new.self.seat.log
    c.args.word c.close-bits.result up.knows) up.keeps up.cells
    (rw (← c.self.view_is) at c.requires.inside) refl (subst IsUnlocked (sym c.self.view_is) c.requires.unlocked))

pub returns-clause-closes : goal.returns-clause-closes
returns-clause-closes g c = λ before closes.
    rw c.close-bits.ensures.told (Closed c.args.word c.close-bits.result c.self.inside.counter.seat.log
    (rw (← c.self.view_is) at closes))
