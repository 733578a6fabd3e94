use Rattle.std.proofs.Common.{◌≡◌, ◌<◌, length, subst, sym, refl, ◌∙◌, ap}
use Rattle.brc_table.specs.law.known.Items.{Part}
use Rattle.brc_table.specs.law.rule.Seen.{part_seen}
use Rattle.brc_table.specs.Seated.{TableSeen}
use Rattle.brc_count.specs.Frames.{IsUnlocked, popped_seen}
use Rattle.brc_count.proofs.Popping.{after_pops, drained_pops, drained_word}
use Rattle.brc_table.specs.law.world.Lists.{word_at}
use Rattle.brc_count.proofs.holdings.Holdings.drain.Goals as goal

pub invariant_of-self : goal.invariant_of-self
invariant_of-self g c =
    let up = c.drain-bits.ensures in
    rw (up.heap, c.join.ensures) (after_pops c.self.inside.counter.seat c.drain-bits.new.self.seat c.args.word
    c.drain-bits.result
    (word_at c.self.inside.popped.items c.args.word) c.self.invariant up.seat
    (drained_pops c.self.inside.counter.heap.cells c.self.inside.counter.seat.log c.drain-bits.new.self.seat.log
    c.args.word c.drain-bits.result up.knows) up.keeps up.cells (rw (← c.self.view_is) at c.requires.inside) refl
    (subst IsUnlocked (sym c.self.view_is) c.requires.unlocked))

pub returns-clause-found : goal.returns-clause-found
returns-clause-found g c = λ none.
    let up = c.drain-bits.ensures in
    let wide = ap length (sym c.self.invariant.popped_is) ∙ c.self.invariant.words in
    let low = subst (λ m. c.args.word < m) (sym wide) (rw (← c.self.view_is) at c.requires.inside) in
    subst (λ (h : TableSeen). word_at (part_seen h.cells c.drain-bits.new.self.seat.log).popped c.args.word
    ≡ c.drain-bits.result) (sym up.heap)
    (drained_word c.args.word c.drain-bits.result
    (part_seen c.self.inside.counter.heap.cells c.self.inside.counter.seat.log).popped
    (part_seen c.self.inside.counter.heap.cells c.drain-bits.new.self.seat.log).popped low
    (subst (λ f. word_at (popped_seen f) c.args.word ≡ 0) (sym c.self.view_is) none)
    (ap (λ (p : Part). p.popped) up.knows.part))
