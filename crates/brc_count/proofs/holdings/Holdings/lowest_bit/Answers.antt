use Rattle.std.proofs.Common.{◌≡◌, ◌≢◌, ◌<◌, sym, subst, ap, ◌∙◌}
use Rattle.std.specs.Int.{bit_at}
use Rattle.brc_table.specs.law.world.Lists.{word_at}
use Rattle.brc_count.specs.Frames.{FrameSeen, popped_seen}
use Rattle.brc_count.proofs.Popping.{lowest_set, word_read}
use Rattle.brc_count.proofs.holdings.Holdings.lowest_bit.Goals as goal

pub lowest-requires : goal.lowest-requires
lowest-requires g c =
    let low = subst (λ m. c.args.word < m) (sym c.self.invariant.words) (rw (← c.self.view_is) at c.requires.inside) in
    λ none. subst (λ (f : FrameSeen g.row.A.Denot). word_at (popped_seen f) c.args.word ≢ 0)
    (sym c.self.view_is) c.requires.some
    (ap (λ ws. word_at ws c.args.word) (sym c.self.invariant.popped_is)
    ∙ word_read c.self.inside.popped.items c.args.word c.index.result.now c.index.ensures low ∙ none)

pub returns-clause-low : goal.returns-clause-low
returns-clause-low g c =
    let low = subst (λ m. c.args.word < m) (sym c.self.invariant.words) (rw (← c.self.view_is) at c.requires.inside) in
    let all = lowest_set c.self.inside.counter.heap.cells c.self.inside.popped.items c.args.word c.lowest.result
    c.index.result.now c.index.ensures low c.lowest.ensures c.self.invariant.bits in
    all.low

pub returns-clause-set : goal.returns-clause-set
returns-clause-set g c =
    let low = subst (λ m. c.args.word < m) (sym c.self.invariant.words) (rw (← c.self.view_is) at c.requires.inside) in
    let all = lowest_set c.self.inside.counter.heap.cells c.self.inside.popped.items c.args.word c.lowest.result
    c.index.result.now c.index.ensures low c.lowest.ensures c.self.invariant.bits in
    subst (λ (f : FrameSeen g.row.A.Denot). bit_at (word_at (popped_seen f) c.args.word) c.lowest.result ≡ 1)
    c.self.view_is
    (ap (λ ws. bit_at (word_at ws c.args.word) c.lowest.result) (sym c.self.invariant.popped_is) ∙ all.set)

pub returns-clause-inside : goal.returns-clause-inside
returns-clause-inside g c =
    let low = subst (λ m. c.args.word < m) (sym c.self.invariant.words) (rw (← c.self.view_is) at c.requires.inside) in
    let all = lowest_set c.self.inside.counter.heap.cells c.self.inside.popped.items c.args.word c.lowest.result
    c.index.result.now c.index.ensures low c.lowest.ensures c.self.invariant.bits in
    rw (← c.self.view_is) all.inside
