use Rattle.std.proofs.Common.{◌≡◌, sym, subst}
use Rattle.brc_table.specs.law.world.Heap.{words_for}
use Rattle.brc_table.specs.law.rule.Seen.{part_seen}
use Rattle.brc_count.specs.Closing.{Opened, stage_opened}
use Rattle.brc_count.specs.Frames.{FrameSeen, IsUnlocked}
use Rattle.brc_count.proofs.Leaving.{may_open}
use Rattle.brc_count.proofs.Popping.{after_opens}
use Rattle.brc_count.proofs.holdings.Holdings.open_word.Goals as goal

pub open-requires-clause-allowed : goal.open-requires-clause-allowed
open-requires-clause-allowed g c =
    may_open c.args.word c.self.invariant (subst IsUnlocked (sym c.self.view_is) c.requires.unlocked)
    (subst (λ (f : FrameSeen g.row.A.Denot). (part_seen f.heap.cells f.seat.log).row.stage ≡ stage_opened
    (words_for f.heap.cells) c.args.word) (sym c.self.view_is) c.requires.stage)
    (rw (← c.self.view_is) at c.requires.inside)

pub invariant_of-self : goal.invariant_of-self
invariant_of-self g c =
    let up = c.open.ensures in
    rw up.heap (after_opens c.self.inside.counter.seat c.open.new.self.seat c.args.word c.self.invariant up.seat
    up.knows up.keeps (subst IsUnlocked (sym c.self.view_is) c.requires.unlocked))

pub returns-clause-opens : goal.returns-clause-opens
returns-clause-opens g c = λ before opens.
    rw c.open.ensures.told (Opened c.args.word c.self.inside.counter.seat.log (rw (← c.self.view_is) at opens))
