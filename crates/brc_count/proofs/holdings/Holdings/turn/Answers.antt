use Rattle.std.proofs.Common.{◌∙◌, sym, ap, subst, false}
use Rattle.brc_table.specs.block.Blocks.{front_cell, front_entries}
use Rattle.brc_table.specs.law.declared.world.event.Dropped.TheVariants as drops
use Rattle.brc_biased.specs.Standing.{MayDrop}
use Rattle.brc_count.specs.Frames.{IsUnlocked, MayGiveUp, pushed, EntryReleased, BlockFreed}
use Rattle.brc_count.proofs.Changes.{same_cell, entry_inside, entry_held, after_entry, front_inside, free_carries}
use Rattle.brc_count.proofs.Changes.{after_freeing}
use Rattle.brc_count.proofs.holdings.Holdings.turn.Goals as goal

-- ---- an entry is released

pub give_up-requires-clause-inside : goal.give_up-requires-clause-inside
give_up-requires-clause-inside g c =
    entry_inside c.self.inside.counter.seat c.self.inside.counter.seat c.in-Some.entry c.pop_entry.new.self
    c.in-Some.ensures.popped c.self.invariant

pub give_up-requires-clause-holds : goal.give_up-requires-clause-holds
give_up-requires-clause-holds g c =
    let pops = c.in-Some.ensures.popped in
    let same = same_cell (sym (c.front.ensures ∙ ap front_cell pops.after) ∙ c.in-Some-front.is) in
    subst (λ d. MayDrop c.self.inside.counter.heap.cells c.self.inside.counter.seat.log
    (drops.Work d) c.in-Some.entry) same
    (entry_held c.self.inside.counter.seat c.self.inside.counter.seat c.in-Some.entry c.pop_entry.new.self pops
    c.self.invariant (subst MayGiveUp (sym c.self.view_is) c.requires.stage)
    (subst IsUnlocked (sym c.self.view_is) c.requires.unlocked))

pub invariant_of-self : goal.invariant_of-self
invariant_of-self g c =
    let pops = c.in-Some.ensures.popped in
    let same = same_cell (sym (c.front.ensures ∙ ap front_cell pops.after) ∙ c.in-Some-front.is) in
    let up = c.give_up.ensures in
    let all = after_entry c.self.inside.counter.seat c.give_up.new.self.seat c.in-Some.entry c.pop_entry.new.self
    c.give_up.result pops
    c.self.invariant up.seat (rw (← same) at up.knows) up.keeps up.block
    (subst IsUnlocked (sym c.self.view_is) c.requires.unlocked) in
    rw (up.heap, c.push.ensures) (rw c.in-Some-give_up.is at all)

pub invariant_of-self-in_default-give_up : goal.invariant_of-self-in_default-give_up
invariant_of-self-in_default-give_up g c =
    let pops = c.in-Some.ensures.popped in
    let same = same_cell (sym (c.front.ensures ∙ ap front_cell pops.after) ∙ c.in-Some-front.is) in
    let up = c.give_up.ensures in
    let all = after_entry c.self.inside.counter.seat c.give_up.new.self.seat c.in-Some.entry c.pop_entry.new.self
    c.give_up.result pops
    c.self.invariant up.seat (rw (← same) at up.knows) up.keeps up.block
    (subst IsUnlocked (sym c.self.view_is) c.requires.unlocked) in
    rw up.heap (rw c.in_default-give_up.is at all)

pub returns-in-Some-give_up-clause-turned : goal.returns-in-Some-give_up-clause-turned
returns-in-Some-give_up-clause-turned g c = λ is.
    let pops = c.in-Some.ensures.popped in
    let same = same_cell (sym (c.front.ensures ∙ ap front_cell pops.after) ∙ c.in-Some-front.is) in
    rw (← c.self.view_is) (EntryReleased c.in-Some.entry c.pop_entry.new.self pops false c.give_up.result
    c.give_up.ensures.heap (rw (← same) at c.give_up.ensures.told)
    (c.push.ensures ∙ ap (λ b. pushed b c.pop_entry.new.self) (sym c.in-Some-give_up.is)))

pub returns-in_default-give_up-clause-turned : goal.returns-in_default-give_up-clause-turned
returns-in_default-give_up-clause-turned g c = λ is.
    let pops = c.in-Some.ensures.popped in
    let same = same_cell (sym (c.front.ensures ∙ ap front_cell pops.after) ∙ c.in-Some-front.is) in
    rw (← c.self.view_is) (EntryReleased c.in-Some.entry c.pop_entry.new.self pops false c.give_up.result
    c.give_up.ensures.heap (rw (← same) at c.give_up.ensures.told)
    (ap (λ b. pushed b c.pop_entry.new.self) (sym c.in_default-give_up.is)))

-- ---- a block is given back

pub free-requires-clause-inside : goal.free-requires-clause-inside
free-requires-clause-inside g c =
    let front = sym c.in_default.ensures.unchanged ∙ c.in-Some-pop.ensures.some in
    rw c.cell-cell.ensures (front_inside c.self.inside.counter.seat c.self.inside.counter.seat c.in-Some-pop.block.0
    c.in-Some-pop.block.1 c.pop.new.self c.self.invariant front)

pub free-requires-clause-carries : goal.free-requires-clause-carries
free-requires-clause-carries g c =
    let front = sym c.in_default.ensures.unchanged ∙ c.in-Some-pop.ensures.some in
    let none = ap front_entries (sym front) ∙ c.in_default.ensures.none in
    rw c.cell-cell.ensures (free_carries c.self.inside.counter.seat c.self.inside.counter.seat c.in-Some-pop.block.0
    c.in-Some-pop.block.1 c.pop.new.self c.self.invariant
    (subst MayGiveUp (sym c.self.view_is) c.requires.stage) (subst IsUnlocked (sym c.self.view_is) c.requires.unlocked)
    front none)

pub invariant_of-self-2 : goal.invariant_of-self-2
invariant_of-self-2 g c =
    let front = sym c.in_default.ensures.unchanged ∙ c.in-Some-pop.ensures.some in
    rw c.free.ensures.heap (after_freeing c.self.inside.counter.seat c.free.new.self.seat c.in-Some-pop.block.0
    c.in-Some-pop.block.1 c.pop.new.self
    c.self.invariant (subst IsUnlocked (sym c.self.view_is) c.requires.unlocked) front c.free.ensures.seat
    c.free.ensures.home (rw c.cell-cell.ensures at c.free.ensures.knows) c.free.ensures.keeps)

pub returns-clause-turned : goal.returns-clause-turned
returns-clause-turned g c = λ is.
    let front = sym c.in_default.ensures.unchanged ∙ c.in-Some-pop.ensures.some in
    let none = ap front_entries (sym front) ∙ c.in_default.ensures.none in
    rw (← c.self.view_is) (BlockFreed c.in-Some-pop.block c.free.result c.free.ensures.heap front none
    (rw c.cell-cell.ensures at c.free.ensures.told))
