use Rattle.std.proofs.Common.{subst, sym, ◌∙◌, ap}
use Rattle.brc_count.specs.Frames.{IsUnlocked, pushed}
use Rattle.brc_count.proofs.Popping.{after_handed}
use Rattle.brc_count.proofs.holdings.Holdings.hand_one.Goals as goal

pub invariant_of-self : goal.invariant_of-self
invariant_of-self g c =
    let up = c.hand_on-answered.ensures in
    let all = after_handed c.self.inside.counter.seat c.hand_on-answered.new.self.seat c.args.cell
    c.hand_on-answered.result c.self.invariant up.seat up.knows up.keeps up.block
    (rw (← c.self.view_is) at c.requires.inside)
    (subst IsUnlocked (sym c.self.view_is) c.requires.unlocked) in
    rw (up.heap, c.push.ensures) (rw c.in-Some.is at all)

pub invariant_of-self-in_default : goal.invariant_of-self-in_default
invariant_of-self-in_default g c =
    let up = c.hand_on-answered.ensures in
    let all = after_handed c.self.inside.counter.seat c.hand_on-answered.new.self.seat c.args.cell
    c.hand_on-answered.result c.self.invariant up.seat up.knows up.keeps up.block
    (rw (← c.self.view_is) at c.requires.inside)
    (subst IsUnlocked (sym c.self.view_is) c.requires.unlocked) in
    rw up.heap (rw c.in_default.is at all)

pub returns-in-Some-clause-hands : goal.returns-in-Some-clause-hands
returns-in-Some-clause-hands g c =
    rw (← c.self.view_is) record {
      heap = c.hand_on-answered.ensures.heap;
      block = c.hand_on-answered.result;
      told = c.hand_on-answered.ensures.told;
      works = c.push.ensures ∙ ap (λ b. pushed b c.self.inside.works) (sym c.in-Some.is);
    }

pub returns-in_default-clause-hands : goal.returns-in_default-clause-hands
returns-in_default-clause-hands g c =
    rw (← c.self.view_is) record {
      heap = c.hand_on-answered.ensures.heap;
      block = c.hand_on-answered.result;
      told = c.hand_on-answered.ensures.told;
      works = ap (λ b. pushed b c.self.inside.works) (sym c.in_default.is);
    }
