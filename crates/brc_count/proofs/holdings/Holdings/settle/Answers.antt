use Rattle.std.proofs.Common.{◌≡◌, ◌/◌, subst, sym, refl, ◌∙◌, ap}
use Rattle.brc_table.specs.law.world.Lists.{bit_of, word_at}
use Rattle.brc_count.specs.Frames.{IsUnlocked, popped_seen, pushed}
use Rattle.brc_count.proofs.Popping.{after_settle}
use Rattle.brc_count.proofs.holdings.Holdings.settle.Goals as goal

pub invariant_of-self : goal.invariant_of-self
invariant_of-self g c =
    let up = c.settle-answered.ensures in
    let all = after_settle c.self.inside.counter.seat c.settle-answered.new.self.seat
    {popped = c.self.inside.popped.items} c.args.cell
    (word_at c.self.inside.popped.items (c.args.cell / 32)) c.settle-answered.result c.self.invariant up.seat up.knows
    up.keeps up.block
    (ap (λ ws. bit_of ws c.args.cell) c.self.invariant.popped_is ∙ subst (λ f. bit_of (popped_seen f) c.args.cell ≡ 1)
    (sym c.self.view_is) c.requires.popped) refl
    (subst IsUnlocked (sym c.self.view_is) c.requires.unlocked) in
    rw (up.heap, c.push.ensures, c.strike.ensures) (rw c.in-Some.is at all)

pub invariant_of-self-in_default : goal.invariant_of-self-in_default
invariant_of-self-in_default g c =
    let up = c.settle-answered.ensures in
    let all = after_settle c.self.inside.counter.seat c.settle-answered.new.self.seat
    {popped = c.self.inside.popped.items} c.args.cell
    (word_at c.self.inside.popped.items (c.args.cell / 32)) c.settle-answered.result c.self.invariant up.seat up.knows
    up.keeps up.block
    (ap (λ ws. bit_of ws c.args.cell) c.self.invariant.popped_is ∙ subst (λ f. bit_of (popped_seen f) c.args.cell ≡ 1)
    (sym c.self.view_is) c.requires.popped) refl
    (subst IsUnlocked (sym c.self.view_is) c.requires.unlocked) in
    rw (up.heap, c.strike.ensures) (rw c.in_default.is at all)

pub returns-in-Some-clause-deals : goal.returns-in-Some-clause-deals
returns-in-Some-clause-deals g c =
    rw (← c.self.view_is) record {
      heap = c.settle-answered.ensures.heap;
      block = c.settle-answered.result;
      events = c.settle-answered.ensures.told;
      works = c.push.ensures ∙ ap (λ b. pushed b c.self.inside.works) (sym c.in-Some.is);
    }

pub returns-in_default-clause-deals : goal.returns-in_default-clause-deals
returns-in_default-clause-deals g c =
    rw (← c.self.view_is) record {
      heap = c.settle-answered.ensures.heap;
      block = c.settle-answered.result;
      events = c.settle-answered.ensures.told;
      works = ap (λ b. pushed b c.self.inside.works) (sym c.in_default.is);
    }
