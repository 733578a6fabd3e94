use Rattle.std.proofs.Common.{◌≡◌, ◌-◌, ◌∙◌, ℕ, ap, length, slice_set}
use Rattle.brc_handles.proofs.Gained.{stands_on}
use Rattle.brc_places.proofs.Full.{filled_but_last}
use Rattle.brc_places.proofs.stack.Stack.take.Goals as goal

pub invariant_of-self-in-Ok : goal.invariant_of-self-in-Ok
invariant_of-self-in-Ok g c =
    let took = c.in-Ok.ensures.took in
    let drops = c.drop_last.ensures.drops in
    let len : c.len-len.result ≡ length c.self.inside.handles = rw c.self.view_is c.len-len.ensures in
    filled_but_last c.self.inside.handles c.take_at.new.handles c.drop_last.new.handles took.answer drops.last
    c.self.invariant
    (took.left ∙ ap (λ (n : ℕ). slice_set c.self.inside.handles (n - 1) took.answer) len) drops.popped

pub returns-in-Ok-clause-stands : goal.returns-in-Ok-clause-stands
returns-in-Ok-clause-stands g c = rw (← c.self.view_is) (
    stands_on c.args.frame.now c.take_at.new.frame c.drop_last.new.frame c.self.inside.handles c.take_at.new.handles
    c.drop_last.new.handles c.take_at.ensures.stands c.drop_last.ensures.stands)

pub returns-in-Err-clause-refused : goal.returns-in-Err-clause-refused
returns-in-Err-clause-refused g c = rw (← c.len-len.ensures, ← c.self.view_is) c.in-Err.ensures.refused
