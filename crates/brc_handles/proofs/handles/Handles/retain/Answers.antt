use Rattle.std.proofs.Common.{[], ◌∷◌, ◌++◌, ◌≡◌, Some, arith, subst, sym}
use Rattle.brc_handles.specs.Handles.{slot, AreApart}
use Rattle.brc_handles.proofs.Places.{apart_pushed, pushed_to}
use Rattle.brc_handles.proofs.Gained.{each, given_each, given_stands}
use Rattle.brc_handles.proofs.handles.Handles.retain.Goals as goal

pub returns-clause-stands : goal.returns-clause-stands
returns-clause-stands g c = λ others stands.
    let comes = pushed_to c.args.self.now c.self.inside.slots.items c.reserve.new.self.items
    c.push_reserved.new.self.items c.in_ok-given.given c.self.view_is c.reserve.ensures.items
    c.push_reserved.ensures.items in
    given_stands others c.args.frame.now c.retain.new.self c.args.self.now c.push_reserved.new.self.items
    c.in_ok-given.given c.in_ok-given.ensures.gains c.in_ok-given.ensures.unlocked comes stands

pub returns-clause-each : goal.returns-clause-each
returns-clause-each g c =
    let comes = pushed_to c.args.self.now c.self.inside.slots.items c.reserve.new.self.items
    c.push_reserved.new.self.items c.in_ok-given.given c.self.view_is c.reserve.ensures.items
    c.push_reserved.ensures.items in
    given_each c.args.frame.now c.retain.new.self c.args.self.now c.push_reserved.new.self.items
    c.in_ok-given.given c.in_ok-given.ensures.gains c.requires.each comes

pub returns-clause-count : goal.returns-clause-count
returns-clause-count g c =
    let comes = pushed_to c.args.self.now c.self.inside.slots.items c.reserve.new.self.items
    c.push_reserved.new.self.items c.in_ok-given.given c.self.view_is c.reserve.ensures.items
    c.push_reserved.ensures.items in
    omega (arith, comes.count, c.in_ok-given.ensures.gains.len)

pub returns-clause-more : goal.returns-clause-more
returns-clause-more g c = record {
  given = c.in_ok-given.given;
  pushed = cc (c.self.view_is, c.reserve.ensures.items, c.push_reserved.ensures.items);
  counted = λ h cell is has.
      let found : Some c.in-Some.handle.now ≡ slot c.args.self.now c.args.index
      = cc (c.in-Some.ensures, c.self.view_is, c.reserve.ensures.items)
      in let same : h ≡ c.in-Some.handle.now = cc (found, is)
      in rw same (c.in_ok-given.ensures.given cell (rw same at has));
}

pub invariant_of-self-3 : goal.invariant_of-self-3
invariant_of-self-3 g c =
    let items = c.self.inside.slots.items in
    let given = c.in_ok-given.given in
    let now : c.push_reserved.new.self.items ≡ items ++ Some given ∷ []
    = cc (c.reserve.ensures.items, c.push_reserved.ensures.items) in
    subst AreApart (sym now) (apart_pushed items given c.self.invariant
    (λ k. each c.in_ok-given.ensures.gains.apart (slot items k) (rw c.self.view_is (c.requires.each k))))
