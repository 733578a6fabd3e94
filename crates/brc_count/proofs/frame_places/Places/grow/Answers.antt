use Rattle.std.proofs.Common.{List, ◌≡◌, ◌+◌, ◌<◌, ◌≤◌, refl, sym, ap, subst, ◌∙◌, arith, length, vec_capacity}
use Rattle.brc_words.specs.declared.limits.TheConstants.{MOST_PLACES}
use Rattle.brc_count.specs.declared.frame_places.Slot.{Slot}
use Rattle.brc_count.specs.Places.{held_at}
use Rattle.brc_count.specs.PlaceList.{AreLinked}
use Rattle.brc_count.proofs.Place_Lists.{Growing, grows_on, inside_spare, full_next, shown}
use Rattle.brc_count.proofs.frame_places.Places.grow.Goals as goal
use Rattle.brc_count.proofs.frame_places.Places.grow.Goals.{then-capacity-most, else-capacity-most}

pub loop-at-init : goal.loop-at-init
loop-at-init g c =
    let few : c.if-capacity-most.room ≤ MOST_PLACES = elim c.if-capacity-most.branch [
      | then-capacity-most w ↦ omega (arith, w.if-capacity-most, w.capacity-room, w.room-is)
      | else-capacity-most w ↦ omega (arith, w.room-is)
    ] in
    let fits : c.if-capacity-most.room ≤ vec_capacity c.reserve.new.self = elim c.if-capacity-most.branch [
      | then-capacity-most w ↦ omega (arith, w.if-capacity-most, w.capacity-room, w.room-is, c.capacity.ensures)
      | else-capacity-most w ↦ omega (arith, w.if-capacity-most, w.room-is, c.capacity.ensures)
    ] in (
      record {
        linked = subst (λ (ps : List Slot). AreLinked ps c.self.inside.next c.self.inside.len)
            (sym c.in-Ok.ensures.items) c.self.invariant;
        wide = omega (arith, c.len-at.ensures);
        same = λ k. refl;
      },
      refl,
      refl,
      few,
      fits,
    )

pub invariant_of-self-in-loop-at : goal.invariant_of-self-in-loop-at
invariant_of-self-in-loop-at g c = c.loop-at.invariant.0.linked

pub push_reserved-requires : goal.push_reserved-requires
push_reserved-requires g c =
    omega (arith, c.loop-at.invariant.0.wide, c.loop-at-test.true, c.loop-at.invariant.4)

pub loop-at-preserved : goal.loop-at-preserved
loop-at-preserved g c =
    let is = c.loop-at.invariant in (
      subst (λ (ps : List Slot). Growing c.reserve.new.self.items ps c.loop-at.self-inside.next
          c.loop-at.self-inside.len (c.loop-at.at + 1)) (sym c.push_reserved.ensures.items)
          (grows_on c.reserve.new.self.items c.loop-at.self-inside.slots.items c.loop-at.self-inside.next
          c.loop-at.self-inside.len c.loop-at.at is.0 (omega (arith, c.loop-at-test.true, is.3))),
      is.1,
      is.2,
      is.3,
      omega (arith, is.4, c.push_reserved.ensures.capacity),
    )

pub returns-clause-spare : goal.returns-clause-spare
returns-clause-spare g c =
    let is = c.loop-at.invariant in
    let end : c.self.inside.next ≡ length c.self.inside.slots.items =
    full_next c.self.inside.slots.items c.self.inside.next c.self.inside.len c.self.invariant
    (rw (← c.self.view_is) at c.requires.full) in
    let more : length c.self.inside.slots.items < c.if-capacity-most.room = elim c.if-capacity-most.branch [
      | then-capacity-most w ↦
          omega (arith, w.if-capacity-most, w.capacity-room, w.room-is, c.capacity.ensures, c.in-Ok.ensures.ok, c.in-Ok.ensures.len)
      | else-capacity-most w ↦ omega (arith, w.if-capacity-most, w.room-is, c.if-len-most.false, c.len.ensures)
    ] in
    let inside : c.loop-at.self-inside.next < length c.loop-at.self-inside.slots.items =
    omega (arith, is.0.wide, is.1, end, more, c.loop-at-test.false) in
    λ _. (
      inside_spare c.loop-at.self-inside.slots.items c.loop-at.self-inside.next c.loop-at.self-inside.len is.0.linked inside,
      omega (arith, inside, is.0.linked.few),
    )

pub returns-clause-same : goal.returns-clause-same
returns-clause-same g c = rw (← c.self.view_is) (λ k. c.loop-at.invariant.0.same k
    ∙ ap (λ (ps : List Slot). held_at (shown ps c.self.inside.next) k) c.in-Ok.ensures.items)

pub returns-clause-len : goal.returns-clause-len
returns-clause-len g c =
    let is = c.loop-at.invariant in
    rw (← c.self.view_is) (sym is.0.linked.counted ∙ is.2 ∙ c.self.invariant.counted)

pub returns-clause-next : goal.returns-clause-next
returns-clause-next g c = rw (← c.self.view_is) (c.loop-at.invariant.1)
