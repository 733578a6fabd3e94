use Rattle.std.proofs.Common.{refl, sym, subst, ap, ◌∙◌}
use Rattle.brc_table.specs.block.Payload.{kind_of}
use Rattle.brc_table.specs.law.known.Items.{Part}
use Rattle.brc_count.specs.Frames.{IsUnlocked, StartSeen}
use Rattle.brc_count.specs.Places.{cell_held}
use Rattle.brc_count.proofs.Bearing.{born_known, after_birth, contents_kind}
use Rattle.brc_count.proofs.holdings.Holdings.make.Goals as goal

pub invariant_of-self-2 : goal.invariant_of-self-2
invariant_of-self-2 g c =
    let n = c.self.inside.counter.heap.cells in
    let unlocked = subst IsUnlocked (sym c.self.view_is) c.requires.unlocked in
    let born = rw (c.seek_from.ensures.heap, c.set_cell.ensures) at c.bear.ensures.knows in
    let all = after_birth c.self.inside.counter.seat c.seek_from.new.self.seat c.bear.new.self.seat
    {places = c.fill.new.self} c.next-place.result c.in-Some.cell
    c.self.invariant c.in-Some.ensures.claimed_knows born c.seek_from.ensures.keeps
    (rw c.seek_from.ensures.heap at c.bear.ensures.risen)
    c.in-Some.ensures.out c.bear.ensures.home c.in-Some.ensures.fresh c.in-Some.ensures.inside
    c.fill.ensures.updates c.next-place.ensures.vacant unlocked in
    rw (c.bear.ensures.heap, c.seek_from.ensures.heap) all

pub returns-clause-made : goal.returns-clause-made
returns-clause-made g c =
    let n = c.self.inside.counter.heap.cells in
    let unlocked = subst IsUnlocked (sym c.self.view_is) c.requires.unlocked in
    let born = rw (c.seek_from.ensures.heap, c.set_cell.ensures) at c.bear.ensures.knows in
    let all = after_birth c.self.inside.counter.seat c.seek_from.new.self.seat c.bear.new.self.seat
    {places = c.fill.new.self} c.next-place.result c.in-Some.cell
    c.self.invariant c.in-Some.ensures.claimed_knows born c.seek_from.ensures.keeps
    (rw c.seek_from.ensures.heap at c.bear.ensures.risen)
    c.in-Some.ensures.out c.bear.ensures.home c.in-Some.ensures.fresh c.in-Some.ensures.inside
    c.fill.ensures.updates c.next-place.ensures.vacant unlocked in
    let part = born_known n c.self.inside.counter.seat.log c.seek_from.new.self.seat.log c.bear.new.self.seat.log
    c.next-place.result c.in-Some.cell c.in-Some.ensures.claimed_knows born in
    rw (← c.self.view_is, c.bear.ensures.heap, c.seek_from.ensures.heap) record {
      cell = c.in-Some.cell;
      mortal = c.in-Some.ensures.mortal;
      inside = c.in-Some.ensures.inside;
      mid = c.seek_from.new.self.seat.log;
      start = c.word.result;
      claimed = c.in-Some.ensures.claimed;
      as_asked = c.word.ensures.as_asked;
      told = rw (
        ← c.kind-kind.ensures ∙ ap kind_of c.payload.ensures ∙ contents_kind c.args.block.1,
        sym c.seek_from.ensures.seat.1,
      ) (rw c.set_cell.ensures at c.bear.ensures.told);
      heap = refl;
      thread = c.bear.ensures.seat.1 ∙ c.seek_from.ensures.seat.1;
      place = c.next-place.ensures.next;
      room = rw c.next-place.ensures.next (rw (← c.self.view_is) at c.requires.low);
      vacant = c.self.invariant.placed c.next-place.result ∙ ap cell_held c.next-place.ensures.vacant;
      has = all.placed c.next-place.result ∙ ap cell_held c.fill.ensures.updates.changed;
      others = λ j other. all.placed j ∙ ap cell_held (c.fill.ensures.updates.others j other) ∙ sym (c.self.invariant.placed j);
      seat = (c.bear.ensures.seat.0 ∙ c.seek_from.ensures.seat.0, c.bear.ensures.seat.1 ∙ c.seek_from.ensures.seat.1);
      len = c.fill.ensures.len;
      works = refl;
      rest = record {
        stage = ap (λ (p : Part). p.row.stage) part;
        lock = ap (λ (p : Part). p.row.locked) part;
        from = ap (λ (s : StartSeen). s.from) c.claimed.ensures.same;
        near = ap (λ (s : StartSeen). s.near) c.claimed.ensures.same;
      };
    }
