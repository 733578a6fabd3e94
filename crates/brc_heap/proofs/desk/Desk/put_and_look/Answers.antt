use Rattle.std.proofs.Common.{◌∙◌, ap, sym, arith, [], ◌∷◌}
use Rattle.brc_heap.specs.Desk.{SightSeen, knows}
use Rattle.brc_heap.proofs.At_Desk.{looks_behind, head_of}
use Rattle.brc_heap.proofs.desk.Desk.put_and_look.Goals as goal

pub split_seat-more-requires : goal.split_seat-more-requires
split_seat-more-requires c =
    let sight = c.put-sight.result in
    let same = sym c.into_seat-seat.ensures.2 ∙ c.sight.invariant
    ∙ ap (λ (s : SightSeen). knows s ∷ []) c.sight.view_is in (
      c.into_seat-seat.ensures.0 ∙ ap (λ (s : SightSeen). s.desk) c.sight.view_is ∙ c.put-sight.ensures.at.0
          ∙ c.requires.desk,
      omega (arith, c.args.self.now.one.0),
      looks_behind c.args.self.now.table.shared.key c.into_seat-seat.result.id sight c.into_seat-seat.result.me.0
          (head_of _ _ same) (c.put-sight.ensures.at.1 ∙ c.requires.heap.0),
    )
