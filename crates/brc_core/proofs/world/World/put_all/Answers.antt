use Rattle.std.proofs.Common.{◌++◌, List, sym, subst, ap, ◌∙◌}
use Rattle.brc_core.proofs.Eaches.{one_more, holders_by_parts}
use Rattle.brc_model.specs.declared.holder.Holder.{Holder}
use Rattle.law.proofs.world.Reached.{reached_sound}
use Rattle.law.specs.world.Sound.{IsShaped}
use Rattle.brc_core.proofs.world.World.put_all.Goals as goal

pub returns : goal.returns
returns g c =
    let shaped = subst IsShaped c.self.view_is ((reached_sound _ c.self.invariant).shaped) in
    let two = one_more _ _ _ _ _ c.in_ok-put_frames.ensures c.in_ok-put_entries.ensures in
    let three = one_more _ _ _ _ _ two c.in_ok-put_part.ensures in
    let four = one_more _ _ _ _ _ three c.in_ok-put_part-2.ensures in
    let five = one_more _ _ _ _ _ four c.in_ok-put_part-3.ensures in
    five ∙ ap (λ (xs : List Holder). c.args.found.now.items ++ xs)
    (sym (holders_by_parts c.args.self.now c.args.cell shaped))
