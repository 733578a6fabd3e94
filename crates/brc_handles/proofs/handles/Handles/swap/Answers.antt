use Rattle.std.proofs.Common.{rules, ◌<◌, length}
use Rattle.brc_handles.proofs.Gained.{swapped_stands}
use Rattle.brc_handles.proofs.Places.{swapped_with}
use Rattle.brc_handles.proofs.handles.Handles.swap.Goals as goal

pub returns-clause-swapped : goal.returns-clause-swapped
returns-clause-swapped g c =
    let one_in : c.args.one < length c.self.inside.slots.items = search rules in
    let other_in : c.args.other < length c.self.inside.slots.items = search rules in
    swapped_with c.args.self.now c.self.inside.slots.items c.swap.new.self.items c.args.one c.args.other c.self.view_is
    one_in other_in c.swap.ensures.by_index

pub returns-clause-count : goal.returns-clause-count
returns-clause-count g c =
    let one_in : c.args.one < length c.self.inside.slots.items = search rules in
    let other_in : c.args.other < length c.self.inside.slots.items = search rules in
    let swapped = swapped_with c.args.self.now c.self.inside.slots.items c.swap.new.self.items c.args.one c.args.other
    c.self.view_is one_in other_in c.swap.ensures.by_index in
    swapped.count

pub returns-clause-stands : goal.returns-clause-stands
returns-clause-stands g c others stands =
    let one_in : c.args.one < length c.self.inside.slots.items = search rules in
    let other_in : c.args.other < length c.self.inside.slots.items = search rules in
    swapped_stands others c.args.frame.now c.args.self.now c.swap.new.self.items c.args.one c.args.other
    (swapped_with c.args.self.now c.self.inside.slots.items c.swap.new.self.items c.args.one c.args.other c.self.view_is
    one_in other_in c.swap.ensures.by_index) stands
