use Rattle.std.proofs.Common.{◌≢◌}
use Rattle.brc_count.specs.Frames.{HandleSeen, Owns}
use Rattle.brc_handles.proofs.Gained.{popped_stands}
use Rattle.brc_handles.proofs.Places.{beside_last, each_popped, popped_count}
use Rattle.brc_handles.proofs.handles.Handles.pop_out.Goals as goal

pub returns-clause-stands : goal.returns-clause-stands
returns-clause-stands g c others stands = popped_stands others c.args.frame.now c.args.self.now _ c.pop.result
    c.pop.ensures.popped c.pop.ensures.comes stands

pub returns-clause-count : goal.returns-clause-count
returns-clause-count g c = popped_count c.args.self.now _ c.pop.result c.pop.ensures.popped

pub returns-clause-beside : goal.returns-clause-beside
returns-clause-beside g c = beside_last c.args.self.now _ c.pop.result c.pop.ensures.popped

pub returns-clause-each : goal.returns-clause-each
returns-clause-each g c = each_popped (Owns c.args.frame.now) c.args.self.now _ c.pop.result c.pop.ensures.popped
    c.pop.ensures.none c.requires.each

pub returns-clause-apart : goal.returns-clause-apart
returns-clause-apart g c h apart = each_popped (λ (other : HandleSeen). h.place ≢ other.place) c.args.self.now _
    c.pop.result c.pop.ensures.popped c.pop.ensures.none apart
