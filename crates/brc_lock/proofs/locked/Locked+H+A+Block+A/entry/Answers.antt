use Rattle.std.proofs.Common.{refl, sym, ◌∙◌, subst}
use Rattle.brc_count.specs.law.declared.world.event.Source.TheVariants as sources
use Rattle.brc_count.specs.Frames.{GivenHandle}
use Rattle.brc_count.specs.Locking.{contents_found}
use Rattle.brc_lock.proofs.Edited.{found_entry, some_same}
use Rattle.brc_lock.proofs.locked.«Locked+H+A+Block+A».entry.Goals as goal

pub up_entry-requires-clause-entry : goal.up_entry-requires-clause-entry
up_entry-requires-clause-entry g c =
    found_entry c.args.self.now.block.1 c.payload.result.now (contents_found c.args.self.now.frame.now) c.args.index
    c.entry.result
    c.requires.holds.found c.payload.ensures c.entry.ensures
    ∙ c.in-Some.is

pub returns-clause-given : goal.returns-clause-given
returns-clause-given g c = λ k at.
    subst (λ x. GivenHandle c.args.self.now.frame.now c.up_entry.new.self
    (sources.Entry c.args.index) x c.up_entry.result)
    (some_same c.in-Some.cell k (sym c.in-Some.is
    ∙ sym (found_entry c.args.self.now.block.1 c.payload.result.now _ c.args.index c.entry.result refl c.payload.ensures
    c.entry.ensures) ∙ at))
    c.up_entry.ensures.given
