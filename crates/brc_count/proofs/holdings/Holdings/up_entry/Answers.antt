use Rattle.brc_table.specs.law.declared.world.event.Source.TheVariants as sources
use Rattle.brc_count.specs.Frames.{handle_at}
use Rattle.brc_count.proofs.Locked_Entries.{entry_named, entry_up}
use Rattle.brc_count.proofs.holdings.Holdings.up_entry.Goals as goal

pub fill-requires-clause-named : goal.fill-requires-clause-named
fill-requires-clause-named g c =
    let was = c.args.self.now in
    entry_named was.heap.cells was.seat.log c.args.index was.next c.args.cell c.requires.locked c.requires.entry

pub returns-clause-lock : goal.returns-clause-lock
returns-clause-lock g c =
    entry_up c.args.self.now c.fill.new.self (sources.Entry c.args.index) c.args.cell
    (handle_at c.fill.new.self c.fill.result)
    c.fill.ensures.given c.fill.ensures.heap c.requires.locked
