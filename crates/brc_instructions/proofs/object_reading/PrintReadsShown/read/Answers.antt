use Rattle.std.proofs.Common.{sym}
use Rattle.brc_instructions.proofs.Shows_As.{prints}
use Rattle.brc_instructions.proofs.object_reading.PrintReadsShown.read.Goals as goal

pub returns-clause-finds : goal.returns-clause-finds
returns-clause-finds g c base s own means =
    prints base c.show.new.frame c.args.registers.now c.args.self.now.from s c.show.result
    (c.show.ensures.shows base c.args.registers.now c.args.self.now.from s own (sym c.in-Some.ensures) means)
