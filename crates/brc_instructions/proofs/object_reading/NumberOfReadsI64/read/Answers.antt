use Rattle.std.proofs.Common.{sym}
use Rattle.brc_meaning.specs.Objects.{number_in}
use Rattle.law_isolation.proofs.Calls_Mean.{int_means}
use Rattle.brc_instructions.proofs.Looks.{later_int}
use Rattle.brc_instructions.proofs.Sums_Read.{found_read}
use Rattle.brc_instructions.proofs.Causes_Of.{int_room}
use Rattle.brc_instructions.proofs.object_reading.NumberOfReadsI64.read.Goals as goal

pub returns-clause-later : goal.returns-clause-later
returns-clause-later g c = later_int c.args.frame.now c.int_of.new.frame c.in-Some.handle.now.place c.int_of.result
    c.int_of.ensures.looked

pub returns-clause-finds : goal.returns-clause-finds
returns-clause-finds g c base s own means =
    let told = int_means base c.args.frame.now c.int_of.new.frame c.args.registers.now s own c.args.self.now.from
    c.in-Some.handle.now (sym c.in-Some.ensures)
    means c.int_of.result c.int_of.ensures.looked c.int_of.ensures.waited in
    (told.0, found_read number_in c.args.self.now.from s c.int_of.result told.1)

pub returns-clause-room : goal.returns-clause-room
returns-clause-room g c = int_room c.args.frame.now c.int_of.new.frame c.in-Some.handle.now.place c.int_of.result
    c.int_of.ensures.looked
