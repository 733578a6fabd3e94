use Rattle.std.proofs.Common.{sym}
use Rattle.brc_mistakes.proofs.writing.put_no_instruction.Goals as goal

pub returns-in-Some : goal.returns-in-Some
returns-in-Some g c = rw (c.in-Some.is, sym c.word.ensures) c.put_word.ensures

pub returns-in-None : goal.returns-in-None
returns-in-None g c = rw c.in-None.is c.put_word-in-None.ensures
