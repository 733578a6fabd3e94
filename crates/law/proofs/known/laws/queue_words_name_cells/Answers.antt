use Rattle.law.proofs.known.Queued_Law.{queue_bits}
use Rattle.law.proofs.known.laws.queue_words_name_cells.Goals as goal

pub returns : goal.returns
returns c = queue_bits
