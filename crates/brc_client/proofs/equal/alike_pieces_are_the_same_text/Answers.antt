use Rattle.brc_client.proofs.Unchanged.{same_texts}
use Rattle.brc_client.proofs.equal.alike_pieces_are_the_same_text.Goals as goal

pub returns : goal.returns
returns c = record { same = same_texts }
