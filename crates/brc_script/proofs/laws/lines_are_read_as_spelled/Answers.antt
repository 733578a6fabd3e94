use Rattle.brc_script.proofs.RowLaws.{row_tells}
use Rattle.brc_script.proofs.RowAgain.{row_again}
use Rattle.brc_script.proofs.laws.lines_are_read_as_spelled.Goals as goal

pub returns : goal.returns
returns g c = λ number line row. (
  λ read. let tells = row_tells number line row read in (tells.says, tells.is_numbered),
  λ says. row_again number line row says.0 says.1,
)
