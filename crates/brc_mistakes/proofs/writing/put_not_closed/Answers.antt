use Rattle.std.proofs.Common.{sym}
use Rattle.brc_mistakes.proofs.writing.put_not_closed.Goals as goal

pub returns : goal.returns
returns g c =
    rw (sym c.word.ensures, sym c.format.ensures.text, sym c.as_bytes.ensures.value) c.put_parts.ensures
