use Rattle.std.proofs.Common.{sym}
use Rattle.brc_program.proofs.explanations.put_cause.Goals as goal

pub returns-in-NotItsForm : goal.returns-in-NotItsForm
returns-in-NotItsForm g c = rw (c.in-NotItsForm.is, sym c.form_of.ensures, sym c.as_bytes-form.ensures.value) c.put_parts.ensures

pub returns-in-UnknownWord : goal.returns-in-UnknownWord
returns-in-UnknownWord g c = rw c.in-UnknownWord.is c.put_unknown_word.ensures
