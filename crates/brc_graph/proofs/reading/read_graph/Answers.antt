use Rattle.std.proofs.Common.{◌∙◌, sym}
use Rattle.brc_graph.proofs.WalkLaws.{long_text, short_text, refused_same}
use Rattle.brc_graph.proofs.reading.read_graph.Goals as goal

pub returns-then-text-gt-MOST_INPUT : goal.returns-then-text-gt-MOST_INPUT
returns-then-text-gt-MOST_INPUT g c = long_text c.args.text.now c.if-text-gt-MOST_INPUT.true

pub returns-in-Ok : goal.returns-in-Ok
returns-in-Ok g c = short_text c.args.text.now c.if-text-gt-MOST_INPUT.false ∙ c.in-Ok.ensures

pub returns-in-Err : goal.returns-in-Err
returns-in-Err g c =
    refused_same c.in-Err.undrawn _ _ (sym (short_text c.args.text.now c.if-text-gt-MOST_INPUT.false)) c.in-Err.ensures
