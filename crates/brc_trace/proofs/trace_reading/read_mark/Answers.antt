use Rattle.std.proofs.Common.{◌∙◌, ap, sym}
use Rattle.brc_trace.specs.Traces.{mark_at}
use Rattle.brc_trace.proofs.ReadingLoop.{no_words, words_unread, words_read}
use Rattle.brc_trace.proofs.trace_reading.read_mark.Goals as goal

pub returns-in_default : goal.returns-in_default
returns-in_default c = no_words mark_at c.args.text.now c.in_default.ensures

pub returns-in_default-mark_of_words : goal.returns-in_default-mark_of_words
returns-in_default-mark_of_words c =
    words_unread mark_at c.args.text.now c.read.new.self c.in-Some.behind.now c.in-Some.ensures
    (ap mark_at (sym c.tokens.ensures) ∙ sym c.in_default-mark_of_words.ensures)

pub returns : goal.returns
returns c =
    words_read mark_at c.args.text.now c.read.new.self c.in-Some.behind.now c.in-Some-mark_of_words.edition
    c.in-Some.ensures
    (ap mark_at (sym c.tokens.ensures) ∙ sym c.in-Some-mark_of_words.ensures)
