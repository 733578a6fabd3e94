use Rattle.std.proofs.Common.{◌∙◌, ap, sym}
use Rattle.brc_trace.specs.Traces.{head_at}
use Rattle.brc_trace.proofs.ReadingLoop.{no_words, words_unread, words_read}
use Rattle.brc_trace.proofs.trace_reading.read_heap.Goals as goal

pub returns-in_default : goal.returns-in_default
returns-in_default c = no_words head_at c.args.text.now c.in_default.ensures

pub returns-in_default-head_of_words : goal.returns-in_default-head_of_words
returns-in_default-head_of_words c =
    words_unread head_at c.args.text.now c.read.new.self c.in-Some.behind.now c.in-Some.ensures
    (ap head_at (sym c.tokens.ensures) ∙ sym c.in_default-head_of_words.ensures)

pub returns : goal.returns
returns c =
    words_read head_at c.args.text.now c.read.new.self c.in-Some.behind.now c.in-Some-head_of_words.head
    c.in-Some.ensures
    (ap head_at (sym c.tokens.ensures) ∙ sym c.in-Some-head_of_words.ensures)
