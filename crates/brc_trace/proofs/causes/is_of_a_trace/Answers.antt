use Rattle.std.proofs.Common.{◌∙◌, sym}
use Rattle.brc_trace.proofs.WordLaws.{alone_read, alone_unread}
use Rattle.brc_trace.proofs.causes.is_of_a_trace.Goals as goal

pub returns-in-Some : goal.returns-in-Some
returns-in-Some g c =
    sym (alone_read c.args.word.now c.as_slice.result.now _ c.requires.feed c.requires.space
    (c.as_slice.ensures.value ∙ c.in_ok-text.ensures) c.in-Some.ensures)

pub returns : goal.returns
returns g c =
    sym (alone_unread c.args.word.now c.as_slice.result.now c.requires.feed c.requires.space
    (c.as_slice.ensures.value ∙ c.in_ok-text.ensures) c.in-None.ensures)
