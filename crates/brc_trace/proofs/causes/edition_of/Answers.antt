use Rattle.std.proofs.Common.{Option, ap, sym}
use Rattle.law.specs.declared.world.edition.Edition.{Edition}
use Rattle.brc_trace.specs.Causes.{edition_marked}
use Rattle.brc_trace.specs.Traces.{mark_at}
use Rattle.brc_trace.proofs.CauseLaws.{first_read, first_unread}
use Rattle.brc_trace.proofs.causes.edition_of.Goals as goal

pub returns-in-Some : goal.returns-in-Some
returns-in-Some c =
    sym (ap (λ (o : Option Edition). edition_marked o)
    (first_read mark_at c.args.text.now c.in-Some.field-0-1.now c.in-Some.edition c.in-Some.ensures))

pub returns-in-None : goal.returns-in-None
returns-in-None c = sym (ap (λ (o : Option Edition). edition_marked o)
    (first_unread mark_at c.args.text.now c.in-None.ensures))
