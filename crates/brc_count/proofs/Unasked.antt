-- Objects of a frame that nobody asked where its claims begin.
use Rattle.std.proofs.Common.{◌≡◌, ◌∙◌, false, subst}
use Rattle.brc_table.specs.law.declared.rule.contents.Contents.{Contents}
use Rattle.brc_biased.specs.Seeking.{ClaimsFirst, ClaimsAround}
use Rattle.brc_biased.proofs.Searching.{claims_first}
use Rattle.brc_count.specs.Frames.{FrameSeen, HandleSeen, first_word}
use Rattle.brc_count.specs.Making.{Made}

pub made_first : {A : Type 0} (old new : FrameSeen A) (contents : Contents) (given : HandleSeen)
    (made : Made old new contents given)
    → old.from ≡ first_word → old.near ≡ false → ClaimsFirst made.cell old.seat.log made.mid
made_first old new contents given made first unasked =
    claims_first (subst (λ start. ClaimsAround old.heap.cells start made.cell old.seat.log made.mid)
    (made.as_asked unasked ∙ first) made.claimed)
