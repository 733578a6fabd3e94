use Rattle.brc_words.specs.declared.kind.Kind.TheVariants as kinds
use Rattle.brc_count.specs.Locking.{contents_found}
use Rattle.brc_things.proofs.Within_Law.{place_found}
use Rattle.brc_things.proofs.within.share_locked.Goals as goal

pub returns-in-Err-clause-refused : goal.returns-in-Err-clause-refused
returns-in-Err-clause-refused g c =
    place_found c.args.frame.now kinds.«List» c.args.index (λ cells. cells) (contents_found c.args.frame.now)
    c.args.block.1 c.in-Err.fault
    c.requires.has.found (c.in-Err.ensures.refused (λ cells. cells))
