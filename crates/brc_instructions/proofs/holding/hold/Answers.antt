use Rattle.brc_count.specs.law.living.Quiet.{NoItem}
use Rattle.law_isolation.proofs.Holding.{holds_into_empty, holds_and_releases}
use Rattle.brc_count.proofs.Quiet.{release_quietly}
use Rattle.brc_instructions.proofs.Follows_Of.{owned_at, released_of}
use Rattle.brc_instructions.proofs.holding.hold.Goals as goal

pub returns-in-Some-clause-quiet : goal.returns-in-Some-clause-quiet
returns-in-Some-clause-quiet g c =
    let gone = released_of (owned_at c.args.frame.now c.args.registers.now c.args.to c.requires.besides.holds.owned
    c.in-Some.ensures.exchanges.was) c.release.ensures.released in
    release_quietly c.args.frame.now c.release.new.self c.in-Some.old.place gone.0 gone.1

pub returns-in-Some-clause-means : goal.returns-in-Some-clause-means
returns-in-Some-clause-means g c base s reference own means =
    let gone = released_of (owned_at c.args.frame.now c.args.registers.now c.args.to c.requires.besides.holds.owned
    c.in-Some.ensures.exchanges.was) c.release.ensures.released in
    holds_and_releases base c.args.frame.now c.release.new.self c.args.registers.now c.put.new.self s c.args.to
    c.args.handle c.in-Some.old reference gone.0
    means c.in-Some.ensures.exchanges.was c.put.ensures.set c.in-Some.ensures.exchanges.apart gone.1
    c.release.ensures.heap own

pub returns-in_default-clause-quiet : goal.returns-in_default-clause-quiet
returns-in_default-clause-quiet g c = NoItem

pub returns-in_default-clause-means : goal.returns-in_default-clause-means
returns-in_default-clause-means g c base s reference own means =
    holds_into_empty base c.args.frame.now c.args.registers.now c.put.new.self s c.args.to c.args.handle reference means
    c.put.ensures.below c.put.ensures.set
