use Rattle.std.proofs.Common.{rules}
use Rattle.brc_count.proofs.Changes.{kept, kept_on}
use Rattle.brc_count.proofs.Quiet.{own_earlier}
use Rattle.brc_thread.specs.Settling.{Nothing}
use Rattle.brc_thread.proofs.Settled.{goes_on, settles_late, goes_quietly, settles_quietly}
use Rattle.brc_thread.proofs.mutator.Mutator.settle.Goals as goal

pub loop-init : goal.loop-init
loop-init g c = (tt, tt, kept c.args.self.now, Nothing)

pub returns-then-has_settled-clause-settled : goal.returns-then-has_settled-clause-settled
returns-then-has_settled-clause-settled g c = settles_late c.loop.invariant.3
    (c.has_settled.ensures.settled (search rules))

pub loop-preserved : goal.loop-preserved
loop-preserved g c = (
  tt,
  tt,
  kept_on c.loop.invariant.2 c.has_settled.ensures.handles,
  goes_on c.loop.invariant.3 c.has_settled.ensures.went,
)

pub returns-then-has_settled-clause-quiet : goal.returns-then-has_settled-clause-quiet
returns-then-has_settled-clause-quiet g c = settles_quietly c.args.self.now c.has_settled.new.self
    (settles_late c.loop.invariant.3 (c.has_settled.ensures.settled (search rules)))

pub returns-then-has_settled-clause-own : goal.returns-then-has_settled-clause-own
returns-then-has_settled-clause-own g c =
    own_earlier c.args.self.now c.loop.self c.loop.invariant.2.heap
    (goes_quietly c.args.self.now c.loop.self c.loop.invariant.3) (c.has_settled.ensures.own (search rules))
