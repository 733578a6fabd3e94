use Rattle.std.proofs.Common.{rules}
use Rattle.brc_count.proofs.Quiet.{turns_quietly, own_earlier}
use Rattle.brc_thread.specs.Settling.{Nothing, Worked, Polls}
use Rattle.brc_thread.proofs.Settled.{settled_now}
use Rattle.brc_thread.proofs.mutator.Mutator.has_settled.Goals as goal

pub returns-then-work-eq0-clause-went : goal.returns-then-work-eq0-clause-went
returns-then-work-eq0-clause-went g c = Worked _ c.args.self.now c.work.new.self Nothing c.work.ensures.turns

pub returns-clause-went : goal.returns-clause-went
returns-clause-went g c =
    Polls c.poll.result c.work.new.self c.poll.new.self
    (Worked _ c.args.self.now c.work.new.self Nothing c.work.ensures.turns) c.poll.ensures.polled

pub returns-clause-settled : goal.returns-clause-settled
returns-clause-settled g c = λ nothing.
    settled_now c.args.self.now c.work.new.self c.poll.new.self c.poll.result _ nothing c.work.ensures.turns
    c.poll.ensures.polled
    c.poll.ensures.quiet (c.work.ensures.done (search rules))

pub returns-clause-own : goal.returns-clause-own
returns-clause-own g c = λ nothing. own_earlier c.args.self.now c.work.new.self c.work.ensures.handles.heap
    (turns_quietly c.args.self.now _ c.work.new.self c.work.ensures.turns) c.poll.ensures.own
