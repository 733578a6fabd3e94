use Rattle.std.proofs.Common.{◌∙◌, sym}
use Rattle.brc_trace.proofs.WordLaws.{begins, none_known, word_lacks, word_lacks_space, never_ended, next_behind, next_known}
use Rattle.brc_trace.proofs.WordLaws.{next_unread, below_lacks}
use Rattle.brc_trace.proofs.causes.cause_of_no_words.Goals as goal

pub loop-init : goal.loop-init
loop-init g c = record {
  behind = begins c.args.line.now;
  known = none_known c.args.line.now;
  unread = c.requires.unread;
  feed = c.requires.feed;
}

pub is_of_a_trace-requires-clause-feed : goal.is_of_a_trace-requires-clause-feed
is_of_a_trace-requires-clause-feed g c =
    word_lacks 10 c.loop.rest.now c.cut_at.result.0.now c.cut_at.ensures.front c.loop.invariant.feed

pub is_of_a_trace-requires-clause-space : goal.is_of_a_trace-requires-clause-space
is_of_a_trace-requires-clause-space g c =
    word_lacks_space c.loop.rest.now c.cut_at.result.0.now c.cut_at.ensures.front

pub unreachable-requires : goal.unreachable-requires
unreachable-requires g c =
    never_ended c.loop.rest.now c.cut_at.result.0.now c.loop.counter c.loop-test.true c.cut_at.ensures.front
    (sym c.in_ok-is_of_a_trace.ensures ∙ c.if-not-branch.false) (rw c.in_default.is at c.cut_at.ensures.behind)
    c.loop.invariant.unread

pub loop-preserved : goal.loop-preserved
loop-preserved g c =
    let known = sym c.in_ok-is_of_a_trace.ensures ∙ c.if-not-branch.false in
    let next = rw c.in-Some.is at c.cut_at.ensures.behind in
    record {
      behind = next_behind c.args.line.now c.loop.rest.now c.in-Some.below.now c.loop.counter c.loop.invariant.behind
          next;
      known = next_known c.args.line.now c.loop.rest.now c.cut_at.result.0.now c.loop.counter c.loop.invariant.behind
          c.cut_at.ensures.front known c.loop.invariant.known;
      unread = next_unread c.loop.rest.now c.cut_at.result.0.now c.in-Some.below.now c.loop.counter c.loop-test.true
          c.cut_at.ensures.front known next c.loop.invariant.unread;
      feed = below_lacks 10 c.loop.rest.now c.in-Some.below.now next c.loop.invariant.feed;
    }
