use Rattle.std.proofs.Common.{◌≡◌, ◌-◌, true, Some, None}
use Rattle.brc_text.specs.Lines.{lacks, tokens_at}
use Rattle.brc_trace.specs.Causes.{behind_words}
use Rattle.brc_trace.proofs.WordLaws.{AreKnown}
use Rattle.brc_trace.proofs.causes.cause_of_no_words.Given as goal

abbrev pub invariant-loop : goal.invariant-loop
invariant-loop g l = record {
  behind : behind_words l.counter l.line ≡ Some l.rest;
  known : AreKnown l.line l.counter;
  unread : tokens_at (8 - l.counter) l.rest ≡ None;
  feed : lacks 10 l.rest ≡ true;
}
