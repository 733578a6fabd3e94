use Rattle.std.proofs.Common.{Ok, inl}
use Rattle.brc_program.specs.Command.{asks_why}
use Rattle.brc_program.proofs.Telling_Notes.{ends_noted}
use Rattle.brc_program.proofs.answering.program.Goals as goal

pub returns-in-Ok-clause-came : goal.returns-in-Ok-clause-came
returns-in-Ok-clause-came g c = record {
  answer = Ok c.in-Ok.status;
  is = c.in-Ok.ensures.answers;
  by = ends_noted (asks_why c.args.words.now) _ _ c.in-Ok.status c.tell_notes.result
      (λ nobody. c.tell_notes.ensures.none (c.in-Ok.ensures.quiet nobody)) c.tell_notes.ensures.told;
}

pub returns-in-Ok-clause-replay : goal.returns-in-Ok-clause-replay
returns-in-Ok-clause-replay g c = λ asked.
    let done = c.in-Ok.ensures.replay asked in
    record { answer = Ok c.in-Ok.status; is = done.0; by = inl (c.tell_notes.ensures.none done.1) }

pub returns-in-Ok-clause-run : goal.returns-in-Ok-clause-run
returns-in-Ok-clause-run g c = λ asked.
    let done = c.in-Ok.ensures.run asked in
    record { answer = Ok c.in-Ok.status; is = done.0; by = inl (c.tell_notes.ensures.none done.1) }

pub returns-in-Ok-clause-graph : goal.returns-in-Ok-clause-graph
returns-in-Ok-clause-graph g c = λ asked.
    let done = c.in-Ok.ensures.graph asked in
    record { answer = Ok c.in-Ok.status; is = done.0; by = inl (c.tell_notes.ensures.none done.1) }
