use Rattle.std.specs.Prelude.{Err}
use Rattle.brc_words.specs.declared.fault.Fault.TheVariants as faults
use Rattle.brc_client.specs.declared.status.Status.TheVariants as statuses
use Rattle.brc_client.specs.Ends.{desk_of, seen_at}
use Rattle.brc_c.proofs.Room.{no_room, same_stage}
use Rattle.brc_c.proofs.threads.brc_thread_fork.Goals as goal

-- there was no memory for the room that C's variable leads to, and nobody was registered
pub returns-clause-carries : goal.returns-clause-carries
returns-clause-carries c = record {
  answer = Err (statuses.Fault faults.OutOfMemory);
  made = record { registers = tt; registered = tt; refused = no_room (desk_of c.args.thread.now.value.thread) (seen_at c.args.thread.now.value.thread); same = same_stage _ };
  told = c.number.ensures.number;
  written = tt;
}
