use Rattle.std.specs.Prelude.{Err}
use Rattle.brc_words.specs.declared.fault.Fault.TheVariants as faults
use Rattle.brc_client.specs.declared.status.Status.TheVariants as statuses
use Rattle.brc_client.specs.Ends.{open_at, seen_by}
use Rattle.brc_c.proofs.Room.{no_room, same_owner}
use Rattle.brc_c.proofs.threads.brc_thread_new.Goals as goal

-- there was no memory for the room that C's variable leads to, and nobody was registered
pub returns-clause-carries : goal.returns-clause-carries
returns-clause-carries c = record {
  answer = Err (statuses.Fault faults.OutOfMemory);
  made = record { registers = tt; registered = tt; refused = no_room (open_at c.args.heap.now.value) (seen_by c.args.heap.now.value); same = same_owner _ };
  told = c.number.ensures.number;
  written = tt;
}
