use Rattle.std.proofs.Common.{refl, inr}
use Rattle.std.specs.Prelude.{Err}
use Rattle.brc_words.specs.declared.fault.Fault.TheVariants as faults
use Rattle.brc_client.specs.declared.status.Status.TheVariants as statuses
use Rattle.brc_c.proofs.heaps.brc_heap_new.Goals as goal

-- the heap was opened, and there was no memory for the room that C's variable leads to
pub returns-in-Ok-clause-opens : goal.returns-in-Ok-clause-opens
returns-in-Ok-clause-opens c = record {
  answer = Err (statuses.Fault faults.OutOfMemory);
  opened = tt;
  options = (
    λ is. absurd (let f : ⊥ = cc in f),
    λ no. absurd (let e = c.in-Ok.ensures.options.1 no in let f : ⊥ = cc in f),
  );
  refused = inr refl;
  told = c.number.ensures.number;
  filled = tt;
}
