use Rattle.brc_count.specs.Frames.{IsUnlocked}
use Rattle.brc_count.specs.Owned.{Gains}
use Rattle.test_heap.proofs.tests.letters.receives_all.Given as goal

abbrev pub invariant-loop : goal.invariant-loop
invariant-loop g l = record { gains : Gains l.fn.frame l.frame l.mailbox; unlocked : IsUnlocked l.frame }
