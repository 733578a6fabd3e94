use Rattle.brc_heap.specs.Words.{IsUnlocked, Keeps}
use Rattle.test_threads.proofs.letters.mail.Mailing.sends.Given as goal

abbrev pub invariant-loop-before : goal.invariant-loop-before
invariant-loop-before g l = Keeps l.fn.frame l.frame × IsUnlocked l.frame
