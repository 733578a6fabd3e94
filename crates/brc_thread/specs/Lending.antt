-- What a mutator ends as, where its frame is lent.
use Rattle.std.specs.Borrow.{Lends, Fml, RattleType, MutBor}
use Rattle.std.specs.declared.alloc.Allocator.{Ghosts as TheAllocator}
use Rattle.brc_count.specs.biased.declared.home.HasTable.{Ghosts as TheHome}
use Rattle.brc_count.specs.Frames.{FrameSeen}
use Rattle.brc_count.specs.contracts.frame.Frame as frame
use Rattle.brc_thread.specs.contracts.mutator.Mutator as mutator

module _ (H A : RattleType) (home : TheHome H.Denot A.Denot) (alloc : TheAllocator A.Denot) where
  -- the mutator has the frame as it was last left
  abbrev pub lends_frame : MutBor (FrameSeen A.Denot) → MutBor (FrameSeen A.Denot) → Fml
  lends_frame m r = Lends (mutator.the_row H A home alloc) (frame.the_row H A home alloc) m r (λ f. f)
