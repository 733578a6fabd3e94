-- Numbers that stand for threads and cells.
use Rattle.std.specs.Prelude.{ℕ, ◌<◌}
use Rattle.brc_words.specs.declared.owner.Owner.{Owner}
use Rattle.brc_words.specs.declared.owner.Owner.TheVariants as owners

-- a thread that owns a cell, or has claimed it, is one of those registered; number 0 is the root's
abbrev pub OwnerFits : ℕ → Owner → Type 0
OwnerFits threads owners.Nobody = Unit {0}
OwnerFits threads (owners.Thread t) = (0 < t) × (t < threads)
OwnerFits threads (owners.Claimed t) = (0 < t) × (t < threads)
OwnerFits threads owners.Free = Unit {0}
