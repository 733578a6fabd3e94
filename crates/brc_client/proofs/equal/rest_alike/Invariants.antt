use Rattle.std.proofs.Common.{◌≡◌, ◌-◌, ◌^◌, ℕ, List, Bool, Result, length}
use Rattle.std.specs.declared.alloc.Global.{Global}
use Rattle.brc_words.specs.declared.fault.Fault.{Fault}
use Rattle.brc_count.specs.Frames.{FrameSeen, IsUnlocked}
use Rattle.brc_count.specs.Owned.{Keeps}
use Rattle.brc_client.specs.Equal.{Compares}
use Rattle.brc_client.proofs.equal.rest_alike.Given as goal

-- the texts were alike up to a byte: what is found from there on, is found from the first byte on
pub record AlikeSoFar (old now : FrameSeen Global) (one other begin from : ℕ) (shows other_shows : List ℕ) : Type 0 where
  pub keeps : Keeps old now
  pub unlocked : IsUnlocked now
  pub room : length shows ≡ 4096
  pub other_room : length other_shows ≡ 4096
  pub goes_on : (new : FrameSeen Global) (result : Result Bool Fault) → Compares one other from now new result
      → Compares one other begin old new result

abbrev pub invariant-pieces : goal.invariant-pieces
invariant-pieces l =
    AlikeSoFar l.fn.frame l.frame l.one.place l.other.place l.fn.from l.from l.room l.beside

abbrev pub decreases-pieces : goal.decreases-pieces
decreases-pieces l = 2 ^ 64 - l.from
