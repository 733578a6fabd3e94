-- What a call on a plain container answers, and what the container is after it.
use Rattle.std.specs.Prelude.{◌≡◌, Option, Some, None, Result, Ok, Err, MatchResult}
use Rattle.brc_words.specs.declared.fault.Fault.{Fault}
use Rattle.brc_words.specs.declared.fault.Fault.TheVariants as faults

module _ {R : Type 0} where
  -- what stands there, or the fault where nothing does
  abbrev pub or_fault : Fault → Option R → Result R Fault
  or_fault fault (Some found) = Ok found
  or_fault fault None = Err fault

module _ {R C : Type 0} where
  -- that answer, with that container after it; a fault stays a fault
  abbrev pub leaving : C → Result R Fault → Result (R × C) Fault
  leaving left (Ok answer) = Ok (answer, left)
  leaving left (Err fault) = Err fault

  -- a refusal that hands back what the call took, as its fault alone
  abbrev pub fault_alone : Result R (Fault × C) → Result R Fault
  fault_alone (Ok answer) = Ok answer
  fault_alone (Err refused) = Err refused.0

  -- the call did so: its answer and the container after it, or its fault and the container as it was
  abbrev pub Does : Result R Fault → C → C → Result (R × C) Fault → Type 0
  Does answer old new (Ok done) = (answer ≡ Ok done.0) × (new ≡ done.1)
  Does answer old new (Err fault) = (answer ≡ Err fault) × (new ≡ old)

  -- the call did so; or, where it would have succeeded, memory was missing and the container is as it was
  abbrev pub DoesIfRoom : Result R Fault → C → C → Result (R × C) Fault → Type 0
  DoesIfRoom answer old new (Ok done) = MatchResult answer
      (λ value. (value ≡ done.0) × (new ≡ done.1))
      (λ fault. (fault ≡ faults.OutOfMemory) × (new ≡ old))
  DoesIfRoom answer old new (Err fault) = (answer ≡ Err fault) × (new ≡ old)
