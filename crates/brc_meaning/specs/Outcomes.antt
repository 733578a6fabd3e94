-- How an answer stands to what is meant. Memory may be missing at any time; the run ends then, and nothing more is
-- said.
use Rattle.std.specs.Prelude.{◌≡◌, Result, Ok, Err, MatchResult}
use Rattle.brc_words.specs.declared.fault.Fault.{Fault}
use Rattle.brc_words.specs.declared.fault.Fault.TheVariants as faults

infixl 10 ◌>>=◌
-- one thing after another, each on what the one before gave; a refusal ends it
abbrev pub ◌>>=◌ : {X Y E : Type 0} → Result X E → (X → Result Y E) → Result Y E
Ok found >>= next = next found
Err refused >>= next = Err refused

-- it is a fault of the section, and not want of memory
abbrev pub IsOwn : Fault → Type 0
IsOwn fault = ¬ (fault ≡ faults.OutOfMemory)

module _ {R S : Type 0} where
  -- the call answered and left what is meant; or it answered the fault that is meant, and changed nothing
  abbrev pub CallsAsMeant : Result R Fault → S → S → Result (R × S) Fault → Type 0
  CallsAsMeant answer old new meant = MatchResult answer
      (λ value. meant ≡ Ok (value, new))
      (λ fault. IsOwn fault → (meant ≡ Err fault) × (new ≡ old))

module _ {S : Type 0} where
  -- the step led to what is meant; or it answered the fault that is meant, and changed nothing
  abbrev pub StepsAsMeant : Result (Unit {0}) Fault → S → S → Result S Fault → Type 0
  StepsAsMeant answer old new meant = MatchResult answer
      (λ _. meant ≡ Ok new)
      (λ fault. IsOwn fault → (meant ≡ Err fault) × (new ≡ old))
