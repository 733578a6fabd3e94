-- A mistake of the bytes that were read is one of the input.
use Rattle.std.proofs.Common.{◌≡◌, ◌+◌, ℕ, List, Option, Some, None, take, subst, inl, inr}
use Rattle.std.specs.Prelude.{IfSome, MatchOption}
use Rattle.brc_words.specs.declared.limits.TheConstants.{MOST_INPUT}
use Rattle.brc_words.specs.declared.fault.Fault.{Fault}
use Rattle.brc_mistakes.specs.Mistakes.{IsMistake}
use Rattle.brc_program.specs.declared.failed.Failed.{Failed}
use Rattle.brc_program.specs.Performing.{FailsAs, IsOfInput, unexplained}

of_input : (input : Option (List ℕ)) (bytes : List ℕ) (fault : Fault) (failed : Failed)
    → IfSome input (λ given. bytes ≡ take (MOST_INPUT + 1) given)
    → FailsAs (IsMistake bytes) fault failed → FailsAs (IsOfInput input) fault failed
of_input input bytes fault failed is (inl plain) = inl plain
of_input None bytes fault failed is (inr (line, mistake, bad, told, so)) = inr (line, mistake, bad, told, tt)
of_input (Some given) bytes fault failed is (inr (line, mistake, bad, told, so)) =
    inr (line, mistake, bad, told, subst (λ (l : List ℕ). IsMistake l line mistake) is so)

-- where the bytes are there, they are the input's; where they aren't, nothing is told but the fault
pub fails_of_input : {V : Type 0} (items : V → List ℕ) (input : Option (List ℕ)) (text : Option V)
    (fault : Fault) (failed : Failed)
    → IfSome text (λ bytes. IfSome input (λ given. items bytes ≡ take (MOST_INPUT + 1) given))
    → MatchOption text (failed ≡ unexplained fault) (λ bytes. FailsAs (IsMistake (items bytes)) fault failed)
    → FailsAs (IsOfInput input) fault failed
fails_of_input items input None fault failed is plain = inl plain
fails_of_input items input (Some bytes) fault failed is found =
    of_input input (items bytes) fault failed is found
