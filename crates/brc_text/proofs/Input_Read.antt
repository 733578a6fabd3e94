-- The bytes that were read, in place of the input.
use Rattle.std.proofs.Common.{◌≡◌, ◌∙◌, ℕ, ◌+◌, ◌≤◌, List, [], ◌++◌, length, take, Some, None, Option, sym, ap, subst}
use Rattle.std.proofs.Common.{append-nil}
use Rattle.std.specs.Prelude.{IfSome}
use Rattle.std.proofs.Math.Seq.{take-append_seam}
use Rattle.std.proofs.lemmas.List.{take_all}
use Rattle.std.specs.Io.KnownBytes.{Consumes, IsAtEnd}
use Rattle.std.proofs.KnownBytes.{Consumes-whole, Consumes-trans}
use Rattle.brc_words.specs.declared.limits.TheConstants.{MOST_INPUT}

pub whole_input : (old new : Option (List ℕ)) (bytes : List ℕ) → Consumes old new bytes → IsAtEnd new
    → length bytes ≤ MOST_INPUT + 1
    → IfSome old (λ input. bytes ≡ take (MOST_INPUT + 1) input)
whole_input old new bytes read end short = Consumes-whole old new bytes (λ input. bytes ≡ take (MOST_INPUT + 1) input)
    read end (sym (take_all (MOST_INPUT + 1) bytes short))

pub front_of_input : (old new : Option (List ℕ)) (bytes : List ℕ) → Consumes old new bytes
    → length bytes ≡ (MOST_INPUT + 1)
    → IfSome old (λ input. bytes ≡ take (MOST_INPUT + 1) input)
front_of_input None new bytes read full = tt
front_of_input (Some input) None bytes read full = absurd read
front_of_input (Some input) (Some rest) bytes read full =
    sym (take-append_seam bytes rest) ∙ ap (λ (n : ℕ). take n (bytes ++ rest)) full
    ∙ ap (take (MOST_INPUT + 1)) (sym read)

pub nothing_read : (old mid new : Option (List ℕ)) (bytes chunk : List ℕ) (count : ℕ) → Consumes old mid bytes
    → Consumes mid new (take count chunk) → count ≡ 0
    → Consumes old new bytes
nothing_read old mid new bytes chunk count read last none =
    let empty : take count chunk ≡ [] = ap (λ (n : ℕ). take n chunk) none in
    subst (Consumes old new) (ap (λ (l : List ℕ). bytes ++ l) empty ∙ append-nil bytes)
    (Consumes-trans old mid new bytes (take count chunk) read last)
