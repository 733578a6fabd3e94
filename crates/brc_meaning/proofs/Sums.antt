-- The sums that are i64.
use Rattle.std.proofs.Common.{◌≡◌, ◌∙◌, sym, subst, ℤ, pos, negsuc, ◌+ℤ◌, ◌^◌, Bool, true, false, Ok, Err, refl}
use Rattle.std.proofs.Common.{FitsSigned, w64, to_z, of_z}
use Rattle.std.proofs.lemmas.Int.{to_z-of_z}
use Rattle.std.proofs.lemmas.Bool.{ltb-true, lt-ltb}
use Rattle.brc_words.specs.declared.fault.Fault.TheVariants as faults
use Rattle.brc_script.specs.Instructions.{is_integer}
use Rattle.brc_meaning.specs.Steps.{integer_sum}

fits_integer : (z : ℤ) → FitsSigned w64 z → is_integer z ≡ true
unfolding is_integer
fits_integer (pos n) fits = lt-ltb n (2 ^ 63) fits.sfits
fits_integer (negsuc n) fits = lt-ltb n (2 ^ 63) fits.sfits

integer_fits : (z : ℤ) → is_integer z ≡ true → FitsSigned w64 z
unfolding is_integer
integer_fits (pos n) is = record { sfits = ltb-true n (2 ^ 63) is }
integer_fits (negsuc n) is = record { sfits = ltb-true n (2 ^ 63) is }

not_true : (b : Bool) → (b ≡ true → ⊥) → b ≡ false
not_true true never = absurd (never refl)
not_true false _ = refl

sum_there : (first second sum : ℤ) → FitsSigned w64 (first +ℤ second) → sum ≡ first +ℤ second
    → Ok (to_z w64 (of_z w64 sum)) ≡ integer_sum first second
sum_there first second sum fits is =
    rw (is, to_z-of_z w64 (first +ℤ second) fits, fits_integer (first +ℤ second) fits) refl

sum_nowhere : (first second : ℤ) → (FitsSigned w64 (first +ℤ second) → ⊥)
    → Err faults.Overflow ≡ integer_sum first second
sum_nowhere first second none =
    rw (not_true (is_integer (first +ℤ second)) (λ is. none (integer_fits (first +ℤ second) is))) refl

-- the same, with the operands as the processor holds them
abbrev as_held : ℤ → ℤ
as_held z = to_z w64 (of_z w64 z)

pub sum_found : (first second sum : ℤ) → FitsSigned w64 first → FitsSigned w64 second
    → FitsSigned w64 (as_held first +ℤ as_held second) → sum ≡ as_held first +ℤ as_held second
    → Ok (as_held sum) ≡ integer_sum first second
sum_found first second sum f g fits is =
    sum_there first second sum
    (subst (FitsSigned w64) both fits) (is ∙ both)
  where
    both : as_held first +ℤ as_held second ≡ first +ℤ second
    both = rw (to_z-of_z w64 first f, to_z-of_z w64 second g) refl

pub sum_refused : (first second : ℤ) → FitsSigned w64 first → FitsSigned w64 second
    → (FitsSigned w64 (as_held first +ℤ as_held second) → ⊥) → Err faults.Overflow ≡ integer_sum first second
sum_refused first second f g none =
    sum_nowhere first second (λ fits. none (subst (FitsSigned w64) (sym both) fits))
  where
    both : as_held first +ℤ as_held second ≡ first +ℤ second
    both = rw (to_z-of_z w64 first f, to_z-of_z w64 second g) refl
