-- The first number that is gathered, as the list is searched.
use Rattle.std.proofs.Common.{◌≡◌, ℕ, ◌+◌, ◌<◌, ◌≤◌, Bool, true, false, List, [], ◌∷◌, zero, suc, length, drop, get_or}
use Rattle.std.proofs.Common.{refl, sym, ap, ◌∙◌, add-one, arith}
use Rattle.std.proofs.lemmas.Bool.{true≢false}
use Rattle.law.specs.world.Steps.{first_gathered}

-- none of the numbers below this one is gathered
pub record Searched (xs : List Bool) (n : ℕ) : Type 0 where
  pub is : first_gathered xs ≡ n + first_gathered (drop n xs)

more : (xs : List Bool) (n : ℕ) → n < length xs → get_or xs n false ≡ false
    → first_gathered (drop n xs) ≡ suc (first_gathered (drop (suc n) xs))
more [] n low is = absurd (omega (arith, low))
more (true ∷ xs) zero low is = absurd (true≢false is)
more (false ∷ xs) zero low is = refl
more (x ∷ xs) (suc n) low is = more xs n (omega (arith, low)) is

here : (xs : List Bool) (n : ℕ) → get_or xs n false ≡ true → first_gathered (drop n xs) ≡ 0
here [] n is = absurd (true≢false (sym is))
here (true ∷ xs) zero is = refl
here (false ∷ xs) zero is = absurd (true≢false (sym is))
here (x ∷ xs) (suc n) is = here xs n is

ends : (xs : List Bool) → first_gathered (drop (length xs) xs) ≡ 0
ends [] = refl
ends (x ∷ xs) = ends xs

pub search_begins : (xs : List Bool) → Searched xs 0
search_begins xs = record { is = omega arith }

pub search_goes_on : (xs : List Bool) (n : ℕ) → Searched xs n → n < length xs → get_or xs n false ≡ false
    → Searched xs (n + 1)
search_goes_on xs n searched low is = record {
  is = omega (arith, searched.is, more xs n low is, ap (λ m. first_gathered (drop m xs)) (add-one n));
}

pub search_finds : (xs : List Bool) (n : ℕ) → Searched xs n → get_or xs n false ≡ true → n ≡ first_gathered xs
search_finds xs n searched is = omega (arith, searched.is, here xs n is)

pub search_ends : (xs : List Bool) (n : ℕ) → Searched xs n → n ≡ length xs → length xs ≡ first_gathered xs
search_ends xs n searched is = omega (arith, searched.is, ap (λ m. first_gathered (drop m xs)) is, ends xs, is)
