-- What is so of each job and of what stands in its place.
use Rattle.std.proofs.Common.{◌≡◌, ◌<◌, ℕ, suc, List, [], ◌∷◌, length, get_or, arith, sym, subst, Result, Ok, Err, IfOk}
use Rattle.std.specs.List.{AllZip}
use Rattle.std.specs.Fn.{FnReturns, Shared}
use Rattle.std.specs.Fork.{GivesJobs}

zipped : {J X : Type 0} (Is : J → X → Type 0) (jobs : List J) (ended : List X) → length ended ≡ length jobs
    → ((i : ℕ) (job : J) (one : X) → i < length jobs → Is (get_or jobs i job) (get_or ended i one))
    → AllZip Is jobs ended
zipped Is [] [] same each = tt
zipped Is [] (one ∷ ended) same each = absurd (omega (arith, same))
zipped Is (job ∷ jobs) [] same each = absurd (omega (arith, same))
zipped Is (job ∷ jobs) (one ∷ ended) same each = (
  each 0 job one (omega arith),
  zipped Is jobs ended (omega (arith, same)) (λ i j x less. each (suc i) j x (omega (arith, less))),
)

module _ {F J X : Type 0} (g : Shared F (J × Unit {0}) X) (f : F) where
  -- by what a call answers at each job
  pub called_each : {V E : Type 0} (items : V → List X) (Is : J → X → Type 0) (jobs : List J) (result : Result V E)
      → IfOk result (λ v. length (items v) ≡ length jobs) → IfOk result (λ v. GivesJobs g f jobs (items v))
      → ((job : J) (one : X) → FnReturns g f (job, tt) one → Is job one)
      → IfOk result (λ v. AllZip Is jobs (items v))
  called_each items Is jobs (Err fault) same gives says = tt
  called_each items Is jobs (Ok v) same gives says =
      zipped Is jobs (items v) same
      (λ i job one less. let given = (gives i one less).1 in
      subst (λ j. Is j (get_or (items v) i one)) (sym (given.job_is job)) (says given.job _ given.call))
