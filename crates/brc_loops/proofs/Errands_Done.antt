-- Errands that were done one and all: each answer is one to its job.
use Rattle.std.proofs.Common.{◌≡◌, ◌<◌, ◌+◌, ◌-◌, ℕ, take, ◌++◌, List, [], ◌∷◌, length, get_or, Option, Some, None, IsSome, is_some, arith, refl, sym, ap, subst, ◌∙◌}
use Rattle.std.specs.Fn.{FnReturns, Shared}
use Rattle.std.specs.Fork.{AcceptsJobs, GivesJobs}
use Rattle.std.proofs.Math.Seq.{take-append_seam}
use Rattle.std.proofs.lemmas.List.{get_or_default}
use Rattle.brc_loops.specs.declared.errands.Errand.{Errand}
use Rattle.brc_loops.specs.Errands.{AreDone, Answers, InReverse}

-- a list that has so many has one there
element : {X : Type 0} (xs : List X) (i : ℕ) → i < length xs → X
element [] i less = absurd (omega (arith, less))
element (x ∷ xs) i less = get_or (x ∷ xs) i x

-- what stands opposite
opposite : (i n : ℕ) → i < n → (p : ℕ) × (p + i + 1 ≡ n)
opposite i n less = (n - (i + 1), omega (arith, less))

before_end : (p i n : ℕ) → p + i + 1 ≡ n → p < n
before_end p i n at = omega (arith, at)

turned : (p i n : ℕ) → p + i + 1 ≡ n → i + p + 1 ≡ n
turned p i n at = omega (arith, at)

same_value : {X : Type 0} (x y : X) (o : Option X) → o ≡ Some x → o ≡ Some y → x ≡ y
same_value x y o one other = cc

has_value : {X : Type 0} (x : X) (o : Option X) → o ≡ Some x → IsSome o
has_value x o is = ap is_some is

-- what a slice leaves in its vector, of which it was the whole
pub rewritten : {T : Type 0} (n : ℕ) (shown rest : List T) → n ≡ length shown → take n (shown ++ rest) ≡ shown
rewritten n shown rest same = ap (λ m. take m (shown ++ rest)) same ∙ take-append_seam shown rest

module _ {F J X : Type 0} (g : Shared F (J × Unit {0}) X) (f : F) (jobs : List J) (before shown : List (Errand J X))
    (seen : shown ≡ before) (laid : InReverse (λ (job : J) (errand : Errand J X). errand.job ≡ Some job) jobs before) where
  laid_there : InReverse (λ (job : J) (errand : Errand J X). errand.job ≡ Some job) jobs shown
  laid_there = subst (λ es. InReverse (λ (job : J) (errand : Errand J X). errand.job ≡ Some job) jobs es) (sym seen) laid

  -- each job that an errand has is one of the jobs
  pub accepted : AcceptsJobs g f jobs → (place : ℕ) (errand : Errand J X) (job : J) → place < length shown
      → (get_or shown place errand).job ≡ Some job → g.pre f (job, tt)
  accepted accepts place errand job less has =
      let facing = opposite place (length jobs) (subst (λ n. place < n) laid_there.len less) in
      accepts facing.0 job (before_end _ _ _ facing.1)
      (same_value job _ _ has (laid_there.each facing.0 place job errand facing.1))

  module _ (after final : List (Errand J X)) (left : final ≡ after) (same : length after ≡ length shown)
      (done : (place : ℕ) (errand : Errand J X) (job : J) → place < length shown
      → (get_or shown place errand).job ≡ Some job → Answers g f job (get_or after place errand)) where
    -- the errand opposite a job has its answer
    has_answer : (p i : ℕ) (errand : Errand J X) (job : J) → p + i + 1 ≡ length jobs
        → Answers g f (get_or jobs i job) (get_or final p errand)
    has_answer p i errand job at =
        subst (λ es. Answers g f (get_or jobs i job) (get_or es p errand)) (sym left)
        (done p errand (get_or jobs i job) (subst (λ n. p < n) (sym laid_there.len) (before_end p i _ at))
        (laid_there.each i p job errand (turned p i _ at)))

    as_long : length final ≡ length jobs
    as_long = ap length left ∙ same ∙ laid_there.len

    pub all_done : AreDone final
    all_done place errand less =
        let there : place < length jobs = subst (λ n. place < n) as_long less in
        let facing = opposite place (length jobs) there in
        let first : facing.0 < length jobs = before_end _ _ _ facing.1 in
        let got = has_answer place facing.0 errand (element jobs facing.0 first) (turned facing.0 place _ facing.1) in
        has_value got.answer _ got.is

    module _ (answers : List X)
        (taken : InReverse (λ (errand : Errand J X) (answer : X). errand.answer ≡ Some answer) final answers) where
      pub as_many : length answers ≡ length jobs
      as_many = taken.len ∙ as_long

      pub given_each : GivesJobs g f jobs answers
      given_each i d less =
          let facing = opposite i (length jobs) less in
          let job : J = element jobs i less in
          let errand : Errand J X = record { job = Some job; answer = None } in
          let got = has_answer facing.0 i errand job facing.1 in (
            refl,
            record {
              job = get_or jobs i job;
              job_read = get_or_default jobs i job (get_or jobs i job) less;
              job_is = λ e. get_or_default jobs i e job less;
              call =
                  subst (λ a. FnReturns g f (get_or jobs i job, tt) a)
                  (same_value got.answer _ _ got.is (taken.each facing.0 i errand d (facing.1 ∙ sym as_long))) got.call;
            },
          )
