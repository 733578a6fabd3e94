-- Answers, as they come out of threads that have ended, one after the other.
use Rattle.std.proofs.Common.{◌≡◌, ◌++◌, List, [], ◌∷◌, map, sym, ◌∙◌, ap, append_assoc}
use Rattle.brc_loops.specs.declared.threads.Ended.{Ended}

module _ {X : Type 0} where
  -- that of the first one that is left is the last one that is there
  pub one_answered : (one : Ended X) (before left : List (Ended X)) (there after all : List X)
      → before ≡ one ∷ left → after ≡ there ++ one.answer ∷ []
      → there ++ map (λ (e : Ended X). e.answer) before ≡ all → after ++ map (λ (e : Ended X). e.answer) left ≡ all
  one_answered one before left there after all next more so_far =
      ap (λ xs. xs ++ map (λ (e : Ended X). e.answer) left) more
      ∙ append_assoc there (one.answer ∷ []) (map (λ (e : Ended X). e.answer) left)
      ∙ ap (λ es. there ++ map (λ (e : Ended X). e.answer) es) (sym next) ∙ so_far
