-- What a log tells its shorter logs tell too.
use Rattle.std.proofs.Common.{◌≡◌, ◌∙◌, ℕ, List, [], ◌∷◌, ◌++◌, refl, sym, ap, subst}
use Rattle.law.specs.declared.rule.told.LogItem.{LogItem}
use Rattle.law.specs.living.Living.{OwnLog}
use Rattle.law.specs.living.Quiet.{Quietly}
use Rattle.law.specs.living.Later.{IsLater}

below : (n : ℕ) (items old : List LogItem) → OwnLog n (items ++ old) → OwnLog n old
below n [] old own = own
below n (x ∷ items) old own = below n items old own.0

pub own_earlier : (n : ℕ) (old new : List LogItem) → IsLater old new → OwnLog n new → OwnLog n old
own_earlier n old new later own = below n later.items old (subst (λ (log : List LogItem). OwnLog n log) later.is own)

-- ---- logs that are later

pub later_same : (log : List LogItem) → IsLater log log
later_same log = record { items = []; is = refl }

pub later_one : (x : LogItem) (old new : List LogItem) → IsLater old new → IsLater old (x ∷ new)
later_one x old new later = record { items = x ∷ later.items; is = ap (λ (log : List LogItem). x ∷ log) later.is }

appended : (xs ys zs : List LogItem) → xs ++ (ys ++ zs) ≡ (xs ++ ys) ++ zs
appended [] ys zs = refl
appended (x ∷ xs) ys zs = ap (λ (log : List LogItem). x ∷ log) (appended xs ys zs)

pub later_both : (old mid new : List LogItem) → IsLater old mid → IsLater mid new → IsLater old new
later_both old mid new first second = record {
  items = second.items ++ first.items;
  is = second.is ∙ ap (λ (log : List LogItem). second.items ++ log) first.is ∙ appended second.items first.items old;
}

pub later_is : (old new same : List LogItem) → new ≡ same → IsLater old same → IsLater old new
later_is old new same is later = record { items = later.items; is = is ∙ later.is }

pub quietly_later : (old new : List LogItem) → Quietly old new → IsLater old new
quietly_later old new Quietly.NoItem = later_same old
quietly_later old new (Quietly.OneMore x log quiet is) = later_one x old log (quietly_later old log quiet)

pub own_before : (n : ℕ) (before log : List LogItem) → Quietly before log → OwnLog n log → OwnLog n before
own_before n before log quiet own = own_earlier n before log (quietly_later before log quiet) own
