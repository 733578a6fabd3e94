-- A call on one object of the list, as a call on the list.
use Rattle.std.proofs.Common.{◌≡◌, ◌∙◌, ℕ, ◌<◌, List, length, get_or, set, Option, Result, Ok, Err, refl, ap, subst}
use Rattle.std.proofs.lemmas.List.{set-get_or}
use Rattle.std.proofs.lemmas.Option.{slice_get_read}
use Rattle.brc_words.specs.declared.fault.Fault.{Fault}
use Rattle.brc_meaning.specs.declared.reference.Reference.{Reference}
use Rattle.brc_meaning.specs.declared.reference.Reference.TheVariants as references
use Rattle.brc_meaning.specs.declared.object.Object.{Object}
use Rattle.brc_meaning.specs.Outcomes.{CallsAsMeant}
use Rattle.brc_meaning.specs.States.{calling}

module _ {A : Type 0} where
  called_there : (call : Object A → Result (Option Reference × Object A) Fault) (made : List (Object A)) (place : ℕ)
      (old new : Object A) (answer : Result (Option Reference) Fault)
      → place < length made → old ≡ get_or made place old → CallsAsMeant answer old new (call old)
      → CallsAsMeant answer made (set made place new) (calling call (references.Object place) made)
  called_there call made place old new (Ok value) within is went =
      rw (slice_get_read made (length made) place old refl within is, went) refl
  called_there call made place old new (Err fault) within is went = λ own. (
    rw (slice_get_read made (length made) place old refl within is, (went own).0) refl,
    ap (λ object. set made place object) ((went own).1 ∙ is) ∙ set-get_or made place old,
  )

  -- the same, where the list is seen as another that equals it
  pub called_seen : (call : Object A → Result (Option Reference × Object A) Fault) (items made : List (Object A))
      (place : ℕ) (old new : Object A) (answer : Result (Option Reference) Fault) → items ≡ made
      → place < length items → old ≡ get_or items place old → CallsAsMeant answer old new (call old)
      → CallsAsMeant answer made (set items place new) (calling call (references.Object place) made)
  called_seen call items made place old new answer view within is went =
      subst (λ (seen : List (Object A)). CallsAsMeant answer seen (set items place new)
      (calling call (references.Object place) seen))
      view (called_there call items place old new answer within is went)
