-- The remains of contents, one content after another.
use Rattle.std.proofs.Common.{◌≡◌, ◌<◌, ◌≤◌, ◌+◌, ◌++◌, ℕ, suc, List, [], ◌∷◌, Option, Some, None, refl, sym, ◌∙◌, ap}
use Rattle.std.proofs.Common.{length, get_or, drop, drop-cons, append_assoc, add-one}
use Rattle.std.specs.Option.{option_map}
use Rattle.std.proofs.lemmas.Bool.{lt-ltb, le-ltb}
use Rattle.brc_words.specs.declared.limits.TheConstants.{FIRST_MORTAL}
use Rattle.brc_report.specs.declared.content.Content.{Content}
use Rattle.brc_report.specs.declared.content.Remain.{Remain}
use Rattle.brc_report.specs.Holding.{holder_of, joined, remains_among}

-- one more in front of what follows goes behind what stands
pushed : (items : List Remain) (remain : Remain) (rest : Option (List Remain))
    → option_map (λ more. (items ++ remain ∷ []) ++ more) rest
    ≡ option_map (λ more. items ++ more) (joined (Some remain) rest)
pushed items remain None = refl
pushed items remain (Some more) = ap Some (append_assoc items (remain ∷ []) more)

module _ {A : Type 0} where
  -- what remains of the contents from a place on, by the content that stands there
  abbrev here : List (Content A) → Content A → List (Content A) → Option (List Remain)
  here contents content rest = remains_among contents (content ∷ rest)

  among_here : (contents : List (Content A)) (i : ℕ) (content : Content A) → i < length contents
      → content ≡ get_or contents i content
      → remains_among contents (drop i contents) ≡ here contents content (drop (i + 1) contents)
  among_here contents i content within is =
      rw add-one
      (ap (remains_among contents) (drop-cons contents i content within)
      ∙ ap (λ (first : Content A). remains_among contents (first ∷ drop (suc i) contents)) (sym is))

  -- an immortal cell is no remain
  pub skips : (contents : List (Content A)) (i : ℕ) (content : Content A) (items new : List Remain)
      (total : Option (List Remain)) → i < length contents → content ≡ get_or contents i content
      → content.cell < FIRST_MORTAL → new ≡ items
      → option_map (λ more. items ++ more) (remains_among contents (drop i contents)) ≡ total
      → option_map (λ more. new ++ more) (remains_among contents (drop (i + 1) contents)) ≡ total
  skips contents i content items new total within is immortal same so =
      rw same
      (rw (among_here contents i content within is, lt-ltb content.cell FIRST_MORTAL immortal) at so)

  -- a mortal one that is held is the next
  pub takes : (contents : List (Content A)) (i : ℕ) (content : Content A) (holder : ℕ) (items new : List Remain)
      (total : Option (List Remain)) → i < length contents → content ≡ get_or contents i content
      → FIRST_MORTAL ≤ content.cell → holder_of contents content.cell ≡ Some holder
      → new ≡ items ++ record { cell = content.cell; kind = content.kind; held_by = holder } ∷ []
      → option_map (λ more. items ++ more) (remains_among contents (drop i contents)) ≡ total
      → option_map (λ more. new ++ more) (remains_among contents (drop (i + 1) contents)) ≡ total
  takes contents i content holder items new total within is mortal held more so =
      rw more
      (pushed items _ _
      ∙ rw (among_here contents i content within is, le-ltb content.cell FIRST_MORTAL mortal, held) at so)

  -- one that isn't held leaves no remains at all
  pub fails : (contents : List (Content A)) (i : ℕ) (content : Content A) (items : List Remain)
      (total : Option (List Remain)) → i < length contents → content ≡ get_or contents i content
      → FIRST_MORTAL ≤ content.cell → holder_of contents content.cell ≡ None
      → option_map (λ more. items ++ more) (remains_among contents (drop i contents)) ≡ total → None ≡ total
  fails contents i content items total within is mortal free so =
      rw (among_here contents i content within is, le-ltb content.cell FIRST_MORTAL mortal, free) at so
