-- A list seen through a function of its elements: read, changed and taken by index.
use Rattle.std.proofs.Common.{◌≡◌, ◌<◌, ◌≤◌, ◌+◌, ℕ, List, All, Some, None, ap, subst, sym, ◌∙◌, length, get_or, map}
use Rattle.std.proofs.Common.{take, slice_get, remove}
use Rattle.std.specs.Option.{option_map}
use Rattle.std.proofs.lemmas.Option.{slice_get-map, slice_get-get_or, slice_get_past}
use Rattle.std.proofs.lemmas.List.{get_or-map, length-map, map-append, take-map, drop-map, take_all}
use Rattle.std.proofs.lemmas.List.Elements.{All-more}

module _ {X Y : Type 0} (f : X → Y) where
  pub slice_get-map_read : (xs : List X) (i : ℕ) (d : X) → i < length xs
      → slice_get (map f xs) i ≡ Some (f (get_or xs i d))
  slice_get-map_read xs i d within =
      slice_get-map f xs i ∙ ap (option_map f) (slice_get-get_or xs i d within)

  pub slice_get-map_past : (xs : List X) (i : ℕ) → length xs ≤ i → slice_get (map f xs) i ≡ None
  slice_get-map_past xs i past =
      slice_get-map f xs i ∙ ap (option_map f) (slice_get_past xs i past)

  -- what holds of the first i holds of one more, where it holds of that one
  pub All-map_more : (P : Y → Type 0) (xs : List X) (i : ℕ) (d : X) → i < length xs
      → All P (take i (map f xs)) → P (f (get_or xs i d)) → All P (take (i + 1) (map f xs))
  All-map_more P xs i d within before here =
      All-more P (map f xs) i (f d) (subst (λ n. i < n) (sym (length-map xs f)) within) before
      (subst P (sym (get_or-map f xs i d (f d) within)) here)

  -- what holds of as many as there are holds of all
  pub All-map_whole : (P : Y → Type 0) (xs : List X) (i : ℕ) → length xs ≤ i
      → All P (take i (map f xs)) → All P (map f xs)
  All-map_whole P xs i whole all =
      subst (All P) (take_all i (map f xs) (subst (λ n. n ≤ i) (sym (length-map xs f)) whole)) all

  pub map-remove : (xs : List X) (i : ℕ) → map f (remove xs i) ≡ remove (map f xs) i
  map-remove xs i = simp (map-append, take-map, drop-map)
