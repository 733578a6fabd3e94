-- Two pieces of a text put one after the other, and the pieces of a list.
use Rattle.std.proofs.Common.{◌≡◌, ◌<◌, ◌+◌, ◌++◌, ℕ, suc, List, ◌∷◌, Option, Result, sym, ◌∙◌, ap, length, get_or}
use Rattle.std.proofs.Common.{drop, drop-cons, add-one}
use Rattle.std.specs.Io.KnownBytes.{Appends}
use Rattle.brc_words.specs.declared.fault.Fault.{Fault}
use Rattle.brc_text.specs.Puts.{PutsText, PutsUpTo}
use Rattle.brc_text.proofs.PutLaws.{starts, goes_on, fails, rest_puts}

-- the second piece is put, or a front of it
pub second_puts : (old mid new : Option (List ℕ)) (result : Result (Unit {0}) Fault) (piece behind text : List ℕ)
    → text ≡ piece ++ behind → Appends old mid piece → PutsText mid new result behind → PutsText old new result text
second_puts old mid new result piece behind text split first second =
    rest_puts new result (goes_on mid piece behind (starts old text) split first) second

-- the first piece fails, so a front of the text is put
pub first_fails : (old new : Option (List ℕ)) (piece behind text left : List ℕ) → text ≡ piece ++ behind
    → PutsUpTo old new piece left → PutsUpTo old new text (left ++ behind)
first_fails old new piece behind text left split part = fails piece behind (starts old text) split part

-- what is left of the pieces of a list is the next piece and what is left behind it
pub pieces_left : {X : Type 0} (piece : X → List ℕ) (text : List X → List ℕ)
    → ((x : X) (xs : List X) → text (x ∷ xs) ≡ piece x ++ text xs) → (xs : List X) (i : ℕ) (d : X) → i < length xs
    → text (drop i xs) ≡ piece (get_or xs i d) ++ text (drop (i + 1) xs)
pieces_left piece text law xs i d within =
    ap text (drop-cons xs i d within)
    ∙ (law (get_or xs i d) (drop (suc i) xs)
    ∙ ap (λ (n : ℕ). piece (get_or xs i d) ++ text (drop n xs)) (sym (add-one i)))
