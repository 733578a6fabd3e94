-- A row that is filled with a word's bytes, from the first on.
use Rattle.std.proofs.Common.{◌≡◌, ◌<◌, ◌≤◌, ◌+◌, ◌-◌, ℕ, suc, List, [], ◌∷◌, ◌++◌, length, take, get_or, set, replicate}
use Rattle.std.proofs.Common.{ap, sym, subst, ◌∙◌, arith, append_assoc, length-take-le}
use Rattle.std.proofs.Math.Seq.{set-append_seam, take-append_seam, take-length}
use Rattle.std.proofs.lemmas.List.{take_more}
use Rattle.brc_text.specs.declared.excerpt.TheConstants.{MOST_SHOWN}
use Rattle.brc_text.specs.Padding.{padded, IsPadded}

-- so many zeros behind a word
abbrev with_zeros : List ℕ → ℕ → List ℕ
with_zeros word count = word ++ replicate count 0

-- the first zero behind a word becomes its next byte
next_over_zero : (word : List ℕ) (byte room count : ℕ) → room ≡ suc count
    → set (with_zeros word room) (length word) byte ≡ with_zeros (word ++ byte ∷ []) count
next_over_zero word byte room count one =
    ap (λ (n : ℕ). set (with_zeros word n) (length word) byte) one
    ∙ set-append_seam word 0 (replicate count 0) byte
    ∙ sym (append_assoc word (byte ∷ []) (replicate count 0))

-- the same of the first bytes of a word, in a row of any size
next_over : (word : List ℕ) (at size : ℕ) → at < length word → at < size
    → set (with_zeros (take at word) (size - at)) at (get_or word at 0)
    ≡ with_zeros (take (at + 1) word) (size - (at + 1))
next_over word at size within room =
    let long : length (take at word) ≡ at = length-take-le at word (omega arith) in
    ap (λ (n : ℕ). set (with_zeros (take at word) (size - at)) n (get_or word at 0)) (sym long)
    ∙ next_over_zero (take at word) (get_or word at 0) (size - at) (size - (at + 1)) (omega arith)
    ∙ ap (λ (l : List ℕ). with_zeros l (size - (at + 1))) (sym (take_more word at 0 within))

-- the first bytes of a word, padded, by their number
padded_front : (word : List ℕ) (at : ℕ) → at ≤ length word
    → padded (take at word) ≡ with_zeros (take at word) (MOST_SHOWN - at)
padded_front word at within =
    ap (λ (n : ℕ). with_zeros (take at word) (MOST_SHOWN - n)) (length-take-le at word within)

-- one more byte is put in its place
pub fills_next : (word : List ℕ) (at : ℕ) → at < length word → length word ≤ MOST_SHOWN
    → set (padded (take at word)) at (get_or word at 0) ≡ padded (take (at + 1) word)
fills_next word at within short =
    ap (λ (l : List ℕ). set l at (get_or word at 0)) (padded_front word at (omega arith))
    ∙ next_over word at MOST_SHOWN within (omega arith)
    ∙ sym (padded_front word (at + 1) (omega arith))

-- the row has the word's bytes first
pub holds_front : (row word : List ℕ) → row ≡ padded word → take (length word) row ≡ word
holds_front row word is =
    ap (λ (l : List ℕ). take (length word) l) is
    ∙ take-append_seam word (replicate (MOST_SHOWN - length word) 0)

-- and so is as a row has to be
pub is_filled : (row word : List ℕ) → row ≡ padded word → length word ≤ MOST_SHOWN → IsPadded row (length word)
is_filled row word is short = record {
  short = short;
  counted = ap length (holds_front row word is);
  zeros = is ∙ sym (ap padded (holds_front row word is));
}
