-- What one write after another puts.
use Rattle.std.proofs.Common.{◌≡◌, ℕ, List, [], ◌++◌, Option, Result, Ok, Err, refl, sym, ap, subst, ◌∙◌, append_assoc}
use Rattle.std.proofs.Common.{append-nil}
use Rattle.std.specs.Io.KnownBytes.{Appends, Keeps}
use Rattle.std.proofs.KnownBytes.{Appends-nil, Appends-trans, Appends-kept}
use Rattle.brc_words.specs.declared.fault.Fault.{Fault}
use Rattle.brc_text.specs.Puts.{PutsText, PutsUpTo}

-- nothing is put yet
pub starts : (old : Option (List ℕ)) (text : List ℕ) → PutsUpTo old old text text
starts old text = record { front = []; is = refl; put = Appends-nil old }

-- one more piece is put
pub goes_on : {old new : Option (List ℕ)} {text rest : List ℕ} (after : Option (List ℕ)) (piece behind : List ℕ)
    → PutsUpTo old new text rest
    → rest ≡ piece ++ behind → Appends new after piece → PutsUpTo old after text behind
goes_on {old = old} {new = new} {text = text} {rest = rest} after piece behind so_far split put = record {
  front = so_far.front ++ piece;
  is = so_far.is ∙ ap (λ (l : List ℕ). so_far.front ++ l) split ∙ sym (append_assoc so_far.front piece behind);
  put = Appends-trans old new after so_far.front piece so_far.put put;
}

-- a front of the next piece is put, and no more
pub fails : {old new after : Option (List ℕ)} {text rest left : List ℕ} (piece behind : List ℕ)
    → PutsUpTo old new text rest
    → rest ≡ piece ++ behind → PutsUpTo new after piece left → PutsUpTo old after text (left ++ behind)
fails {old = old} {new = new} {after = after} {left = left} piece behind so_far split part = record {
  front = so_far.front ++ part.front;
  is = so_far.is ∙ ap (λ (l : List ℕ). so_far.front ++ l) (split ∙ ap (λ (l : List ℕ). l ++ behind) part.is
      ∙ append_assoc part.front left behind)
      ∙ sym (append_assoc so_far.front part.front (left ++ behind));
  put = Appends-trans old new after so_far.front part.front so_far.put part.put;
}

-- nothing is left
pub ends : {old new : Option (List ℕ)} {text rest : List ℕ} → PutsUpTo old new text rest → rest ≡ []
    → Appends old new text
ends {old = old} {new = new} so_far none =
    subst (Appends old new) (sym (so_far.is ∙ ap (λ (l : List ℕ). so_far.front ++ l) none ∙ append-nil so_far.front))
    so_far.put

-- a write that fails keeps what was put
pub stays : {old new : Option (List ℕ)} {text rest : List ℕ} (after : Option (List ℕ)) → PutsUpTo old new text rest
    → Keeps new after → PutsUpTo old after text rest
stays {old = old} {new = new} after so_far kept =
    record { front = so_far.front; is = so_far.is; put = Appends-kept old new after so_far.front so_far.put kept }

-- what was kept and one more piece are put, but for what is kept now
pub keeps_on : {old new after : Option (List ℕ)} {text rest kept_now : List ℕ} (kept piece behind : List ℕ)
    → PutsUpTo old new text (kept ++ rest)
    → rest ≡ piece ++ behind → PutsUpTo new after (kept ++ piece) kept_now
    → PutsUpTo old after text (kept_now ++ behind)
keeps_on kept piece behind so_far split part =
    fails (kept ++ piece) behind so_far (ap (λ (l : List ℕ). kept ++ l) split
    ∙ sym (append_assoc kept piece behind)) part

-- all that is left is put, or a front of it
pub rest_puts : {old new : Option (List ℕ)} {text rest : List ℕ} (after : Option (List ℕ))
    (result : Result (Unit {0}) Fault) → PutsUpTo old new text rest
    → PutsText new after result rest → PutsText old after result text
rest_puts {rest = rest} after (Ok done) so_far put =
    ends (goes_on after rest [] so_far (sym (append-nil rest)) put) refl
rest_puts {rest = rest} after (Err fault) so_far put =
    (put.0, put.1 ++ [], fails rest [] so_far (sym (append-nil rest)) put.2)
