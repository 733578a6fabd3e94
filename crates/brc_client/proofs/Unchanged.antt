-- Texts that nobody changes: alike pieces come to the same text.
use Rattle.std.proofs.Common.{◌≡◌, ◌+◌, ℕ, Bool, true, false, List, [], ◌∷◌, ◌++◌, length, take, drop}
use Rattle.std.proofs.Common.{Some, Ok, refl, sym, ap, subst, ◌∙◌, append_assoc}
use Rattle.std.specs.Bool.{Decides}
use Rattle.std.specs.declared.alloc.Global.{Global}
use Rattle.brc_count.specs.law.declared.world.event.Change.TheVariants.{Keep}
use Rattle.brc_count.specs.law.declared.world.event.Step.TheVariants.{Lock, Unlock}
use Rattle.brc_count.specs.law.declared.rule.contents.Contents.{Contents}
use Rattle.brc_count.specs.law.declared.rule.contents.Contents.TheVariants as contents
use Rattle.brc_count.specs.law.declared.rule.told.Moved.TheVariants as moves
use Rattle.brc_count.specs.law.declared.rule.told.LogItem.{LogItem}
use Rattle.brc_count.specs.law.declared.rule.told.LogItem.TheVariants.{Stepped}
use Rattle.brc_count.specs.Frames.{FrameSeen}
use Rattle.brc_client.specs.Equal.{TextFound, BothFound, ComparesPiece, Compares, FindsOnly}
use Rattle.brc_client.specs.Equal.{PieceAnswers, PieceAlike}
use Rattle.brc_client.proofs.Alike.{alike_further, alike_whole}

-- ---- logs

-- the log of the second is that of the first, with more before it
record Grows (old new : FrameSeen Global) : Type 0 where
  more : List LogItem
  is : new.seat.log ≡ more ++ old.seat.log

grows_by : {old new : FrameSeen Global} {k : ℕ} {text : List ℕ} → TextFound old new k (Ok text) → Grows old new
grows_by {k = k} {text = text} looks =
    let look = looks.found in
    record {
      more = Stepped (Unlock Keep) 0 (moves.Put look.cell (contents.Text text))
          ∷ Stepped (Lock k) 0 (moves.Found look.cell (contents.Text text)) ∷ [];
      is = look.events;
    }

grows_on : {old mid new : FrameSeen Global} → Grows old mid → Grows mid new → Grows old new
grows_on {old = old} first second = record {
  more = second.more ++ first.more;
  is = second.is ∙ ap (λ xs. second.more ++ xs) first.is ∙ sym (append_assoc second.more first.more old.seat.log);
}

-- what was found since the first frame, was found since the second, and up to it
only_behind : (old mid new : FrameSeen Global) (k : ℕ) (text : List ℕ) → FindsOnly old new k text → Grows old mid
    → FindsOnly mid new k text
only_behind old mid new k text only before = λ later earlier number cell found is.
    (let item = Stepped (Lock k) number (moves.Found cell found) in
    only later (earlier ++ before.more) number cell found
    (is ∙ ap (λ xs. later ++ (item ∷ (earlier ++ xs))) before.is
    ∙ ap (λ xs. later ++ (item ∷ xs)) (sym (append_assoc earlier before.more old.seat.log))))

only_before : (old mid new : FrameSeen Global) (k : ℕ) (text : List ℕ) → FindsOnly old new k text → Grows mid new
    → FindsOnly old mid k text
only_before old mid new k text only behind = λ later earlier number cell found is.
    (let item = Stepped (Lock k) number (moves.Found cell found) in
    only (behind.more ++ later) earlier number cell found
    (behind.is ∙ ap (λ xs. behind.more ++ xs) is
    ∙ sym (append_assoc behind.more later (item ∷ (earlier ++ old.seat.log)))))

-- ---- looks

text_in : Contents → List ℕ
text_in (contents.Text text) = text
text_in found = []

-- the look found the text that each look finds
sees : {old new : FrameSeen Global} {k : ℕ} {seen text : List ℕ} → TextFound old new k (Ok seen) → FindsOnly old new k text
    → seen ≡ text
unfolding text_in
sees {k = k} {seen = seen} looks only =
    let look = looks.found in
    ap text_in (only (Stepped (Unlock Keep) 0 (moves.Put look.cell (contents.Text seen)) ∷ []) [] 0 look.cell
    (contents.Text seen) look.events)

both_grow : {old new : FrameSeen Global} {one other : ℕ} {P : List ℕ → List ℕ → Type 0} → BothFound old new one other P
    → Grows old new
both_grow both = grows_on (grows_by both.first) (grows_by both.second)

-- so of the two texts, too
sees_both : {old new : FrameSeen Global} {one other : ℕ} {P : List ℕ → List ℕ → Type 0} {text beside : List ℕ}
    → BothFound old new one other P → FindsOnly old new one text → FindsOnly old new other beside → P text beside
sees_both {old = old} {new = new} {one = one} {other = other} {P = P} {text = text} {beside = beside} both one_only
    other_only =
    let first = sees both.first (only_before old both.between new one text one_only (grows_by both.second)) in
    let second = sees both.second (only_behind old both.between new other beside other_only (grows_by both.first)) in
    subst (λ t. P t beside) first (subst (λ t. P both.text t) second both.so)

-- ---- pieces

compares_grow : {one other from : ℕ} {old new : FrameSeen Global} {is_equal : Bool}
    → Compares one other from old new (Ok is_equal) → Grows old new
compares_grow (PieceAnswers from size old new true few piece) = both_grow piece
compares_grow (PieceAnswers from size old new false few piece) = both_grow piece
compares_grow (PieceAlike from size old mid new result few piece rest) = grows_on (both_grow piece) (compares_grow rest)

answers : (old new : FrameSeen Global) (one other from size : ℕ) (text beside : List ℕ) (is_equal : Bool)
    → ComparesPiece old new one other from size (Ok (Some is_equal)) → FindsOnly old new one text
    → FindsOnly old new other beside → take from text ≡ take from beside → Decides is_equal (text ≡ beside)
answers old new one other from size text beside false piece one_only other_only before =
    let differ = sees_both piece one_only other_only in (
      λ is. absurd (let off : ⊥ = cc in off),
      λ same. absurd (differ (record {
        lengths = ap (λ t. length t) same;
        pieces = ap (λ t. take size (drop from t)) same;
      })),
    )
answers old new one other from size text beside true piece one_only other_only before =
    let alike = sees_both piece one_only other_only in (
      λ is. alike_whole text beside (from + size) alike.0.lengths alike.1
          (alike_further text beside from size before alike.0.pieces),
      λ same. refl,
    )

same_from : {one other from : ℕ} {old new : FrameSeen Global} {is_equal : Bool} (text beside : List ℕ)
    → Compares one other from old new (Ok is_equal) → FindsOnly old new one text → FindsOnly old new other beside
    → take from text ≡ take from beside → Decides is_equal (text ≡ beside)
same_from {one} {other} text beside (PieceAnswers from size old new is_equal few piece) one_only other_only before =
    answers old new one other from size text beside is_equal piece one_only other_only before
same_from {one} {other} text beside (PieceAlike from size old mid new result few piece rest) one_only other_only before =
    let grows = both_grow piece in
    let behind = compares_grow rest in
    let alike = sees_both piece (only_before old mid new one text one_only behind)
    (only_before old mid new other beside other_only behind) in
    same_from text beside rest (only_behind old mid new one text one_only grows)
    (only_behind old mid new other beside other_only grows)
    (alike_further text beside from size before alike.0.pieces)

pub same_texts : (one other : ℕ) (old new : FrameSeen Global) (text beside : List ℕ) (is_equal : Bool)
    → Compares one other 0 old new (Ok is_equal) → FindsOnly old new one text → FindsOnly old new other beside
    → Decides is_equal (text ≡ beside)
same_texts one other old new text beside is_equal compares one_only other_only =
    same_from text beside compares one_only other_only refl
