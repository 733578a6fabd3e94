-- Two texts in rooms: what a piece of each tells, and how pieces come to the whole.
use Rattle.std.proofs.Common.{◌≡◌, ◌≢◌, ◌+◌, ◌-◌, ◌≤◌, ℕ, Bool, true, false, not, List, ◌++◌, length, take, drop, min}
use Rattle.std.proofs.Common.{Some, Ok, Err, refl, sym, ap, subst, ◌∙◌, arith}
use Rattle.std.specs.Str.{bytes_eq}
use Rattle.std.specs.declared.alloc.Global.{Global}
use Rattle.std.proofs.Math.Seq.{take-append_seam, take-add}
use Rattle.std.proofs.lemmas.List.{length-take, length-drop, take_all}
use Rattle.std.proofs.lemmas.Slice.Eq.{bytes_eq-Decides}
use Rattle.brc_words.specs.declared.fault.Fault.{Fault}
use Rattle.brc_count.specs.Frames.{FrameSeen}
use Rattle.brc_things.specs.Looking.{BytesShown, shown_from}
use Rattle.brc_client.specs.Equal.{TextFound, IsAlike, BothFound, ComparesPiece}

-- ---- texts

both_not : (b : Bool) → false ≡ not b → b ≡ true
both_not true is = refl
both_not false is = cc

-- the piece lies at the front of the room
piece_shown : (text had has : List ℕ) (from shown : ℕ) → has ≡ shown_from text from had
    → shown ≡ min (length text - from) (length had) → take shown has ≡ take (length had) (drop from text)
piece_shown text had has from shown is fits =
    let piece = take (length had) (drop from text) in
    let behind = drop (length (drop from text)) had in
    let long : shown ≡ length piece = grind (arith, fits, length-take (length had) (drop from text), length-drop from text) in
    ap (λ xs. take shown xs) is ∙ ap (λ n. take n (piece ++ behind)) long ∙ take-append_seam piece behind

-- what `!=` says of two pieces
unequal : (xs ys : List ℕ) → true ≡ not (bytes_eq xs ys) → xs ≢ ys
unequal xs ys is same =
    let yes : bytes_eq xs ys ≡ true = (bytes_eq-Decides xs ys).1 same in
    let off : true ≡ false = is ∙ ap not yes in
    cc

equal : (xs ys : List ℕ) → false ≡ not (bytes_eq xs ys) → xs ≡ ys
equal xs ys is = (bytes_eq-Decides xs ys).0 (both_not (bytes_eq xs ys) is)

-- texts that are alike up to a byte, and in a piece from there on, are alike up to its end
pub alike_further : (text beside : List ℕ) (from size : ℕ) → take from text ≡ take from beside
    → take size (drop from text) ≡ take size (drop from beside) → take (from + size) text ≡ take (from + size) beside
alike_further text beside from size before here =
    take-add from size text ∙ ap (λ xs. xs ++ take size (drop from text)) before
    ∙ ap (λ xs. take from beside ++ xs) here ∙ sym (take-add from size beside)

-- and if nothing is behind it, they are the same
pub alike_whole : (text beside : List ℕ) (n : ℕ) → length text ≡ length beside → length text ≤ n
    → take n text ≡ take n beside → text ≡ beside
alike_whole text beside n long few alike =
    sym (take_all n text few) ∙ alike ∙ take_all n beside (omega (arith, long, few))

-- ---- one look

-- a look that shows a text has found it
found : {old new : FrameSeen Global} {k len : ℕ} {has : List ℕ} (from : ℕ) (had : List ℕ)
    → BytesShown old new k from had has (Ok len) → (text : List ℕ) × TextFound old new k (Ok text) × (length text ≡ len) × (has ≡ shown_from text from had)
found from had shown =
    let (text, looks, long, is) = shown.found in
    (text, record { thread = shown.thread; frame = shown.frame; found = looks; refused = tt }, long, is)

pub refused : {old new : FrameSeen Global} {k : ℕ} {fault : Fault} (from : ℕ) (had has : List ℕ)
    → BytesShown old new k from had has (Err fault) → TextFound old new k (Err fault)
refused from had has shown = record { thread = shown.thread; frame = shown.frame; found = tt; refused = shown.refused }

pub found_one : {old new : FrameSeen Global} {k len : ℕ} (from : ℕ) (had has : List ℕ)
    → BytesShown old new k from had has (Ok len) → (text : List ℕ) × TextFound old new k (Ok text)
found_one from had has shown = let (text, looks, long, is) = found from had shown in (text, looks)

-- ---- a look at each

-- Two looks, one after the other, each into a room of this size; and how long both texts are, and what the rooms have.
pub record ShowsBoth (old new : FrameSeen Global) (one other from size : ℕ) (len other_len : ℕ)
    (has other_has : List ℕ) : Type 0 where
  between : FrameSeen Global
  had : List ℕ
  other_had : List ℕ
  room : length had ≡ size
  other_room : length other_had ≡ size
  first : BytesShown old between one from had has (Ok len)
  second : BytesShown between new other from other_had other_has (Ok other_len)

pub shows_both : {old new : FrameSeen Global} {one other from len other_len : ℕ} {has other_has : List ℕ}
    (between : FrameSeen Global) (had other_had : List ℕ) → length other_had ≡ length had
    → BytesShown old between one from had has (Ok len) → BytesShown between new other from other_had other_has (Ok other_len)
    → ShowsBoth old new one other from (length had) len other_len has other_has
shows_both between had other_had rooms first second = record {
  between = between;
  had = had;
  other_had = other_had;
  room = refl;
  other_room = rooms;
  first = first;
  second = second;
}

pub differ_in_length : {old new : FrameSeen Global} {one other from size len other_len : ℕ} {has other_has : List ℕ}
    → ShowsBoth old new one other from size len other_len has other_has → len ≢ other_len
    → ComparesPiece old new one other from size (Ok (Some false))
differ_in_length both differ =
    let (text, looks, long, is) = found _ _ both.first in
    let (beside, other_looks, other_long, other_is) = found _ _ both.second in
    record {
      between = both.between;
      text = text;
      beside = beside;
      first = looks;
      second = other_looks;
      so = λ alike. differ (sym long ∙ alike.lengths ∙ other_long);
    }

-- what a room shows of a text, as far as both texts are shown
in_room : (text had has : List ℕ) (from shown size len : ℕ) → length text ≡ len → length had ≡ size
    → has ≡ shown_from text from had → shown ≡ min (len - from) size → take shown has ≡ take size (drop from text)
in_room text had has from shown size len long room is fits =
    let here : shown ≡ min (length text - from) (length had) = omega (arith, fits, long, room) in
    piece_shown text had has from shown is here ∙ ap (λ n. take n (drop from text)) room

pub differ_in_bytes : {old new : FrameSeen Global} {one other from size len other_len : ℕ} {has other_has : List ℕ}
    → ShowsBoth old new one other from size len other_len has other_has → len ≡ other_len → (shown : ℕ)
    → shown ≡ min (len - from) size → true ≡ not (bytes_eq (take shown has) (take shown other_has))
    → ComparesPiece old new one other from size (Ok (Some false))
differ_in_bytes {from = from} {size = size} {len = len} {has = has} {other_has = other_has} both same shown fits differ =
    let (text, looks, long, is) = found _ _ both.first in
    let (beside, other_looks, other_long, other_is) = found _ _ both.second in
    let here = in_room text both.had has from shown size len long both.room is fits in
    let there = in_room beside both.other_had other_has from shown size len (other_long ∙ sym same) both.other_room other_is
    fits in
    record {
      between = both.between;
      text = text;
      beside = beside;
      first = looks;
      second = other_looks;
      so = λ alike. unequal _ _ differ (here ∙ alike.pieces ∙ sym there);
    }

-- both are alike in the piece, and of their length this is so
pub alike_in_bytes : {old new : FrameSeen Global} {one other from size len other_len : ℕ} {has other_has : List ℕ}
    → ShowsBoth old new one other from size len other_len has other_has → len ≡ other_len → (shown : ℕ)
    → shown ≡ min (len - from) size → false ≡ not (bytes_eq (take shown has) (take shown other_has))
    → (P : ℕ → Type 0) → P len
    → BothFound old new one other (λ text beside. IsAlike from size text beside × P (length text))
alike_in_bytes {from = from} {size = size} {len = len} {has = has} {other_has = other_has} both same shown fits alike P so =
    let (text, looks, long, is) = found _ _ both.first in
    let (beside, other_looks, other_long, other_is) = found _ _ both.second in
    let here = in_room text both.had has from shown size len long both.room is fits in
    let there = in_room beside both.other_had other_has from shown size len (other_long ∙ sym same) both.other_room other_is
    fits in
    record {
      between = both.between;
      text = text;
      beside = beside;
      first = looks;
      second = other_looks;
      so = (record { lengths = long ∙ same ∙ sym other_long; pieces = sym here ∙ equal _ _ alike ∙ there }, subst P (sym long) so);
    }
