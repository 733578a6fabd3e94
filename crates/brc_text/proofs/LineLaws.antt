-- Lines and their words are read as they were spelled, and only so.
use Rattle.std.proofs.Common.{◌≡◌, ℕ, zero, suc, ◌<◌, ◌≤◌, Bool, true, false, not, cond, eqb, List, [], ◌∷◌, ◌++◌}
use Rattle.std.proofs.Common.{length, get_or, drop, Option, Some, None, refl, sym, ap, subst, inl, inr, ◌∙◌}
use Rattle.std.proofs.Common.{append_assoc, append-nil, decimal, arith}
use Rattle.std.specs.Prelude.{◌⊎◌}
use Rattle.std.specs.List.{flat_map, AllByRecursion}
use Rattle.std.specs.Option.{option_map}
use Rattle.std.specs.Str.Parse.{AllDigits}
use Rattle.std.proofs.lemmas.Bool.{eqb-true, eq-eqb, ne_eqb, and_parts, and_from}
use Rattle.std.proofs.lemmas.List.{length-append}
use Rattle.std.proofs.lemmas.Str.Parse.{digit_from_value}
use Rattle.std.proofs.lemmas.Fmt.{digits_decimal}
use Rattle.brc_text.specs.declared.keyword.Keyword.{Keyword}
use Rattle.brc_text.specs.declared.keyword.Keyword.TheVariants as words
use Rattle.brc_text.specs.declared.token.Letter.{Letter}
use Rattle.brc_text.specs.declared.token.Letter.TheVariants as letters
use Rattle.brc_text.specs.declared.token.Token.{Token}
use Rattle.brc_text.specs.declared.token.Token.TheVariants as tokens
use Rattle.brc_text.specs.Keywords.{keyword}
use Rattle.brc_text.specs.Tokens.{◌>>=◌, token, token_at, letter, IsRead}
use Rattle.brc_text.specs.Lines.{cut, lacks, end_of, IsWordOfLine, first_line, tokens_at, words_from, spaced}
use Rattle.brc_text.specs.Lines.{before_line}
use Rattle.brc_text.specs.Lines.{pieces}
use Rattle.brc_text.specs.Words.{Begins}
use Rattle.brc_text.proofs.NumberLaws.{numerals}
use Rattle.brc_text.proofs.KeywordLaws.{same_some}
use Rattle.brc_text.proofs.TokenLaws.{token_again, token_takes, some_bind}

-- ---- cutting

pub lacks-append : (mark : ℕ) (xs ys : List ℕ) → lacks mark xs ≡ true → lacks mark ys ≡ true
    → lacks mark (xs ++ ys) ≡ true
lacks-append mark [] ys p q = q
lacks-append mark (x ∷ xs) ys p q =
    let both = and_parts _ _ p in and_from _ _ both.0 (lacks-append mark xs ys both.1 q)

not_true : (b : Bool) → not b ≡ true → b ≡ false
not_true true e = absurd cc
not_true false e = refl

pub cut_until : (mark : ℕ) (front back : List ℕ) → lacks mark front ≡ true
    → cut mark (front ++ (mark ∷ back)) ≡ (front, Some back)
unfolding cut
cut_until mark [] back h = rw (eq-eqb mark mark refl) refl
cut_until mark (byte ∷ front) back h =
    let both = and_parts _ _ h in
    rw (not_true (eqb byte mark) both.0, cut_until mark front back both.1) refl

pub cut_whole : (mark : ℕ) (bytes : List ℕ) → lacks mark bytes ≡ true → cut mark bytes ≡ (bytes, None)
unfolding cut
cut_whole mark [] h = refl
cut_whole mark (byte ∷ bytes) h =
    let both = and_parts _ _ h in
    rw (not_true (eqb byte mark) both.0, cut_whole mark bytes both.1) refl

-- the mark and what stands behind it
abbrev pub behind_mark : ℕ → Option (List ℕ) → List ℕ
behind_mark mark None = []
behind_mark mark (Some rest) = mark ∷ rest

pub record IsCut (mark : ℕ) (bytes : List ℕ) (parts : List ℕ × Option (List ℕ)) : Type 0 where
  pub lack : lacks mark parts.0 ≡ true
  pub joined : bytes ≡ parts.0 ++ behind_mark mark parts.1

cut_first : (mark byte : ℕ) (bytes : List ℕ) (parts : List ℕ × Option (List ℕ)) (b : Bool) → eqb byte mark ≡ b
    → IsCut mark bytes parts
    → IsCut mark (byte ∷ bytes) (cond b ([], Some bytes) (byte ∷ parts.0, parts.1))
cut_first mark byte bytes parts true e h =
    record { lack = refl; joined = ap (λ (b : ℕ). b ∷ bytes) (eqb-true byte mark e) }
cut_first mark byte bytes parts false e h = record {
  lack = and_from _ _ (ap not e) h.lack;
  joined = ap (λ (l : List ℕ). byte ∷ l) h.joined;
}

pub cut_parts : (mark : ℕ) (bytes : List ℕ) → IsCut mark bytes (cut mark bytes)
unfolding cut
cut_parts mark [] = record { lack = refl; joined = refl }
cut_parts mark (byte ∷ bytes) = cut_first mark byte bytes (cut mark bytes) (eqb byte mark) refl (cut_parts mark bytes)

digits_lack : (mark : ℕ) (ds : List ℕ) → mark < 48 → AllDigits 10 ds → lacks mark ds ≡ true
digits_lack mark [] low all = refl
digits_lack mark (d ∷ ds) low all =
    let range = digit_from_value d all.0 in
    rw (ne_eqb d mark (λ e. omega (arith, range.0, e))) (digits_lack mark ds low all.1)

keyword_lacks_space : (k : Keyword) → lacks 32 (keyword k) ≡ true
keyword_lacks_space words.Heap = refl
keyword_lacks_space _ = refl

keyword_lacks_feed : (k : Keyword) → lacks 10 (keyword k) ≡ true
keyword_lacks_feed words.Heap = refl
keyword_lacks_feed _ = refl

letter_lacks_space : (l : Letter) → lacks 32 (letter l ∷ []) ≡ true
letter_lacks_space letters.Frame = refl
letter_lacks_space _ = refl

letter_lacks_feed : (l : Letter) → lacks 10 (letter l ∷ []) ≡ true
letter_lacks_feed letters.Frame = refl
letter_lacks_feed _ = refl

pub token_lacks_space : (t : Token) → IsRead t → lacks 32 (token t) ≡ true
token_lacks_space (tokens.Number n) h = digits_lack 32 (decimal n) (omega arith) (digits_decimal numerals n h)
token_lacks_space (tokens.Negative n) h = absurd h
token_lacks_space (tokens.Place l n) h = lacks-append 32 (letter l ∷ []) (decimal n) (letter_lacks_space l)
    (digits_lack 32 (decimal n) (omega arith) (digits_decimal numerals n h))
token_lacks_space (tokens.Word k) h = keyword_lacks_space k

pub token_lacks_feed : (t : Token) → IsRead t → lacks 10 (token t) ≡ true
token_lacks_feed (tokens.Number n) h = digits_lack 10 (decimal n) (omega arith) (digits_decimal numerals n h)
token_lacks_feed (tokens.Negative n) h = absurd h
token_lacks_feed (tokens.Place l n) h = lacks-append 10 (letter l ∷ []) (decimal n) (letter_lacks_feed l)
    (digits_lack 10 (decimal n) (omega arith) (digits_decimal numerals n h))
token_lacks_feed (tokens.Word k) h = keyword_lacks_feed k

-- ---- the words of a line

-- cutting goes past bytes without the mark
pub cut_past : (mark : ℕ) (front back : List ℕ) → lacks mark front ≡ true
    → cut mark (front ++ back) ≡ (front ++ (cut mark back).0, (cut mark back).1)
unfolding cut
cut_past mark [] back h = refl
cut_past mark (byte ∷ front) back h =
    let both = and_parts _ _ h in
    rw (not_true (eqb byte mark) both.0, cut_past mark front back both.1) refl

-- the words that were read, before those that are still to be read
abbrev pub after : List Token → Option (List Token × List ℕ) → Option (List Token × List ℕ)
after front read = option_map (λ line. (front ++ line.0, line.1)) read

no_feed : (most : ℕ) (text : List ℕ) → lacks 10 text ≡ true → first_line most text ≡ None
unfolding first_line
no_feed most text h = rw (cut_whole 10 text h) refl

abbrev alone : List ℕ → Token → Option (List Token × List ℕ)
alone rest token = Some (token ∷ [], rest)

abbrev with_rest : List ℕ → List Token → Option (List Token × List ℕ)
with_rest rest words = Some (words, rest)

-- a word that a line feed ends
last_line : (most : ℕ) (text word rest : List ℕ) → IsWordOfLine text word true rest
    → first_line (suc most) text ≡ (token_at word >>= alone rest)
unfolding first_line tokens_at
last_line most text word rest is =
    ap (first_line (suc most)) is.whole
    ∙ rw (cut_until 10 word rest is.no_feed, cut_whole 32 word is.no_space) (by_token (token_at word))
  where
    by_token : (o : Option Token) → ((o >>= λ token. Some (token ∷ [])) >>= with_rest rest) ≡ (o >>= alone rest)
    by_token None = refl
    by_token (Some token) = refl

-- a word that a space ends, before the others
longer_line : (most : ℕ) (text word rest : List ℕ) → IsWordOfLine text word false rest
    → first_line (suc most) text ≡ (token_at word >>= λ token. after (token ∷ []) (first_line most rest))
unfolding first_line tokens_at
longer_line most text word rest is =
    ap (first_line (suc most)) is.whole
    ∙ rw (cut_past 10 word (32 ∷ rest) is.no_feed, behind_space rest, cut_until 32 word (cut 10 rest).0 is.no_space)
    (by_parts (token_at word) (cut 10 rest).1 (tokens_at most (cut 10 rest).0))
  where
    behind_space : (rest : List ℕ) → cut 10 (32 ∷ rest) ≡ (32 ∷ (cut 10 rest).0, (cut 10 rest).1)
    behind_space rest = cut_past 10 (32 ∷ []) rest refl

    by_parts : (o : Option Token) (back : Option (List ℕ)) (words : Option (List Token))
        → (back >>= λ left. (o >>= λ token. (words >>= λ others. Some (token ∷ others))) >>= with_rest left)
        ≡ (o >>= λ token. after (token ∷ []) (back >>= λ left. words >>= with_rest left))
    by_parts None None words = refl
    by_parts None (Some left) words = refl
    by_parts (Some token) None words = refl
    by_parts (Some token) (Some left) None = refl
    by_parts (Some token) (Some left) (Some ws) = refl

after_after : (front : List Token) (token : Token) (read : Option (List Token × List ℕ))
    → after front (after (token ∷ []) read) ≡ after (front ++ (token ∷ [])) read
after_after front token None = refl
after_after front token (Some line) = ap (λ (l : List Token). Some (l, line.1))
    (sym (append_assoc front (token ∷ []) line.0))

-- a space or a line feed stands first
abbrev pub IsEnd : List ℕ → Type 0
IsEnd rest = (get_or rest 0 0 ≡ 32) ⊎ (get_or rest 0 0 ≡ 10)

-- where no word ends before a space or a line feed that is a token, there is no line
pub no_token : (most : ℕ) (front : List Token) (text : List ℕ)
    → ((word rest : List ℕ) (t : Token) → text ≡ word ++ rest → IsEnd rest → token_at word ≡ Some t → ⊥)
    → after front (first_line (suc most) text) ≡ None
unfolding first_line tokens_at
no_token most front text none = ap (after front) (by_line (cut 10 text).1 refl)
  where
    by_word : (behind : List ℕ) (o : Option Token) → (cut 10 text).1 ≡ Some behind
        → token_at (cut 32 (cut 10 text).0).0 ≡ o → o ≡ None
    by_word behind None ended word = refl
    by_word behind (Some t) ended word = absurd (by_space (cut 32 (cut 10 text).0).1 refl)
      where
        joined : text ≡ (cut 10 text).0 ++ (10 ∷ behind)
        joined = (cut_parts 10 text).joined ∙ ap (λ (o : Option (List ℕ)). (cut 10 text).0 ++ behind_mark 10 o) ended

        first : List ℕ
        first = (cut 32 (cut 10 text).0).0

        whole : (back : Option (List ℕ)) → (cut 32 (cut 10 text).0).1 ≡ back
            → text ≡ first ++ (behind_mark 32 back ++ (10 ∷ behind))
        whole back is =
            joined ∙ ap (λ (l : List ℕ). l ++ (10 ∷ behind)) ((cut_parts 32 (cut 10 text).0).joined
            ∙ ap (λ (o : Option (List ℕ)). first ++ behind_mark 32 o) is)
            ∙ append_assoc first (behind_mark 32 back) (10 ∷ behind)

        by_space : (back : Option (List ℕ)) → (cut 32 (cut 10 text).0).1 ≡ back → ⊥
        by_space None is = none first (10 ∷ behind) t (whole None is) (inr refl) word
        by_space (Some rest) is = none first ((32 ∷ rest) ++ (10 ∷ behind)) t (whole (Some rest) is) (inl refl) word

    by_line : (behind : Option (List ℕ)) → (cut 10 text).1 ≡ behind → first_line (suc most) text ≡ None
    by_line None open_end = rw open_end refl
    by_line (Some behind) ended = rw (ended, by_word behind (token_at (cut 32 (cut 10 text).0).0) ended refl) refl

-- what stands first, and the rest
pub first_and_rest : (left : List ℕ) (byte : ℕ) → 0 < length left → get_or left 0 0 ≡ byte → left ≡ byte ∷ drop 1 left
first_and_rest [] byte some is = absurd (omega arith)
first_and_rest (first ∷ left) byte some is = ap (λ (b : ℕ). b ∷ left) is

-- a token that was found, and the space or line feed behind it
pub word_found : (text rest left : List ℕ) (token : Token) (last : Bool) → Begins token_at text token left
    → left ≡ end_of last ∷ rest
    → (word : List ℕ) × IsWordOfLine text word last rest × (token_at word ≡ Some token)
word_found text rest left token last begins ends =
    let is = token_takes begins.word token begins.reads in (
      begins.word,
      record {
        no_space = ap (lacks 32) is.1 ∙ token_lacks_space token is.0;
        no_feed = ap (lacks 10) is.1 ∙ token_lacks_feed token is.0;
        whole = begins.whole ∙ ap (λ (l : List ℕ). begins.word ++ l) ends;
      },
      begins.reads,
    )

pub last_word : (most : ℕ) (front : List Token) (text word rest : List ℕ) (last : Bool) (token : Token)
    → IsWordOfLine text word last rest → last ≡ true → token_at word ≡ Some token
    → after front (first_line (suc most) text) ≡ Some (front ++ (token ∷ []), rest)
last_word most front text word rest true token is ends some = rw (last_line most text word rest is, some) refl
last_word most front text word rest false token is ends some = absurd cc

pub next_word : (most : ℕ) (front : List Token) (text word rest : List ℕ) (last : Bool) (token : Token)
    → IsWordOfLine text word last rest → last ≡ false → token_at word ≡ Some token
    → after front (first_line (suc most) text) ≡ after (front ++ (token ∷ [])) (first_line most rest)
next_word most front text word rest true token is ends some = absurd cc
next_word most front text word rest false token is ends some = rw (longer_line most text word rest is, some)
    (after_after front token (first_line most rest))

pub no_more : (front : List Token) (text : List ℕ) → after front (first_line 0 text) ≡ None
unfolding first_line tokens_at
no_more front text = by_back (cut 10 text).1
  where
    by_back : (back : Option (List ℕ)) → after front (back >>= λ rest. None) ≡ None
    by_back None = refl
    by_back (Some rest) = refl

others_lack_feed : (ts : List Token) → AllByRecursion IsRead ts
    → lacks 10 (flat_map (λ word. 32 ∷ token word) ts) ≡ true
others_lack_feed [] h = refl
others_lack_feed (t ∷ ts) h = lacks-append 10 (token t) _ (token_lacks_feed t h.0) (others_lack_feed ts h.1)

-- a line feed is in no line
pub spaced_lacks_feed : (ts : List Token) → AllByRecursion IsRead ts → lacks 10 (spaced ts) ≡ true
spaced_lacks_feed [] h = refl
spaced_lacks_feed (t ∷ ts) h = lacks-append 10 (token t) _ (token_lacks_feed t h.0) (others_lack_feed ts h.1)

-- 1 to so many words
pub record IsLine (most : ℕ) (ts : List Token) : Type 0 where
  pub read : AllByRecursion IsRead ts
  pub some : 0 < length ts
  pub fit : length ts ≤ most

-- the words that were spelled are read
pub words_again : (most : ℕ) (ts : List Token) → IsLine most ts → tokens_at most (spaced ts) ≡ Some ts
unfolding tokens_at
words_again zero ts h = absurd (omega (arith, h.some, h.fit))
words_again (suc most) [] h = absurd (omega (arith, h.some))
words_again (suc most) (t ∷ []) h =
    let e : cut 32 (token t ++ []) ≡ (token t, None) = ap (cut 32) (append-nil (token t))
    ∙ cut_whole 32 (token t) (token_lacks_space t h.read.0) in
    rw (e, token_again t h.read.0) refl
words_again (suc most) (t ∷ (u ∷ us)) h =
    let e : cut 32 (spaced (t ∷ (u ∷ us))) ≡ (token t, Some (spaced (u ∷ us))) = cut_until 32 (token t)
    (spaced (u ∷ us)) (token_lacks_space t h.read.0) in
    rw (
      e,
      token_again t h.read.0,
      words_again most (u ∷ us)
          (record { read = h.read.1; some = omega arith; fit = omega (arith, h.fit) }),
    ) refl

-- the words that are read were spelled
pub record AreWords (most : ℕ) (bytes : List ℕ) (ts : List Token) : Type 0 where
  pub fit : IsLine most ts
  pub spelled : bytes ≡ spaced ts

spaced_more : (word : Token) (us : List Token) → 0 < length us → token word ++ (32 ∷ spaced us) ≡ spaced (word ∷ us)
spaced_more word [] some = absurd (omega arith)
spaced_more word (u ∷ us) some = refl

rest_takes : (most : ℕ) (bytes front : List ℕ) (back : Option (List ℕ)) (word : Token) (ts : List Token)
    → ((rest : List ℕ) (us : List Token) → tokens_at most rest ≡ Some us → AreWords most rest us)
    → IsRead word → bytes ≡ front ++ behind_mark 32 back → front ≡ token word
    → words_from word (tokens_at most) back ≡ Some ts → AreWords (suc most) bytes ts
rest_takes most bytes front None word ts again fits parts first e =
    subst (AreWords (suc most) bytes) (same_some e) (record {
      fit = record { read = (fits, tt); some = omega arith; fit = omega arith };
      spelled = parts ∙ ap (λ (l : List ℕ). l ++ []) first;
    })
rest_takes most bytes front (Some rest) word ts again fits parts first e =
    let others = some_bind (tokens_at most rest) (λ us. Some (word ∷ us)) ts e in
    let them = again rest others.0 others.1 in
    subst (AreWords (suc most) bytes) (same_some others.2) (record {
      fit = record { read = (fits, them.fit.read); some = omega arith; fit = omega (arith, them.fit.fit) };
      spelled = parts ∙ ap (λ (l : List ℕ). l ++ (32 ∷ rest)) first
          ∙ ap (λ (l : List ℕ). token word ++ (32 ∷ l)) them.spelled
          ∙ spaced_more word others.0 them.fit.some;
    })

pub words_take : (most : ℕ) (bytes : List ℕ) (ts : List Token) → tokens_at most bytes ≡ Some ts → AreWords most bytes ts
unfolding tokens_at
words_take zero bytes ts e = absurd cc
words_take (suc most) bytes ts e =
    let first = some_bind (token_at (cut 32 bytes).0)
    (λ word. words_from word (tokens_at most) (cut 32 bytes).1) ts e in
    let spelled = token_takes (cut 32 bytes).0 first.0 first.1 in
    rest_takes most bytes (cut 32 bytes).0 (cut 32 bytes).1 first.0 ts (words_take most) spelled.0
    (cut_parts 32 bytes).joined spelled.1 first.2

-- ---- the lines of a text

-- a line with its line feed, or a last one without
abbrev pub whole : List ℕ × Bool → List ℕ
whole piece = piece.0 ++ (cond piece.1 (10 ∷ []) [])

-- a line of its own is the first piece
pub pieces_line : (front rest : List ℕ) → lacks 10 front ≡ true → pieces (front ++ (10 ∷ rest)) ≡ (front, true)
    ∷ pieces rest
unfolding pieces
pieces_line [] rest h = refl
pieces_line (byte ∷ front) rest h =
    let both = and_parts _ _ h in
    rw (not_true (eqb byte 10) both.0, pieces_line front rest both.1) refl

pub pieces_last : (byte : ℕ) (front : List ℕ) → lacks 10 (byte ∷ front) ≡ true
    → pieces (byte ∷ front) ≡ (byte ∷ front, false) ∷ []
unfolding pieces
pieces_last byte [] h =
    let both = and_parts _ _ h in
    rw (not_true (eqb byte 10) both.0) refl
pieces_last byte (next ∷ front) h =
    let both = and_parts _ _ h in
    rw (not_true (eqb byte 10) both.0, pieces_last next front both.1) refl

whole_before : (byte : ℕ) (bytes : List ℕ) (ps : List (List ℕ × Bool)) → flat_map whole ps ≡ bytes
    → flat_map whole (before_line byte ps) ≡ byte ∷ bytes
whole_before byte bytes [] h = ap (λ (l : List ℕ). byte ∷ l) h
whole_before byte bytes (piece ∷ others) h = ap (λ (l : List ℕ). byte ∷ l) h

whole_first : (byte : ℕ) (bytes : List ℕ) (ps : List (List ℕ × Bool)) (b : Bool) → eqb byte 10 ≡ b
    → flat_map whole ps ≡ bytes
    → flat_map whole (cond b (([], true) ∷ ps) (before_line byte ps)) ≡ byte ∷ bytes
whole_first byte bytes ps true e h = ap (λ (l : List ℕ). 10 ∷ l) h
    ∙ ap (λ (b : ℕ). b ∷ bytes) (sym (eqb-true byte 10 e))
whole_first byte bytes ps false e h = whole_before byte bytes ps h

-- the lines together are the text
pub pieces_joined : (bytes : List ℕ) → flat_map whole (pieces bytes) ≡ bytes
unfolding pieces
pieces_joined [] = refl
pieces_joined (byte ∷ bytes) = whole_first byte bytes (pieces bytes) (eqb byte 10) refl (pieces_joined bytes)

-- the first line, cut off at its line feed
pub pieces_ended : (bytes rest : List ℕ) → (cut 10 bytes).1 ≡ Some rest
    → pieces bytes ≡ ((cut 10 bytes).0, true) ∷ pieces rest
pieces_ended bytes rest h =
    let parts = cut_parts 10 bytes in
    let joined : bytes ≡ (cut 10 bytes).0 ++ (10 ∷ rest) = parts.joined
    ∙ ap (λ (o : Option (List ℕ)). (cut 10 bytes).0 ++ behind_mark 10 o) h in
    ap pieces joined ∙ pieces_line (cut 10 bytes).0 rest parts.lack

-- a text without a line feed is one line that none ends
pub pieces_open : (bytes : List ℕ) → 0 < length bytes → (cut 10 bytes).1 ≡ None → pieces bytes ≡ (bytes, false) ∷ []
pieces_open [] some h = absurd (omega arith)
pieces_open (byte ∷ bytes) some h =
    let parts = cut_parts 10 (byte ∷ bytes) in
    let joined : byte ∷ bytes ≡ (cut 10 (byte ∷ bytes)).0 =
    parts.joined ∙ ap (λ (o : Option (List ℕ)). (cut 10 (byte ∷ bytes)).0 ++ behind_mark 10 o) h
    ∙ append-nil (cut 10 (byte ∷ bytes)).0 in
    pieces_last byte bytes (ap (lacks 10) joined ∙ parts.lack)

-- what stands behind a mark is shorter than the whole
pub cut_shorter : (mark : ℕ) (bytes rest : List ℕ) → (cut mark bytes).1 ≡ Some rest → length rest < length bytes
cut_shorter mark bytes rest h =
    let joined : bytes ≡ (cut mark bytes).0 ++ (mark ∷ rest) =
    (cut_parts mark bytes).joined ∙ ap (λ (o : Option (List ℕ)). (cut mark bytes).0 ++ behind_mark mark o) h in
    omega (arith, ap length joined, length-append (cut mark bytes).0 (mark ∷ rest))
