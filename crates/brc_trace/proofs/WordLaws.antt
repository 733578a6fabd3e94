-- The words of a line, one after the other, and a word that is read as a line by itself.
use Rattle.std.proofs.Common.{◌≡◌, ◌∙◌, ℕ, suc, ◌+◌, ◌-◌, ◌<◌, ◌==◌, ◌&&◌, not, Bool, true, false, List, [], ◌∷◌}
use Rattle.std.proofs.Common.{◌++◌, Option, Some, None, is_some, refl, sym, ap, subst, add-one, below_more, arith}
use Rattle.brc_text.specs.declared.token.Token.{Token}
use Rattle.brc_text.specs.Tokens.{◌>>=◌, token_at}
use Rattle.brc_text.specs.Lines.{cut, lacks, tokens_at, words_from, first_line}
use Rattle.brc_text.proofs.KeywordLaws.{same_some}
use Rattle.brc_text.proofs.LineLaws.{cut_until, cut_whole, cut_parts, behind_mark}
use Rattle.brc_trace.specs.Causes.{behind_words, word_at}
use Rattle.brc_trace.proofs.ReasonLaws.{first_true, second_true}

-- ---- what a part of a line lacks

both_true : (a b : Bool) → a ≡ true → b ≡ true → (a && b) ≡ true
both_true a b is also = rw (is, also) refl

lacks_parts : (mark : ℕ) (xs ys : List ℕ) → lacks mark (xs ++ ys) ≡ true
    → (lacks mark xs ≡ true) × (lacks mark ys ≡ true)
lacks_parts mark [] ys none = (refl, none)
lacks_parts mark (x ∷ xs) ys none =
    let rest = lacks_parts mark xs ys (second_true (not (x == mark)) (lacks mark (xs ++ ys)) none) in (
      both_true (not (x == mark)) (lacks mark xs) (first_true (not (x == mark)) (lacks mark (xs ++ ys)) none) rest.0,
      rest.1,
    )

lacks_joined : (mark other : ℕ) (bytes : List ℕ) → lacks mark bytes ≡ true
    → (lacks mark (cut other bytes).0 ≡ true) × (lacks mark (behind_mark other (cut other bytes).1) ≡ true)
lacks_joined mark other bytes none =
    lacks_parts mark (cut other bytes).0 (behind_mark other (cut other bytes).1)
    (subst (λ (l : List ℕ). lacks mark l ≡ true) (cut_parts other bytes).joined none)

pub word_lacks : (mark : ℕ) (bytes word : List ℕ) → word ≡ (cut 32 bytes).0 → lacks mark bytes ≡ true
    → lacks mark word ≡ true
word_lacks mark bytes word is none = ap (lacks mark) is ∙ (lacks_joined mark 32 bytes none).0

pub word_lacks_space : (bytes word : List ℕ) → word ≡ (cut 32 bytes).0 → lacks 32 word ≡ true
word_lacks_space bytes word is = ap (lacks 32) is ∙ (cut_parts 32 bytes).lack

pub below_lacks : (mark : ℕ) (bytes below : List ℕ) → (cut 32 bytes).1 ≡ Some below → lacks mark bytes ≡ true
    → lacks mark below ≡ true
below_lacks mark bytes below behind none =
    second_true (not (32 == mark)) (lacks mark below)
    (ap (λ (o : Option (List ℕ)). lacks mark (behind_mark 32 o)) (sym behind) ∙ (lacks_joined mark 32 bytes none).1)

-- ---- a word by itself

abbrev as_line : List ℕ → Option (List Token) → Option (List Token × List ℕ)
as_line rest words = words >>= λ them. Some (them, rest)

abbrev line_of_parts : List ℕ × Option (List ℕ) → Option (List Token × List ℕ)
line_of_parts parts = parts.1 >>= λ rest. as_line rest (tokens_at 8 parts.0)

line_is : (text : List ℕ) → first_line 8 text ≡ line_of_parts (cut 10 text)
unfolding first_line
line_is text = refl

abbrev words_of_parts : ℕ → List ℕ × Option (List ℕ) → Option (List Token)
words_of_parts left parts = token_at parts.0 >>= λ word. words_from word (tokens_at left) parts.1

words_are : (left : ℕ) (bytes : List ℕ) → tokens_at (suc left) bytes ≡ words_of_parts left (cut 32 bytes)
unfolding tokens_at
words_are left bytes = refl

as_line_there : (rest : List ℕ) (words : Option (List Token)) → is_some (as_line rest words) ≡ is_some words
as_line_there rest None = refl
as_line_there rest (Some words) = refl

one_there : (left : ℕ) (token : Option Token)
    → is_some (token >>= λ word. words_from word (tokens_at left) None) ≡ is_some token
one_there left None = refl
one_there left (Some token) = refl

pub read_alone : (word : List ℕ) → lacks 10 word ≡ true → lacks 32 word ≡ true
    → is_some (first_line 8 (word ++ 10 ∷ [])) ≡ is_some (token_at word)
read_alone word feed space =
    ap (λ (o : Option (List Token × List ℕ)). is_some o) (line_is (word ++ 10 ∷ [])
    ∙ ap line_of_parts (cut_until 10 word [] feed))
    ∙ as_line_there [] (tokens_at 8 word)
    ∙ ap (λ (o : Option (List Token)). is_some o) (words_are 7 word
    ∙ ap (words_of_parts 7) (cut_whole 32 word space))
    ∙ one_there 7 (token_at word)

-- so a reader of lines tells of a word whether it is one of a trace
pub alone_read : (word text : List ℕ) (read : List Token × List ℕ) → lacks 10 word ≡ true → lacks 32 word ≡ true
    → text ≡ word ++ 10 ∷ [] → first_line 8 text ≡ Some read → is_some (token_at word) ≡ true
alone_read word text read feed space is found =
    sym (read_alone word feed space)
    ∙ ap (λ (l : List ℕ). is_some (first_line 8 l)) (sym is)
    ∙ ap (λ (o : Option (List Token × List ℕ)). is_some o) found

pub alone_unread : (word text : List ℕ) → lacks 10 word ≡ true → lacks 32 word ≡ true
    → text ≡ word ++ 10 ∷ [] → first_line 8 text ≡ None → is_some (token_at word) ≡ false
alone_unread word text feed space is none =
    sym (read_alone word feed space)
    ∙ ap (λ (l : List ℕ). is_some (first_line 8 l)) (sym is)
    ∙ ap (λ (o : Option (List Token × List ℕ)). is_some o) none

-- ---- word after word

pub begins : (line : List ℕ) → behind_words 0 line ≡ Some line
unfolding behind_words
begins line = refl

pub next_behind : (line rest below : List ℕ) (n : ℕ) → behind_words n line ≡ Some rest → (cut 32 rest).1 ≡ Some below
    → behind_words (n + 1) line ≡ Some below
unfolding behind_words
next_behind line rest below n so_far next =
    ap (λ (m : ℕ). behind_words m line) (add-one n)
    ∙ ap (λ (o : Option (List ℕ)). o >>= λ r. (cut 32 r).1) so_far ∙ next

pub word_here : (line rest word : List ℕ) (n : ℕ) → behind_words n line ≡ Some rest → word ≡ (cut 32 rest).0
    → word_at n line ≡ Some word
word_here line rest word n so_far is =
    ap (λ (o : Option (List ℕ)). o >>= λ r. Some (cut 32 r).0) so_far ∙ ap (λ (l : List ℕ). Some l) (sym is)

-- the words of the line below this one are words of a trace
pub record AreKnown (line : List ℕ) (n : ℕ) : Type 0 where
  pub known : (k : ℕ) → k < n → (word : List ℕ) → word_at k line ≡ Some word → is_some (token_at word) ≡ true

pub none_known : (line : List ℕ) → AreKnown line 0
none_known line = record { known = λ k within word there. absurd (omega (arith, within)) }

pub next_known : (line rest word : List ℕ) (n : ℕ) → behind_words n line ≡ Some rest → word ≡ (cut 32 rest).0
    → is_some (token_at word) ≡ true → AreKnown line n → AreKnown line (n + 1)
next_known line rest word n so_far is known before = record {
  known = below_more (λ (k : ℕ). (other : List ℕ) → word_at k line ≡ Some other → is_some (token_at other) ≡ true) n
      before.known
      (λ other there.
      subst (λ (l : List ℕ). is_some (token_at l) ≡ true)
      (same_some (sym (word_here line rest word n so_far is) ∙ there)) known);
}

-- ---- what can't be read

nothing_some : {A : Type 0} {x : A} → ◌≡◌ {A = Option A} (Some x) None → ⊥
nothing_some is = cc

unread_behind : (left : ℕ) (token : Token) (words : Option (List Token))
    → (words >>= λ others. Some (token ∷ others)) ≡ None → words ≡ None
unread_behind left token None is = refl
unread_behind left token (Some words) is = absurd (nothing_some is)

by_parts : (left : ℕ) (found : Option Token) (behind : Option (List ℕ)) (below : List ℕ) → is_some found ≡ true
    → behind ≡ Some below → (found >>= λ word. words_from word (tokens_at left) behind) ≡ None
    → tokens_at left below ≡ None
by_parts left None behind below known next unread = absurd cc
by_parts left (Some token) None below known next unread = absurd (nothing_some (sym next))
by_parts left (Some token) (Some there) below known next unread =
    subst (λ (l : List ℕ). tokens_at left l ≡ None) (same_some next)
    (unread_behind left token (tokens_at left there) unread)

ended_parts : (left : ℕ) (found : Option Token) (behind : Option (List ℕ)) → is_some found ≡ true → behind ≡ None
    → (found >>= λ word. words_from word (tokens_at left) behind) ≡ None → ⊥
ended_parts left None behind known next unread = cc
ended_parts left (Some token) None known next unread = nothing_some unread
ended_parts left (Some token) (Some there) known next unread = nothing_some next

-- the words behind a word of a trace can't be read
pub next_unread : (rest word below : List ℕ) (n : ℕ) → n < 8 → word ≡ (cut 32 rest).0
    → is_some (token_at word) ≡ true → (cut 32 rest).1 ≡ Some below → tokens_at (8 - n) rest ≡ None
    → tokens_at (8 - (n + 1)) below ≡ None
next_unread rest word below n within is known next unread =
    let left : 8 - n ≡ suc (8 - (n + 1)) = omega arith in
    by_parts (8 - (n + 1)) (token_at (cut 32 rest).0) (cut 32 rest).1 below
    (subst (λ (l : List ℕ). is_some (token_at l) ≡ true) is known) next
    (sym (words_are (8 - (n + 1)) rest) ∙ ap (λ (m : ℕ). tokens_at m rest) (sym left) ∙ unread)

-- and there are such
pub never_ended : (rest word : List ℕ) (n : ℕ) → n < 8 → word ≡ (cut 32 rest).0 → is_some (token_at word) ≡ true
    → (cut 32 rest).1 ≡ None → tokens_at (8 - n) rest ≡ None → ⊥
never_ended rest word n within is known next unread =
    let left : 8 - n ≡ suc (8 - (n + 1)) = omega arith in
    ended_parts (8 - (n + 1)) (token_at (cut 32 rest).0) (cut 32 rest).1
    (subst (λ (l : List ℕ). is_some (token_at l) ≡ true) is known) next
    (sym (words_are (8 - (n + 1)) rest) ∙ ap (λ (m : ℕ). tokens_at m rest) (sym left) ∙ unread)
