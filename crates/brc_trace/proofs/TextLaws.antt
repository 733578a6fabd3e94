-- A trace is read as it was spelled, and only so.
use Rattle.std.proofs.Common.{◌≡◌, ℕ, ◌+◌, ◌≤◌, Bool, true, false, cond, ◌&&◌, List, [], ◌∷◌, ◌++◌, length, Option}
use Rattle.std.proofs.Common.{Some, None, Result, Ok, Err, refl, sym, ap, subst, ◌∙◌, ◌==◌, append_assoc, arith, leb}
use Rattle.std.proofs.Common.{ltb}
use Rattle.std.specs.List.{flat_map}
use Rattle.std.proofs.lemmas.Option.{cond_some}
use Rattle.std.proofs.lemmas.Bool.{and_parts, and_from, eqb-true, leb-true, ltb-false, le-ltb}
use Rattle.brc_words.specs.declared.limits.TheConstants.{FEWEST_CELLS, MOST_CELLS, MOST_LOCAL, MOST_INPUT}
use Rattle.law.specs.declared.world.edition.Edition.{Edition}
use Rattle.law.specs.declared.world.edition.Edition.TheVariants as editions
use Rattle.law.specs.declared.world.event.Event.{Event}
use Rattle.brc_text.specs.declared.keyword.Keyword.TheVariants as words
use Rattle.brc_text.specs.declared.token.Token.{Token}
use Rattle.brc_text.specs.declared.token.Token.TheVariants as tokens
use Rattle.brc_text.specs.Lines.{tokens_at, spaced, line, pieces}
use Rattle.brc_text.proofs.TokenLaws.{some_bind}
use Rattle.brc_text.proofs.LineLaws.{IsLine, words_again, words_take, spaced_lacks_feed, whole, pieces_line}
use Rattle.brc_text.proofs.LineLaws.{pieces_joined}
use Rattle.brc_trace.specs.Events.{event_words, event_at, fits}
use Rattle.brc_trace.specs.Traces.{Listing, IsTrace, is_size, is_limit, all_fit, mark_words, mark_text, mark_at}
use Rattle.brc_trace.specs.Traces.{head_words, head_at, headed_text, trace_text, by_words, before_others, events_at}
use Rattle.brc_trace.specs.Traces.{first_number, below_head, headed_at, below_mark, lines_at, trace_at}
use Rattle.brc_trace.proofs.EventLaws.{event_again, event_takes, event_line}

pub same_ok : {A E : Type 0} {x y : A} → ◌≡◌ {A = Result A E} (Ok x) (Ok y) → x ≡ y
same_ok {A = A} {E = E} {x = x} {y = y} e = ap value e
  where
    value : Result A E → A
    value (Ok z) = z
    value (Err d) = x

-- ---- one line

line_again : {A : Type 0} (read : List Token → Option A) (ts : List Token) (o : Option A) → IsLine 8 ts → read ts ≡ o
    → by_words read (spaced ts, true) ≡ o
line_again read ts o fit h = rw (words_again 8 ts fit) h

-- words that stand in a line, with what they are read as
record IsRead {A : Type 0} (read : List Token → Option A) (piece : List ℕ × Bool) (x : A) : Type 0 where
  words : List Token
  reads : read words ≡ Some x
  spelled : whole piece ≡ line words

line_takes : {A : Type 0} (read : List Token → Option A) (front : List ℕ) (ended : Bool) (x : A)
    → by_words read (front, ended) ≡ Some x
    → IsRead read (front, ended) x
line_takes read front true x e =
    let words = some_bind (tokens_at 8 front) read x e in
    let them = words_take 8 front words.0 words.1 in
    record { words = words.0; reads = words.2; spelled = ap (λ (l : List ℕ). l ++ (10 ∷ [])) them.spelled }
line_takes read front false x e = absurd cc

line_first : (ts : List Token) (rest : List ℕ) → IsLine 8 ts → pieces (line ts ++ rest) ≡ (spaced ts, true)
    ∷ pieces rest
line_first ts rest fit =
    ap pieces (append_assoc (spaced ts) (10 ∷ []) rest) ∙ pieces_line (spaced ts) rest (spaced_lacks_feed ts fit.read)

-- ---- the events

abbrev pub events_text : List Event → List ℕ
events_text events = flat_map (λ event. line (event_words event)) events

events_again : (edition : Edition) (number : ℕ) (es : List Event) → all_fit edition es ≡ true
    → events_at edition number (pieces (events_text es)) ≡ Ok es
unfolding events_at pieces
events_again edition number [] h = refl
events_again edition number (e ∷ es) h =
    let both = and_parts (fits edition e) (all_fit edition es) h in
    let fit = event_line edition e both.0 in
    ap (events_at edition number) (line_first (event_words e) (events_text es) fit)
    ∙ rw (
      line_again (event_at edition) (event_words e) (Some e) fit (event_again edition e both.0),
      events_again edition (number + 1) es both.1,
    ) refl

pub record AreEvents (edition : Edition) (ps : List (List ℕ × Bool)) (es : List Event) : Type 0 where
  pub fit : all_fit edition es ≡ true
  pub spelled : flat_map whole ps ≡ events_text es

event_first : (edition : Edition) (number : ℕ) (piece : List ℕ × Bool) (ps : List (List ℕ × Bool))
    (first : Option Event) (later : Result (List Event) ℕ) (es : List Event)
    → ((e : Event) → first ≡ Some e → IsRead (event_at edition) piece e)
    → ((us : List Event) → later ≡ Ok us → AreEvents edition ps us)
    → before_others number first later ≡ Ok es → AreEvents edition (piece ∷ ps) es
event_first edition number piece ps None later es here there e = absurd cc
event_first edition number piece ps (Some x) (Err bad) es here there e = absurd cc
event_first edition number piece ps (Some x) (Ok us) es here there e =
    let this = here x refl in
    let spell = event_takes edition this.words x this.reads in
    let others = there us refl in
    subst (AreEvents edition (piece ∷ ps)) (same_ok e) (record {
      fit = and_from (fits edition x) (all_fit edition us) spell.fit others.fit;
      spelled = ap (λ (l : List ℕ). l ++ flat_map whole ps) (this.spelled ∙ ap line (sym spell.are))
          ∙ ap (λ (l : List ℕ). line (event_words x) ++ l) others.spelled;
    })

pub events_take : (edition : Edition) (number : ℕ) (ps : List (List ℕ × Bool)) (es : List Event)
    → events_at edition number ps ≡ Ok es → AreEvents edition ps es
unfolding events_at
events_take edition number [] es e = subst (AreEvents edition []) (same_ok e) (record { fit = refl; spelled = refl })
events_take edition number (piece ∷ ps) es e =
    event_first edition number piece ps (by_words (event_at edition) piece) (events_at edition (number + 1) ps) es
    (λ x h. line_takes (event_at edition) piece.0 piece.1 x h) (events_take edition (number + 1) ps) e

pub events_fit : (edition : Edition) (number : ℕ) (ps : List (List ℕ × Bool)) (es : List Event)
    → events_at edition number ps ≡ Ok es → all_fit edition es ≡ true
events_fit edition number ps es e = (events_take edition number ps es e).fit

-- ---- the head

head_line : (cells local_limit : ℕ) → is_size cells ≡ true → is_limit local_limit ≡ true
    → IsLine 8 (head_words cells local_limit)
head_line cells local_limit size limit = record {
  read = (
    tt,
    (
      omega (arith, leb-true cells MOST_CELLS (and_parts (leb FEWEST_CELLS cells) (leb cells MOST_CELLS) size).1),
      (
        omega (
          arith,
          leb-true local_limit MOST_LOCAL
              (and_parts (leb 1 local_limit) (leb local_limit MOST_LOCAL) limit).1,
        ),
        tt,
      ),
    ),
  );
  some = omega arith;
  fit = omega arith;
}

head_again : (cells local_limit : ℕ) → is_size cells ≡ true → is_limit local_limit ≡ true
    → head_at (head_words cells local_limit) ≡ Some (cells, local_limit)
head_again cells local_limit size limit = rw (size, limit) refl

-- the words ask for a heap of this size and limit
pub record AreHead (ts : List Token) (head : ℕ × ℕ) : Type 0 where
  pub size : is_size head.0 ≡ true
  pub limit : is_limit head.1 ≡ true
  pub are : head_words head.0 head.1 ≡ ts

pub head_takes : (ts : List Token) (head : ℕ × ℕ) → head_at ts ≡ Some head → AreHead ts head
head_takes (tokens.Word words.Heap ∷ tokens.Number cells ∷ tokens.Number local_limit ∷ []) head e =
    let tests = cond_some (is_size cells && is_limit local_limit) (cells, local_limit) head e in
    let both = and_parts (is_size cells) (is_limit local_limit) tests.0 in
    subst (AreHead (head_words cells local_limit)) tests.1 (record { size = both.0; limit = both.1; are = refl })
head_takes _ head e = absurd cc

-- ---- the mark

mark_line : IsLine 8 mark_words
mark_line = record { read = (tt, (omega arith, tt)); some = omega arith; fit = omega arith }

-- the line of a mark is that of its edition
mark_takes : (ts : List Token) (edition : Edition) → mark_at ts ≡ Some edition → line ts ≡ mark_text edition
mark_takes (tokens.Word words.Trace ∷ tokens.Number n ∷ []) edition e =
    let test = cond_some (n == 2) editions.Two edition e in
    ap (λ (m : ℕ). line (tokens.Word words.Trace ∷ tokens.Number m ∷ [])) (eqb-true n 2 test.0) ∙ ap mark_text test.1
mark_takes _ edition e = absurd cc

-- ---- the whole text

pub record IsSpelled (text : List ℕ) (trace : Listing) : Type 0 where
  pub is : IsTrace trace
  pub short : length text ≤ MOST_INPUT
  pub spelled : text ≡ trace_text trace

-- the text, from its head on, spells a trace of this edition
record IsHeaded (edition : Edition) (text : List ℕ) (trace : Listing) : Type 0 where
  is : IsTrace trace
  edition_is : edition ≡ trace.edition
  spelled : text ≡ headed_text trace

-- what was spelled is read, from the head on
headed_again : (trace : Listing) → IsTrace trace → headed_at trace.edition (pieces (headed_text trace)) ≡ Ok trace
unfolding headed_at
headed_again trace is =
    let fit = head_line trace.cells trace.local_limit is.size is.limit in
    let head = line_again head_at (head_words trace.cells trace.local_limit) (Some (trace.cells, trace.local_limit)) fit
    (head_again trace.cells trace.local_limit is.size is.limit) in
    ap (headed_at trace.edition) (line_first (head_words trace.cells trace.local_limit) (events_text trace.events) fit)
    ∙ rw (head, events_again trace.edition (first_number trace.edition) trace.events is.events) refl

-- a head's line is no mark
unmarked : (cells local_limit : ℕ) (rest : List ℕ) → is_size cells ≡ true → is_limit local_limit ≡ true
    → lines_at (pieces (line (head_words cells local_limit) ++ rest)) ≡ headed_at editions.One
    (pieces (line (head_words cells local_limit) ++ rest))
unfolding lines_at
unmarked cells local_limit rest size limit =
    let fit = head_line cells local_limit size limit in
    let first = line_first (head_words cells local_limit) rest fit in
    let none = line_again mark_at (head_words cells local_limit) None fit refl in
    ap lines_at first ∙ ap (λ (o : Option Edition). below_mark o (spaced (head_words cells local_limit), true)
    (pieces rest)) none
    ∙ ap (headed_at editions.One) (sym first)

-- behind the mark, if there is one, the head is read
mark_again : (edition : Edition) (trace : Listing) → IsTrace trace
    → lines_at (pieces (mark_text edition ++ headed_text trace)) ≡ headed_at edition (pieces (headed_text trace))
unfolding lines_at
mark_again editions.One trace is = unmarked trace.cells trace.local_limit (events_text trace.events) is.size is.limit
mark_again editions.Two trace is =
    ap lines_at (line_first mark_words (headed_text trace) mark_line)
    ∙ ap (λ (o : Option Edition). below_mark o (spaced mark_words, true) (pieces (headed_text trace)))
    (line_again mark_at mark_words (Some editions.Two) mark_line refl)

-- what was spelled is read
pub trace_again : (trace : Listing) → IsTrace trace → length (trace_text trace) ≤ MOST_INPUT
    → trace_at (trace_text trace) ≡ Ok trace
unfolding trace_at trace_text
trace_again trace is short =
    ap (λ (b : Bool). cond b (Err 0) (lines_at (pieces (trace_text trace))))
    (le-ltb MOST_INPUT (length (trace_text trace)) short)
    ∙ mark_again trace.edition trace is ∙ headed_again trace is

head_first : (edition : Edition) (piece : List ℕ × Bool) (ps : List (List ℕ × Bool)) (head : Option (ℕ × ℕ))
    (events : Result (List Event) ℕ) (trace : Listing)
    → ((n : ℕ × ℕ) → head ≡ Some n → IsRead head_at piece n)
    → ((es : List Event) → events ≡ Ok es → AreEvents edition ps es)
    → below_head edition head events ≡ Ok trace → IsHeaded edition (whole piece ++ flat_map whole ps) trace
head_first edition piece ps None events trace here there e = absurd cc
head_first edition piece ps (Some n) (Err bad) trace here there e = absurd cc
head_first edition piece ps (Some n) (Ok es) trace here there e =
    let this = here n refl in
    let spell = head_takes this.words n this.reads in
    let others = there es refl in
    subst (IsHeaded edition (whole piece ++ flat_map whole ps)) (same_ok e) (record {
      is = record { size = spell.size; limit = spell.limit; events = others.fit };
      edition_is = refl;
      spelled = ap (λ (l : List ℕ). l ++ flat_map whole ps) (this.spelled ∙ ap line (sym spell.are))
          ∙ ap (λ (l : List ℕ). line (head_words n.0 n.1) ++ l) others.spelled;
    })

headed_take : (edition : Edition) (ps : List (List ℕ × Bool)) (trace : Listing) → headed_at edition ps ≡ Ok trace
    → IsHeaded edition (flat_map whole ps) trace
unfolding headed_at
headed_take edition [] trace e = absurd cc
headed_take edition (piece ∷ ps) trace e =
    head_first edition piece ps (by_words head_at piece) (events_at edition (first_number edition) ps) trace
    (λ n h. line_takes head_at piece.0 piece.1 n h) (events_take edition (first_number edition) ps) e

-- the mark and what stands behind it
mark_first : (piece : List ℕ × Bool) (ps : List (List ℕ × Bool)) (mark : Option Edition) (text : List ℕ)
    (trace : Listing)
    → ((edition : Edition) → mark ≡ Some edition → IsRead mark_at piece edition)
    → whole piece ++ flat_map whole ps ≡ text → length text ≤ MOST_INPUT
    → below_mark mark piece ps ≡ Ok trace → IsSpelled text trace
unfolding trace_text
mark_first piece ps None text trace here joined short e =
    let it = headed_take editions.One (piece ∷ ps) trace e in
    record {
      is = it.is;
      short = short;
      spelled = sym joined ∙ it.spelled
          ∙ ap (λ (d : Edition). mark_text d ++ headed_text trace) it.edition_is;
    }
mark_first piece ps (Some edition) text trace here joined short e =
    let this = here edition refl in
    let it = headed_take edition ps trace e in
    record {
      is = it.is;
      short = short;
      spelled = sym joined ∙ ap (λ (l : List ℕ). l ++ flat_map whole ps) (this.spelled
          ∙ mark_takes this.words edition this.reads)
          ∙ ap (λ (l : List ℕ). mark_text edition ++ l) it.spelled
          ∙ ap (λ (d : Edition). mark_text d ++ headed_text trace) it.edition_is;
    }

lines_take : (ps : List (List ℕ × Bool)) (text : List ℕ) (trace : Listing) → flat_map whole ps ≡ text
    → length text ≤ MOST_INPUT
    → lines_at ps ≡ Ok trace → IsSpelled text trace
unfolding lines_at
lines_take [] text trace joined short e = absurd cc
lines_take (piece ∷ ps) text trace joined short e =
    mark_first piece ps (by_words mark_at piece) text trace (λ edition h. line_takes mark_at piece.0 piece.1 edition h)
    joined short e

short_text : (b : Bool) (text : List ℕ) (trace : Listing) → ltb MOST_INPUT (length text) ≡ b
    → cond b (Err 0) (lines_at (pieces text)) ≡ Ok trace
    → IsSpelled text trace
short_text true text trace h e = absurd cc
short_text false text trace h e = lines_take (pieces text) text trace (pieces_joined text)
    (ltb-false MOST_INPUT (length text) h) e

-- what is read was spelled
pub trace_takes : (text : List ℕ) (trace : Listing) → trace_at text ≡ Ok trace → IsSpelled text trace
unfolding trace_at
trace_takes text trace e = short_text (ltb MOST_INPUT (length text)) text trace refl e
