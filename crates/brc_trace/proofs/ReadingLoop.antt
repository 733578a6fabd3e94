-- One turn of the reading of lines, and what the whole text then spells.
use Rattle.std.proofs.Common.{◌≡◌, ◌∙◌, ℕ, ◌+◌, ◌<◌, ◌≤◌, Bool, true, false, List, [], ◌∷◌, ◌++◌, length, Option, Some}
use Rattle.std.proofs.Common.{None, Result, Ok, Err, refl, sym, ap, subst, append_assoc, arith}
use Rattle.std.proofs.lemmas.Bool.{lt-ltb, le-ltb}
use Rattle.brc_words.specs.declared.fault.Fault.{Fault}
use Rattle.brc_words.specs.declared.fault.Fault.TheVariants as faults
use Rattle.brc_words.specs.declared.fault.Reason.TheVariants as reasons
use Rattle.brc_words.specs.declared.limits.TheConstants.{MOST_INPUT}
use Rattle.law.specs.declared.world.edition.Edition.{Edition}
use Rattle.law.specs.declared.world.edition.Edition.TheVariants as editions
use Rattle.law.specs.declared.world.event.Event.{Event}
use Rattle.brc_text.specs.declared.token.Token.{Token}
use Rattle.brc_text.specs.Tokens.{◌>>=◌}
use Rattle.brc_text.specs.Lines.{cut, tokens_at, first_line, pieces}
use Rattle.brc_text.proofs.KeywordLaws.{same_some}
use Rattle.brc_text.proofs.TokenLaws.{some_bind}
use Rattle.brc_text.proofs.LineLaws.{pieces_ended, pieces_open, cut_shorter}
use Rattle.brc_trace.specs.Events.{event_at}
use Rattle.brc_trace.specs.Traces.{Listing, by_words, by_line, before_others, events_at, mark_at, head_at, head_number}
use Rattle.brc_trace.specs.Traces.{first_number, below_head, headed_at, below_mark, lines_at, trace_at, RefusesTrace}

-- ---- the first line of a text

abbrev before : {A : Type 0} → List ℕ → A → Option (A × List ℕ)
before rest x = Some (x, rest)

abbrev read_first : {A : Type 0} → (List Token → Option A) → List Token × List ℕ → Option (A × List ℕ)
read_first read first = read first.0 >>= before first.1

pub no_words : {A : Type 0} (read : List Token → Option A) (text : List ℕ) → first_line 8 text ≡ None
    → by_line read text ≡ None
no_words read text none = ap (λ (o : Option (List Token × List ℕ)). o >>= read_first read) none

pub words_unread : {A : Type 0} (read : List Token → Option A) (text : List ℕ) (words : List Token) (rest : List ℕ)
    → first_line 8 text ≡ Some (words, rest)
    → read words ≡ None → by_line read text ≡ None
words_unread {A = A} read text words rest some none =
    ap (λ (o : Option (List Token × List ℕ)). o >>= read_first read) some
    ∙ ap (λ (o : Option A). o >>= before rest) none

pub words_read : {A : Type 0} (read : List Token → Option A) (text : List ℕ) (words : List Token) (rest : List ℕ)
    (x : A) → first_line 8 text ≡ Some (words, rest)
    → read words ≡ Some x → by_line read text ≡ Some (x, rest)
words_read {A = A} read text words rest x some reads =
    ap (λ (o : Option (List Token × List ℕ)). o >>= read_first read) some
    ∙ ap (λ (o : Option A). o >>= before rest) reads

-- the text's first line is read so, and the rest stands behind it
pub record HasLine {A : Type 0} (read : List Token → Option A) (text : List ℕ) (x : A) (rest : List ℕ) : Type 0 where
  pub ended : (cut 10 text).1 ≡ Some rest
  pub pieces_are : pieces text ≡ ((cut 10 text).0, true) ∷ pieces rest
  pub reads : by_words read ((cut 10 text).0, true) ≡ Some x
  pub words : List Token
  pub read_here : read words ≡ Some x
  pub shorter : length rest < length text

pub has_line : {A : Type 0} (read : List Token → Option A) (text : List ℕ) (x : A) (rest : List ℕ)
    → by_line read text ≡ Some (x, rest) → HasLine read text x rest
unfolding first_line
has_line read text x rest e =
    let line = some_bind (first_line 8 text) (λ first. read first.0 >>= λ y. Some (y, first.1)) (x, rest) e in
    let behind = some_bind (cut 10 text).1 (λ left. tokens_at 8 (cut 10 text).0 >>= λ ws. Some (ws, left))
    line.0 line.1 in
    let words = some_bind (tokens_at 8 (cut 10 text).0) (λ ws. Some (ws, behind.0)) line.0 behind.2 in
    let reading = some_bind (read line.0.0) (λ y. Some (y, line.0.1)) (x, rest) line.2 in
    let pair = same_some words.2 in
    let result = same_some reading.2 in
    let these : words.0 ≡ line.0.0 = ap (λ p. p.0) pair in
    let left : behind.0 ≡ rest = ap (λ p. p.1) pair ∙ ap (λ p. p.1) result in
    let ended : (cut 10 text).1 ≡ Some rest = behind.1 ∙ ap (λ (l : List ℕ). Some l) left in
    let here : read line.0.0 ≡ Some x = reading.1 ∙ ap (λ p. Some (p.0)) result in
    record {
      ended = ended;
      pieces_are = pieces_ended text rest ended;
      reads = ap (λ (o : Option (List Token)). o >>= read) words.1 ∙ ap read these ∙ here;
      words = line.0.0;
      read_here = here;
      shorter = cut_shorter 10 text rest ended;
    }

-- words that are read as nothing
not_read : {A : Type 0} (read : List Token → Option A) (rest : List ℕ) (o : Option (List Token))
    → ((o >>= before rest) >>= read_first read) ≡ None → (o >>= read) ≡ None
not_read read rest None h = refl
not_read {A = A} read rest (Some ws) h = by_reading (read ws) h
  where
    by_reading : (o : Option A) → (o >>= before rest) ≡ None → o ≡ None
    by_reading None h = refl
    by_reading (Some y) h = absurd cc

-- the text begins with no line that is read
pub has_no_line : {A : Type 0} (read : List Token → Option A) (byte : ℕ) (text : List ℕ)
    → by_line read (byte ∷ text) ≡ None
    → (first : List ℕ × Bool) × (later : List (List ℕ × Bool)) × (pieces (byte ∷ text) ≡ first ∷ later)
    × (by_words read first ≡ None)
unfolding first_line
has_no_line read byte text e = by_end (cut 10 (byte ∷ text)).1 refl
  where
    by_end : (behind : Option (List ℕ)) → (cut 10 (byte ∷ text)).1 ≡ behind
        → (first : List ℕ × Bool) × (later : List (List ℕ × Bool)) × (pieces (byte ∷ text) ≡ first ∷ later)
        × (by_words read first ≡ None)
    by_end None h = ((byte ∷ text, false), [], pieces_open (byte ∷ text) (omega arith) h, refl)
    by_end (Some rest) h = (
      ((cut 10 (byte ∷ text)).0, true),
      pieces rest,
      pieces_ended (byte ∷ text) rest h,
      not_read read rest (tokens_at 8 (cut 10 (byte ∷ text)).0)
          (sym (ap (λ (o : Option (List ℕ)). (o >>= λ left. tokens_at 8 (cut 10 (byte ∷ text)).0 >>= before left) >>=
          read_first read) h) ∙ e),
    )

-- ---- one turn

-- the events that were read, before those that are still to be read
abbrev pub with_front : List Event → Result (List Event) ℕ → Result (List Event) ℕ
with_front front (Ok events) = Ok (front ++ events)
with_front front (Err bad) = Err bad

pub bad_line : (edition : Edition) (number : ℕ) (rest : List ℕ) → 0 < length rest
    → by_line (event_at edition) rest ≡ None
    → events_at edition number (pieces rest) ≡ Err number
unfolding events_at
bad_line edition number [] some none = absurd (omega arith)
bad_line edition number (byte ∷ rest) some none =
    let them = has_no_line (event_at edition) byte rest none in
    ap (events_at edition number) them.2
    ∙ ap (λ (o : Option Event). before_others number o (events_at edition (number + 1) them.1)) them.3

pub good_line : (edition : Edition) (number : ℕ) (rest behind : List ℕ) (event : Event)
    → by_line (event_at edition) rest ≡ Some (event, behind)
    → events_at edition number (pieces rest) ≡ before_others number (Some event)
    (events_at edition (number + 1) (pieces behind))
unfolding events_at
good_line edition number rest behind event some =
    let it = has_line (event_at edition) rest event behind some in
    ap (events_at edition number) it.pieces_are
    ∙ ap (λ (o : Option Event). before_others number o (events_at edition (number + 1) (pieces behind))) it.reads

pub line_shorter : (edition : Edition) (rest behind : List ℕ) (event : Event)
    → by_line (event_at edition) rest ≡ Some (event, behind) → length behind < length rest
line_shorter edition rest behind event some = (has_line (event_at edition) rest event behind some).shorter

pub no_line : (edition : Edition) (number : ℕ) (rest : List ℕ) → length rest ≡ 0
    → events_at edition number (pieces rest) ≡ Ok []
unfolding events_at pieces
no_line edition number [] none = refl
no_line edition number (byte ∷ rest) none = absurd (omega arith)

-- one more event in front
pub joined : (front : List Event) (event : Event) (number : ℕ) (later : Result (List Event) ℕ)
    → with_front front (before_others number (Some event) later) ≡ with_front (front ++ (event ∷ [])) later
joined front event number (Ok others) = ap (λ (es : List Event). Ok es) (sym (append_assoc front (event ∷ []) others))
joined front event number (Err bad) = refl

pub nothing_before : (read : Result (List Event) ℕ) → with_front [] read ≡ read
nothing_before (Ok events) = refl
nothing_before (Err bad) = refl

-- ---- the whole text

pub long_text : (text : List ℕ) → MOST_INPUT < length text → trace_at text ≡ Err 0
unfolding trace_at
long_text text long = rw (lt-ltb MOST_INPUT (length text) long) refl

pub short_text : (text : List ℕ) → length text ≤ MOST_INPUT → trace_at text ≡ lines_at (pieces text)
unfolding trace_at
short_text text short = rw (le-ltb MOST_INPUT (length text) short) refl

pub bad_head : (edition : Edition) (text : List ℕ) → by_line head_at text ≡ None
    → headed_at edition (pieces text) ≡ Err (head_number edition)
unfolding headed_at pieces
bad_head edition [] none = refl
bad_head edition (byte ∷ text) none =
    let them = has_no_line head_at byte text none in
    ap (headed_at edition) them.2
    ∙ ap (λ (o : Option (ℕ × ℕ)). below_head edition o (events_at edition (first_number edition) them.1)) them.3

pub good_head : (edition : Edition) (text behind : List ℕ) (head : ℕ × ℕ) → by_line head_at text ≡ Some (head, behind)
    → headed_at edition (pieces text) ≡ below_head edition (Some head)
    (events_at edition (first_number edition) (pieces behind))
unfolding headed_at
good_head edition text behind head some =
    let it = has_line head_at text head behind some in
    ap (headed_at edition) it.pieces_are
    ∙ ap (λ (o : Option (ℕ × ℕ)). below_head edition o
    (events_at edition (first_number edition) (pieces behind))) it.reads

-- a text without a mark begins with its head
pub no_mark : (text : List ℕ) → by_line mark_at text ≡ None → lines_at (pieces text) ≡ headed_at editions.One
    (pieces text)
unfolding lines_at headed_at pieces
no_mark [] none = refl
no_mark (byte ∷ text) none =
    let them = has_no_line mark_at byte text none in
    ap lines_at them.2 ∙ ap (λ (o : Option Edition). below_mark o them.0 them.1) them.3
    ∙ ap (headed_at editions.One) (sym them.2)

-- behind a mark stands the head
pub has_mark : (text behind : List ℕ) (edition : Edition) → by_line mark_at text ≡ Some (edition, behind)
    → lines_at (pieces text) ≡ headed_at edition (pieces behind)
unfolding lines_at
has_mark text behind edition some =
    let it = has_line mark_at text edition behind some in
    ap lines_at it.pieces_are
    ∙ ap (λ (o : Option Edition). below_mark o ((cut 10 text).0, true) (pieces behind)) it.reads

-- a fault in the events is the fault of the trace
pub refused_below : (edition : Edition) (fault : Fault) (head : ℕ × ℕ) (events : Result (List Event) ℕ)
    → RefusesTrace fault events
    → RefusesTrace fault (below_head edition (Some head) events)
refused_below edition faults.OutOfMemory head events h = tt
refused_below edition (faults.BadTrace bad reasons.NotALine) head events h = ap (below_head edition (Some head)) h
refused_below edition _ head events h = absurd h

-- a fault told of one reading is that of an equal one
pub refused_same : {X : Type 0} (fault : Fault) (a b : Result X ℕ) → a ≡ b → RefusesTrace fault a → RefusesTrace fault b
refused_same fault a b e h = subst (RefusesTrace fault) e h
