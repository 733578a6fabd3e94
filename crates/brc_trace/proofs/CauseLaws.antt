-- A text's first line, the line with a number, and how many events a text may have.
use Rattle.std.proofs.Common.{◌≡◌, ◌≢◌, ◌∙◌, ℕ, ◌+◌, ◌-◌, ◌<◌, ◌≤◌, Bool, true, false, List, [], ◌∷◌, ◌++◌, length}
use Rattle.std.proofs.Common.{take, drop, get_or, Option, Some, None, Result, Ok, Err, refl, sym, ap, subst, arith}
use Rattle.std.proofs.Common.{length-append, append-nil}
use Rattle.std.specs.Prelude.{is_some, IfOk}
use Rattle.std.proofs.lemmas.Bool.{ne_eqb}
use Rattle.std.proofs.lemmas.List.{take_more, take_all, drop_more, take-append-drop, drop-drop, get_or-drop}
use Rattle.brc_words.specs.declared.limits.TheConstants.{MOST_INPUT}
use Rattle.law.specs.declared.world.edition.Edition.{Edition}
use Rattle.law.specs.declared.world.event.Event.{Event}
use Rattle.brc_text.specs.declared.token.Token.{Token}
use Rattle.brc_text.specs.Tokens.{◌>>=◌}
use Rattle.brc_text.specs.Lines.{cut, lacks, tokens_at, first_line, line, spaced, pieces}
use Rattle.brc_text.proofs.KeywordLaws.{same_some}
use Rattle.brc_text.proofs.LineLaws.{lacks-append, cut_until, cut_whole, cut_parts, behind_mark, pieces_ended}
use Rattle.brc_text.proofs.LineLaws.{pieces_open}
use Rattle.brc_trace.specs.declared.causes.Cause.{Cause}
use Rattle.brc_trace.specs.Causes.{IsCause, first_piece, piece_at}
use Rattle.brc_trace.specs.Events.{event_words}
use Rattle.brc_trace.specs.Traces.{Listing, mark_text, head_words, headed_text, trace_text, trace_at, by_words, by_line}
use Rattle.brc_trace.proofs.TextLaws.{events_text, trace_takes}
use Rattle.brc_trace.proofs.ReadingLoop.{has_line, has_no_line}

-- ---- the first line

one_lacks : (mark byte : ℕ) → byte ≢ mark → lacks mark (byte ∷ []) ≡ true
one_lacks mark byte other = rw (ne_eqb byte mark other) refl

-- one more byte that isn't the mark
pub lacks_more : (mark : ℕ) (text : List ℕ) (at : ℕ) → at < length text → get_or text at 0 ≢ mark
    → lacks mark (take at text) ≡ true
    → lacks mark (take (at + 1) text) ≡ true
lacks_more mark text at within other none =
    ap (lacks mark) (take_more text at 0 within) ∙ lacks-append mark (take at text) (get_or text at 0 ∷ []) none
    (one_lacks mark (get_or text at 0) other)

-- the first mark
pub cut_here : (mark : ℕ) (text : List ℕ) (at : ℕ) → at < length text → get_or text at 0 ≡ mark
    → lacks mark (take at text) ≡ true
    → cut mark text ≡ (take at text, Some (drop (at + 1) text))
cut_here mark text at within feed none =
    let behind : drop at text ≡ mark ∷ drop (at + 1) text = drop_more text at 0 within
    ∙ ap (λ (b : ℕ). b ∷ drop (at + 1) text) feed in
    let parts : text ≡ take at text ++ (mark ∷ drop (at + 1) text) = sym (take-append-drop at text)
    ∙ ap (λ (l : List ℕ). take at text ++ l) behind in
    ap (cut mark) parts ∙ cut_until mark (take at text) (drop (at + 1) text) none

-- no mark at all
pub never_cut : (mark : ℕ) (text : List ℕ) (at : ℕ) → length text ≤ at → lacks mark (take at text) ≡ true
    → cut mark text ≡ (text, None)
never_cut mark text at past none =
    let P : List ℕ → Type 0 = λ bytes. lacks mark bytes ≡ true in
    cut_whole mark text (subst P (take_all at text past) none)

pub pieces_behind : (text rest : List ℕ) → (cut 10 text).1 ≡ Some rest → pieces rest ≡ drop 1 (pieces text)
pieces_behind text rest ended = sym (ap (λ (ps : List (List ℕ × Bool)). drop 1 ps) (pieces_ended text rest ended))

pub nothing_behind : (text : List ℕ) → (cut 10 text).1 ≡ None → pieces [] ≡ drop 1 (pieces text)
unfolding pieces
nothing_behind [] open_end = refl
nothing_behind (byte ∷ text) open_end =
    sym (ap (λ (ps : List (List ℕ × Bool)). drop 1 ps) (pieces_open (byte ∷ text) (omega arith) open_end))

-- ---- the line with a number

pub one_line_on : (text rest behind : List ℕ) (number : ℕ) → pieces rest ≡ drop number (pieces text)
    → pieces behind ≡ drop 1 (pieces rest)
    → pieces behind ≡ drop (number + 1) (pieces text)
one_line_on text rest behind number so_far next =
    next ∙ ap (λ (ps : List (List ℕ × Bool)). drop 1 ps) so_far ∙ drop-drop 1 number (pieces text)

first_ended : (text rest : List ℕ) → (cut 10 text).1 ≡ Some rest → get_or (pieces text) 0 ([], false) ≡ first_piece text
first_ended text rest ended =
    ap (λ (ps : List (List ℕ × Bool)). get_or ps 0 ([], false)) (pieces_ended text rest ended)
    ∙ ap (λ (o : Option (List ℕ)). ((cut 10 text).0, is_some o)) (sym ended)

first_open : (text : List ℕ) → 0 < length text → (cut 10 text).1 ≡ None
    → get_or (pieces text) 0 ([], false) ≡ first_piece text
first_open text some open_end =
    let whole : text ≡ (cut 10 text).0 =
    (cut_parts 10 text).joined ∙ ap (λ (o : Option (List ℕ)). (cut 10 text).0 ++ behind_mark 10 o) open_end
    ∙ append-nil (cut 10 text).0 in
    ap (λ (ps : List (List ℕ × Bool)). get_or ps 0 ([], false)) (pieces_open text some open_end)
    ∙ ap (λ (l : List ℕ). (l, false)) whole ∙ ap (λ (o : Option (List ℕ)). ((cut 10 text).0, is_some o)) (sym open_end)

first_by_end : (text : List ℕ) (behind : Option (List ℕ)) → 0 < length text → (cut 10 text).1 ≡ behind
    → get_or (pieces text) 0 ([], false) ≡ first_piece text
first_by_end text None some open_end = first_open text some open_end
first_by_end text (Some rest) some ended = first_ended text rest ended

first_of_pieces : (text : List ℕ) → get_or (pieces text) 0 ([], false) ≡ first_piece text
unfolding pieces cut
first_of_pieces [] = refl
first_of_pieces (byte ∷ text) = first_by_end (byte ∷ text) (cut 10 (byte ∷ text)).1 (omega arith) refl

pub line_from : (text rest : List ℕ) (number : ℕ) → pieces rest ≡ drop (number - 1) (pieces text)
    → first_piece rest ≡ piece_at number text
line_from text rest number from =
    let same : number - 1 + 0 ≡ number - 1 = omega arith in
    sym (first_of_pieces rest) ∙ ap (λ (ps : List (List ℕ × Bool)). get_or ps 0 ([], false)) from
    ∙ get_or-drop (number - 1) (pieces text) 0 ([], false) ∙ ap (λ (n : ℕ). get_or (pieces text) n ([], false)) same

-- ---- the words of a line

abbrev with_rest : List ℕ → List Token → Option (List Token × List ℕ)
with_rest rest words = Some (words, rest)

abbrev line_before : List ℕ → List ℕ → Option (List Token × List ℕ)
line_before text rest = tokens_at 8 (cut 10 text).0 >>= with_rest rest

-- the words that a line is read as, before the text's first line feed
pub words_there : (text rest behind : List ℕ) (words : List Token) → (cut 10 text).1 ≡ Some rest
    → first_line 8 text ≡ Some (words, behind)
    → tokens_at 8 (cut 10 text).0 ≡ Some words
unfolding first_line
words_there text rest behind words ended read =
    by_words (tokens_at 8 (cut 10 text).0) (sym (ap (λ (o : Option (List ℕ)). o >>= line_before text) ended) ∙ read)
  where
    by_words : (o : Option (List Token)) → (o >>= with_rest rest) ≡ Some (words, behind) → o ≡ Some words
    by_words None is = absurd cc
    by_words (Some ws) is = ap (λ (first : List Token × List ℕ). Some (first.0)) (same_some is)

pub no_words_there : (text rest : List ℕ) → (cut 10 text).1 ≡ Some rest → first_line 8 text ≡ None
    → tokens_at 8 (cut 10 text).0 ≡ None
unfolding first_line
no_words_there text rest ended none =
    by_words (tokens_at 8 (cut 10 text).0) (sym (ap (λ (o : Option (List ℕ)). o >>= line_before text) ended) ∙ none)
  where
    by_words : (o : Option (List Token)) → (o >>= with_rest rest) ≡ None → o ≡ None
    by_words None is = refl
    by_words (Some ws) is = absurd cc

-- what is so of the bytes of an ended line is so of the text's first line
pub ended_cause : (edition : Edition) (cause : Cause) (number : ℕ) (text rest : List ℕ) → (cut 10 text).1 ≡ Some rest
    → IsCause edition cause number ((cut 10 text).0, true)
    → IsCause edition cause number (first_piece text)
ended_cause edition cause number text rest ended is =
    subst (λ (b : Bool). IsCause edition cause number ((cut 10 text).0, b))
    (sym (ap (λ (o : Option (List ℕ)). is_some o) ended)) is

pub words_cause : {E : Type 0} (edition : Edition) (result : Result Cause E) (number : ℕ) (text rest behind : List ℕ)
    (words : List Token) → (cut 10 text).1 ≡ Some rest
    → first_line 8 text ≡ Some (words, behind)
    → IfOk result (λ cause. (number : ℕ) (bytes : List ℕ) → tokens_at 8 bytes ≡ Some words
    → IsCause edition cause number (bytes, true))
    → IfOk result (λ cause. IsCause edition cause number (first_piece text))
words_cause edition (Err e) number text rest behind words ended read is = tt
words_cause edition (Ok cause) number text rest behind words ended read is =
    ended_cause edition cause number text rest ended
    (is number (cut 10 text).0 (words_there text rest behind words ended read))

-- ---- the edition that the first line tells

pub first_read : {A : Type 0} (read : List Token → Option A) (text rest : List ℕ) (x : A)
    → by_line read text ≡ Some (x, rest) → by_words read (first_piece text) ≡ Some x
first_read read text rest x some =
    let it = has_line read text x rest some in
    ap (λ (o : Option (List ℕ)). by_words read ((cut 10 text).0, is_some o)) it.ended ∙ it.reads

pub first_unread : {A : Type 0} (read : List Token → Option A) (text : List ℕ) → by_line read text ≡ None
    → by_words read (first_piece text) ≡ None
unfolding cut
first_unread read [] none = refl
first_unread read (byte ∷ text) none =
    let them = has_no_line read byte text none in
    let first : them.0 ≡ first_piece (byte ∷ text) =
    sym (ap (λ (ps : List (List ℕ × Bool)). get_or ps 0 ([], false)) them.2) ∙ first_of_pieces (byte ∷ text) in
    ap (by_words read) (sym first) ∙ them.3

-- ---- how many events

events_take_bytes : (events : List Event) → length events ≤ length (events_text events)
events_take_bytes [] = omega arith
events_take_bytes (event ∷ events) =
    omega (
      arith,
      events_take_bytes events,
      length-append (line (event_words event)) (events_text events),
      length-append (spaced (event_words event)) (10 ∷ []),
    )

pub events_are_few : (text : List ℕ) (trace : Listing) → trace_at text ≡ Ok trace → length trace.events ≤ MOST_INPUT
unfolding trace_text
events_are_few text trace read =
    let is = trace_takes text trace read in
    omega (
      arith,
      is.short,
      ap length is.spelled,
      events_take_bytes trace.events,
      length-append (mark_text trace.edition) (headed_text trace),
      length-append (line (head_words trace.cells trace.local_limit)) (events_text trace.events),
    )
