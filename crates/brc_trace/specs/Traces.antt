-- What a trace is, its one spelling, and the trace that a text spells or else its first bad line.
use Rattle.std.specs.Prelude.{◌≡◌, ◌<◌, ℕ, ◌+◌, Bool, true, List, [], ◌∷◌, ◌++◌, length, Option, Some, None, Result, Ok}
use Rattle.std.specs.Prelude.{Err, nat_lt, nat_le, ◌==◌, ◌&&◌, if◌then◌else◌}
use Rattle.std.specs.List.{flat_map}
use Rattle.brc_words.specs.declared.fault.Fault.{Fault}
use Rattle.brc_words.specs.declared.limits.TheConstants.{FEWEST_CELLS, MOST_CELLS, MOST_LOCAL, MOST_INPUT}
use Rattle.brc_words.specs.declared.fault.Fault.TheVariants as faults
use Rattle.brc_words.specs.declared.fault.Reason.TheVariants as reasons
use Rattle.law.specs.declared.world.edition.Edition.{Edition}
use Rattle.law.specs.declared.world.edition.Edition.TheVariants as editions
use Rattle.law.specs.declared.world.event.Event.{Event}
use Rattle.brc_text.specs.declared.keyword.Keyword.TheVariants as words
use Rattle.brc_text.specs.declared.token.Token.{Token}
use Rattle.brc_text.specs.declared.token.Token.TheVariants as tokens
use Rattle.brc_text.specs.Tokens.{◌>>=◌}
use Rattle.brc_text.specs.Lines.{tokens_at, first_line, line, pieces}
use Rattle.brc_trace.specs.Events.{event_words, event_at, fits}

-- a trace without where it lies in memory
pub record Listing : Type 0 where
  pub edition : Edition
  pub cells : ℕ
  pub local_limit : ℕ
  pub events : List Event

-- ---- the one spelling of each trace

-- a heap has 512 to 65,536 cells and a local limit of 1 to 4,294,967,294
abbrev pub is_size : ℕ → Bool
is_size cells = nat_le FEWEST_CELLS cells && nat_le cells MOST_CELLS

abbrev pub is_limit : ℕ → Bool
is_limit local_limit = nat_le 1 local_limit && nat_le local_limit MOST_LOCAL

abbrev pub all_fit : Edition → List Event → Bool
all_fit edition [] = true
all_fit edition (event ∷ events) = fits edition event && all_fit edition events

-- the traces that have a spelling
pub record IsTrace (trace : Listing) : Type 0 where
  pub size : is_size trace.cells ≡ true
  pub limit : is_limit trace.local_limit ≡ true
  pub events : all_fit trace.edition trace.events ≡ true

-- a trace of edition Two begins with a line that says so
abbrev pub mark_words : List Token
mark_words = tokens.Word words.Trace ∷ tokens.Number 2 ∷ []

abbrev pub mark_text : Edition → List ℕ
mark_text editions.One = []
mark_text editions.Two = line mark_words

abbrev pub head_words : ℕ → ℕ → List Token
head_words cells local_limit = tokens.Word words.Heap ∷ tokens.Number cells ∷ tokens.Number local_limit ∷ []

-- the head's line, and a line for each event
abbrev pub headed_text : Listing → List ℕ
headed_text trace = line (head_words trace.cells trace.local_limit) ++ flat_map (λ event. line (event_words event))
    trace.events

-- the mark's line, where there is one, above them
unfoldable pub trace_text : Listing → List ℕ
trace_text trace = mark_text trace.edition ++ headed_text trace

-- ---- the trace that a text spells

-- the edition that a mark names; edition One has no mark
abbrev pub mark_at : List Token → Option Edition
mark_at (tokens.Word words.Trace ∷ tokens.Number n ∷ []) = if n == 2 then Some editions.Two else None
mark_at _ = None

abbrev pub head_at : List Token → Option (ℕ × ℕ)
head_at (tokens.Word words.Heap ∷ tokens.Number cells ∷ tokens.Number local_limit ∷ []) =
    if is_size cells && is_limit local_limit then Some (cells, local_limit) else None
head_at _ = None

-- what a line spells by its words; a line that no line feed ends spells nothing
abbrev pub by_words : {A : Type 0} → (List Token → Option A) → List ℕ × Bool → Option A
by_words read piece = if piece.1 then (tokens_at 8 piece.0 >>= read) else None

-- an event before the later ones; a bad line is told by its number, the first one of several
abbrev pub before_others : ℕ → Option Event → Result (List Event) ℕ → Result (List Event) ℕ
before_others number None others = Err number
before_others number (Some event) (Ok events) = Ok (event ∷ events)
before_others number (Some event) (Err bad) = Err bad

-- the events of these lines, of which the first has this number
unfoldable pub events_at : Edition → ℕ → List (List ℕ × Bool) → Result (List Event) ℕ
events_at edition number [] = Ok []
events_at edition number (piece ∷ others) = before_others number (by_words (event_at edition) piece)
    (events_at edition (number + 1) others)

-- lines are counted from 1: the number of the head's, and that of the first event's behind it
abbrev pub head_number : Edition → ℕ
head_number editions.One = 1
head_number editions.Two = 2

abbrev pub first_number : Edition → ℕ
first_number edition = head_number edition + 1

abbrev pub below_head : Edition → Option (ℕ × ℕ) → Result (List Event) ℕ → Result Listing ℕ
below_head edition None events = Err (head_number edition)
below_head edition (Some head) (Ok events) =
    Ok (record { edition = edition; cells = head.0; local_limit = head.1; events = events })
below_head edition (Some head) (Err bad) = Err bad

-- a head's line, and those of its events
unfoldable pub headed_at : Edition → List (List ℕ × Bool) → Result Listing ℕ
headed_at edition [] = Err (head_number edition)
headed_at edition (piece ∷ others) = below_head edition (by_words head_at piece)
    (events_at edition (first_number edition) others)

-- a first line that is no mark is the head of a trace of edition One
abbrev pub below_mark : Option Edition → List ℕ × Bool → List (List ℕ × Bool) → Result Listing ℕ
below_mark None piece others = headed_at editions.One (piece ∷ others)
below_mark (Some edition) piece others = headed_at edition others

unfoldable pub lines_at : List (List ℕ × Bool) → Result Listing ℕ
lines_at [] = Err 1
lines_at (piece ∷ others) = below_mark (by_words mark_at piece) piece others

-- the trace that the text spells, or the number of its first bad line: 0 where it has more than 16,777,216 bytes
unfoldable pub trace_at : List ℕ → Result Listing ℕ
trace_at text = if nat_lt MOST_INPUT (length text) then Err 0 else lines_at (pieces text)

-- ---- line by line

-- what the words of the text's first line are read as, and the text behind that line
abbrev pub by_line : {A : Type 0} → (List Token → Option A) → List ℕ → Option (A × List ℕ)
by_line read text = do
  first ← first_line 8 text
  x ← read first.0
  Some (x, first.1)

-- the text begins with the mark of this edition and the line of this head, and the rest are the lines of events
pub record IsHead (text : List ℕ) (edition : Edition) (head : ℕ × ℕ) (rest : List ℕ) : Type 0 where
  pub size : is_size head.0 ≡ true
  pub limit : is_limit head.1 ≡ true
  pub short : length rest < MOST_INPUT
  pub read : trace_at text ≡ below_head edition (Some head) (events_at edition (first_number edition) (pieces rest))

-- ---- what a reader answers

-- a line that isn't one of a trace
abbrev pub bad_line : ℕ → Fault
bad_line line = faults.BadTrace line reasons.NotALine

-- a bad line is told, and memory may run out; there is no other fault
abbrev pub RefusesTrace : {X : Type 0} → Fault → Result X ℕ → Type 0
RefusesTrace faults.OutOfMemory read = Unit {0}
RefusesTrace (faults.BadTrace bad reasons.NotALine) read = read ≡ Err bad
RefusesTrace _ read = ⊥

-- the answer, seen by view, is what the text spells
abbrev pub ReadsTrace : {X Y : Type 0} → (Y → X) → Result Y Fault → Result X ℕ → Type 0
ReadsTrace view (Ok answer) read = read ≡ Ok (view answer)
ReadsTrace view (Err fault) read = RefusesTrace fault read
