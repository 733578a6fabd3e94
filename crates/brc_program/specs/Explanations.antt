-- The line that says why a trace is refused.
use Rattle.std.specs.Prelude.{ℕ, List, [], ◌∷◌, ◌++◌, codes, decimal, Option, Some, None}
use Rattle.std.specs.Fmt.{signed_decimal}
use Rattle.std.specs.List.{flat_map}
use Rattle.brc_words.specs.declared.kind.Kind.{Kind}
use Rattle.brc_words.specs.declared.kind.Kind.TheVariants as kinds
use Rattle.brc_words.specs.declared.owner.Owner.{Owner}
use Rattle.brc_words.specs.declared.owner.Owner.TheVariants as owners
use Rattle.law.specs.declared.world.event.Step.{Step}
use Rattle.law.specs.declared.world.event.Step.TheVariants as steps
use Rattle.law.specs.declared.world.row.Hand.{Hand}
use Rattle.law.specs.declared.world.row.Hand.TheVariants as hands
use Rattle.brc_text.specs.declared.keyword.Keyword.{Keyword}
use Rattle.brc_text.specs.declared.keyword.Keyword.TheVariants as words
use Rattle.brc_text.specs.Keywords.{keyword}
use Rattle.brc_text.specs.Excerpts.{quoted}
use Rattle.brc_state.specs.declared.refusing.Refusal.{Refusal}
use Rattle.brc_state.specs.declared.refusing.Refusal.TheVariants as refusals
use Rattle.brc_trace.specs.declared.causes.Cause.{Cause}
use Rattle.brc_trace.specs.declared.causes.Cause.TheVariants as causes
use Rattle.brc_trace.specs.declared.cell_reasons.CellReason.{CellReason}
use Rattle.brc_trace.specs.declared.cell_reasons.CellReason.TheVariants as cells
use Rattle.brc_trace.specs.declared.own_reasons.OwnReason.{OwnReason}
use Rattle.brc_trace.specs.declared.own_reasons.OwnReason.TheVariants as owns
use Rattle.brc_trace.specs.declared.told_reasons.ToldReason.{ToldReason}
use Rattle.brc_trace.specs.declared.told_reasons.ToldReason.TheVariants as tolds
use Rattle.brc_trace.specs.declared.finer.Finer.{Finer}
use Rattle.brc_trace.specs.declared.finer.Finer.TheVariants as finer
use Rattle.brc_trace.specs.declared.standing.Meant.{Meant}
use Rattle.brc_trace.specs.declared.explaining.Refused.{Refused}
use Rattle.brc_trace.specs.declared.explaining.Why.{Why}
use Rattle.brc_trace.specs.declared.explaining.Why.TheVariants as whys
use Rattle.brc_trace.specs.Worlds.{status_word, phase_word, state_word}
use Rattle.brc_program.specs.declared.facts.LineFact.{LineFact}
use Rattle.brc_program.specs.declared.facts.LineFact.TheVariants as facts

-- texts as one, one behind the other
abbrev pub together : List (List ℕ) → List ℕ
together texts = flat_map (λ text. text) texts

-- ---- a bad line

-- the form of the event with this word, as help has it
abbrev pub form_of : Keyword → List ℕ
form_of words.Register = codes "0 register T"
form_of words.Gather = codes "0 gather T"
form_of words.Claim = codes "T claim C"
form_of words.Local = codes "T local C"
form_of words.Shared = codes "T shared C"
form_of words.Born = codes "T born C KIND K"
form_of words.Up = codes "T up S K"
form_of words.Down = codes "T down D"
form_of words.See = codes "T see C"
form_of words.Free = codes "T free C"
form_of words.Untie = codes "T untie C"
form_of words.Zero = codes "T zero C"
form_of words.Shup = codes "T shup S K"
form_of words.Shdown = codes "T shdown D"
form_of words.Ask = codes "T ask D"
form_of words.Last = codes "T last D"
form_of words.Enq = codes "T enq C"
form_of words.Drain = codes "T drain W"
form_of words.Add = codes "T add C"
form_of words.Offer = codes "T offer C"
form_of words.Open = codes "T open W"
form_of words.Close = codes "T close W"
form_of words.Nudge = codes "T nudge U W"
form_of words.Wake = codes "T wake"
form_of words.Lock = codes "T lock K"
form_of words.Unlock = codes "T unlock keep, put K, take I K or swap I K"
form_of _ = codes "T EVENT"

-- what is wrong with the line
abbrev pub cause_text : Cause → List ℕ
cause_text causes.NoLineFeed = codes "no line feed ends it"
cause_text causes.CarriageReturn = codes "it has a carriage return"
cause_text causes.Empty = codes "it is empty"
cause_text causes.WideSpace = codes "a space stands at one of its ends or behind another"
cause_text causes.LeadingZero = codes "a number begins with a zero"
cause_text causes.NotAHead =
    codes "a head is heap CELLS LIMIT, 512 to 65536 and 1 to 4294967294; above it only trace 2"
cause_text causes.TooManyWords = codes "it has more than 8 words"
cause_text (causes.UnknownWord word) = codes "no trace has the word " ++ quoted word
cause_text causes.NotAnEvent = codes "no event begins so"
cause_text causes.OutOfRange = codes "a number is out of its range"
cause_text (causes.NotItsForm word) = codes "its event has the form " ++ form_of word

-- ---- an event that isn't enabled

-- of a thread that closes it is what it leaves behind, of one that tells another it is the other
abbrev pub told_refusal : Step → List ℕ
told_refusal (steps.Close word) = codes "the thread has not seen to all that it is to leave behind"
told_refusal _ = codes "whom it tells is not registered, or has no such queue word"

-- the condition that the step fails first
abbrev pub refusal_text : Step → Refusal → List ℕ
refusal_text step refusals.NotItsOwn = codes "the root registers and gathers, and threads make all else"
refusal_text step refusals.NotNext = codes "the next thread has another number, or there are 64"
refusal_text step refusals.NotRegistered = codes "the thread is not registered"
refusal_text step refusals.Gathered = codes "the thread is gathered"
refusal_text step refusals.Stage = codes "not at this stage of the thread's life"
refusal_text step refusals.Lock = codes "the thread's lock is not as the event needs it"
refusal_text step refusals.Hand = codes "the thread's hand is not as the event needs it"
refusal_text step refusals.OwnPart =
    codes "the thread's places, entries, worklist or queue words are not as it needs them"
refusal_text step refusals.Told = told_refusal step
refusal_text step refusals.Edition =
    codes "its format has no such event of a thread at this stage, or with this hand"
refusal_text step refusals.NoCell = codes "it means no cell of the heap"
refusal_text step refusals.Cell = codes "its cell is not as the event needs it"

-- ---- which part of a condition fails

-- A phrase is a text, a number, a text and a number, each where it has one.
abbrev pub number_text : Option ℕ → List ℕ
number_text None = []
number_text (Some n) = decimal n

abbrev pub phrase_text : List ℕ × Option ℕ × List ℕ × Option ℕ → List ℕ
phrase_text phrase = together (phrase.0 ∷ number_text phrase.1 ∷ phrase.2 ∷ number_text phrase.3 ∷ [])

-- of the thread's own part
abbrev pub own_phrase : OwnReason → List ℕ × Option ℕ × List ℕ × Option ℕ
own_phrase owns.ManyBirths = (codes "its thread has made 140737488355328 objects", None, [], None)
own_phrase (owns.ImmortalKind kind) = (codes "objects of its kind are immortal", None, [], None)
own_phrase (owns.PlaceTooHigh k) = (codes "no frame has place ", Some k, [], None)
own_phrase (owns.PlaceFilled k) = (codes "place ", Some k, codes " is filled", None)
own_phrase (owns.PlaceVacant k) = (codes "place ", Some k, codes " is vacant", None)
own_phrase (owns.PlaceLocked k) = (codes "place ", Some k, codes " is the locked one", None)
own_phrase (owns.NoEntry i) = (codes "entry ", Some i, codes " is not there", None)
own_phrase owns.ManyEntries = (codes "its locked object has 1048576 entries", None, [], None)
own_phrase (owns.HasEntries c) = (codes "cell ", Some c, codes " has entries", None)
own_phrase (owns.NotOnWorklist c) = (codes "cell ", Some c, codes " is not on the worklist", None)
own_phrase (owns.OnWorklist c) = (codes "cell ", Some c, codes " is on the worklist", None)
own_phrase (owns.NotPopped c) = (codes "cell ", Some c, codes " is not popped", None)
own_phrase (owns.NoWord k) = (codes "there is no queue word ", Some k, [], None)
own_phrase (owns.WordClosed k) = (codes "queue word ", Some k, codes " is already closed", None)
own_phrase (owns.WordOpen k) = (codes "queue word ", Some k, codes " is already open", None)
own_phrase (owns.NotNextToClose k) = (codes "queue word ", Some k, codes " is not the next to close", None)
own_phrase (owns.NotNextToOpen k) = (codes "queue word ", Some k, codes " is not the next to open", None)
own_phrase (owns.StillFilled None) = (codes "a place is still filled", None, [], None)
own_phrase (owns.StillFilled (Some k)) = (codes "place ", Some k, codes " is still filled", None)
own_phrase (owns.StillPopped None) = (codes "a cell is still popped", None, [], None)
own_phrase (owns.StillPopped (Some c)) = (codes "cell ", Some c, codes " is still popped", None)
own_phrase (owns.StillWork None) = (codes "a cell is still on its worklist", None, [], None)
own_phrase (owns.StillWork (Some c)) = (codes "cell ", Some c, codes " is still on its worklist", None)

-- of whom a step tells, and of what a thread that closes leaves
abbrev pub told_phrase : ToldReason → List ℕ × Option ℕ × List ℕ × Option ℕ
told_phrase (tolds.NotRegistered u) = (codes "thread ", Some u, codes " is not registered", None)
told_phrase (tolds.NoWord u k) = (codes "thread ", Some u, codes " has no queue word ", Some k)
told_phrase (tolds.StillWork None) = (codes "a cell is still on its worklist", None, [], None)
told_phrase (tolds.StillWork (Some c)) = (codes "cell ", Some c, codes " is still on its worklist", None)
told_phrase (tolds.StillOwns c) = (codes "it still owns cell ", Some c, [], None)

-- of the cell that the event means
abbrev pub cell_phrase : CellReason → List ℕ × Option ℕ × List ℕ × Option ℕ
cell_phrase cells.Immortal = (codes "cells below 266 are immortal", None, [], None)
cell_phrase cells.NotFree = (codes "its cell is not free", None, [], None)
cell_phrase cells.NotItsOwn = (codes "its thread does not own the cell", None, [], None)
cell_phrase cells.OwnerInactive = (codes "its thread owns the cell and is not active", None, [], None)
cell_phrase cells.ItsOwn = (codes "its thread owns the cell, so it counts on the local count", None, [], None)
cell_phrase cells.AtLimit = (codes "its local count is at the limit, so shup", None, [], None)
cell_phrase cells.BelowLimit = (codes "its local count is below the limit, so up", None, [], None)
cell_phrase cells.NotQueued = (codes "its cell is not queued", None, [], None)
cell_phrase cells.NotMerged = (codes "its cell is not merged", None, [], None)
cell_phrase cells.NotDefault = (codes "its cell is queued or merged, so last", None, [], None)
cell_phrase cells.InDefault = (codes "its cell is neither queued nor merged", None, [], None)
cell_phrase cells.NotAboveZero = (codes "its shared count is not above 0, so ask", None, [], None)
cell_phrase cells.NoOwner = (codes "its cell has no owner", None, [], None)
cell_phrase cells.HasOwner = (codes "its cell still has an owner", None, [], None)
cell_phrase cells.HandFree = (codes "its thread's hand is free", None, [], None)
cell_phrase (cells.LockedBy u) = (codes "thread ", Some u, codes " has locked its cell", None)
cell_phrase cells.NoContainer = (codes "its object is no container", None, [], None)

abbrev pub finer_phrase : Finer → List ℕ × Option ℕ × List ℕ × Option ℕ
finer_phrase (finer.Own reason) = own_phrase reason
finer_phrase (finer.Told reason) = told_phrase reason
finer_phrase (finer.Cell reason) = cell_phrase reason

-- ---- what stands there

abbrev pub kind_name : Kind → List ℕ
kind_name kinds.Nothing = codes "None"
kind_name kinds.False = codes "False"
kind_name kinds.True = codes "True"
kind_name kinds.Int = codes "int"
kind_name kinds.Text = codes "text"
kind_name kinds.List = codes "list"
kind_name kinds.Dict = codes "dict"
kind_name kinds.Mailbox = codes "mailbox"

-- what a thread carries
abbrev pub hand_text : Hand → List ℕ
hand_text hands.Free = codes ", hand free"
hand_text (hands.Busy phase cell) =
    together (codes ", hand " ∷ keyword (phase_word phase) ∷ codes " " ∷ decimal cell ∷ [])

-- whose a cell is
abbrev pub owner_text : Owner → List ℕ
owner_text owners.Nobody = codes ", no owner"
owner_text (owners.Thread thread) = together (codes ", owner " ∷ decimal thread ∷ [])
owner_text (owners.Claimed thread) = together (codes ", claimed by " ∷ decimal thread ∷ [])
owner_text owners.Free = codes ", free"

-- what the line says of each fact; nothing of one that isn't there
abbrev pub fact_text : LineFact → List ℕ
fact_text facts.Begins = codes "brc: why: "
fact_text (facts.Refused step refusal) = refusal_text step refusal
fact_text (facts.Finer part) = phrase_text (finer_phrase part)
fact_text (facts.Threads count) = together (codes "; threads " ∷ decimal count ∷ [])
fact_text (facts.Status thread (Some status)) =
    together (codes "; thread " ∷ decimal thread ∷ codes " " ∷ keyword (status_word status) ∷ [])
fact_text (facts.Hand (Some hand)) = hand_text hand
fact_text (facts.Locked (Some place)) = together (codes ", locked " ∷ decimal place ∷ [])
fact_text (facts.Cell cell) = together (codes "; cell " ∷ decimal cell ∷ [])
fact_text (facts.Owner (Some owner)) = owner_text owner
fact_text (facts.Kind (Some kind)) = together (codes ", " ∷ kind_name kind ∷ [])
fact_text (facts.Local (Some local)) = together (codes ", local " ∷ decimal local ∷ [])
fact_text (facts.Shared (Some count)) = together (codes ", shared " ∷ signed_decimal count ∷ [])
fact_text (facts.State (Some state)) = together (codes ", " ∷ keyword (state_word state) ∷ [])
fact_text facts.Ends = 10 ∷ []
fact_text _ = []

-- of the cell that the event means, if it means one
abbrev pub facts_of_cell : Option Meant → List LineFact
facts_of_cell None = facts.Ends ∷ []
facts_of_cell (Some meant) =
    facts.Cell meant.cell ∷ facts.Owner meant.owner ∷ facts.Kind meant.kind ∷ facts.Local meant.local
    ∷ facts.Shared meant.count ∷ facts.State meant.state ∷ facts.Ends ∷ []

-- the condition that fails, or which part of it does, if it has several
abbrev pub condition_of : Refused → Option Finer → LineFact
condition_of told None = facts.Refused told.event.step told.refusal
condition_of told (Some part) = facts.Finer part

-- the condition, how many threads there are, and what stands of the event's own and of its cell
abbrev pub facts_of : Refused → List LineFact
facts_of told =
    facts.Begins ∷ condition_of told told.finer ∷ facts.Threads told.standing.registered
    ∷ facts.Status told.standing.thread told.standing.status ∷ facts.Hand told.standing.hand
    ∷ facts.Locked told.standing.locked ∷ facts_of_cell told.standing.meant

-- ---- the line

-- of an input that is too long, of a bad line, or of an event that isn't enabled
abbrev pub why_line : Why → List ℕ
why_line whys.TooLong = codes "brc: why: it has more than 16777216 bytes" ++ (10 ∷ [])
why_line (whys.Bad line cause) = together (codes "brc: why: " ∷ cause_text cause ∷ (10 ∷ []) ∷ [])
why_line (whys.Refused told) = flat_map fact_text (facts_of told)
