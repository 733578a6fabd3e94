-- What each invocation writes on standard output, what stands on standard error then, and the status that it ends with.
use Rattle.std.specs.Prelude.{◌≡◌, ◌⊎◌, ◌+◌, ℕ, Bool, true, false, if◌then◌else◌, List, take, Option, Some, None}
use Rattle.std.specs.Prelude.{IfSome, Result, Ok, Err, IfErr, String}
use Rattle.std.specs.declared.alloc.Global.{Global}
use Rattle.std.specs.Io.KnownBytes.{Keeps}
use Rattle.std.specs.String.{string_bytes}
use Rattle.brc_words.specs.declared.limits.TheConstants.{MOST_INPUT}
use Rattle.brc_words.specs.declared.fault.Fault.{Fault}
use Rattle.brc_words.specs.declared.fault.Fault.TheVariants as faults
use Rattle.brc_text.specs.Puts.{PutsText}
use Rattle.brc_trace.specs.declared.explaining.Unreplayed.{Unreplayed}
use Rattle.brc_trace.specs.declared.explaining.Why.{Why}
use Rattle.brc_trace.specs.Explaining.{Explains, fault_of_why, without_why}
use Rattle.brc_trace.specs.Replaying.{Replays}
use Rattle.brc_run.specs.declared.ended.RunEnded.{RunEnded}
use Rattle.brc_run.specs.Notes.{nowhere}
use Rattle.brc_run.specs.Scripts_Run.{Runs}
use Rattle.brc_program.specs.declared.command.Invocation.{Invocation}
use Rattle.brc_graph.specs.declared.undrawn.Undrawn.{Undrawn}
use Rattle.brc_graph.specs.declared.undrawn.Undrawn.TheVariants as undrawn
use Rattle.brc_graph.specs.Draws.{Draws}
use Rattle.brc_program.specs.declared.failed.Failed.{Failed}
use Rattle.brc_program.specs.declared.failed.Failed.TheVariants as fails
use Rattle.brc_program.specs.declared.command.Invocation.TheVariants.{Help, Replay, Run, Graph}
use Rattle.brc_mistakes.specs.declared.mistake.Mistake.{Mistake}
use Rattle.brc_mistakes.specs.Mistakes.{IsMistake}
use Rattle.brc_program.specs.Command.{asks_why, is_to_explain}
use Rattle.brc_program.specs.Errors.{WritesError, TellsNotes}
use Rattle.brc_program.specs.Unreads.{IsUnread}
use Rattle.brc_program.specs.declared.unread.Unread.{Unread}

-- ---- one invocation

-- 1 where a mortal object lives at the end, else 0
abbrev pub status_of_world : Bool → ℕ
status_of_world true = 1
status_of_world false = 0

-- 4 where a fault ended a section, else by what lives
abbrev pub status_of_run : RunEnded → ℕ
status_of_run ended = if ended.faulted then 4 else status_of_world ended.lives

-- a fault of which no reason is known
abbrev pub unexplained : Fault → Failed
unexplained fault = fails.Fault (record { fault = fault; why = None })

-- why there is no picture
abbrev pub failed_of : Undrawn → Failed
failed_of (undrawn.BadLine line) = fails.NoGraph line
failed_of undrawn.OutOfMemory = unexplained faults.OutOfMemory
failed_of undrawn.Io = unexplained faults.Io

-- the status of what was found; what failed is told so
abbrev pub by_status : {T E : Type 0} → (T → ℕ) → (E → Failed) → Result T E → Result ℕ Failed
by_status status tell (Ok found) = Ok (status found)
by_status status tell (Err failed) = Err (tell failed)

-- a reason is the fault's, and it is so of the input
abbrev pub IsReasonAsked : Option (List ℕ) → Fault → Why → Type 0
IsReasonAsked input fault why = (fault ≡ fault_of_why why)
    × IfSome input (λ bytes. Explains (take (MOST_INPUT + 1) bytes) (Some why))

-- a bad line of a script is told with what is wrong with it, of which this is so, or without; each other fault by itself
abbrev pub FailsAs : (ℕ → Mistake → Type 0) → Fault → Failed → Type 0
FailsAs IsSo fault failed = (failed ≡ unexplained fault)
    ⊎ ((line : ℕ) × (mistake : Mistake) × (fault ≡ faults.BadScript line) × (failed ≡ fails.NoScript line mistake)
    × IsSo line mistake)

-- it is a mistake of the input, where its bytes are known
abbrev pub IsOfInput : Option (List ℕ) → ℕ → Mistake → Type 0
IsOfInput input line mistake = IfSome input (λ bytes. IsMistake (take (MOST_INPUT + 1) bytes) line mistake)

-- what a run that is to be explained answers, by what it comes to
abbrev pub AnswersExplained : Option (List ℕ) → Result RunEnded Fault → Result ℕ Failed → Type 0
AnswersExplained input (Ok ended) answer = answer ≡ Ok (status_of_run ended)
AnswersExplained input (Err fault) answer =
    (failed : Failed) × (answer ≡ Err failed) × FailsAs (IsOfInput input) fault failed

-- By the input's bytes, and those of the output before and after, where they are known: help is written as it stands,
-- status 0; a trace is replayed, or a script is run, as the contract of each says, and its answer is the status; a graph
-- is drawn as the contract says, status 0. A reason is told of a trace and of a script, and only where it is asked for.
abbrev pub Performs :
    Invocation → Option (List ℕ) → Option (List ℕ) → Option (List ℕ) → Result ℕ Failed → Type 0
Performs (Help text) input old new answer =
    (told : Result (Unit {0}) Fault) × PutsText old new told (string_bytes text)
    × (answer ≡ by_status (λ _. 0) unexplained told)
Performs (Replay false) input old new answer =
    (found : Result Bool Fault) × Replays input old new found
    × (answer ≡ by_status status_of_world unexplained found)
Performs (Replay true) input old new answer =
    (found : Result Bool Unreplayed) × Replays input old new (without_why found)
    × IfErr found (λ failed. IfSome failed.why (IsReasonAsked input failed.fault))
    × (answer ≡ by_status status_of_world (λ failed. fails.Fault failed) found)
Performs (Run options false) input old new answer =
    (found : Result RunEnded Fault) × Runs options nowhere input old new found
    × (answer ≡ by_status status_of_run unexplained found)
Performs (Run options true) input old new answer =
    (found : Result RunEnded Fault) × Runs options nowhere input old new found × AnswersExplained input found answer
Performs Graph input old new answer =
    (found : Result (Unit {0}) Undrawn) × Draws input old new found
    × (answer ≡ by_status (λ _. 0) failed_of found)

-- ---- a command line

-- what was done stands once it is flushed; Io where that fails
abbrev pub Flushed : Result ℕ Failed → Result ℕ Failed → Type 0
Flushed (Ok status) answer = (answer ≡ Ok status) ⊎ (answer ≡ Err (unexplained faults.Io))
Flushed (Err failed) answer = answer ≡ Err failed

-- this is done; what is written is flushed, and no byte of it changes by that
pub record IsPerformed (asked : Invocation) (input old new : Option (List ℕ)) (answer : Result ℕ Failed) : Type 0 where
  pub done : Result ℕ Failed
  pub written : Option (List ℕ)
  pub performed : Performs asked input old written done
  pub kept : Keeps written new
  pub flushed : Flushed done answer

-- the words ask for nothing, or memory to read them is missing; what is wrong with them is told only where they ask why
abbrev pub IsUndone : List (String Global) → Failed → Type 0
IsUndone words failed = (failed ≡ unexplained faults.BadOptions) ⊎ (failed ≡ unexplained faults.OutOfMemory)
    ⊎ ((unread : Unread) × (failed ≡ fails.NoCommand unread) × (asks_why words ≡ true) × IsUnread words unread)

-- and nothing is written
pub record RefusesWords (words : List (String Global)) (old new : Option (List ℕ)) (answer : Result ℕ Failed)
    : Type 0 where
  pub kept : Keeps old new
  pub failed : Failed
  pub answered : answer ≡ Err failed
  pub undone : IsUndone words failed

-- some invocation is done, whichever it is, or none; one that is to explain only where the words ask why
abbrev pub AnswersWords : List (String Global) → Option (List ℕ) → Option (List ℕ) → Option (List ℕ)
    → Result ℕ Failed → Type 0
AnswersWords words input old new answer =
    ((asked : Invocation) × (is_to_explain asked ≡ true → asks_why words ≡ true)
    × IsPerformed asked input old new answer)
    ⊎ RefusesWords words old new answer

-- An answer's status, and nothing stands on standard error for it; or the fault is told there. Where reasons are asked
-- for, notes may stand there instead of nothing, and the status is 5 where they couldn't be written.
abbrev pub EndsBy : Type 0 → Option (List ℕ) → Option (List ℕ) → Result ℕ Failed → ℕ → Type 0
EndsBy asks old new (Ok status) ended =
    ((new ≡ old) × (ended ≡ status)) ⊎ (asks × TellsNotes old new status ended)
EndsBy asks old new (Err failed) ended = WritesError old new failed ended

-- there is an answer of which this is so, and by it what standard error had and has, and the status
pub record ProgramEnds (asks : Type 0) (IsSo : Result ℕ Failed → Type 0) (errors_old errors_new : Option (List ℕ))
    (status : ℕ) : Type 0 where
  pub answer : Result ℕ Failed
  pub is : IsSo answer
  pub by : EndsBy asks errors_old errors_new answer status
