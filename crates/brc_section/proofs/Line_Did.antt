-- One line: its instruction, the poll that tells what its calls found, and work.
use Rattle.std.proofs.Common.{◌≡◌, ◌∙◌, ℕ, List, ◌++◌, [], ◌∷◌, Option, Result, Ok, Err, is_ok, IfOk}
use Rattle.std.proofs.Common.{sym, ap, subst, false, true≢false}
use Rattle.brc_words.specs.declared.fault.Fault.{Fault}
use Rattle.brc_script.specs.declared.instruction.Instruction.{Instruction}
use Rattle.brc_script.specs.declared.instruction.Instruction.TheVariants as instructions
use Rattle.brc_count.specs.table.Seated.{TableSeen}
use Rattle.brc_count.specs.Frames.{FrameSeen, HandleSeen, KeepsHandles, Turns}
use Rattle.brc_count.specs.Polling.{Polled}
use Rattle.brc_meaning.specs.declared.state.State.{State}
use Rattle.brc_meaning.specs.Steps.{after}
use Rattle.brc_instructions.specs.declared.shown.Shown.{Shown}
use Rattle.brc_instructions.specs.Printing.{text_shown, with_line, PrintsFrom}
use Rattle.brc_count.specs.law.living.Living.{OwnLog}
use Rattle.brc_count.specs.law.living.Later.{IsLater}
use Rattle.brc_count.proofs.law.living.Earlier.{own_earlier, quietly_later}
use Rattle.law_isolation.specs.Asked.{Follows}
use Rattle.law_isolation.specs.Means.{Means, ShowsState}
use Rattle.law_isolation.specs.Goes.{is_want}
use Rattle.law_isolation.specs.Lines.{At}
use Rattle.brc_count.proofs.Quiet.{turns_quietly}
use Rattle.law_isolation.proofs.Dropping_References.{means_polled, means_worked}
use Rattle.brc_section.specs.Stepping.{is_print}
use Rattle.brc_section.specs.Running.{NotesShown, Did}
use Rattle.brc_section.proofs.Silent.{prints_nothing}

abbrev fault_in : Result (Unit {0}) Fault → Fault → Fault
fault_in (Ok done) else = else
fault_in (Err fault) else = fault

module _ {A : Type 0} where
  -- what is printed means nothing to frame and registers
  means_printed : (base : ℕ) (frame : FrameSeen A) (registers : List (Option HandleSeen)) (s : State A) (text : List ℕ)
      → Means base frame registers s → Means base frame registers (with_line text s)
  means_printed base frame registers s text means =
      let shows : ShowsState base means.cells means.part frame registers s = means.shows
      in record {
        cells = means.cells;
        part = means.part;
        shows = record {
          lives = shows.lives;
          held = shows.held;
          size = shows.size;
          same_size = shows.same_size;
          made = shows.made;
        };
      }

module _ {A : Type 0} (base : ℕ) (old mid polled : FrameSeen A) (before now : List (Option HandleSeen))
    (had : List ℕ) (s : State A)
    (here : At base old before had s) (heap : mid.heap ≡ old.heap) (later : IsLater old.seat.log mid.seat.log)
    (own : OwnLog mid.heap.cells mid.seat.log) (told : ℕ) (polls : Polled mid polled told)
    (keeps : KeepsHandles mid polled) where
  -- what the log before the instruction tells, frame and registers meant the state
  meant_before : Means base old before s
  meant_before =
      let earlier : OwnLog mid.heap.cells old.seat.log = own_earlier mid.heap.cells old.seat.log mid.seat.log later own
      in here.means (subst (λ (h : TableSeen). OwnLog h.cells old.seat.log) heap earlier)

  polled_at : (next : State A) (printed : List ℕ) → Means base mid now next → next.printed ≡ printed
      → At base polled now printed next
  polled_at next printed means same =
      record { means = λ more. means_polled base mid polled now next told means polls keeps more; same = same }

  -- work after the poll leaves what frame and registers mean
  worked_at : (new : FrameSeen A) (turns : ℕ) (next : State A) (printed : List ℕ) → Turns polled turns new
      → KeepsHandles polled new → At base polled now printed next → At base new now printed next
  worked_at new turns next printed worked kept at_poll = record {
    means = λ more.
        let quiet : IsLater polled.seat.log new.seat.log = quietly_later polled.seat.log new.seat.log
        (turns_quietly polled turns new worked)
        in let earlier : OwnLog new.heap.cells polled.seat.log =
        own_earlier new.heap.cells polled.seat.log new.seat.log quiet more
        in let same : OwnLog polled.heap.cells polled.seat.log =
        subst (λ (h : TableSeen). OwnLog h.cells polled.seat.log) kept.heap earlier
        in means_worked base polled new now next turns (at_poll.means same) worked kept more;
    same = at_poll.same;
  }

  -- ---- a line that doesn't print

  module _ (instruction : Instruction A) where
    pub silent_refused : (fault : Fault) → Follows old mid before now instruction (Err fault)
        → Did base polled now had s (after instruction s) (Err fault)
    silent_refused fault follows = (
      here.same,
      λ none.
          let refused = follows base s own meant_before none
          in (refused.0, polled_at s had refused.1 here.same),
    )

    pub silent_done : (new : FrameSeen A) (turns : ℕ) → is_print instruction ≡ false
        → Follows old mid before now instruction (Ok tt) → Turns polled turns new → KeepsHandles polled new
        → Did base new now had s (after instruction s) (Ok tt)
    silent_done new turns silent follows worked kept =
        let led = follows base s own meant_before
        in let same : led.0.printed ≡ s.printed =
        subst (λ (r : Result (State A) Fault). IfOk r (λ next. next.printed ≡ s.printed)) led.1
        (prints_nothing instruction s silent)
        in (
          led.0,
          led.1,
          worked_at new turns led.0 had worked kept (polled_at led.0 had led.2 (same ∙ here.same)),
        )

module _ {A : Type 0} (base : ℕ) (old mid polled : FrameSeen A) (registers : List (Option HandleSeen))
    (had has : List ℕ) (s : State A) (from : ℕ)
    (here : At base old registers had s) (heap : mid.heap ≡ old.heap) (later : IsLater old.seat.log mid.seat.log)
    (own : OwnLog mid.heap.cells mid.seat.log) (told : ℕ) (polls : Polled mid polled told)
    (keeps : KeepsHandles mid polled) where
  meant_when_read : Means base old registers s
  meant_when_read =
      meant_before base old mid polled registers registers had s here heap later own told polls keeps

  at_polled : (next : State A) (printed : List ℕ) → Means base mid registers next → next.printed ≡ printed
      → At base polled registers printed next
  at_polled = polled_at base old mid polled registers registers had s here heap later own told polls keeps

  -- ---- a line that prints

  -- it was refused, or what it shows couldn't be noted
  pub print_refused : (read : Result (Shown A) Fault) (fault : Fault) → PrintsFrom from old mid registers read
      → NotesShown read had has (Err fault)
      → Did base polled registers has s (after (instructions.Print from) s) (Err fault)
  print_refused (Ok shown) fault prints notes =
      (here.same ∙ sym notes.1, λ none. absurd (true≢false (ap is_want (sym notes.0) ∙ none)))
  print_refused (Err own_fault) fault prints notes =
      let same : own_fault ≡ fault = sym (ap (λ (r : Result (Unit {0}) Fault). fault_in r fault) notes.0)
      in (
        here.same ∙ sym notes.1,
        λ none.
            let refused = prints base s own meant_when_read (ap is_want same ∙ none)
            in (
              refused.0 ∙ ap (λ (f : Fault). Err f) same,
              at_polled s has refused.1 (here.same ∙ sym notes.1),
            ),
      )

  -- it was read, and noted
  pub print_done : (read : Result (Shown A) Fault) (new : FrameSeen A) (turns : ℕ)
      → PrintsFrom from old mid registers read → NotesShown read had has (Ok tt)
      → Turns polled turns new → KeepsHandles polled new
      → Did base new registers has s (after (instructions.Print from) s) (Ok tt)
  print_done (Ok shown) new turns prints notes worked kept =
      let led = prints base s own meant_when_read
      in let printed : s.printed ++ (text_shown shown ++ 10 ∷ []) ≡ has =
      ap (λ (lines : List ℕ). lines ++ (text_shown shown ++ 10 ∷ [])) here.same ∙ sym notes
      in (
        with_line (text_shown shown) s,
        led.0,
        worked_at base old mid polled registers registers had s here heap later own told polls keeps new turns
            (with_line (text_shown shown) s) has worked kept
            (at_polled (with_line (text_shown shown) s) has
            (means_printed base mid registers s (text_shown shown) led.1) printed),
      )
  print_done (Err fault) new turns prints notes worked kept =
      absurd (true≢false (ap (λ (r : Result (Unit {0}) Fault). is_ok r) notes.0))
