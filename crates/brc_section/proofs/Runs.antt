-- Lines after lines: a loop over them keeps that those before were run as they are meant.
use Rattle.std.proofs.Common.{arith, ◌≡◌, ◌≢◌, ◌∙◌, true≢false, ℕ, ◌+◌, ◌-◌, ◌<◌, ◌≤◌, zero, suc, false, List, []}
use Rattle.std.proofs.Common.{◌∷◌, ◌++◌, length, get_or, take, drop, Option, Result, Ok, Err, refl, sym, ap, subst}
use Rattle.std.proofs.Math.Seq.{take-suc}
use Rattle.std.proofs.lemmas.List.{take-append-drop, take_all, append_assoc, append-nil}
use Rattle.std.specs.List.{All, repeat}
use Rattle.brc_words.specs.declared.fault.Fault.{Fault}
use Rattle.brc_words.specs.declared.fault.Fault.TheVariants as faults
use Rattle.brc_script.specs.declared.script.Piece.{Piece}
use Rattle.brc_script.specs.declared.script.Piece.TheVariants as pieces
use Rattle.brc_script.specs.Instructions.{NumberedLine, is_shared}
use Rattle.brc_count.specs.Frames.{FrameSeen, HandleSeen}
use Rattle.brc_meaning.specs.declared.state.State.{State}
use Rattle.brc_meaning.specs.Outcomes.{◌>>=◌}
use Rattle.brc_meaning.specs.Sections.{SectionStop, lines_after, written_out}
use Rattle.brc_meaning.specs.Steps.{after}
use Rattle.law_isolation.specs.Goes.{is_want, is_machines}
use Rattle.law_isolation.specs.Lines.{At, WentOn, Stopped}
use Rattle.law_isolation.proofs.Lines_Go_On.{nothing_run, went_both, stopped_after, stopped_before}
use Rattle.brc_section.specs.declared.running.Halt.{Halt}
use Rattle.brc_section.specs.Running.{AreOwn, Did, RunsOn, HasRun}

abbrev wants_nothing : (fault : Fault) → is_machines fault ≡ false → is_want fault ≡ false
wants_nothing faults.Busy plain = refl
wants_nothing faults.OutOfMemory plain = plain
wants_nothing faults.HeapFull plain = plain
wants_nothing faults.FrameFull plain = plain
wants_nothing faults.LedgerFull plain = plain
wants_nothing _ plain = refl

one_more : (k : ℕ) → suc k ≡ k + 1
one_more k = omega arith

none_and : (k : ℕ) → zero + k ≡ k
none_and k = omega arith

the_rest : (times k : ℕ) → k < times → times ≡ k + suc (times - suc k)
the_rest times k inside = omega (arith, inside)

more_and : (j k : ℕ) → suc j + k ≡ suc (j + k)
more_and j k = omega arith

module _ {A : Type 0} where
  -- ---- lines that share nothing

  own_front : (xs ys : List (NumberedLine A)) → AreOwn (xs ++ ys) → AreOwn xs
  own_front [] ys own = tt
  own_front (x ∷ xs) ys own = (own.0, own_front xs ys own.1)

  own_back : (xs ys : List (NumberedLine A)) → AreOwn (xs ++ ys) → AreOwn ys
  own_back [] ys own = own
  own_back (x ∷ xs) ys own = own_back xs ys own.1

  pub all_own : (lines : List (NumberedLine A)) → All (λ line. is_shared line.instruction ≡ false) lines → AreOwn lines
  all_own [] all = tt
  all_own (x ∷ xs) all = (all zero x (omega arith), all_own xs (λ k d inside. all (suc k) d (omega (arith, inside))))

  -- ---- one part after another

  part_own : (whole done part rest : List (NumberedLine A)) → whole ≡ done ++ (part ++ rest) → AreOwn whole
      → AreOwn part
  part_own whole done part rest is own = own_front part rest (own_back done (part ++ rest) (subst AreOwn is own))

  module _ {old : FrameSeen A} {before : List (Option HandleSeen)} {had : List ℕ} {frame : FrameSeen A}
      {registers : List (Option HandleSeen)} {printed : List ℕ}
      {new : FrameSeen A} {now : List (Option HandleSeen)} {has : List ℕ} (whole done part rest : List (NumberedLine A))
      (is : whole ≡ done ++ (part ++ rest))
      (run : HasRun old before had frame registers printed whole done) where
    pub runs_next : RunsOn frame registers printed new now has part (Ok tt)
        → HasRun old before had new now has whole (done ++ part)
    runs_next runs base s own here =
        let went : WentOn base frame registers printed s done = run base s own here
        in went_both s went.next done part went.meant
        (runs base went.next (part_own whole done part rest is own) went.here)

    pub runs_stop : (halt : Halt) → RunsOn frame registers printed new now has part (Err halt)
        → RunsOn old before had new now has whole (Err halt)
    runs_stop halt runs base s own here =
        let went : WentOn base frame registers printed s done = run base s own here
        in let stopped : Stopped base new now has s (done ++ part) halt.fault halt.line =
        stopped_after s went.next done part went.meant
        (runs base went.next (part_own whole done part rest is own) went.here)
        in let more : Stopped base new now has s ((done ++ part) ++ rest) halt.fault halt.line =
        stopped_before s (done ++ part) rest stopped
        in subst (λ (lines : List (NumberedLine A)). Stopped base new now has s lines halt.fault halt.line)
        (append_assoc done part rest ∙ sym is) more

  -- ---- one line

  -- where its instruction leads
  abbrev ended_with : NumberedLine A → State A → Result (State A) Fault → Result (State A) (SectionStop A)
  ended_with line s (Ok next) = Ok next
  ended_with line s (Err fault) = Err (record { state = s; fault = fault; line = line.number })

  line_is : (line : NumberedLine A) (s : State A) (r : Result (State A) Fault) → after line.instruction s ≡ r
      → lines_after (line ∷ []) s ≡ (ended_with line s r >>= λ next. Ok next)
  line_is line s r is = ap (λ (x : Result (State A) Fault). ended_with line s x >>= λ next. Ok next) is

  pub line_runs : {old new : FrameSeen A} {before now : List (Option HandleSeen)} {had has : List ℕ}
      (line : NumberedLine A)
      → ((base : ℕ) (s : State A) → is_shared line.instruction ≡ false → At base old before had s
      → Did base new now has s (after line.instruction s) (Ok tt))
      → RunsOn old before had new now has (line ∷ []) (Ok tt)
  line_runs line did base s own here =
      let led = did base s own.0 here
      in record { next = led.0; meant = line_is line s (Ok led.0) led.1; here = led.2 }

  -- the gate stops it, or the fault is the line's
  pub line_stops : {old new : FrameSeen A} {before now : List (Option HandleSeen)} {had has : List ℕ}
      (line : NumberedLine A) (fault : Fault)
      → fault ≢ faults.Busy
      → ((base : ℕ) (s : State A) → is_shared line.instruction ≡ false → At base old before had s
      → Did base new now has s (after line.instruction s) (Err fault))
      → RunsOn old before had new now has (line ∷ []) (Err (record { fault = fault; line = line.number }))
  line_stops line fault not_busy did base s own here =
      let refused = did base s own.0 here
      in record {
        broke = λ machines. record {
          front = [];
          later = line ∷ [];
          whole = refl;
          next = s;
          meant = refl;
          same = refused.0;
        };
        faulted = λ plain.
            let meant = refused.1 (wants_nothing fault plain)
            in record { next = s; meant = line_is line s (Err fault) meant.0; here = meant.1 };
      }

  pub gate_stops : {frame : FrameSeen A} {registers : List (Option HandleSeen)} {printed : List ℕ}
      (line : NumberedLine A)
      → RunsOn frame registers printed frame registers printed (line ∷ [])
      (Err (record { fault = faults.Busy; line = line.number }))
  gate_stops line base s own here = record {
    broke = λ machines. record {
      front = [];
      later = line ∷ [];
      whole = refl;
      next = s;
      meant = refl;
      same = here.same;
    };
    faulted = λ plain. absurd (true≢false plain);
  }

  -- ---- loops

  -- the line at a place, with those before and after it
  line_between : (body : List (NumberedLine A)) (k : ℕ) (line : NumberedLine A) → k < length body
      → line ≡ get_or body k line
      → body ≡ take k body ++ ((line ∷ []) ++ drop (suc k) body)
  line_between body k line inside is =
      sym (take-append-drop (suc k) body)
      ∙ ap (λ (front : List (NumberedLine A)). front ++ drop (suc k) body)
      (take-suc body k line inside ∙ ap (λ (l : NumberedLine A). take k body ++ (l ∷ [])) (sym is))
      ∙ append_assoc (take k body) (line ∷ []) (drop (suc k) body)

  pub line_own : (body : List (NumberedLine A)) (k : ℕ) (line : NumberedLine A) → k < length body
      → line ≡ get_or body k line
      → AreOwn body → AreOwn (line ∷ [])
  line_own body k line inside is =
      part_own body (take k body) (line ∷ []) (drop (suc k) body) (line_between body k line inside is)

  line_more : (body : List (NumberedLine A)) (k : ℕ) (line : NumberedLine A) → k < length body
      → line ≡ get_or body k line
      → take k body ++ (line ∷ []) ≡ take (k + 1) body
  line_more body k line inside is =
      ap (λ (l : NumberedLine A). take k body ++ (l ∷ [])) is ∙ sym (take-suc body k line inside)
      ∙ ap (λ (n : ℕ). take n body) (one_more k)

  module _ {old : FrameSeen A} {before : List (Option HandleSeen)} {had : List ℕ} {frame : FrameSeen A}
      {registers : List (Option HandleSeen)} {printed : List ℕ}
      {new : FrameSeen A} {now : List (Option HandleSeen)} {has : List ℕ} (body : List (NumberedLine A)) (k : ℕ)
      (line : NumberedLine A)
      (inside : k < length body) (is : line ≡ get_or body k line)
      (run : HasRun old before had frame registers printed body (take k body)) where
    pub lines_next : RunsOn frame registers printed new now has (line ∷ []) (Ok tt)
        → HasRun old before had new now has body (take (k + 1) body)
    lines_next runs = subst (HasRun old before had new now has body) (line_more body k line inside is)
        (runs_next body (take k body) (line ∷ []) (drop (suc k) body) (line_between body k line inside is) run runs)

    pub lines_stop : (halt : Halt) → RunsOn frame registers printed new now has (line ∷ []) (Err halt)
        → RunsOn old before had new now has body (Err halt)
    lines_stop halt runs =
        runs_stop body (take k body) (line ∷ []) (drop (suc k) body) (line_between body k line inside is) run halt runs

  pub lines_end : {old : FrameSeen A} {before : List (Option HandleSeen)} {had : List ℕ} {frame : FrameSeen A}
      {registers : List (Option HandleSeen)} {printed : List ℕ}
      (body : List (NumberedLine A)) (k : ℕ) → length body ≤ k → HasRun old before had frame registers printed body
      (take k body)
      → RunsOn old before had frame registers printed body (Ok tt)
  lines_end {old = old} {before = before} {had = had} {frame = frame} {registers = registers} {printed = printed} body k
      past run =
      subst (HasRun old before had frame registers printed body) (take_all k body past) run

  pub lines_begin : (frame : FrameSeen A) (registers : List (Option HandleSeen)) (printed : List ℕ)
      (whole : List (NumberedLine A))
      → HasRun frame registers printed frame registers printed whole []
  lines_begin frame registers printed whole base s own here = nothing_run base frame registers printed s here

  -- ---- so many times

  repeat_more : (k : ℕ) (body : List (NumberedLine A)) → repeat k body ++ body ≡ repeat (suc k) body
  repeat_more zero body = sym (append-nil body)
  repeat_more (suc k) body = append_assoc body (repeat k body) body
      ∙ ap (λ (lines : List (NumberedLine A)). body ++ lines) (repeat_more k body)

  repeat_both : (j k : ℕ) (body : List (NumberedLine A)) → repeat (j + k) body ≡ repeat j body ++ repeat k body
  repeat_both zero k body = ap (λ (n : ℕ). repeat n body) (none_and k)
  repeat_both (suc j) k body =
      ap (λ (n : ℕ). repeat n body) (more_and j k)
      ∙ ap (λ (lines : List (NumberedLine A)). body ++ lines) (repeat_both j k body)
      ∙ sym (append_assoc body (repeat j body) (repeat k body))

  turn_between : (times k : ℕ) (body : List (NumberedLine A)) → k < times
      → repeat times body ≡ repeat k body ++ (body ++ repeat (times - suc k) body)
  turn_between times k body inside =
      ap (λ (n : ℕ). repeat n body) (the_rest times k inside) ∙ repeat_both k (suc (times - suc k)) body

  pub turn_own : (times k : ℕ) (body : List (NumberedLine A)) → k < times → AreOwn (repeat times body) → AreOwn body
  turn_own times k body inside =
      part_own (repeat times body) (repeat k body) body (repeat (times - suc k) body) (turn_between times k body inside)

  module _ {old : FrameSeen A} {before : List (Option HandleSeen)} {had : List ℕ} {frame : FrameSeen A}
      {registers : List (Option HandleSeen)} {printed : List ℕ}
      {new : FrameSeen A} {now : List (Option HandleSeen)} {has : List ℕ} (times k : ℕ) (body : List (NumberedLine A))
      (inside : k < times)
      (run : HasRun old before had frame registers printed (repeat times body) (repeat k body)) where
    pub times_next : RunsOn frame registers printed new now has body (Ok tt)
        → HasRun old before had new now has (repeat times body) (repeat (k + 1) body)
    times_next runs = subst (HasRun old before had new now has (repeat times body)) (repeat_more k body
        ∙ ap (λ (n : ℕ). repeat n body) (one_more k))
        (runs_next (repeat times body) (repeat k body) body (repeat (times - suc k) body)
        (turn_between times k body inside) run runs)

    pub times_stop : (halt : Halt) → RunsOn frame registers printed new now has body (Err halt)
        → RunsOn old before had new now has (repeat times body) (Err halt)
    times_stop halt runs =
        runs_stop (repeat times body) (repeat k body) body (repeat (times - suc k) body)
        (turn_between times k body inside) run halt runs

  -- ---- pieces

  written_both : (first later : List (Piece A)) → written_out (first ++ later) ≡ written_out first ++ written_out later
  written_both [] later = refl
  written_both (pieces.One line ∷ first) later = ap (λ (lines : List (NumberedLine A)). line ∷ lines)
      (written_both first later)
  written_both (pieces.Repeat times lines ∷ first) later =
      ap (λ (more : List (NumberedLine A)). repeat times lines ++ more) (written_both first later)
      ∙ sym (append_assoc (repeat times lines) (written_out first) (written_out later))

  piece_more : (all : List (Piece A)) (k : ℕ) (piece : Piece A) → k < length all → piece ≡ get_or all k piece
      → take k all ++ (piece ∷ []) ≡ take (suc k) all
  piece_more all k piece inside is = ap (λ (p : Piece A). take k all ++ (p ∷ [])) is ∙ sym (take-suc all k piece inside)

  piece_between : (all : List (Piece A)) (k : ℕ) (piece : Piece A) → k < length all → piece ≡ get_or all k piece
      → written_out all ≡ written_out (take k all) ++ (written_out (piece ∷ []) ++ written_out (drop (suc k) all))
  piece_between all k piece inside is =
      ap (λ (p : List (Piece A)). written_out p) (sym (take-append-drop (suc k) all))
      ∙ written_both (take (suc k) all) (drop (suc k) all)
      ∙ ap (λ (front : List (NumberedLine A)). front ++ written_out (drop (suc k) all))
      (ap (λ (p : List (Piece A)). written_out p) (sym (piece_more all k piece inside is))
      ∙ written_both (take k all) (piece ∷ []))
      ∙ append_assoc (written_out (take k all)) (written_out (piece ∷ [])) (written_out (drop (suc k) all))

  pub piece_own : (all : List (Piece A)) (k : ℕ) (piece : Piece A) → k < length all → piece ≡ get_or all k piece
      → AreOwn (written_out all) → AreOwn (written_out (piece ∷ []))
  piece_own all k piece inside is =
      part_own (written_out all) (written_out (take k all)) (written_out (piece ∷ [])) (written_out (drop (suc k) all))
      (piece_between all k piece inside is)

  module _ {old : FrameSeen A} {before : List (Option HandleSeen)} {had : List ℕ} {frame : FrameSeen A}
      {registers : List (Option HandleSeen)} {printed : List ℕ}
      {new : FrameSeen A} {now : List (Option HandleSeen)} {has : List ℕ} (all : List (Piece A)) (k : ℕ)
      (piece : Piece A)
      (inside : k < length all) (is : piece ≡ get_or all k piece)
      (run : HasRun old before had frame registers printed (written_out all) (written_out (take k all))) where
    pub pieces_next : RunsOn frame registers printed new now has (written_out (piece ∷ [])) (Ok tt)
        → HasRun old before had new now has (written_out all) (written_out (take (k + 1) all))
    pieces_next runs = subst (HasRun old before had new now has (written_out all))
        (sym (written_both (take k all) (piece ∷ [])) ∙ ap (λ (p : List (Piece A)). written_out p)
        (piece_more all k piece inside is)
        ∙ ap (λ (n : ℕ). written_out (take n all)) (one_more k))
        (runs_next (written_out all) (written_out (take k all)) (written_out (piece ∷ []))
        (written_out (drop (suc k) all))
        (piece_between all k piece inside is) run runs)

    pub pieces_stop : (halt : Halt) → RunsOn frame registers printed new now has (written_out (piece ∷ [])) (Err halt)
        → RunsOn old before had new now has (written_out all) (Err halt)
    pieces_stop halt runs =
        runs_stop (written_out all) (written_out (take k all)) (written_out (piece ∷ []))
        (written_out (drop (suc k) all))
        (piece_between all k piece inside is) run halt runs

  pub pieces_end : {old : FrameSeen A} {before : List (Option HandleSeen)} {had : List ℕ} {frame : FrameSeen A}
      {registers : List (Option HandleSeen)} {printed : List ℕ}
      (all : List (Piece A)) (k : ℕ) → length all ≤ k → HasRun old before had frame registers printed (written_out all)
      (written_out (take k all))
      → RunsOn old before had frame registers printed (written_out all) (Ok tt)
  pieces_end {old = old} {before = before} {had = had} {frame = frame} {registers = registers} {printed = printed} all k
      past run =
      subst (λ (p : List (Piece A)). HasRun old before had frame registers printed (written_out all) (written_out p))
      (take_all k all past) run

  -- a `repeat` alone is its lines so many times
  pub repeat_alone : (times : ℕ) (body : List (NumberedLine A))
      → repeat times body ≡ written_out (pieces.Repeat times body ∷ [])
  repeat_alone times body = sym (append-nil (repeat times body))

  pub times_end : {old : FrameSeen A} {before : List (Option HandleSeen)} {had : List ℕ} {frame : FrameSeen A}
      {registers : List (Option HandleSeen)} {printed : List ℕ}
      (times k : ℕ) (body : List (NumberedLine A)) → times ≤ k → k ≤ times
      → HasRun old before had frame registers printed (repeat times body) (repeat k body)
      → RunsOn old before had frame registers printed (repeat times body) (Ok tt)
  times_end {old = old} {before = before} {had = had} {frame = frame} {registers = registers} {printed = printed} times
      k body past within run =
      let same : k ≡ times = omega (arith, past, within)
      in subst (λ (n : ℕ). HasRun old before had frame registers printed (repeat times body) (repeat n body)) same run

  -- ---- no line

  repeat_none : (times : ℕ) (lines : List (NumberedLine A)) → lines ≡ [] → repeat times lines ≡ []
  repeat_none zero lines none = refl
  repeat_none (suc times) lines none =
      ap (λ (these : List (NumberedLine A)). these ++ repeat times lines) none ∙ repeat_none times lines none

  pub none_in : (piece : Piece A) (times : ℕ) (lines : List (NumberedLine A)) → piece ≡ pieces.Repeat times lines
      → length lines < 1
      → written_out (piece ∷ []) ≡ []
  none_in piece times [] is few =
      ap (λ (p : Piece A). written_out (p ∷ [])) is ∙ append-nil (repeat times []) ∙ repeat_none times [] refl
  none_in piece times (line ∷ lines) is few = absurd (omega (arith, few))

  pub none_more : (all : List (Piece A)) (k : ℕ) (piece : Piece A) → k < length all → piece ≡ get_or all k piece
      → written_out (take k all) ≡ [] → written_out (piece ∷ []) ≡ [] → written_out (take (k + 1) all) ≡ []
  none_more all k piece inside is before none =
      ap (λ (n : ℕ). written_out (take n all)) (sym (one_more k))
      ∙ ap (λ (p : List (Piece A)). written_out p) (sym (piece_more all k piece inside is))
      ∙ written_both (take k all) (piece ∷ [])
      ∙ ap (λ (lines : List (NumberedLine A)). lines ++ written_out (piece ∷ [])) before ∙ none
