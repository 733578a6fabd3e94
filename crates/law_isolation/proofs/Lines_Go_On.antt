-- Lines after lines: where the first were all run, what comes of the later ones comes of both.
use Rattle.std.proofs.Common.{◌≡◌, ◌∙◌, ℕ, true, false, List, [], ◌∷◌, ◌++◌, Option, Result, Ok, Err, refl, sym, ap}
use Rattle.std.proofs.Common.{subst}
use Rattle.brc_words.specs.declared.fault.Fault.{Fault}
use Rattle.brc_count.specs.Frames.{FrameSeen, HandleSeen}
use Rattle.brc_script.specs.Instructions.{NumberedLine}
use Rattle.brc_meaning.specs.declared.state.State.{State}
use Rattle.brc_meaning.specs.Outcomes.{◌>>=◌}
use Rattle.brc_meaning.specs.Sections.{SectionStop, lines_after}
use Rattle.brc_meaning.proofs.WrittenOut.{lines_append}
use Rattle.law_isolation.specs.Goes.{is_machines}
use Rattle.law_isolation.specs.Lines.{At, WentOn, BrokeOff, Faulted, Stopped}

module _ {A : Type 0} where
  -- what comes of both is what comes of the later ones
  after_both : (lines later : List (NumberedLine A)) (s next : State A) → lines_after lines s ≡ Ok next
      → lines_after (lines ++ later) s ≡ lines_after later next
  after_both lines later s next is =
      sym (lines_append lines later s) ∙ ap
      (λ (r : Result (State A) (SectionStop A)). r >>= λ last. lines_after later last) is

  stopped_both : (lines later : List (NumberedLine A)) (s : State A) (stop : SectionStop A)
      → lines_after lines s ≡ Err stop
      → lines_after (lines ++ later) s ≡ Err stop
  stopped_both lines later s stop is =
      sym (lines_append lines later s) ∙ ap
      (λ (r : Result (State A) (SectionStop A)). r >>= λ last. lines_after later last) is

  appended : (xs ys zs : List (NumberedLine A)) → xs ++ (ys ++ zs) ≡ (xs ++ ys) ++ zs
  appended [] ys zs = refl
  appended (x ∷ xs) ys zs = ap (λ (lines : List (NumberedLine A)). x ∷ lines) (appended xs ys zs)

  pub nothing_run : (base : ℕ) (frame : FrameSeen A) (registers : List (Option HandleSeen)) (printed : List ℕ)
      (s : State A)
      → At base frame registers printed s → WentOn base frame registers printed s []
  nothing_run base frame registers printed s here = record { next = s; meant = refl; here = here }

  pub went_both : {base : ℕ} {frame : FrameSeen A} {registers : List (Option HandleSeen)} {printed : List ℕ}
      (s next : State A)
      (lines later : List (NumberedLine A)) → lines_after lines s ≡ Ok next
      → WentOn base frame registers printed next later
      → WentOn base frame registers printed s (lines ++ later)
  went_both s next lines later is went =
      record { next = went.next; meant = after_both lines later s next is ∙ went.meant; here = went.here }

  pub stopped_after : {base : ℕ} {frame : FrameSeen A} {registers : List (Option HandleSeen)} {printed : List ℕ}
      {fault : Fault} {line : ℕ}
      (s next : State A) (lines later : List (NumberedLine A)) → lines_after lines s ≡ Ok next
      → Stopped base frame registers printed next later fault line
      → Stopped base frame registers printed s (lines ++ later) fault line
  stopped_after s next lines later is stopped = record {
    broke = λ machines.
        let off : BrokeOff _ next later = stopped.broke machines
        in record {
          front = lines ++ off.front;
          later = off.later;
          whole = ap (λ (these : List (NumberedLine A)). lines ++ these) off.whole ∙ appended lines off.front off.later;
          next = off.next;
          meant = after_both lines off.front s next is ∙ off.meant;
          same = off.same;
        };
    faulted = λ own.
        let faulted : Faulted _ _ _ _ next later _ _ = stopped.faulted own
        in record {
          next = faulted.next;
          meant = after_both lines later s next is ∙ faulted.meant;
          here = faulted.here;
        };
  }

  pub stopped_before : {base : ℕ} {frame : FrameSeen A} {registers : List (Option HandleSeen)} {printed : List ℕ}
      {fault : Fault} {line : ℕ}
      (s : State A) (lines later : List (NumberedLine A)) → Stopped base frame registers printed s lines fault line
      → Stopped base frame registers printed s (lines ++ later) fault line
  stopped_before s lines later stopped = record {
    broke = λ machines.
        let off : BrokeOff _ s lines = stopped.broke machines
        in record {
          front = off.front;
          later = off.later ++ later;
          whole = ap (λ (these : List (NumberedLine A)). these ++ later) off.whole
              ∙ sym (appended off.front off.later later);
          next = off.next;
          meant = off.meant;
          same = off.same;
        };
    faulted = λ own.
        let faulted : Faulted _ _ _ _ s lines _ _ = stopped.faulted own
        in record {
          next = faulted.next;
          meant = stopped_both lines later s _ faulted.meant;
          here = faulted.here;
        };
  }
