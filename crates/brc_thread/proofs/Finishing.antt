-- Turns of a thread that has left, joined.
use Rattle.std.proofs.Common.{◌≡◌, ℕ, ◌+◌, subst, add_assoc, add-zero, sym, ap, ◌∙◌}
use Rattle.brc_count.specs.table.Seated.{SeatSeen}
use Rattle.brc_count.specs.Frames.{FrameSeen, KeepsHandles}
use Rattle.brc_count.specs.Closing.{TurnsLeaving, NoTurn, OneMore}
use Rattle.brc_thread.specs.Threads.{RetiredSeen}
use Rattle.brc_thread.specs.Retiring.{Finishes}

module _ {A : Type 0} where
  -- some turns after others
  pub turns_on : (old mid new : FrameSeen A) (n m : ℕ) → TurnsLeaving old n mid → TurnsLeaving mid m new
      → TurnsLeaving old (n + m) new
  turns_on old mid _ n _ first NoTurn = subst (λ k. TurnsLeaving old k mid) (sym (add-zero n)) first
  turns_on old mid new n _ first (OneMore m between _ second turned) =
      subst (λ k. TurnsLeaving old k new) (add_assoc n m 1)
      (OneMore (n + m) between new (turns_on old mid between n m first second) turned)

  -- nothing is left after them
  pub finishes_after : (left done : FrameSeen A) (retired : RetiredSeen A) (n : ℕ) → KeepsHandles left done
      → TurnsLeaving left n done
      → retired.seat ≡ done.seat → retired.heap ≡ done.heap → Finishes left retired
  finishes_after left done retired n keeps turns seat heap = record {
    turns = n;
    done = done;
    works = turns;
    seat = seat;
    heap = heap ∙ keeps.heap;
    thread = ap (λ (s : SeatSeen A). s.thread) seat ∙ keeps.thread;
  }
