-- From what a section's end says of its thread's log to what the life tells that the root takes in.
use Rattle.std.proofs.Common.{◌≡◌, ◌≤◌, ◌∙◌, ◌++◌, ℕ, suc, true, List, [], ◌∷◌, map, reverse, Option, Some, None}
use Rattle.std.proofs.Common.{sym}
use Rattle.std.proofs.Common.{◌+◌, ap, subst, arith}
use Rattle.std.specs.Prelude.{IfSome}
use Rattle.std.proofs.lemmas.List.{append-nil, reverse-append, reverse-reverse}
use Rattle.brc_words.specs.declared.fault.Fault.TheVariants as faults
use Rattle.brc_words.specs.declared.limits.TheConstants.{MOST_BIRTHS}
use Rattle.brc_words.specs.Faults.{number_of}
use Rattle.brc_script.specs.declared.script.Section.{Section}
use Rattle.brc_script.specs.Scripts.{is_private}
use Rattle.brc_count.specs.law.declared.rule.told.LogItem.{LogItem}
use Rattle.brc_count.specs.law.living.Later.{IsLater}
use Rattle.brc_count.proofs.law.living.Earlier.{later_both}
use Rattle.brc_count.specs.table.Seated.{TableSeen}
use Rattle.brc_count.specs.declared.ledger.Ledger.{Ledger}
use Rattle.brc_count.specs.Frames.{FrameSeen, ledger_seen}
use Rattle.brc_meaning.specs.Sections.{meaning}
use Rattle.brc_section.specs.Wants.{NoneWasFree}
use Rattle.brc_section.specs.declared.section.SectionEnd.{SectionEnd}
use Rattle.brc_section.specs.Isolation.{is_own_end}
use Rattle.brc_thread.specs.Retiring.{RetiresAs}
use Rattle.brc_thread.specs.Threads.{RetiredSeen, ledger_of}
use Rattle.brc_run.specs.declared.crew.Done.{Done}
use Rattle.brc_run.specs.Runs.{ThreadLife, LifeTells, EachTells, EndsAs, CameBack, IsReady, InOrder, life_of}
use Rattle.brc_run.proofs.Retired_Quietly.{retired_bears}

-- every log is the empty one with its items after it
from_nothing : (log : List LogItem) → IsLater [] log
from_nothing log = record { items = log; is = sym (append-nil log) }

-- a search that the log has once the thread has retired, too
none_at_last : (n : ℕ) (old mid new : List LogItem) → IsLater mid new → NoneWasFree n old mid → NoneWasFree n [] new
none_at_last n old mid new later none = record {
  before = none.before;
  after = none.after;
  began = from_nothing none.before;
  searched = none.searched;
  ended = later_both none.after mid new none.ended later;
}

module _ {A : Type 0} where
  pub tells : (heap : TableSeen) (section : Section A) (end : SectionEnd A) (old new : FrameSeen A)
      (retired : RetiredSeen A) → IsReady heap old → new.heap ≡ old.heap → RetiresAs new retired
      → (is_private section ≡ true → is_own_end end.fault ≡ true
      → (ledger_seen new).allocs ≡ (ledger_seen old).allocs + (meaning section).made)
      → (is_private section ≡ true → (line : ℕ) → end.fault ≡ Some (number_of faults.HeapFull, line)
      → NoneWasFree old.heap.cells old.seat.log new.seat.log)
      → (is_private section ≡ true → (line : ℕ) → end.fault ≡ Some (number_of faults.LedgerFull, line)
      → MOST_BIRTHS ≤ (ledger_seen new).allocs)
      → LifeTells heap.cells section end (retired.seat.thread, retired.seat.log)
  tells heap section end old new retired ready same retires bore searched many =
      let bears = retired_bears new retired retires in
      let counted : (ledger_of heap.cells retired.seat.log).allocs ≡ (ledger_seen new).allocs
      = bears.allocs heap.cells
      ∙ ap (λ (h : TableSeen). (ledger_of h.cells new.seat.log).allocs) (sym (same ∙ ready.heap_is)) in record {
        births = λ private own.
            let none : (ledger_seen old).allocs ≡ 0
            = ap (λ (l : Ledger). l.allocs) ready.nothing in
            counted ∙ bore private own ∙ omega (arith, none);
        heap_full = λ private line is.
            subst (λ (h : TableSeen). NoneWasFree h.cells [] retired.seat.log) ready.heap_is
            (none_at_last old.heap.cells old.seat.log new.seat.log retired.seat.log bears.later
            (searched private line is));
        ledger_full = λ private line is.
            subst (λ (births : ℕ). MOST_BIRTHS ≤ births) (sym counted) (many private line is);
      }

  module _ (heap : TableSeen) (refuses : ℕ → ℕ → Type 0) (number : ℕ) (section : Section A)
      (resting woken mutator : FrameSeen A) (retired : RetiredSeen A) (end : Option (SectionEnd A))
      (ready : IsReady heap resting) (woke : woken ≡ resting) (retires : RetiresAs mutator retired) where
    woken_ready : IsReady heap woken
    woken_ready = subst (IsReady heap) (sym woke) ready

    -- the section wasn't run
    pub done_unrun : mutator ≡ woken → end ≡ None
        → CameBack heap refuses number section (record { retired = retired; end = end })
    done_unrun same none = record {
      heap_is = retires.heap ∙ ap (λ (f : FrameSeen A). f.heap) same ∙ woken_ready.heap_is;
      ended = subst (λ (e : Option (SectionEnd A)). IfSome e (EndsAs refuses number section)) (sym none) tt;
      told = subst (λ (e : Option (SectionEnd A)). IfSome e (λ one. LifeTells heap.cells section one
          (retired.seat.thread, retired.seat.log))) (sym none) tt;
    }

    -- it was
    pub done_run : (new : FrameSeen A) (one : SectionEnd A) → mutator ≡ new → end ≡ Some one → new.heap ≡ woken.heap
        → EndsAs refuses number section one
        → (is_private section ≡ true → is_own_end one.fault ≡ true
        → (ledger_seen new).allocs ≡ (ledger_seen woken).allocs + (meaning section).made)
        → (is_private section ≡ true → (line : ℕ) → one.fault ≡ Some (number_of faults.HeapFull, line)
        → NoneWasFree woken.heap.cells woken.seat.log new.seat.log)
        → (is_private section ≡ true → (line : ℕ) → one.fault ≡ Some (number_of faults.LedgerFull, line)
        → MOST_BIRTHS ≤ (ledger_seen new).allocs)
        → CameBack heap refuses number section (record { retired = retired; end = end })
    done_run new one same is home ended bore searched many =
        let retired_so : RetiresAs new retired = subst (λ (f : FrameSeen A). RetiresAs f retired) same retires in
        record {
          heap_is = retired_so.heap ∙ home ∙ woken_ready.heap_is;
          ended = subst (λ (e : Option (SectionEnd A)). IfSome e (EndsAs refuses number section)) (sym is) ended;
          told = subst (λ (e : Option (SectionEnd A)). IfSome e (λ one. LifeTells heap.cells section one
              (retired.seat.thread, retired.seat.log))) (sym is)
              (tells heap section one woken new retired woken_ready home retired_so bore searched many);
        }

  -- where each thread has an end, their lives tell why the sections ended
  pub each_tells : (heap : TableSeen) (refuses : ℕ → ℕ → Type 0) (number : ℕ) (sections : List (Section A))
      (done : List (Done A)) (ends : List (SectionEnd A))
      → map (λ (one : Done A). one.end) done ≡ map Some ends → InOrder (CameBack heap refuses) number sections done
      → EachTells heap.cells sections ends (map life_of done)
  each_tells heap refuses number [] [] [] same so = tt
  each_tells heap refuses number [] [] (end ∷ ends) same so = cc
  each_tells heap refuses number [] (one ∷ done) ends same so = absurd so
  each_tells heap refuses number (section ∷ sections) [] ends same so = absurd so
  each_tells heap refuses number (section ∷ sections) (one ∷ done) [] same so = cc
  each_tells heap refuses number (section ∷ sections) (one ∷ done) (end ∷ ends) same so =
      let head : one.end ≡ Some end = cc in
      let tail : map (λ (one : Done A). one.end) done ≡ map Some ends = cc in (
        subst (λ e. IfSome e (λ (end : SectionEnd A). LifeTells heap.cells section end (life_of one))) head so.0.told,
        each_tells heap refuses (suc number) sections done ends tail so.1,
      )

  -- whatever other lives come behind them
  pub each_tells_before : (n : ℕ) (sections : List (Section A)) (ends : List (SectionEnd A))
      (lives more : List ThreadLife)
      → EachTells n sections ends lives → EachTells n sections ends (lives ++ more)
  each_tells_before n [] [] lives more so = tt
  each_tells_before n [] (end ∷ ends) lives more so = absurd so
  each_tells_before n (section ∷ sections) [] lives more so = absurd so
  each_tells_before n (section ∷ sections) (end ∷ ends) [] more so = absurd so
  each_tells_before n (section ∷ sections) (end ∷ ends) (life ∷ lives) more so =
      (so.0, each_tells_before n sections ends lives more so.1)

-- the other way round the other thread's life comes last
pub turned_round : (last : ThreadLife) (lives : List ThreadLife) → reverse (last ∷ reverse lives) ≡ lives ++ last ∷ []
turned_round last lives =
    reverse-append (last ∷ []) (reverse lives)
    ∙ ap (λ (front : List ThreadLife). front ++ last ∷ []) (reverse-reverse lives)
