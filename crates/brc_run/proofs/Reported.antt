-- What the ends of a script's threads, and the report of its heap, say of its sections.
use Rattle.std.proofs.Common.{◌≡◌, ◌∙◌, ◌+◌, ◌-◌, ◌≤◌, ℕ, suc, List, [], ◌∷◌, ◌++◌, map, length, reverse, Some}
use Rattle.std.proofs.Common.{sym}
use Rattle.std.proofs.Common.{ap, subst, arith}
use Rattle.std.proofs.lemmas.List.{append-nil, length-append, length-map, length-reverse}
use Rattle.std.specs.Prelude.{IfSome}
use Rattle.brc_script.specs.declared.script.Section.{Section}
use Rattle.brc_section.specs.declared.section.SectionEnd.{SectionEnd}
use Rattle.brc_count.specs.table.Seated.{TableSeen, RootSeen}
use Rattle.brc_run.specs.declared.crew.Done.{Done}
use Rattle.brc_count.specs.law.declared.rule.view.View.{View}
use Rattle.brc_count.specs.law.declared.rule.told.Moved.TheVariants.{Nothing}
use Rattle.brc_count.specs.law.declared.rule.told.LogItem.TheVariants.{Stepped}
use Rattle.brc_count.specs.law.rule.Logs.{Run, own_of, lives_of, world, entries_in, contents_at}
use Rattle.brc_count.specs.law.steps.Joining.{next_thread}
use Rattle.brc_count.specs.law.declared.world.event.Step.TheVariants.{Register, Gather}
use Rattle.brc_count.specs.law.world.Heap.{Heap, AreOptions}
use Rattle.brc_words.specs.declared.limits.TheConstants.{FIRST_MORTAL, GLOBALS}
use Rattle.brc_report.specs.Running.{entries_of_first}
use Rattle.brc_thread.specs.Emptied.{used_from}
use Rattle.brc_heap.specs.Contents.{content_at, contents_of_heap}
use Rattle.brc_count.specs.law.rule.Opening.{first_view}
use Rattle.brc_report.specs.declared.report.Report.{Report}
use Rattle.brc_thread.specs.Counting.{registrations, gatherings}
use Rattle.brc_heap.specs.Closing.{IsReportOfEnd}
use Rattle.brc_run.specs.declared.options.RunOptions.{RunOptions}
use Rattle.brc_run.specs.Options.{AreRunOptions}
use Rattle.brc_run.specs.Runs.{InOrder, EndsAs, EachTells, CameBack, ThreadLife, RootTakesIn, ClearsUp, TakesInAll}
use Rattle.brc_run.specs.Runs.{IsReportOf}
use Rattle.brc_run.specs.Runs.{life_of, left_in}
use Rattle.brc_run.proofs.Left_Alone.{left_alone}
use Rattle.brc_run.proofs.Ordered.{as_many}
use Rattle.brc_run.proofs.Taken.{takes_both}
use Rattle.brc_run.proofs.Run_Told.{each_tells, each_tells_before, turned_round}

module _ {A : Type 0} where
  -- where each thread has an end, these are the sections'
  pub ends_in_order : (heap : TableSeen) (refuses : ℕ → ℕ → Type 0) (n : ℕ) (sections : List (Section A))
      (done : List (Done A)) (ends : List (SectionEnd A))
      → map (λ (one : Done A). one.end) done ≡ map Some ends → InOrder (CameBack heap refuses) n sections done
      → InOrder (EndsAs refuses) n sections ends
  ends_in_order heap refuses n [] [] [] same so = tt {0}
  ends_in_order heap refuses n [] [] (end ∷ ends) same so = cc
  ends_in_order heap refuses n [] (one ∷ done) ends same so = absurd so
  ends_in_order heap refuses n (section ∷ sections) [] ends same so = absurd so
  ends_in_order heap refuses n (section ∷ sections) (one ∷ done) [] same so = cc
  ends_in_order heap refuses n (section ∷ sections) (one ∷ done) (end ∷ ends) same so =
      let head : one.end ≡ Some end = cc in
      let tail : map (λ (one : Done A). one.end) done ≡ map Some ends = cc in (
        subst (λ e. IfSome e (EndsAs refuses n section)) head so.0.ended,
        ends_in_order heap refuses
            (suc n) sections done ends tail so.1,
      )

first_is : {X : Type 0} {x y : X} {xs ys : List X} → x ∷ xs ≡ y ∷ ys → x ≡ y
first_is e = cc

-- the first of a heap's contents are the globals'
globals_first : (A : Type 0) (h : Heap) (run : Run) (n : ℕ) → FIRST_MORTAL ≤ n
    → entries_of_first (contents_of_heap {A = A} h run n) ≡ entries_in (contents_at run GLOBALS)
globals_first A h run n enough =
    ap (λ m. entries_of_first (map (content_at {A = A} run) (used_from h GLOBALS m))) (n_is n enough)
  where
    n_is : (n : ℕ) → FIRST_MORTAL ≤ n → n - GLOBALS ≡ suc (n - FIRST_MORTAL)
    n_is n enough = omega (arith, enough)

module _ {A : Type 0} where
  -- the root took in all lives, and no others; so these are the lives of the run that it knows
  lives_told : (n : ℕ) (run : Run) (script : List (Section A)) (ends : List (SectionEnd A)) (old new : RootSeen)
      → old.view ≡ first_view
      → TakesInAll n script ends old new → new.view.gathered ≡ lives_of run
      → EachTells n script ends (reverse (lives_of run))
  lives_told n run script ends old new first took lived =
      let last : ThreadLife = (took.clears.thread.thread, took.clears.thread.log) in
      let taken : new.view.gathered ≡ last ∷ reverse took.lives =
      ap (λ (v : View). v.gathered) took.clears.did
      ∙ ap (λ (lives : List ThreadLife). last ∷ lives) (took.took.gathered
      ∙ ap (λ (v : View). reverse took.lives ++ v.gathered) first ∙ append-nil (reverse took.lives)) in
      let turned : reverse (lives_of run) ≡ took.lives ++ last ∷ [] =
      ap reverse (sym lived ∙ taken) ∙ turned_round last took.lives in
      subst (EachTells n script ends) (sym turned)
      (each_tells_before n script ends took.lives (last ∷ []) took.told)

  -- once the sections' threads are gathered, all are
  as_many_then : (n : ℕ) (script : List (Section A)) (ends : List (SectionEnd A)) (old new : RootSeen)
      → old.view ≡ first_view → (took : TakesInAll n script ends old new)
      → (registrations took.mid.view ≡ length script) × (gatherings took.mid.view ≡ length script)
  as_many_then n script ends old new first took = (
    omega (arith, took.took.more_registered, ap registrations first),
    omega (
      arith,
      ap length took.took.gathered,
      ap gatherings first,
      length-append (reverse took.lives) old.view.gathered,
      length-reverse took.lives,
      took.many,
    ),
  )

  as_many_gathered : (n : ℕ) (script : List (Section A)) (ends : List (SectionEnd A)) (old new : RootSeen)
      → old.view ≡ first_view
      → TakesInAll n script ends old new
      → (registrations new.view ≡ length script + 1) × (gatherings new.view ≡ length script + 1)
  as_many_gathered n script ends old new first took =
      let many = as_many_then n script ends old new first took in (
        ap registrations took.clears.did ∙ ap (λ k. k + 1) many.0,
        ap gatherings took.clears.did ∙ omega (arith, many.1),
      )

  -- the root registers a thread for each section, takes the threads of all in, and then one more
  pub takes_all : (heap : TableSeen) (refuses : ℕ → ℕ → Type 0) (script : List (Section A)) (done : List (Done A))
      (ends : List (SectionEnd A)) (old mid taken new : RootSeen)
      → RootTakesIn old mid (length script) [] → RootTakesIn mid taken 0 (reverse (map life_of done))
      → ClearsUp taken new
      → InOrder (CameBack heap refuses) 1 script done → map (λ (one : Done A). one.end) done ≡ map Some ends
      → TakesInAll heap.cells script ends old new
  takes_all heap refuses script done ends old mid taken new registered gathered one so same =
      let lives = reverse (map life_of done) in record {
        lives = map life_of done;
        mid = taken;
        took = takes_both old mid taken (length script) [] 0 lives (length script) lives registered gathered
            (omega arith) (sym (append-nil lives));
        clears = one;
        many = length-map done life_of ∙ sym (as_many (CameBack heap refuses) 1 script done so);
        told = each_tells heap refuses 1 script done ends same so;
      }

  -- what stands in the globals in the end is what the last thread left there
  none_left : (n limit : ℕ) (script : List (Section A)) (ends : List (SectionEnd A)) (report : Report A)
      (old new : RootSeen) → AreOptions n limit
      → (closes : IsReportOfEnd n limit new.view report) → TakesInAll n script ends old new
      → entries_in (contents_at closes.run GLOBALS) ≡ []
  none_left n limit script ends report old new options closes took =
      let thread : View = took.clears.thread in
      let mid : View = took.mid.view in
      let log : own_of 0 closes.run ≡ Stepped (Gather thread.thread) 0 Nothing ∷ Stepped
      (Register (next_thread mid)) 0 Nothing
      ∷ mid.log = closes.root_did ∙ ap (λ (v : View). v.log) took.clears.did in
      let lives : lives_of closes.run ≡ (thread.thread, thread.log) ∷ mid.gathered =
      sym closes.lives_did ∙ ap (λ (v : View). v.gathered) took.clears.did in
      let left = left_alone n limit options closes.run thread.thread 0 Nothing (next_thread mid) 0 Nothing mid.log GLOBALS
      closes.legal closes.everyone log in
      ap entries_in (left.stands ∙ ap (λ (life : ThreadLife). left_in life.1 GLOBALS left.before)
      (first_is (sym left.lives ∙ lives)))
      ∙ took.clears.none left.before

  report_by : (options : RunOptions) (script : List (Section A)) (ends : List (SectionEnd A)) (report : Report A)
      (old new : RootSeen) → AreRunOptions options → IsReportOfEnd options.cells options.local_limit new.view report
      → old.view ≡ first_view → TakesInAll options.cells script ends old new
      → IsReportOf options script ends report
  report_by options script ends report old new within closes first took =
      let many = as_many_gathered options.cells script ends old new first took in
      let sizes : AreOptions options.cells options.local_limit = record {
        enough = within.enough_cells;
        few_enough = within.few_cells;
        counts = within.counts;
        below_immortal = within.below_immortal;
      } in
      let none : entries_of_first report.contents.items ≡ [] = ap entries_of_first closes.contents
      ∙ globals_first A (world options.cells options.local_limit closes.run) closes.run options.cells
      (omega (arith, within.enough_cells))
      ∙ none_left options.cells options.local_limit script ends report old new sizes closes took in record {
        root = new.view;
        closes = closes;
        registered = many.0;
        gathered = many.1;
        balance = closes.balance;
        remain = closes.remain;
        told = lives_told options.cells closes.run script ends old new first took closes.lives_did;
        cleared = none;
        hangs = closes.walks none;
      }

  pub report_of : (options : RunOptions) (script : List (Section A)) (ends : List (SectionEnd A)) (report : Report A)
      (heap : TableSeen) (old new : RootSeen) → AreRunOptions options → heap.cells ≡ options.cells
      → heap.local_limit ≡ options.local_limit
      → IsReportOfEnd heap.cells heap.local_limit new.view report
      → old.view ≡ first_view → TakesInAll heap.cells script ends old new
      → IsReportOf options script ends report
  report_of options script ends report heap old new within cells limit closes first took =
      report_by options script ends report old new within
      (subst (λ (n : ℕ). IsReportOfEnd n options.local_limit new.view report) cells
      (subst (λ (n : ℕ). IsReportOfEnd heap.cells n new.view report) limit closes)) first
      (subst (λ (n : ℕ). TakesInAll n script ends old new) cells took)
