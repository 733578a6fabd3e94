-- What a script's sections come to, on threads of one heap.
use Rattle.std.specs.Prelude.{◌≡◌, ◌≢◌, ◌≤◌, ◌+◌, ◌++◌, ℕ, suc, true, List, [], ◌∷◌, length, reverse, Some, IfSome}
use Rattle.std.specs.declared.alloc.Global.{Global}
use Rattle.brc_words.specs.declared.fault.Fault.TheVariants as faults
use Rattle.brc_words.specs.declared.limits.TheConstants.{GLOBALS, MOST_BIRTHS}
use Rattle.brc_words.specs.Faults.{number_of}
use Rattle.brc_script.specs.declared.script.Section.{Section}
use Rattle.brc_script.specs.Scripts.{is_private}
use Rattle.brc_meaning.specs.Sections.{meaning}
use Rattle.brc_section.specs.Wants.{NoneWasFree}
use Rattle.brc_section.specs.Ends.{IsLineOf}
use Rattle.brc_section.specs.Isolation.{is_own_end, Prints}
use Rattle.brc_section.specs.declared.section.SectionEnd.{SectionEnd}
use Rattle.brc_report.specs.declared.report.Report.{Report}
use Rattle.brc_report.specs.Cycles.{holder_in}
use Rattle.brc_report.specs.Running.{entries_of_first, RunsInto}
use Rattle.brc_count.specs.law.declared.rule.contents.Contents.{Contents}
use Rattle.brc_count.specs.law.declared.rule.told.LogItem.{LogItem}
use Rattle.brc_count.specs.law.declared.rule.view.View.{View}
use Rattle.brc_count.specs.law.rule.Logs.{lives_of, put_in, entries_in}
use Rattle.brc_count.specs.law.steps.Joining.{registering, gathering}
use Rattle.brc_count.specs.table.Seated.{TableSeen, RootSeen}
use Rattle.brc_count.specs.Frames.{FrameSeen, ledger_seen}
use Rattle.brc_thread.specs.Counting.{registrations, gatherings}
use Rattle.brc_thread.specs.Threads.{ledger_of}
use Rattle.brc_heap.specs.Closing.{IsReportOfEnd}
use Rattle.brc_run.specs.declared.crew.Done.{Done}
use Rattle.brc_run.specs.declared.options.RunOptions.{RunOptions}
use Rattle.brc_run.specs.declared.starting.Begun.{Begun}
use Rattle.brc_run.specs.declared.starting.Begun.TheVariants.{Started, LeftOut}

-- Each of the second list is so of that at the same place in the first, and of its number: they are numbered on from
-- the first's. Both are equally long.
abbrev pub InOrder : {X Y : Type 0} → (ℕ → X → Y → Type 0) → ℕ → List X → List Y → Type 0
InOrder IsSo number [] [] = Unit {0}
InOrder IsSo number [] (y ∷ ys) = ⊥
InOrder IsSo number (x ∷ xs) [] = ⊥
InOrder IsSo number (x ∷ xs) (y ∷ ys) = IsSo number x y × InOrder IsSo (suc number) xs ys

module _ {A : Type 0} where
  -- A section's fault is that of one of its lines, and Busy only of one at which its gate may refuse. One that shares
  -- nothing prints its plain meaning, whatever the others do, and its frame is never full.
  pub record EndsAs (refuses : ℕ → ℕ → Type 0) (number : ℕ) (section : Section A) (end : SectionEnd A) : Type 0 where
    pub line : IfSome end.fault (λ fault. IsLineOf fault.1 section.pieces)
    pub busy : (line : ℕ) → end.fault ≡ Some (number_of faults.Busy, line) → refuses number line
    pub prints : is_private section ≡ true → Prints section end.lines.items end.fault
    pub fits : is_private section ≡ true → (line : ℕ) → end.fault ≢ Some (number_of faults.FrameFull, line)

-- a thread's number, and all that it did, newest first: what the root takes in as it gathers the thread
abbrev pub ThreadLife : Type 0
ThreadLife = ℕ × List LogItem

module _ {A : Type 0} where
  -- The life of a section's thread tells of the section's end, of one that shares nothing. Where neither a want nor a
  -- gate stopped it, its thread had made as many objects as the section means to. It ended by HeapFull only where its
  -- thread had searched once for a free cell, with a note of each mortal cell that it wasn't free; and by LedgerFull
  -- only where its thread had made 2^47 objects since it was registered.
  pub record LifeTells (n : ℕ) (section : Section A) (end : SectionEnd A) (life : ThreadLife) : Type 0 where
    pub births : is_private section ≡ true → is_own_end end.fault ≡ true
        → (ledger_of n life.1).allocs ≡ (meaning section).made
    pub heap_full : is_private section ≡ true → (line : ℕ) → end.fault ≡ Some (number_of faults.HeapFull, line)
        → NoneWasFree n [] life.1
    pub ledger_full : is_private section ≡ true → (line : ℕ) → end.fault ≡ Some (number_of faults.LedgerFull, line)
        → MOST_BIRTHS ≤ (ledger_of n life.1).allocs

  -- The first life is that of the first section's thread, the next that of the second's, and so on. Those of threads
  -- that run no section come after them.
  abbrev pub EachTells : ℕ → List (Section A) → List (SectionEnd A) → List ThreadLife → Type 0
  EachTells n [] [] lives = Unit {0}
  EachTells n (section ∷ sections) (end ∷ ends) (life ∷ lives) =
      LifeTells n section end life × EachTells n sections ends lives
  EachTells n sections ends lives = ⊥

  abbrev pub life_of : Done A → ThreadLife
  life_of done = (done.retired.seat.thread, done.retired.seat.log)

module _ {A : Type 0} where
  -- a thread at rest, of this heap, that has made nothing and freed nothing yet
  pub record IsReady (heap : TableSeen) (resting : FrameSeen A) : Type 0 where
    pub heap_is : resting.heap ≡ heap
    pub nothing : ledger_seen resting ≡ record { allocs = 0; frees = 0 }

  -- A section's thread came back from this heap, and its section, if it ran, ended so; of that its life tells.
  pub record CameBack (heap : TableSeen) (refuses : ℕ → ℕ → Type 0) (number : ℕ) (section : Section A)
      (done : Done A) : Type 0 where
    pub heap_is : done.retired.heap ≡ heap
    pub ended : IfSome done.end (EndsAs refuses number section)
    pub told : IfSome done.end (λ end. LifeTells heap.cells section end (life_of done))

module _ {G : Type 0} where
  -- A section was begun: its thread was promised to be of this heap, gate, number and section; or it is done.
  abbrev pub IsBegun : TableSeen → G → (ℕ → ℕ → Type 0) → ℕ → Section Global → Begun G → Type 0
  IsBegun heap gate refuses number section (Started handle) =
      (handle.promise.heap.now ≡ heap) × (handle.promise.gate.now ≡ gate)
      × (handle.promise.number ≡ number) × (handle.promise.section.now ≡ section)
  IsBegun heap gate refuses number section (LeftOut done) = CameBack heap refuses number section done

-- The root registered so many threads more, and took in the lives of those that it gathered, the last one's first.
pub record RootTakesIn (old new : RootSeen) (registered : ℕ) (lives : List ThreadLife) : Type 0 where
  pub same_table : new.table ≡ old.table
  pub more_registered : registrations new.view ≡ registrations old.view + registered
  pub gathered : new.view.gathered ≡ lives ++ old.view.gathered

-- What a log leaves in a cell in which this was: what its last Birth or Unlock of the cell put home, if it has one.
abbrev pub left_in : List LogItem → ℕ → Contents → Contents
left_in [] c before = before
left_in (x ∷ log) c before = put_in x c (left_in log c before)

-- whatever the globals held before, the log leaves no entry in them
abbrev pub LeavesNone : List LogItem → Type 0
LeavesNone log = (before : Contents) → entries_in (left_in log GLOBALS before) ≡ []

-- It registered one thread more, which left no entry in the globals, gathered it, and did nothing else.
pub record ClearsUp (old new : RootSeen) : Type 0 where
  pub thread : View
  pub did : new.view ≡ gathering (registering old.view) thread
  pub same_table : new.table ≡ old.table
  pub none : LeavesNone thread.log

module _ {A : Type 0} where
  -- It registered a thread for each section, and gathered them in the script's order; and then one more, which cleared
  -- the globals.
  pub record TakesInAll (n : ℕ) (sections : List (Section A)) (ends : List (SectionEnd A)) (old new : RootSeen)
      : Type 0 where
    pub lives : List ThreadLife
    pub mid : RootSeen
    pub took : RootTakesIn old mid (length sections) (reverse lives)
    pub clears : ClearsUp mid new
    pub many : length lives ≡ length sections
    pub told : EachTells n sections ends lives

module _ {A : Type 0} where
  -- The report is that of a heap that was closed, on which as many threads were registered as the script has sections,
  -- and one more that cleared the globals, and all were gathered. As many objects live as were made and not freed, and
  -- as many remain. In the run of all that was done on that heap the registrations that ended are, in their order,
  -- those of the sections' threads and the other; what a section's thread did there tells of the section's end. The
  -- globals have no entry. So what is left are cycles and what hangs on them: each walk along the holders runs into one.
  pub record IsReportOf (options : RunOptions) (script : List (Section A)) (ends : List (SectionEnd A))
      (report : Report A) : Type 0 where
    pub root : View
    pub closes : IsReportOfEnd options.cells options.local_limit root report
    pub registered : registrations root ≡ length script + 1
    pub gathered : gatherings root ≡ length script + 1
    pub balance : report.ledger.allocs ≡ report.ledger.frees + report.live
    pub remain : report.live ≡ length report.remains.items
    pub told : EachTells options.cells script ends (reverse (lives_of closes.run))
    pub cleared : entries_of_first report.contents.items ≡ []
    pub hangs : (from holder : ℕ) → holder_in report.remains.items from ≡ Some holder
        → RunsInto report.remains.items report.cycles.items from
