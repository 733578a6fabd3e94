-- A thread that cleared the globals left no entry in them, and puts nothing there until it is gathered.
use Rattle.std.proofs.Common.{◌≡◌, ℕ, true, false, if◌then◌else◌, List, [], ◌∷◌, Some, None}
use Rattle.std.proofs.Common.{refl, sym, ◌∙◌, ap}
use Rattle.std.specs.Prelude.{Ok}
use Rattle.std.proofs.lemmas.Bool.{and_parts, eq-eqb, true≢false}
use Rattle.brc_words.specs.declared.limits.TheConstants.{GLOBALS}
use Rattle.brc_count.specs.law.declared.world.event.Change.TheVariants.{Keep}
use Rattle.brc_count.specs.law.declared.world.event.Step.TheVariants.{Lock, Unlock}
use Rattle.brc_count.proofs.law.known.Kept_Law.{places_kept}
use Rattle.brc_count.specs.law.declared.rule.contents.Contents.{Contents}
use Rattle.brc_count.specs.law.declared.rule.told.Moved.TheVariants as moves
use Rattle.brc_count.specs.law.declared.rule.told.LogItem.{LogItem}
use Rattle.brc_count.specs.law.declared.rule.told.LogItem.TheVariants.{Stepped, Loaded, Lost}
use Rattle.brc_count.specs.law.rule.Logs.{log_items, put_in, entries_in}
use Rattle.brc_count.specs.law.living.Quiet.{is_quiet, only_lets_go, Quietly, NoItem, OneMore}
use Rattle.brc_count.proofs.law.living.Quiet_Items.{lock_names}
use Rattle.brc_count.specs.table.Seated.{TableSeen}
use Rattle.brc_count.specs.Frames.{FrameSeen, place_seen}
use Rattle.brc_count.specs.Locking.{cell_in}
use Rattle.brc_count.proofs.Quiet.{release_quietly}
use Rattle.brc_thread.specs.Clearing.{ClearsGlobals}
use Rattle.brc_run.specs.Runs.{left_in, LeavesNone}

-- ---- what quiet items leave

quiet_puts : (x : LogItem) (c : ℕ) (before : Contents) → is_quiet x ≡ true → put_in x c before ≡ before
quiet_puts (Stepped s m moves.Nothing) c before quiet = refl
quiet_puts (Stepped s m (moves.Found d contents)) c before quiet = refl
quiet_puts (Stepped s m (moves.Put d contents)) c before quiet =
    absurd (true≢false (sym (and_parts (only_lets_go s) false quiet).1))
quiet_puts (Loaded word m) c before quiet = refl
quiet_puts (Lost word m) c before quiet = refl

pub quietly_left : (old log : List LogItem) (c : ℕ) (before : Contents) → Quietly old log
    → left_in log c before ≡ left_in old c before
quietly_left old _ c before NoItem = refl
quietly_left old _ c before (OneMore x log more quiet) =
    quiet_puts x c (left_in log c before) quiet ∙ quietly_left old log c before more

-- ---- the last look

some_same : {X : Type 0} {x y : X} → Some x ≡ Some y → x ≡ y
some_same e = cc

no_place : (j : ℕ) → None ≡ Some j → ⊥
no_place j bad = cc

-- a look leaves the place that it is at as it was
look_keeps : (n : ℕ) (log : List LogItem) (k c : ℕ) (found put : Contents) → place_seen n log k ≡ Some c
    → place_seen n (Stepped (Unlock Keep) 0 (moves.Put c put) ∷ Stepped (Lock k) 0 (moves.Found c found) ∷ log) k ≡ Some
    c
look_keeps n log k c found put at =
    let locked : List LogItem = Stepped (Lock k) 0 (moves.Found c found) ∷ log in
    places_kept n (log_items locked) (Unlock Keep) c 0 [] k
    (lock_names n log k 0 c (moves.Found c found) at) (no_place k)
    ∙ places_kept n (log_items log) (Lock k) c 0 (entries_in found) k at (no_place k)
    ∙ at

-- it found no entry in the globals, and put that home
looked : (log : List LogItem) (cell : ℕ) (found : Contents) (before : Contents) → cell ≡ GLOBALS → entries_in found ≡ []
    → entries_in (put_in (Stepped (Unlock Keep) 0 (moves.Put cell found)) GLOBALS before) ≡ []
looked log cell found before globals none =
    ap (λ b. entries_in (if b then found else before)) (eq-eqb cell GLOBALS globals) ∙ none

module _ {A : Type 0} where
  -- as a frame of this heap ends that cleared the globals, its thread left none in them
  pub cleared : (old new : FrameSeen A) (done : Unit {0}) → ClearsGlobals old new (Ok done)
      → LeavesNone new.seat.log
  cleared old new done clears =
      let k : ℕ = clears.globals.place in
      let taken : FrameSeen A = clears.takes.taken in
      let looks = clears.takes.last.looks in
      let cell : ℕ = looks.cell in
      let found : Contents = clears.takes.last.found in
      let globals : cell ≡ GLOBALS = some_same (sym looks.of_place ∙ clears.takes.same_cell ∙ clears.given.has) in
      let at : cell_in taken k ≡ Some GLOBALS = looks.of_place ∙ ap Some globals in
      let left_log : clears.left.seat.log ≡ Stepped (Unlock Keep) 0 (moves.Put cell found) ∷ Stepped (Lock k) 0
      (moves.Found cell found) ∷ taken.seat.log = looks.events in
      let place : cell_in clears.left k ≡ Some GLOBALS =
      ap (λ (h : TableSeen). place_seen h.cells clears.left.seat.log k) looks.keeps.heap
      ∙ ap (λ log. place_seen taken.heap.cells log k) left_log
      ∙ look_keeps taken.heap.cells taken.seat.log k cell found found looks.of_place ∙ ap Some globals in
      λ before.
      ap entries_in (quietly_left clears.left.seat.log new.seat.log GLOBALS before
      (release_quietly clears.left new k GLOBALS (clears.gives_back GLOBALS place)))
      ∙ ap (λ log. entries_in (left_in log GLOBALS before)) left_log
      ∙ looked taken.seat.log cell found
      (left_in (Stepped (Lock k) 0 (moves.Found cell found) ∷ taken.seat.log) GLOBALS before) globals
      clears.takes.last.none
