-- What the report of a heap says whose blocks were collected once all threads were gathered.
use Rattle.std.proofs.Common.{◌≡◌, ◌≢◌, ℕ, ◌+◌, ◌-◌, ◌<◌, ◌≤◌, ◌||◌, not, Bool, true, false, List, map, length, Option}
use Rattle.std.proofs.Common.{Some, None, refl, sym, ◌∙◌, ap, inl, inr, arith, ◌⊎◌}
use Rattle.std.specs.Prelude.{sum_by}
use Rattle.std.proofs.lemmas.List.{length-map}
use Rattle.std.proofs.lemmas.Bool.{ltb-false, and_parts, lt-ltb, true≢false}
use Rattle.brc_words.specs.declared.limits.TheConstants.{FIRST_MORTAL, GLOBALS, MOST_REGISTRATIONS}
use Rattle.brc_count.specs.block.declared.payload.Payload.{Payload}
use Rattle.brc_count.specs.law.known.Start.{start_of}
use Rattle.brc_count.specs.law.world.Heap.{Heap, is_immortal, AreOptions}
use Rattle.brc_count.specs.law.world.Holding.{lives, lives_at, live_count}
use Rattle.brc_count.specs.law.world.Sound.{IsSound}
use Rattle.brc_count.specs.law.declared.world.row.Row.{Row}
use Rattle.brc_count.proofs.law.world.Reached.{reached_sound}
use Rattle.brc_heap.proofs.Few_Births.{few_births}
use Rattle.brc_count.specs.law.known.Items.{events_of}
use Rattle.brc_count.proofs.law.known.Items_Queues.{run_cells}
use Rattle.brc_count.proofs.law.known.Items_Runs.{events_run}
use Rattle.brc_count.specs.law.declared.rule.view.View.{View}
use Rattle.brc_count.specs.law.rule.Homes.{AtRest}
use Rattle.brc_count.specs.law.rule.Logs.{Run, items_of, kind_in, contents_at, world}
use Rattle.brc_count.proofs.law.rule.Contents_Law.{contents_fit}
use Rattle.brc_report.specs.declared.content.Content.{Content}
use Rattle.brc_report.specs.declared.content.Remain.{Remain}
use Rattle.brc_report.specs.declared.report.Ledger.{Ledger}
use Rattle.brc_report.specs.declared.report.Report.{Report}
use Rattle.brc_report.specs.Holding.{has, holder_of, remains_of}
use Rattle.brc_report.specs.Spelled.{all_spelled}
use Rattle.brc_words.specs.Kinds.{is_mortal}
use Rattle.brc_report.specs.Reports.{IsReport, are_contents}
use Rattle.brc_report.proofs.Coming_Back.{held_well, runs_into}
use Rattle.brc_thread.specs.Counting.{registrations, gatherings, births_of_all, frees_of_all, in_u32, in_u64}
use Rattle.brc_thread.specs.Emptied.{AllGathered, blocks_in, is_used}
use Rattle.brc_thread.specs.Ending.{IsLastState}
use Rattle.brc_thread.proofs.At_Home.{IsIdle, root_rests, all_idle}
use Rattle.brc_heap.specs.Contents.{live_cells, contents_of_heap, contents_in}
use Rattle.brc_heap.specs.Closing.{IsReportOfEnd, Reports}
use Rattle.brc_heap.proofs.Mortal_Kinds.{kind_mortal}
use Rattle.brc_heap.proofs.Held.{held_by_entry, holder_used}
use Rattle.brc_heap.proofs.Listing.{contents_shown, holder_among, Remaining, all_remain, contents_begin, live_beside}
use Rattle.brc_heap.proofs.Listing.{live_counted}

some_same : {X : Type 0} {x y : X} → Some x ≡ Some y → x ≡ y
some_same e = cc

some_none : {X : Type 0} {x : X} → Some x ≡ None → ⊥
some_none e = cc

within : (n : ℕ) → n < 18446744073709551616 → in_u64 n ≡ n
within n low = omega (arith, low)

module _ {A : Type 0} (n limit id : ℕ) (root : View) (slots : List (Option (ℕ × Payload A)))
    (ends : IsLastState n limit id root slots)
    (same : registrations root ≡ gatherings root) where
  abbrev run : Run
  run = ends.remains.kept.run

  abbrev h : Heap
  h = world n limit run

  options : AreOptions n limit
  options = ends.remains.kept.options

  everyone : AllGathered (world n limit ends.remains.kept.run)
  everyone = ends.everyone same

  sound : IsSound (world n limit ends.remains.kept.run)
  sound = reached_sound h ends.reached

  idle : (t : ℕ) → IsIdle (world n limit ends.remains.kept.run) t
  idle t = all_idle h t ends.reached
      (root_rests n limit (events_of (items_of run)) options
      (events_run (start_of n limit) (items_of run) ends.remains.kept.legal.items)) everyone

  enough : FIRST_MORTAL ≤ n
  enough = omega (arith, options.enough)

  wide : length (world n limit ends.remains.kept.run).cells ≡ n
  wide = run_cells n limit (events_of (items_of run))

  -- the contents that were collected are those of the world
  shown : ◌≡◌ {A = List (Content A)} (contents_in (blocks_in slots))
      (contents_of_heap (world n limit ends.remains.kept.run) ends.remains.kept.run n)
  shown = contents_shown n h run slots (omega (arith, enough)) (ends.all_at_home everyone)

  -- who holds something is at rest
  rests : (d : ℕ) → (d ≡ GLOBALS) ⊎ (lives_at (world n limit ends.remains.kept.run) d ≡ true)
      → AtRest (world n limit ends.remains.kept.run) d
  rests d (inl globals) = record {
    live = ap lives (sound.immortals d (omega (arith, globals))).owner;
    off = λ u. (idle u).worklist d;
  }
  rests d (inr live) = record { live = (and_parts _ _ live).1; off = λ u. (idle u).worklist d }

  mortal : (d : ℕ) → lives_at (world n limit ends.remains.kept.run) d ≡ true → FIRST_MORTAL ≤ d
  mortal d live = ltb-false d FIRST_MORTAL (not_not (is_immortal d) (and_parts _ _ live).0)
    where
      not_not : (b : Bool) → not b ≡ true → b ≡ false
      not_not true is = absurd (true≢false (sym is))
      not_not false is = refl

  from_globals : (d : ℕ) → (d ≡ GLOBALS) ⊎ (lives_at (world n limit ends.remains.kept.run) d ≡ true) → GLOBALS ≤ d
  from_globals d (inl globals) = omega (arith, globals)
  from_globals d (inr live) = omega (arith, mortal d live)

  used : (d : ℕ) → (d ≡ GLOBALS) ⊎ (lives_at (world n limit ends.remains.kept.run) d ≡ true)
      → is_used (world n limit ends.remains.kept.run) d ≡ true
  used d (inl globals) = ap (λ b. b || lives_at h d) (lt-ltb d FIRST_MORTAL (omega (arith, globals)))
  used d (inr live) = ap (λ b. is_immortal d || b) live ∙ or_end (is_immortal d)
    where
      or_end : (b : Bool) → (b || true) ≡ true
      or_end true = refl
      or_end false = refl

  -- so each live mortal cell has a holder among the contents
  holder_there : (q : ℕ) → lives_at (world n limit ends.remains.kept.run) q ≡ true
      → (x : ℕ) × (holder_of (contents_of_heap {A = A} (world n limit ends.remains.kept.run) ends.remains.kept.run n)
      q ≡ Some x)
  holder_there q live =
      let held = held_by_entry h q ends.reached ends.headline everyone idle live in
      let d : ℕ = held.cell in
      let who : (d ≡ GLOBALS) ⊎ (lives_at h d ≡ true) = holder_used h d q ends.reached held.among in
      let fits = contents_fit n limit run d options ends.remains.kept.legal (rests d who) in
      holder_among A h run GLOBALS (n - GLOBALS) d q (from_globals d who)
      (omega (arith, held.inside, sound.shaped.entries, wide, enough)) (used d who)
      (ap (λ es. has es q) fits.entries ∙ held.among)

  -- and is of a mortal kind
  kind_there : (q : ℕ) → lives_at (world n limit ends.remains.kept.run) q ≡ true
      → is_mortal (kind_in (contents_at ends.remains.kept.run q)) ≡ true
  kind_there q live =
      let fits = contents_fit n limit run q options ends.remains.kept.legal (rests q (inr live)) in
      ap is_mortal fits.kind
      ∙ kind_mortal n limit q options (mortal q live) (events_of (items_of run))
      (events_run (start_of n limit) (items_of run) ends.remains.kept.legal.items) live

  remaining : Remaining A (world n limit ends.remains.kept.run) ends.remains.kept.run
      (contents_of_heap {A = A} (world n limit ends.remains.kept.run) ends.remains.kept.run n) GLOBALS (n - GLOBALS)
  remaining = all_remain A h run (contents_of_heap {A = A} h run n) GLOBALS (n - GLOBALS)
      (λ q live low. holder_there q live) kind_there

  pub remains_there : remains_of (contents_in (blocks_in slots)) ≢ None
  remains_there = λ none. some_none (sym remaining.are ∙ ap remains_of (sym shown) ∙ none)

  pub remains_spelled : (remains : List Remain) → remains_of (contents_in (blocks_in slots)) ≡ Some remains
      → all_spelled remains ≡ true
  remains_spelled remains are =
      let same : remaining.remains ≡ remains = some_same (sym remaining.are ∙ ap remains_of (sym shown) ∙ are) in
      ap all_spelled (sym same) ∙ remaining.spelled

  pub closes_so : (ledger : Ledger) (report : Report A) → ledger.allocs ≡ in_u64 (births_of_all root.gathered)
      → ledger.frees ≡ in_u64 (frees_of_all root.gathered)
      → Reports ledger (contents_in (blocks_in slots)) report → IsReportOfEnd n limit root report
  closes_so ledger report births deaths reports =
      let all_births = ends.births everyone in
      let all_deaths = ends.frees everyone in
      let few : h.past_allocs + sum_by (λ (row : Row). row.allocs) h.rows < 18446744073709551616 =
      few_births h ends.reached in
      let allocs : report.ledger.allocs ≡ births_of_all root.gathered =
      ap (λ (l : Ledger). l.allocs) reports.ledger_is ∙ births
      ∙ within (births_of_all root.gathered) (omega (arith, all_births, few)) in
      let frees : report.ledger.frees ≡ frees_of_all root.gathered =
      ap (λ (l : Ledger). l.frees) reports.ledger_is ∙ deaths
      ∙ within (frees_of_all root.gathered) (omega (arith, all_deaths, few, ends.headline.ledger)) in
      let contents : report.contents.items ≡ contents_of_heap h run n = reports.contents_are ∙ shown in
      let remains : remains_of report.contents.items ≡ Some report.remains.items = ap remains_of reports.contents_are
      ∙ reports.remains in
      let same_remains : report.remains.items ≡ remaining.remains = some_same (sym remains ∙ ap remains_of contents
      ∙ remaining.are) in
      let cells : map (λ (remain : Remain). remain.cell) report.remains.items ≡ live_cells h n =
      ap (map (λ (remain : Remain). remain.cell)) same_remains ∙ remaining.cells ∙ live_beside h n enough in
      let live : report.live ≡ live_count h =
      reports.live ∙ sym (length-map report.remains.items (λ (remain : Remain). remain.cell)) ∙ ap length cells
      ∙ live_counted h n enough wide in
      let right : IsReport report.remains.items report.cycles.items report.contents.items = record {
        contents_rise = ap are_contents contents ∙ contents_begin A h run n enough;
        all_remains = remains;
        all_cycles = reports.cycles;
      } in record {
        run = run;
        legal = ends.remains.kept.legal;
        root_did = ends.root_did;
        lives_did = ends.lives_did;
        reached = ends.reached;
        headline = ends.headline;
        everyone = everyone;
        allocs = allocs;
        frees = frees;
        all_allocs = allocs ∙ all_births;
        all_frees = frees ∙ all_deaths;
        live = live;
        balance = omega (
          arith,
          allocs,
          frees,
          all_births,
          all_deaths,
          live,
          ends.headline.ledger,
        );
        remain = reports.live;
        contents = contents;
        remains = remains;
        remain_cells = cells;
        cycles = reports.cycles;
        held = λ cell holder found. held_well report.contents.items report.remains.items report.cycles.items cell holder
            right found;
        walks = λ bare from holder found. runs_into report.contents.items report.remains.items report.cycles.items from
            holder right bare found;
        right = right;
      }

-- ---- as many as were registered

pub all_counted : (root : View) (registered gathered : ℕ) → registered ≡ registrations root
    → registered ≤ MOST_REGISTRATIONS
    → gathered ≡ in_u32 (gatherings root)
    → registered ≡ gathered → registrations root ≡ gatherings root
all_counted root registered gathered told few counted same = omega (arith, told, few, counted, same)

pub some_missing : (root : View) (registered gathered : ℕ) → registered ≡ registrations root
    → registered ≤ MOST_REGISTRATIONS
    → gathered ≡ in_u32 (gatherings root)
    → registered ≢ gathered → registrations root ≢ gatherings root
some_missing root registered gathered told few counted other = λ same. other (omega (arith, told, few, counted, same))
