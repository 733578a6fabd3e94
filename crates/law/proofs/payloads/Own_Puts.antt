-- What lies in a private cell is what its thread put home there last: nobody else puts anything home there.
use Rattle.std.proofs.Common.{◌≡◌, ◌≢◌, ℕ, ◌<◌, ◌==◌, Bool, true, false, if◌then◌else◌, List, [], ◌∷◌, length, Option}
use Rattle.std.proofs.Common.{Some, None, refl, sym, ◌∙◌, ap, subst, inl, inr, ◌⊎◌, arith}
use Rattle.std.proofs.lemmas.List.{get_or_past}
use Rattle.std.proofs.lemmas.Bool.{cases_eq, cases_lt, cases_Bool, eq-eqb, eqb-true, lt-ltb, true≢false}
use Rattle.std.specs.Cmp.Derive.{both_true}
use Rattle.law.specs.declared.world.event.Event.{Event}
use Rattle.law.specs.declared.world.event.Step.{Step}
use Rattle.law.specs.declared.world.event.Step.TheVariants.{Birth, Free, Unlock, Register, Gather, Offer}
use Rattle.law.specs.declared.world.row.Row.{Row}
use Rattle.law.specs.known.Start.{start_of}
use Rattle.law.specs.world.Heap.{Heap, row_at, no_row, is_registered, AreOptions}
use Rattle.law.specs.world.Sound.{IsSound}
use Rattle.law.specs.world.Steps.{enabled, after, root_after, root_may, thread_may, target_at, is_active, born_cell}
use Rattle.law.specs.world.Runs.{IsReached}
use Rattle.law.proofs.world.Asking.{May, may_parts}
use Rattle.law.specs.declared.world.row.Stage.TheVariants as stages
use Rattle.law.proofs.world.Reached.{reached_sound}
use Rattle.law.specs.lasting.Staying.{is_about}
use Rattle.law.proofs.lasting.Lasting.{others_own}
use Rattle.law.proofs.known.Starting.{run_reached}
use Rattle.law.specs.known.Items.{MayCome, events_of, is_start, is_used}
use Rattle.law.proofs.known.Items_Runs.{events_run}
use Rattle.law.specs.declared.rule.contents.Contents.{Contents}
use Rattle.law.specs.declared.rule.told.Moved.{Moved}
use Rattle.law.specs.declared.rule.told.Moved.TheVariants as moves
use Rattle.law.specs.declared.rule.told.LogItem.{LogItem}
use Rattle.law.specs.declared.rule.told.LogItem.TheVariants.{Stepped, Loaded, Lost}
use Rattle.law.specs.rule.Logs.{item_of, Run, items_of, own_of, world, put_by, contents_at, puts, MovesWith, IsMoved}
use Rattle.law.specs.rule.Logs.{IsLegal, begins, entries_found, log_items}
use Rattle.law.proofs.rule.Own_Logs.{own_items, own_more, own_same}
use Rattle.law.proofs.rule.Stepping.{moved_on, no_start}
use Rattle.law.proofs.rule.Locked_Contents.{not_put}
use Rattle.law.specs.private.Private.{Isolated, private_by, private_of}
use Rattle.law.proofs.private.Others_Leave.{others_leave}
use Rattle.law.proofs.private.Private_Law.{active_or_opens, opens_none, private_cells_stay, private_cells_begin}
use Rattle.law.specs.payloads.Payloads.{private_seen, last_put}

-- ---- what one step puts home

-- whoever puts a cell's block home means that cell
puts_meant : (h : Heap) (t : ℕ) (s : Step) (c : ℕ) → puts h t s ≡ Some c → target_at h t s ≡ Some c
puts_meant h t (Birth d kind k) c is = is
puts_meant h t (Unlock change) c is = is
puts_meant h t s c is = absurd (let bad : None ≡ Some c = is in cc)

born_puts : (h : Heap) (t : ℕ) (s : Step) (c : ℕ) → born_cell s ≡ Some c → puts h t s ≡ Some c
born_puts h t (Birth d kind k) c is = is
born_puts h t s c is = absurd (let bad : None ≡ Some c = is in cc)

-- after a step that puts it home the cell has what it put there, whatever it had
put_anew : (h : Heap) (run : Run) (t : ℕ) (s : Step) (moved : Moved) (c : ℕ) (a b : Contents)
    → MovesWith h run t s moved → puts h t s ≡ Some c → put_by moved c a ≡ put_by moved c b
put_anew h run t s moves.Nothing c a b goes is = absurd (let bad : None ≡ Some c = sym goes.0 ∙ is in cc)
put_anew h run t s (moves.Found d contents) c a b goes is = absurd (let bad : None ≡ Some c = sym goes.puts_none
    ∙ is in cc)
put_anew h run t s (moves.Put d contents) c a b goes is =
    let there : Some d ≡ Some c = sym goes.cell ∙ is in
    let same : d ≡ c = cc in
    ap (λ e. if e then contents else a) (eq-eqb d c same) ∙ sym (ap (λ e. if e then contents else b) (eq-eqb d c same))

-- a cell that is private after a step was so before, or is born there
was_private : (frame : List (Option ℕ)) (into : Option ℕ) (s : Step) (set : ℕ → Bool) (c : ℕ)
    → private_by frame into s set c ≡ true → (set c ≡ true) ⊎ (born_cell s ≡ Some c)
was_private frame into (Birth d kind k) set c is = elim (cases_Bool (d == c)) [
  | inl born ↦ inr (ap Some (eqb-true d c born))
  | inr off ↦ inl (sym (ap (λ b. if b then true else set c) off) ∙ is)
]
was_private frame into (Free d) set c is = inl (kept (d == c) (set c) is)
  where
    kept : (b m : Bool) → (if b then false else m) ≡ true → m ≡ true
    kept true m is = absurd (true≢false (sym is))
    kept false m is = is
was_private frame into (Unlock change) set c is = inl (kept _ (set c) is)
  where
    kept : (b m : Bool) → (if b then false else m) ≡ true → m ≡ true
    kept true m is = absurd (true≢false (sym is))
    kept false m is = is
was_private frame into (Offer d) set c is = inl (kept (set d) (set c) is)
  where
    kept : (b m : Bool) → (if b then false else m) ≡ true → m ≡ true
    kept true m is = absurd (true≢false (sym is))
    kept false m is = is
was_private frame into s set c is = inl is

-- so is one that opens its words
pub opening_registered : (h : Heap) (t m : ℕ) → 0 < t → (row_at h t).stage ≡ stages.Opening m → is_registered h t ≡ true
opening_registered h t m some_thread is = elim (cases_lt t (length h.rows)) [
  | inl inside ↦ both_true (lt-ltb 0 t some_thread) (lt-ltb t (length h.rows) inside)
  | inr past ↦ absurd (not_opening (sym (ap (λ (r : Row). r.stage) (get_or_past h.rows t no_row past)) ∙ is))
]
  where
    not_opening : stages.Left ≡ stages.Opening m → ⊥
    not_opening bad = absurd (cc)

-- an active thread is registered
pub active_registered : (h : Heap) (t : ℕ) → 0 < t → is_active (row_at h t).stage ≡ true → is_registered h t ≡ true
active_registered h t some_thread active = elim (cases_lt t (length h.rows)) [
  | inl inside ↦ both_true (lt-ltb 0 t some_thread) (lt-ltb t (length h.rows) inside)
  | inr past ↦ absurd (true≢false (sym active ∙ ap (λ (r : Row). is_active r.stage) (get_or_past h.rows t no_row past)))
]

module _ (n limit : ℕ) (options : AreOptions n limit) where
  pub legal_reached : (run : Run) → IsLegal n limit run → IsReached (world n limit run)
  legal_reached run legal = run_reached n limit (events_of (items_of run)) options
      (events_run (start_of n limit) (items_of run) legal.items)

  pub legal_sound : (run : Run) → IsLegal n limit run → IsSound (world n limit run)
  legal_sound run legal = reached_sound (world n limit run) (legal_reached run legal)

  pub legal_before : (x : ℕ × LogItem) (run : Run) → IsLegal n limit (x ∷ run) → IsLegal n limit run
  legal_before x run legal = record { items = legal.items.0; moved = legal.moved.0 }

  -- an active thread's private cells are its own
  pub isolated : (run : Run) (t : ℕ) → IsLegal n limit run → 0 < t → is_active (row_at (world n limit run) t).stage
      ≡ true → Isolated (world n limit run) t (private_seen n (own_of t run))
  isolated run t legal some_thread active =
      subst (λ log. Isolated (world n limit run) t (private_of n log)) (own_items t run)
      (private_cells_stay n limit (items_of run) t options legal.items
      (active_registered (world n limit run) t some_thread active) active)

  -- and one that opens its words has none
  pub none_begins : (run : Run) (t m c : ℕ) → IsLegal n limit run → 0 < t
      → (row_at (world n limit run) t).stage ≡ stages.Opening m → private_seen n (own_of t run) c ≡ false
  none_begins run t m c legal some_thread is =
      subst (λ log. private_of n log c ≡ false) (own_items t run)
      (private_cells_begin n limit (items_of run) t m c options legal.items
      (opening_registered (world n limit run) t m some_thread is) is)

  -- what lies in a private cell of an active thread is what the thread put home there last
  OwnPuts : Run → ℕ → Type 0
  OwnPuts run t = is_active (row_at (world n limit run) t).stage ≡ true → (c : ℕ)
      → private_seen n (own_of t run) c ≡ true → contents_at run c ≡ last_put (own_of t run) c

  -- an item that is no own one, and puts nothing home in private cells
  calm : (run : Run) (t u : ℕ) (x : LogItem) (c : ℕ) → own_of t ((u, x) ∷ run) ≡ own_of t run
      → (private_seen n (own_of t run) c ≡ true → contents_at ((u, x) ∷ run) c ≡ contents_at run c)
      → (private_seen n (own_of t run) c ≡ true → contents_at run c ≡ last_put (own_of t run) c)
      → private_seen n (own_of t ((u, x) ∷ run)) c ≡ true
      → contents_at ((u, x) ∷ run) c ≡ last_put (own_of t ((u, x) ∷ run)) c
  calm run t u x c own same before is =
      let was : private_seen n (own_of t run) c ≡ true = ap (λ log. private_seen n log c) (sym own) ∙ is in
      same was ∙ before was ∙ sym (ap (λ log. last_put log c) own)

  -- the thread's own step
  own_step : (run : Run) (t : ℕ) (s : Step) (number : ℕ) (moved : Moved) → IsLegal n limit run
      → May (world n limit run) t s → MovesWith (world n limit run) run t s moved → OwnPuts run t
      → is_active (row_at (moved_on (world n limit run) t s) t).stage ≡ true → (c : ℕ)
      → private_seen n (own_of t ((t, Stepped s number moved) ∷ run)) c ≡ true
      → contents_at ((t, Stepped s number moved) ∷ run) c ≡ last_put (own_of t ((t, Stepped s number moved) ∷ run)) c
  unfolding OwnPuts
  own_step run t s number moved legal may goes before active c is =
      let h : Heap = world n limit run in
      let x : LogItem = Stepped s number moved in
      let own : own_of t ((t, x) ∷ run) ≡ x ∷ own_of t run = own_more t x run (no_start h t s number moved may t) in
      elim (active_or_opens h t s (target_at h t s) may active) [
        | inr opens ↦ absurd (true≢false (sym is ∙ ap (λ log. private_seen n log c) own
            ∙ opens_none n s number (entries_found moved) (log_items (own_of t run)) opens.0 opens.1
            (λ d. none_begins run t opens.0 d legal may.some_thread opens.2) c))
        | inl was ↦
            elim (was_private _ _ s (private_seen n (own_of t run)) c (ap (λ log. private_seen n log c) (sym own)
            ∙ is)) [
              | inl old ↦ ap (put_by moved c) (before was c old)
              | inr born ↦ put_anew h run t s moved c (contents_at run c) (last_put (own_of t run) c) goes
                  (born_puts h t s c born)
            ]
      ]
      ∙ sym (ap (λ log. last_put log c) own)

  -- another thread's
  others_step : (run : Run) (t u : ℕ) (s : Step) (number : ℕ) (moved : Moved) → IsLegal n limit run → 0 < t → u ≢ t
      → thread_may (world n limit run) u s ≡ true → MovesWith (world n limit run) run u s moved → OwnPuts run t
      → is_active (row_at (world n limit run) t).stage ≡ true → (c : ℕ)
      → private_seen n (own_of t ((u, Stepped s number moved) ∷ run)) c ≡ true
      → contents_at ((u, Stepped s number moved) ∷ run) c ≡ last_put (own_of t ((u, Stepped s number moved) ∷ run)) c
  unfolding OwnPuts
  others_step run t u s number moved legal some_thread other may goes before active c is =
      let h : Heap = world n limit run in
      let older : is_start t (item_of (Stepped s number moved)) ≡ false = no_start h u s number moved
      (may_parts h u s may) t in
      calm run t u (Stepped s number moved) c (own_same u t (Stepped s number moved) run older other)
      (λ mine. not_put run u s number moved h c goes (λ puts_it. others_leave h t u (private_seen n (own_of t run)) s c
      (legal_sound run legal) (isolated run t legal some_thread active) other may (puts_meant h u s c puts_it) mine))
      (before active c) is

  -- a log that begins has none
  none_begun : (v number : ℕ) (moved : Moved) (c : ℕ) (used : Bool)
      → private_seen n (begins used (Stepped (Register v) number moved)) c ≡ false
  none_begun v number moved c true = refl
  none_begun v number moved c false = refl

  -- the root's
  root_step : (run : Run) (t : ℕ) (s : Step) (number : ℕ) (moved : Moved) → IsLegal n limit run → 0 < t
      → enabled (world n limit run) (record { thread = 0; step = s }) ≡ true → root_may (world n limit run) s ≡ true
      → MovesWith (world n limit run) run 0 s moved → OwnPuts run t
      → is_active (row_at (after (world n limit run) (record { thread = 0; step = s })) t).stage ≡ true → (c : ℕ)
      → private_seen n (own_of t ((0, Stepped s number moved) ∷ run)) c ≡ true
      → contents_at ((0, Stepped s number moved) ∷ run) c ≡ last_put (own_of t ((0, Stepped s number moved) ∷ run)) c
  unfolding OwnPuts
  root_step run t (Gather v) number moved legal some_thread ok may goes before active c is =
      calm run t 0 (Stepped (Gather v) number moved) c
      (own_same 0 t (Stepped (Gather v) number moved) run refl (λ e. omega (arith, e, some_thread)))
      (λ mine. not_put run 0 (Gather v) number moved (world n limit run) c goes
      (λ bad. (let none : None ≡ Some c = bad in cc)))
      (before active c) is
  root_step run t (Register v) number moved legal some_thread ok may goes before active c is =
      elim (cases_Bool (v == t)) [
        | inl mine ↦
            let x : LogItem = Stepped (Register v) number moved in
            let used : Bool = is_used t (items_of run) in
            let own : own_of t ((0, x) ∷ run) ≡ begins used x =
            ap (λ b. if b then begins used x else (if 0 == t then x ∷ own_of t run else own_of t run)) mine in
            absurd (true≢false (sym is ∙ ap (λ log. private_seen n log c) own ∙ none_begun v number moved c used))
        | inr apart ↦
            let h : Heap = world n limit run in
            let e : Event = record { thread = 0; step = Register v } in
            let other : 0 ≢ t = λ e. omega (arith, e, some_thread) in
            let was : is_active (row_at h t).stage ≡ true = ap (λ (r : Row). is_active r.stage)
            (sym (others_own h e t (legal_sound run legal) ok (record { other = other; apart = apart })).row)
            ∙ active in
            calm run t 0 (Stepped (Register v) number moved) c
            (own_same 0 t (Stepped (Register v) number moved) run apart other)
            (λ mine. not_put run 0 (Register v) number moved h c goes (λ bad. (let none : None ≡ Some c = bad in cc)))
            (before was c) is
      ]
  root_step run t s number moved legal some_thread ok may goes before active c is = absurd (true≢false (sym may))

  -- a note puts nothing home
  note : (run : Run) (t u : ℕ) (x : LogItem) → is_start t (item_of x) ≡ false
      → ((log : List LogItem) (c : ℕ) → private_seen n (x ∷ log) c ≡ private_seen n log c)
      → ((log : List LogItem) (c : ℕ) → last_put (x ∷ log) c ≡ last_put log c)
      → ((c : ℕ) → contents_at ((u, x) ∷ run) c ≡ contents_at run c)
      → ((c : ℕ) → private_seen n (own_of t run) c ≡ true → contents_at run c ≡ last_put (own_of t run) c)
      → (c : ℕ) → private_seen n (own_of t ((u, x) ∷ run)) c ≡ true
      → contents_at ((u, x) ∷ run) c ≡ last_put (own_of t ((u, x) ∷ run)) c
  note run t u x older sets lasts same before c is = elim (cases_eq u t) [
    | inr other ↦ calm run t u x c (own_same u t x run older other) (λ mine. same c) (before c) is
    | inl mine ↦
        let own : own_of t ((u, x) ∷ run) ≡ x ∷ own_of t run = ap (λ v. own_of t ((v, x) ∷ run)) mine
        ∙ own_more t x run older in
        same c ∙ before c (sym (sets (own_of t run) c) ∙ ap (λ log. private_seen n log c) (sym own) ∙ is)
        ∙ sym (lasts (own_of t run) c) ∙ sym (ap (λ log. last_put log c) own)
  ]

  did_step : (run : Run) (t u : ℕ) (s : Step) (number : ℕ) (moved : Moved) → IsLegal n limit run → 0 < t
      → enabled (world n limit run) (record { thread = u; step = s }) ≡ true
      → MovesWith (world n limit run) run u s moved → OwnPuts run t
      → is_active (row_at (after (world n limit run) (record { thread = u; step = s })) t).stage ≡ true → (c : ℕ)
      → private_seen n (own_of t ((u, Stepped s number moved) ∷ run)) c ≡ true
      → contents_at ((u, Stepped s number moved) ∷ run) c ≡ last_put (own_of t ((u, Stepped s number moved) ∷ run)) c
  unfolding OwnPuts
  did_step run t u s number moved legal some_thread ok goes before active c is =
      let h : Heap = world n limit run in
      let x : LogItem = Stepped s number moved in
      elim (cases_Bool (u == 0)) [
        | inl root ↦
            let zero_is : u ≡ 0 = eqb-true u 0 root in
            subst (λ v. contents_at ((v, x) ∷ run) c ≡ last_put (own_of t ((v, x) ∷ run)) c) (sym zero_is)
            (root_step run t s number moved legal some_thread
            (subst (λ v. enabled h (record { thread = v; step = s }) ≡ true) zero_is ok)
            (subst (λ b. (if b then root_may h s else thread_may h u s) ≡ true) root ok)
            (subst (λ v. MovesWith h run v s moved) zero_is goes) before
            (subst (λ v. is_active (row_at (after h (record { thread = v; step = s })) t).stage ≡ true)
            zero_is active) c
            (subst (λ v. private_seen n (own_of t ((v, x) ∷ run)) c ≡ true) zero_is is))
        | inr thread ↦
            let may : thread_may h u s ≡ true = subst (λ b. (if b then root_may h s else thread_may h u s) ≡ true)
            thread ok in
            let is_after : after h (record { thread = u; step = s }) ≡ moved_on h u s =
            ap (λ b. if b then root_after h s else moved_on h u s) thread in
            elim (cases_eq u t) [
              | inl mine ↦
                  subst (λ v. contents_at ((v, x) ∷ run) c ≡ last_put (own_of t ((v, x) ∷ run)) c) (sym mine)
                  (own_step run t s number moved legal (subst (λ v. May h v s) mine (may_parts h u s may))
                  (subst (λ v. MovesWith h run v s moved) mine goes) before
                  (subst (λ v. is_active (row_at (moved_on h v s) t).stage ≡ true) mine
                  (ap (λ w. is_active (row_at w t).stage) (sym is_after) ∙ active)) c
                  (subst (λ v. private_seen n (own_of t ((v, x) ∷ run)) c ≡ true) mine is))
              | inr other ↦
                  let same = others_own h (record { thread = u; step = s }) t (legal_sound run legal) ok
                  (record { other = other; apart = no_about h u s t (may_parts h u s may) }) in
                  others_step run t u s number moved legal some_thread other may goes before
                  (ap (λ (r : Row). is_active r.stage) (sym same.row) ∙ active) c is
            ]
      ]
    where
      no_about : (h : Heap) (u : ℕ) (s : Step) (t : ℕ) → May h u s → is_about t s ≡ false
      no_about h u (Register v) t may = absurd (true≢false (sym may.hand))
      no_about h u (Gather v) t may = absurd (true≢false (sym may.hand))
      no_about h u _ t may = refl

  item_step : (run : Run) (t u : ℕ) (x : LogItem) → IsLegal n limit run → 0 < t
      → MayCome (world n limit run) u (item_of x)
      → IsMoved (world n limit run) run u x → OwnPuts run t → OwnPuts ((u, x) ∷ run) t
  unfolding OwnPuts
  item_step run t u (Stepped s number moved) legal some_thread comes goes before active c is =
      did_step run t u s number moved legal some_thread comes.0 goes before active c is
  item_step run t u (Loaded word number) legal some_thread comes goes before active c is =
      note run t u (Loaded word number) refl (λ log c. refl) (λ log c. refl) (λ c. refl) (before active) c is
  item_step run t u (Lost word number) legal some_thread comes goes before active c is =
      note run t u (Lost word number) refl (λ log c. refl) (λ log c. refl) (λ c. refl) (before active) c is

  own_puts : (run : Run) (t : ℕ) → IsLegal n limit run → 0 < t → OwnPuts run t
  unfolding OwnPuts
  own_puts [] t legal some_thread active c is = absurd (true≢false (sym is))
  own_puts (x ∷ run) t legal some_thread active c is =
      item_step run t x.0 x.1 (legal_before x run legal) some_thread legal.items.1 legal.moved.1
      (own_puts run t (legal_before x run legal) some_thread) active c is

  -- what lies in a private cell is what its thread put home there last
  pub last_put_is_there : (run : Run) (t c : ℕ) → IsLegal n limit run → 0 < t
      → is_active (row_at (world n limit run) t).stage ≡ true → private_seen n (own_of t run) c ≡ true
      → contents_at run c ≡ last_put (own_of t run) c
  unfolding OwnPuts
  last_put_is_there run t c legal some_thread active is = own_puts run t legal some_thread active c is
