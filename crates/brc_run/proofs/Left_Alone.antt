-- The root's last two steps registered and gathered a thread, and then all are gathered. So nobody stepped beside it, and
-- what stands in a cell in the end is what that thread left there.
use Rattle.std.proofs.Common.{◌≡◌, ◌≢◌, ℕ, ◌<◌, ◌==◌, ◌&&◌, nat_lt, Bool, true, false, if◌then◌else◌, List, [], ◌∷◌, length}
use Rattle.std.proofs.Common.{Some, None, refl, sym, ◌∙◌, ap, subst, inl, inr, arith}
use Rattle.std.proofs.lemmas.Bool.{cases_eq, eq-eqb, ne_eqb, and_parts, lt-ltb, ltb-true, true≢false}
use Rattle.std.proofs.lemmas.List.{length-set, get_or-set_same, get_or_push}
use Rattle.std.specs.Cmp.Derive.{both_true}
use Rattle.brc_count.specs.law.declared.world.event.Event.{Event}
use Rattle.brc_count.specs.law.declared.world.event.Step.{Step}
use Rattle.brc_count.specs.law.declared.world.event.Step.TheVariants.{Register, Gather}
use Rattle.brc_count.specs.law.world.Heap.{Heap, new_row, again_row, is_registered, is_gathered, AreOptions}
use Rattle.brc_count.specs.law.world.Runs.{IsReached}
use Rattle.brc_count.specs.law.world.Sound.{IsSound}
use Rattle.brc_count.specs.law.world.Steps.{root_after, root_may, thread_may, registered, registered_again}
use Rattle.brc_count.proofs.law.world.Asking.{May, may_parts}
use Rattle.brc_count.proofs.law.world.Reached.{reached_sound}
use Rattle.brc_count.proofs.law.world.Registering.{length-push}
use Rattle.brc_count.proofs.law.world.Reusing.{fresh, reused, registers}
use Rattle.brc_count.proofs.law.lasting.Lasting.{others_own}
use Rattle.brc_count.specs.law.known.Start.{start_of}
use Rattle.brc_count.specs.law.known.Items.{events_of, is_start, is_used, own}
use Rattle.brc_count.specs.law.known.Root.{gathered_of, rows_of}
use Rattle.brc_count.proofs.law.known.Items_Runs.{events_run}
use Rattle.brc_count.proofs.law.known.Root_Law.{never_root, gathered_are_told, rows_are_told}
use Rattle.brc_count.proofs.law.known.Starting.{run_reached}
use Rattle.brc_count.specs.law.declared.rule.contents.Contents.{Contents}
use Rattle.brc_count.specs.law.declared.rule.told.Moved.{Moved}
use Rattle.brc_count.specs.law.declared.rule.told.Moved.TheVariants as moves
use Rattle.brc_count.specs.law.declared.rule.told.LogItem.{LogItem}
use Rattle.brc_count.specs.law.declared.rule.told.LogItem.TheVariants.{Stepped, Loaded, Lost}
use Rattle.brc_count.specs.law.rule.Logs.{item_of, log_items, Run, items_of, begins, own_of, gathered_by, lives_on, lives_of, world}
use Rattle.brc_count.specs.law.rule.Logs.{put_in, contents_at, entries_found, puts, MovesWith, IsLegal}
use Rattle.brc_count.proofs.law.rule.Own_Logs.{own_items, own_more, own_same}
use Rattle.brc_count.proofs.law.rule.Stepping.{no_start}
use Rattle.brc_thread.specs.Emptied.{AllGathered}
use Rattle.brc_run.specs.Runs.{ThreadLife, left_in}

-- ---- items that put nothing home

no_cell : (d : ℕ) → None ≡ Some d → ⊥
no_cell d bad = cc

-- a step that puts no block home
pub puts_none : (h : Heap) (run : Run) (t : ℕ) (s : Step) (m : ℕ) (moved : Moved) (c : ℕ) (before : Contents)
    → MovesWith h run t s moved → puts h t s ≡ None → put_in (Stepped s m moved) c before ≡ before
puts_none h run t s m moves.Nothing c before goes none = refl
puts_none h run t s m (moves.Found d contents) c before goes none = refl
puts_none h run t s m (moves.Put d contents) c before goes none = absurd (no_cell d (sym none ∙ goes.cell))

-- the items' heads and rests
head_is : {X : Type 0} {x y : X} {xs ys : List X} → x ∷ xs ≡ y ∷ ys → x ≡ y
head_is e = cc

rest_is : {X : Type 0} {x y : X} {xs ys : List X} → x ∷ xs ≡ y ∷ ys → xs ≡ ys
rest_is e = cc

none_first : {X : Type 0} {y : X} {ys : List X} → [] ≡ y ∷ ys → ⊥
none_first e = cc

saw_is_no_step : (s : Step) (m : ℕ) (moved : Moved) (w : Rattle.brc_count.specs.law.declared.known.word.Word.Word) (k : ℕ)
    → Loaded w k ≡ Stepped s m moved → ⊥
saw_is_no_step s m moved w k e = cc

lost_is_no_step : (s : Step) (m : ℕ) (moved : Moved) (w : Rattle.brc_count.specs.law.declared.known.word.Word.Word) (k : ℕ)
    → Lost w k ≡ Stepped s m moved → ⊥
lost_is_no_step s m moved w k e = cc

-- who is registered now is, and isn't gathered
registered_now : (h : Heap) (u : ℕ) → IsSound h → root_may h (Register u) ≡ true
    → (is_registered (root_after h (Register u)) u ≡ true) × (is_gathered (root_after h (Register u)) u ≡ false)
registered_now h u sound may = elim (registers h u sound may) [
  | fresh next most few is ↦ subst (λ (z : Heap). (is_registered z u ≡ true) × (is_gathered z u ≡ false)) (sym is) (
    both_true (lt-ltb 0 u (omega (arith, next, sound.shaped.root)))
        (lt-ltb u (length (registered h).rows) (omega (arith, next, length-push h.rows new_row))),
    get_or_push h.gathered false false u (sound.shaped.gathered ∙ sym next),
  )
  | reused vacated few is ↦ subst (λ (z : Heap). (is_registered z u ≡ true) × (is_gathered z u ≡ false)) (sym is) (
    both_true (lt-ltb 0 u vacated.thread)
        (lt-ltb u (length (registered_again h u).rows) (omega (arith, vacated.inside, length-set h.rows u again_row))),
    get_or-set_same h.gathered u false false (omega (arith, vacated.inside, sound.shaped.gathered)),
  )
]

module _ (n limit : ℕ) (options : AreOptions n limit) where
  legal_rest : (t : ℕ) (x : LogItem) (run : Run) → IsLegal n limit ((t, x) ∷ run) → IsLegal n limit run
  legal_rest t x run legal = record { items = legal.items.0; moved = legal.moved.0 }

  reached : (run : Run) → IsLegal n limit run → IsReached (world n limit run)
  reached run legal = run_reached n limit (events_of (items_of run)) options
      (events_run (start_of n limit) (items_of run) legal.items)

  -- what a thread's step needs
  may_of : (run : Run) (t : ℕ) (s : Step) (m : ℕ) (moved : Moved) → t ≢ 0
      → IsLegal n limit ((t, Stepped s m moved) ∷ run)
      → May (world n limit run) t s
  may_of run t s m moved thread legal =
      let h : Heap = world n limit run in
      may_parts h t s
      (subst (λ b. (if b then root_may h s else thread_may h t s) ≡ true) (ne_eqb t 0 thread) legal.items.1.0)

  -- who may step is registered
  there_by : (h : Heap) (t : ℕ) (s : Step) → May h t s → is_registered h t ≡ true
  there_by h t s may = both_true (lt-ltb 0 t may.some_thread) (lt-ltb t (length h.rows) may.inside)

  -- every thread but w is gathered
  abbrev pub AllBut : ℕ → Run → Type 0
  AllBut w run = (t : ℕ) → t ≢ w → is_registered (world n limit run) t ≡ true → is_gathered (world n limit run) t ≡ true

  -- a thread's step neither registers nor gathers
  record SameThere (run later : Run) (t : ℕ) : Type 0 where
    pub there : is_registered (world n limit later) t ≡ is_registered (world n limit run) t
    pub gathered : is_gathered (world n limit later) t ≡ is_gathered (world n limit run) t

  same_there : (run : Run) (u : ℕ) (s : Step) (m : ℕ) (moved : Moved) → u ≢ 0
      → IsLegal n limit ((u, Stepped s m moved) ∷ run) → (t : ℕ) → SameThere run ((u, Stepped s m moved) ∷ run) t
  same_there run u s m moved thread legal t =
      let h : Heap = world n limit run in
      let x : LogItem = Stepped s m moved in
      let later : Run = (u, x) ∷ run in
      let told : own 0 (items_of later) ≡ own 0 (items_of run) = own_items 0 later
      ∙ ap log_items (own_same u 0 x run (no_start h u s m moved (may_of run u s m moved thread legal) 0) thread)
      ∙ sym (own_items 0 run) in
      let rows : length (world n limit later).rows ≡ length h.rows =
      rows_are_told n limit (items_of later) options legal.items ∙ ap rows_of told
      ∙ sym (rows_are_told n limit (items_of run) options legal.items.0) in
      record {
        there = ap (λ k. nat_lt 0 t && nat_lt t k) rows;
        gathered = gathered_are_told n limit (items_of later) t options legal.items ∙ ap (λ log. gathered_of log t) told
            ∙ sym (gathered_are_told n limit (items_of run) t options legal.items.0);
      }

  all_but_before : (run : Run) (u : ℕ) (s : Step) (m : ℕ) (moved : Moved) (w : ℕ) → u ≢ 0
      → IsLegal n limit ((u, Stepped s m moved) ∷ run) → AllBut w ((u, Stepped s m moved) ∷ run) → AllBut w run
  all_but_before run u s m moved w thread legal all = λ t other there.
      let same = same_there run u s m moved thread legal t in sym same.gathered ∙ all t other (same.there ∙ there)

  -- ---- from its registration on

  -- in the cell stands what the log of w left there, over what stood there before
  pub record Stands (run : Run) (w c : ℕ) : Type 0 where
    pub before : Contents
    pub stands : contents_at run c ≡ left_in (own_of w run) c before

  begun : (used : Bool) (u m : ℕ) (moved : Moved) (c : ℕ) (before : Contents)
      → put_in (Stepped (Register u) m moved) c before ≡ before
      → before ≡ left_in (begins used (Stepped (Register u) m moved)) c before
  begun true u m moved c before none = sym none
  begun false u m moved c before none = refl

  -- it is the thread that is registered
  same_one : (run : Run) (u m : ℕ) (moved : Moved) (w : ℕ) → IsLegal n limit ((0, Stepped (Register u) m moved) ∷ run)
      → AllBut w ((0, Stepped (Register u) m moved) ∷ run) → u ≡ w
  same_one run u m moved w legal all =
      let h : Heap = world n limit run in
      let ok : root_may h (Register u) ≡ true = legal.items.1.0 in
      let now = registered_now h u
      (reached_sound h (reached run (legal_rest 0 (Stepped (Register u) m moved) run legal))) ok in
      elim (cases_eq u w) [
        | inl same ↦ same
        | inr other ↦ absurd (true≢false (sym (all u other now.0) ∙ now.1))
      ]

  stands_first : (run : Run) (u m : ℕ) (moved : Moved) (w c : ℕ)
      → IsLegal n limit ((0, Stepped (Register u) m moved) ∷ run)
      → u ≡ w → Stands ((0, Stepped (Register u) m moved) ∷ run) w c
  stands_first run u m moved w c legal same =
      let h : Heap = world n limit run in
      let x : LogItem = Stepped (Register u) m moved in
      let none : put_in x c (contents_at run c) ≡ contents_at run c = puts_none h run 0 (Register u) m moved c
      (contents_at run c) legal.moved.1 refl in
      record {
        before = contents_at run c;
        stands = none ∙ begun (is_used w (items_of run)) u m moved c (contents_at run c) none
            ∙ ap (λ log. left_in log c (contents_at run c))
            (sym (ap (λ b. if b then begins (is_used w (items_of run)) x else (if 0 == w then x ∷ own_of w run else own_of
            w run)) (eq-eqb u w same)));
      }

  -- a step of its own
  stands_step : (run : Run) (t : ℕ) (s : Step) (m : ℕ) (moved : Moved) (w c : ℕ) → t ≢ 0 → t ≡ w
      → IsLegal n limit ((t, Stepped s m moved) ∷ run) → Stands run w c → Stands ((t, Stepped s m moved) ∷ run) w c
  stands_step run t s m moved w c thread same legal so =
      let h : Heap = world n limit run in
      let x : LogItem = Stepped s m moved in record {
        before = so.before;
        stands = ap (λ z. put_in x c z) so.stands
            ∙ ap (λ log. left_in log c so.before)
            (sym (ap (λ v. own_of w ((v, x) ∷ run)) same
            ∙ own_more w x run (no_start h t s m moved (may_of run t s m moved thread legal) w)));
      }

  -- a note, of whomever
  stands_note : (run : Run) (t w : ℕ) (x : LogItem) (c : ℕ) → is_start w (item_of x) ≡ false
      → ((z : Contents) → put_in x c z ≡ z) → Stands run w c → Stands ((t, x) ∷ run) w c
  stands_note run t w x c older none so = record {
    before = so.before;
    stands = none (contents_at run c) ∙ so.stands ∙ elim (cases_eq t w) [
      | inl mine ↦ sym (none (left_in (own_of w run) c so.before))
          ∙ ap (λ log. left_in log c so.before)
          (sym (ap (λ v. own_of w ((v, x) ∷ run)) mine ∙ own_more w x run older))
      | inr other ↦ ap (λ log. left_in log c so.before) (sym (own_same t w x run older other))
    ];
  }

  Is_Alone : Run → Type 0
  Is_Alone run = (w u m : ℕ) (moved : Moved) (log : List LogItem) (c : ℕ) → IsLegal n limit run → AllBut w run
      → own_of 0 run ≡ Stepped (Register u) m moved ∷ log → Stands run w c

  -- the root's newest item is the registration
  root_registers : (run : Run) (x : LogItem) (w u m : ℕ) (moved : Moved) (log : List LogItem) (c : ℕ)
      → IsLegal n limit ((0, x) ∷ run) → AllBut w ((0, x) ∷ run) → is_start 0 (item_of x) ≡ false
      → own_of 0 ((0, x) ∷ run) ≡ Stepped (Register u) m moved ∷ log → Stands ((0, x) ∷ run) w c
  root_registers run x w u m moved log c legal all older is =
      subst (λ (y : LogItem). IsLegal n limit ((0, y) ∷ run) → AllBut w ((0, y) ∷ run) → Stands ((0, y) ∷ run) w c)
      (sym (head_is (sym (own_more 0 x run older) ∙ is)))
      (λ there but. stands_first run u m moved w c there (same_one run u m moved w there but)) legal all

  alone_item : (run : Run) (t : ℕ) (x : LogItem) → Is_Alone run → Is_Alone ((t, x) ∷ run)
  unfolding Is_Alone
  alone_item run t (Stepped s k went) before w u m moved log c legal all is = elim (cases_eq t 0) [
    | inl root ↦
        let x : LogItem = Stepped s k went in
        let here : IsLegal n limit ((0, x) ∷ run) = subst (λ v. IsLegal n limit ((v, x) ∷ run)) root legal in
        subst (λ v. Stands ((v, x) ∷ run) w c) (sym root)
        (root_registers run x w u m moved log c here (subst (λ v. AllBut w ((v, x) ∷ run)) root all)
        (never_root (world n limit run) 0 s k (entries_found went) (reached run (legal_rest 0 x run here))
        here.items.1.0)
        (subst (λ v. own_of 0 ((v, x) ∷ run) ≡ Stepped (Register u) m moved ∷ log) root is))
    | inr thread ↦
        let x : LogItem = Stepped s k went in
        let h : Heap = world n limit run in
        let may : May h t s = may_of run t s k went thread legal in
        let but : AllBut w run = all_but_before run t s k went w thread legal all in
        elim (cases_eq t w) [
          | inl same ↦ stands_step run t s k went w c thread same legal
              (before w u m moved log c (legal_rest t x run legal) but
              (sym (own_same t 0 x run (no_start h t s k went may 0) thread) ∙ is))
          | inr other ↦ absurd (true≢false (sym (but t other (there_by h t s may)) ∙ may.not_gathered))
        ]
  ]
  alone_item run t (Loaded v k) before w u m moved log c legal all is = elim (cases_eq t 0) [
    | inl root ↦ absurd (saw_is_no_step (Register u) m moved v k (head_is (sym (own_more 0 (Loaded v k) run refl)
        ∙ subst (λ r. own_of 0 ((r, Loaded v k) ∷ run) ≡ Stepped (Register u) m moved ∷ log) root is)))
    | inr thread ↦ stands_note run t w (Loaded v k) c refl (λ z. refl)
        (before w u m moved log c (legal_rest t (Loaded v k) run legal) all
        (sym (own_same t 0 (Loaded v k) run refl thread) ∙ is))
  ]
  alone_item run t (Lost v k) before w u m moved log c legal all is = elim (cases_eq t 0) [
    | inl root ↦ absurd (lost_is_no_step (Register u) m moved v k (head_is (sym (own_more 0 (Lost v k) run refl)
        ∙ subst (λ r. own_of 0 ((r, Lost v k) ∷ run) ≡ Stepped (Register u) m moved ∷ log) root is)))
    | inr thread ↦ stands_note run t w (Lost v k) c refl (λ z. refl)
        (before w u m moved log c (legal_rest t (Lost v k) run legal) all
        (sym (own_same t 0 (Lost v k) run refl thread) ∙ is))
  ]

  is_alone : (run : Run) → Is_Alone run
  unfolding Is_Alone
  is_alone [] = λ w u m moved log c legal all is. absurd (none_first is)
  is_alone (x ∷ run) = alone_item run x.0 x.1 (is_alone run)

  -- ---- until it is gathered

  -- The newest life of the run is that thread's, and in the cell stands what it left there.
  pub record LeftAlone (run : Run) (w c : ℕ) : Type 0 where
    pub log : List LogItem
    pub earlier : List ThreadLife
    pub lives : lives_of run ≡ (w, log) ∷ earlier
    pub before : Contents
    pub stands : contents_at run c ≡ left_in log c before

  Is_Left : Run → Type 0
  Is_Left run = (w k : ℕ) (went : Moved) (u m : ℕ) (moved : Moved) (log : List LogItem) (c : ℕ) → IsLegal n limit run
      → AllGathered (world n limit run) → own_of 0 run ≡ Stepped (Gather w) k went ∷ Stepped (Register u) m moved ∷ log
      → LeftAlone run w c

  -- before it was gathered all others were
  but_one : (run : Run) (w k : ℕ) (went : Moved) → IsLegal n limit ((0, Stepped (Gather w) k went) ∷ run)
      → AllGathered (world n limit ((0, Stepped (Gather w) k went) ∷ run)) → AllBut w run
  but_one run w k went legal all = λ t other there.
      let h : Heap = world n limit run in
      let x : LogItem = Stepped (Gather w) k went in
      let e : Event = record { thread = 0; step = Gather w } in
      let some : 0 < t = ltb-true 0 t (and_parts (nat_lt 0 t) (nat_lt t (length h.rows)) there).0 in
      sym (others_own h e t (reached_sound h (reached run (legal_rest 0 x run legal))) legal.items.1.0 (record {
        other = λ zero. omega (arith, zero, some);
        apart = ne_eqb w t (λ same. other (sym same));
      })).gathered
      ∙ all t there

  gathered_now : (run : Run) (w k : ℕ) (went : Moved) (u m : ℕ) (moved : Moved) (log : List LogItem) (c : ℕ)
      → IsLegal n limit ((0, Stepped (Gather w) k went) ∷ run)
      → AllGathered (world n limit ((0, Stepped (Gather w) k went) ∷ run))
      → own_of 0 run ≡ Stepped (Register u) m moved ∷ log → LeftAlone ((0, Stepped (Gather w) k went) ∷ run) w c
  unfolding Is_Alone
  gathered_now run w k went u m moved log c legal all is =
      let h : Heap = world n limit run in
      let so : Stands run w c = is_alone run w u m moved log c (legal_rest 0 (Stepped (Gather w) k went) run legal)
      (but_one run w k went legal all) is in
      record {
        log = own_of w run;
        earlier = lives_of run;
        lives = refl;
        before = so.before;
        stands = puts_none h run 0 (Gather w) k went c (contents_at run c) legal.moved.1 refl ∙ so.stands;
      }

  root_gathers : (run : Run) (x : LogItem) (w k : ℕ) (went : Moved) (u m : ℕ) (moved : Moved) (log : List LogItem)
      (c : ℕ)
      → IsLegal n limit ((0, x) ∷ run) → AllGathered (world n limit ((0, x) ∷ run)) → is_start 0 (item_of x) ≡ false
      → own_of 0 ((0, x) ∷ run) ≡ Stepped (Gather w) k went ∷ Stepped (Register u) m moved ∷ log
      → LeftAlone ((0, x) ∷ run) w c
  root_gathers run x w k went u m moved log c legal all older is =
      let both : x ∷ own_of 0 run ≡ Stepped (Gather w) k went ∷ Stepped (Register u) m moved ∷ log =
      sym (own_more 0 x run older) ∙ is in
      subst (λ (y : LogItem). IsLegal n limit ((0, y) ∷ run) → AllGathered (world n limit ((0, y) ∷ run))
      → LeftAlone ((0, y) ∷ run) w c)
      (sym (head_is both))
      (λ there gathered. gathered_now run w k went u m moved log c there gathered (rest_is both)) legal all

  -- behind its gathering nobody may step, and a note changes nothing
  left_note : (run : Run) (t : ℕ) (x : LogItem) (w c : ℕ) → gathered_by x ≡ None
      → ((z : Contents) → put_in x c z ≡ z) → LeftAlone run w c → LeftAlone ((t, x) ∷ run) w c
  left_note run t x w c none puts left = record {
    log = left.log;
    earlier = left.earlier;
    lives = ap (λ o. lives_on o run (lives_of run)) none ∙ left.lives;
    before = left.before;
    stands = puts (contents_at run c) ∙ left.stands;
  }

  left_item : (run : Run) (t : ℕ) (x : LogItem) → Is_Left run → Is_Left ((t, x) ∷ run)
  unfolding Is_Left
  left_item run t (Stepped s j goes) before w k went u m moved log c legal all is = elim (cases_eq t 0) [
    | inl root ↦
        let x : LogItem = Stepped s j goes in
        let here : IsLegal n limit ((0, x) ∷ run) = subst (λ v. IsLegal n limit ((v, x) ∷ run)) root legal in
        subst (λ v. LeftAlone ((v, x) ∷ run) w c) (sym root)
        (root_gathers run x w k went u m moved log c here
        (subst (λ v. AllGathered (world n limit ((v, x) ∷ run))) root all)
        (never_root (world n limit run) 0 s j (entries_found goes) (reached run (legal_rest 0 x run here))
        here.items.1.0)
        (subst (λ v. own_of 0 ((v, x) ∷ run) ≡ Stepped (Gather w) k went ∷ Stepped (Register u) m moved ∷ log) root is))
    | inr thread ↦
        let h : Heap = world n limit run in
        let may : May h t s = may_of run t s j goes thread legal in
        let same = same_there run t s j goes thread legal t in
        absurd (true≢false (sym (sym same.gathered ∙ all t (same.there ∙ there_by h t s may)) ∙ may.not_gathered))
  ]
  left_item run t (Loaded v j) before w k went u m moved log c legal all is = elim (cases_eq t 0) [
    | inl root ↦ absurd (saw_is_no_step (Gather w) k went v j (head_is (sym (own_more 0 (Loaded v j) run refl)
        ∙ subst (λ r. own_of 0 ((r, Loaded v j) ∷ run) ≡ Stepped (Gather w) k went ∷ Stepped (Register u) m moved ∷ log)
        root is)))
    | inr thread ↦ left_note run t (Loaded v j) w c refl (λ z. refl)
        (before w k went u m moved log c (legal_rest t (Loaded v j) run legal) all
        (sym (own_same t 0 (Loaded v j) run refl thread) ∙ is))
  ]
  left_item run t (Lost v j) before w k went u m moved log c legal all is = elim (cases_eq t 0) [
    | inl root ↦ absurd (lost_is_no_step (Gather w) k went v j (head_is (sym (own_more 0 (Lost v j) run refl)
        ∙ subst (λ r. own_of 0 ((r, Lost v j) ∷ run) ≡ Stepped (Gather w) k went ∷ Stepped (Register u) m moved ∷ log)
        root is)))
    | inr thread ↦ left_note run t (Lost v j) w c refl (λ z. refl)
        (before w k went u m moved log c (legal_rest t (Lost v j) run legal) all
        (sym (own_same t 0 (Lost v j) run refl thread) ∙ is))
  ]

  is_left : (run : Run) → Is_Left run
  unfolding Is_Left
  is_left [] = λ w k went u m moved log c legal all is. absurd (none_first is)
  is_left (x ∷ run) = left_item run x.0 x.1 (is_left run)

  -- the root's last two steps registered and gathered a thread
  pub left_alone : (run : Run) (w k : ℕ) (went : Moved) (u m : ℕ) (moved : Moved) (log : List LogItem) (c : ℕ)
      → IsLegal n limit run → AllGathered (world n limit run)
      → own_of 0 run ≡ Stepped (Gather w) k went ∷ Stepped (Register u) m moved ∷ log → LeftAlone run w c
  unfolding Is_Left
  left_alone run = is_left run
