-- What lasts while others step, and was so as a note was made or after the newest step of the thread, is so now.
use Rattle.std.proofs.Common.{◌≡◌, ◌≢◌, ℕ, ◌<◌, ◌==◌, ◌&&◌, ◌||◌, not, nat_lt, Bool, true, false, if◌then◌else◌, List, []}
use Rattle.std.proofs.Common.{◌∷◌, length, Some, None, refl, sym, ◌∙◌, ap, subst, inl, inr, arith}
use Rattle.std.proofs.lemmas.Bool.{cases_eq, cases_Bool, eq-eqb, ne_eqb, eqb-true, ltb-true, lt-ltb, and_parts}
use Rattle.std.proofs.lemmas.Bool.{true≢false}
use Rattle.std.proofs.lemmas.List.{get_or-set_same, length-set}
use Rattle.std.specs.Cmp.Derive.{both_true}
use Rattle.law.specs.declared.world.event.Event.{Event}
use Rattle.law.specs.declared.world.event.Step.{Step}
use Rattle.law.specs.declared.world.event.Step.TheVariants.{Register, Gather}
use Rattle.law.specs.world.Lists.{number_in}
use Rattle.law.specs.known.Start.{start_of}
use Rattle.law.specs.world.Heap.{Heap, new_row, again_row, is_registered, is_gathered, AreOptions}
use Rattle.law.specs.world.Runs.{IsReached}
use Rattle.law.specs.world.Sound.{IsSound}
use Rattle.law.specs.world.Steps.{enabled, after, after_target, root_after, root_may, thread_may, target_at, registered}
use Rattle.law.specs.world.Steps.{registered_again}
use Rattle.law.proofs.world.Asking.{May, may_parts}
use Rattle.law.proofs.world.Reached.{reached_sound}
use Rattle.law.proofs.world.Registering.{length-push}
use Rattle.law.proofs.world.Reusing.{fresh, reused, registers}
use Rattle.law.specs.lasting.Staying.{is_about, IsAnothers, Lasts}
use Rattle.law.proofs.lasting.Lasting.{other_number, others_own}
use Rattle.law.proofs.lasting.Ranges_Law.{same_rows}
use Rattle.law.proofs.known.Starting.{run_reached}
use Rattle.law.specs.declared.known.word.Field.{Field}
use Rattle.law.specs.declared.known.word.Field.TheVariants.{Owner, Local, Shared, Mutex}
use Rattle.law.specs.declared.known.word.Word.{Word}
use Rattle.law.specs.declared.known.word.Word.TheVariants.{Of, Queue, NotifyWord, FreeWord}
use Rattle.law.specs.known.Items.{WordShows, MayCome, is_start, is_used, same_field, events_of}
use Rattle.law.proofs.known.Items_Runs.{events_run}
use Rattle.law.specs.declared.rule.told.Moved.{Moved}
use Rattle.law.specs.declared.rule.told.LogItem.{LogItem}
use Rattle.law.specs.declared.rule.told.LogItem.TheVariants.{Stepped, Loaded, Lost}
use Rattle.law.specs.rule.Logs.{item_of, Run, items_of, begins, own_of, world, IsLegal}
use Rattle.law.specs.rule.Rule.{stands}
use Rattle.law.specs.rule.Seen.{part_seen, counts_seen}
use Rattle.law.specs.rule.Noted.{is_of, noted, newest_step, counted_before}
use Rattle.law.proofs.rule.Own_Logs.{stands_registered, stands_ungathered, own_more, same_stands}
use Rattle.law.proofs.rule.Knowing.{Known, knows_run}
use Rattle.law.proofs.rule.Stepping.{moved_on, thread_after, no_start, same_threads}

-- ---- who stands after another's event stood before it

root_registered : (h : Heap) (s : Step) (t : ℕ) → IsSound h → root_may h s ≡ true → is_about t s ≡ false
    → t < length (root_after h s).rows → t < length h.rows
root_registered h (Register v) t sound may apart low = elim (registers h v sound may) [
  | fresh next most few is ↦
      let more : t < length (registered h).rows = subst (λ z. t < length z.rows) is low in
      omega (arith, more, length-push h.rows new_row, next, other_number v t apart)
  | reused vacated few is ↦
      let same : t < length (registered_again h v).rows = subst (λ z. t < length z.rows) is low in
      omega (arith, same, length-set h.rows v again_row)
]
root_registered h (Gather v) t sound may apart low = low
root_registered h _ t sound may apart low = low

registered_before : (h : Heap) (e : Event) (t : ℕ) → IsSound h → enabled h e ≡ true → IsAnothers t e
    → is_registered (after h e) t ≡ true → is_registered h t ≡ true
registered_before h e t sound ok others there =
    let moved : Heap = after_target h e.thread e.step (target_at h e.thread e.step) in
    let low : t < length (after h e).rows = ltb-true t (length (after h e).rows)
    (and_parts (nat_lt 0 t) (nat_lt t (length (after h e).rows)) there).1 in
    let was : t < length h.rows = elim (cases_Bool (e.thread == 0)) [
      | inl root ↦ root_registered h e.step t sound
          (subst (λ b. (if b then root_may h e.step else thread_may h e.thread e.step) ≡ true) root ok) others.apart
          (subst (λ b. t < length (if b then root_after h e.step else moved).rows) root low)
      | inr thread ↦ omega (
        arith,
        same_rows h e.thread e.step (target_at h e.thread e.step),
        subst (λ b. t < length (if b then root_after h e.step else moved).rows) thread low,
      )
    ] in
    both_true (and_parts _ _ there).0 (lt-ltb _ _ was)

stood_before : (h : Heap) (e : Event) (t : ℕ) → IsSound h → enabled h e ≡ true → IsAnothers t e → 0 < t
    → stands (after h e) t ≡ true → stands h t ≡ true
stood_before h e t sound ok others some_thread stood =
    ap (λ b. b || (is_registered h t && not (is_gathered h t))) (ne_eqb t 0 (λ same. omega (arith, same, some_thread)))
    ∙ both_true (registered_before h e t sound ok others (stands_registered (after h e) t stood some_thread))
    (ap not (sym (others_own h e t sound ok others).gathered ∙ stands_ungathered (after h e) t stood some_thread))

-- who still stands wasn't gathered just now
gathered_now : (h : Heap) (v t : ℕ) → IsSound h → root_may h (Gather v) ≡ true → 0 < t
    → stands (root_after h (Gather v)) t ≡ true → v ≡ t → ⊥
gathered_now h v t sound may some_thread stood same =
    let there : is_registered h v ≡ true =
    (and_parts _ _ (and_parts _ _ (and_parts _ _ (and_parts _ _ (and_parts _ _ may).0).0).0).0).0 in
    let low : v < length h.rows = ltb-true v (length h.rows)
    (and_parts (nat_lt 0 v) (nat_lt v (length h.rows)) there).1 in
    let now : is_gathered (root_after h (Gather v)) v ≡ true = get_or-set_same h.gathered v true false
    (omega (arith, sound.shaped.gathered, low)) in
    true≢false (sym now ∙ ap (is_gathered (root_after h (Gather v))) same
    ∙ stands_ungathered (root_after h (Gather v)) t stood some_thread)

root_apart : (h : Heap) (s : Step) (number t : ℕ) (moved : Moved) → IsSound h → root_may h s ≡ true → 0 < t
    → stands (root_after h s) t ≡ true → is_start t (item_of (Stepped s number moved)) ≡ false → is_about t s ≡ false
root_apart h (Register v) number t moved sound may some_thread stood older = older
root_apart h (Gather v) number t moved sound may some_thread stood older =
    ne_eqb v t (λ same. gathered_now h v t sound may some_thread stood same)
root_apart h _ number t moved sound may some_thread stood older = absurd (true≢false (sym may))

thread_apart : (h : Heap) (u : ℕ) (s : Step) (t : ℕ) → May h u s → is_about t s ≡ false
thread_apart h u (Register v) t may = absurd (true≢false (sym may.hand))
thread_apart h u (Gather v) t may = absurd (true≢false (sym may.hand))
thread_apart h u _ t may = refl

-- an event that neither registers nor gathers the thread, which still stands
is_apart : (h : Heap) (u : ℕ) (s : Step) (number t : ℕ) (moved : Moved) → IsSound h
    → enabled h (record { thread = u; step = s }) ≡ true → 0 < t
    → stands (after h (record { thread = u; step = s })) t ≡ true
    → is_start t (item_of (Stepped s number moved)) ≡ false
    → is_about t s ≡ false
is_apart h u s number t moved sound ok some_thread stood older =
    let there : Heap = after_target h u s (target_at h u s) in
    elim (cases_Bool (u == 0)) [
      | inl root ↦ root_apart h s number t moved sound
          (subst (λ b. (if b then root_may h s else thread_may h u s) ≡ true) root ok) some_thread
          (subst (λ b. stands (if b then root_after h s else there) t ≡ true) root stood) older
      | inr thread ↦ thread_apart h u s t
          (may_parts h u s (subst (λ b. (if b then root_may h s else thread_may h u s) ≡ true) thread ok))
    ]

-- ---- words of cells

field_is : (f g : Field) → same_field f g ≡ true → f ≡ g
field_is Owner Owner is = refl
field_is Local Local is = refl
field_is Shared Shared is = refl
field_is Mutex Mutex is = refl
field_is Owner _ is = absurd (true≢false (sym is))
field_is Local _ is = absurd (true≢false (sym is))
field_is Shared _ is = absurd (true≢false (sym is))
field_is Mutex _ is = absurd (true≢false (sym is))

word_is : (f : Field) (c : ℕ) (word : Word) → is_of f c word ≡ true → word ≡ Of f c
word_is f c (Of g d) is =
    let parts = and_parts _ _ is in
    ap (λ k. Of k d) (sym (field_is f g parts.0)) ∙ ap (Of f) (eqb-true d c parts.1)
word_is f c (Queue u k) is = absurd (true≢false (sym is))
word_is f c (NotifyWord u) is = absurd (true≢false (sym is))
word_is f c (FreeWord k) is = absurd (true≢false (sym is))

field_again : (f : Field) → same_field f f ≡ true
field_again Owner = refl
field_again Local = refl
field_again Shared = refl
field_again Mutex = refl

-- a look is noted, and so is a lost compare-exchange
pub noted_now : (f : Field) (c number : ℕ) (log : List LogItem) → noted f c (Loaded (Of f c) number ∷ log) ≡ Some number
noted_now f c number log = ap (λ b. if b then Some number else noted f c log)
    (both_true (field_again f) (eq-eqb c c refl))

pub noted_lost : (f : Field) (c number : ℕ) (log : List LogItem) → noted f c (Lost (Of f c) number ∷ log) ≡ Some number
noted_lost f c number log = noted_now f c number log

nothing_noted : (number : ℕ) → None ≡ Some number → ⊥
nothing_noted number bad = absurd (cc)

-- ---- over a run

-- What is so by the thread's own items is so now, where it lasts while others step: each own item has to make it so, or
-- leave it so.
module _ (n limit t : ℕ) (P : Heap → Type 0) (Tells : List LogItem → Type 0) (lasts : Lasts t P)
    (options : AreOptions n limit) (some_thread : 0 < t) (starts : Tells [] → ⊥)
    (again : (number : ℕ) (moved : Moved) → Tells (Stepped (Register t) number moved ∷ []) → ⊥)
    (owns : (run : Run) (x : LogItem) → IsLegal n limit ((t, x) ∷ run) → stands (world n limit ((t, x) ∷ run)) t ≡ true
    → Tells (x ∷ own_of t run)
    → (stands (world n limit run) t ≡ true → Tells (own_of t run) → P (world n limit run))
    → P (world n limit ((t, x) ∷ run))) where
  abbrev Told_So : Run → Type 0
  Told_So run = stands (world n limit run) t ≡ true → Tells (own_of t run) → P (world n limit run)

  others_step : (run : Run) (u : ℕ) (s : Step) (m : ℕ) (moved : Moved) → IsLegal n limit run
      → enabled (world n limit run) (record { thread = u; step = s }) ≡ true → u ≢ t
      → is_start t (item_of (Stepped s m moved)) ≡ false
      → stands (world n limit ((u, Stepped s m moved) ∷ run)) t ≡ true
      → (stands (world n limit run) t ≡ true → P (world n limit run))
      → P (world n limit ((u, Stepped s m moved) ∷ run))
  others_step run u s m moved legal ok other older stood before =
      let h : Heap = world n limit run in
      let reached : IsReached h = run_reached n limit (events_of (items_of run)) options
      (events_run (start_of n limit) (items_of run) legal.items) in
      let sound : IsSound h = reached_sound h reached in
      let others : IsAnothers t (record { thread = u; step = s }) =
      record { other = other; apart = is_apart h u s m t moved sound ok some_thread stood older } in
      lasts h (record { thread = u; step = s }) reached ok others
      (before (stood_before h (record { thread = u; step = s }) t sound ok others some_thread stood))

  others_item : (run : Run) (u : ℕ) (x : LogItem) → IsLegal n limit run → MayCome (world n limit run) u (item_of x)
      → u ≢ t
      → is_start t (item_of x) ≡ false → stands (world n limit ((u, x) ∷ run)) t ≡ true
      → (stands (world n limit run) t ≡ true → P (world n limit run)) → P (world n limit ((u, x) ∷ run))
  others_item run u (Stepped s m moved) legal comes other older stood before =
      others_step run u s m moved legal comes.0 other older stood before
  others_item run u (Loaded word m) legal comes other older stood before = before stood
  others_item run u (Lost word m) legal comes other older stood before = before stood

  -- a log that begins tells nothing
  begun : (x : LogItem) (used : Bool) → is_start t (item_of x) ≡ true → Tells (begins used x) → ⊥
  begun x false first tells = starts tells
  begun (Stepped (Register u) m moved) true first tells =
      again m moved (subst (λ v. Tells (Stepped (Register v) m moved ∷ [])) (eqb-true u t first) tells)
  begun (Stepped _ m moved) true first tells = absurd (true≢false (sym first))
  begun (Loaded word m) true first tells = absurd (true≢false (sym first))
  begun (Lost word m) true first tells = absurd (true≢false (sym first))

  item_so : (run : Run) (u : ℕ) (x : LogItem) → IsLegal n limit ((u, x) ∷ run) → Told_So run → Told_So ((u, x) ∷ run)
  item_so run u x legal before stood tells =
      let earlier : IsLegal n limit run = record { items = legal.items.0; moved = legal.moved.0 } in
      let mine : List LogItem = x ∷ own_of t run in
      elim (cases_Bool (is_start t (item_of x))) [
        | inl first ↦ absurd (begun x (is_used t (items_of run)) first
            (subst Tells (ap (λ b. if b then begins (is_used t (items_of run)) x else (if u ==
            t then mine else own_of t run)) first) tells))
        | inr older ↦
            let tested : own_of t ((u, x) ∷ run) ≡ (if u == t then mine else own_of t run) =
            ap (λ b. if b then begins (is_used t (items_of run)) x else (if u == t then mine else own_of t run)) older in
            elim (cases_eq u t) [
              | inl same ↦
                  subst (λ v. P (world n limit ((v, x) ∷ run))) (sym same)
                  (owns run x (subst (λ v. IsLegal n limit ((v, x) ∷ run)) same legal)
                  (subst (λ v. stands (world n limit ((v, x) ∷ run)) t ≡ true) same stood)
                  (subst Tells (tested ∙ ap (λ b. if b then mine else own_of t run) (eq-eqb u t same)) tells) before)
              | inr other ↦
                  others_item run u x earlier legal.items.1 other older stood
                  (λ stands_there. before stands_there
                  (subst Tells (tested ∙ ap (λ b. if b then mine else own_of t run) (ne_eqb u t other)) tells))
            ]
      ]

  run_so : (run : Run) → IsLegal n limit run → Told_So run
  run_so [] legal stood tells = absurd (starts tells)
  run_so (x ∷ run) legal stood tells =
      item_so run x.0 x.1 (record { items = legal.items; moved = legal.moved })
      (run_so run (record { items = legal.items.0; moved = legal.moved.0 })) stood tells

  told_so : (h : Heap) (log : List LogItem) → Known n limit h t log → Tells log → P h
  told_so h log known tells =
      subst P known.is_world (run_so known.run known.legal
      (subst (λ z. stands z t ≡ true) (sym known.is_world) known.stood) (subst Tells (sym known.is_own) tells))

-- ---- since a note

module _ (n limit t : ℕ) (now : List LogItem) (P : Heap → Type 0) (options : AreOptions n limit) (some_thread : 0 < t)
    (f : Field) (c number : ℕ)
    (found : (h : Heap) (before : List LogItem) → Known n limit h t before → part_seen n before ≡ part_seen n now
    → WordShows h (Of f c) number → P h) where
  -- the note is there, and the thread's part is as it is now
  abbrev NotedSo : List LogItem → Type 0
  NotedSo log = (noted f c log ≡ Some number) × (part_seen n log ≡ part_seen n now)

  own_note : (run : Run) (word : Word) (m : ℕ) → IsLegal n limit run → stands (world n limit run) t ≡ true
      → WordShows (world n limit run) word m
      → (if is_of f c word then Some m else noted f c (own_of t run)) ≡ Some number
      → part_seen n (own_of t run) ≡ part_seen n now
      → (stands (world n limit run) t ≡ true → NotedSo (own_of t run) → P (world n limit run)) → P (world n limit run)
  own_note run word m legal stood shown is same before = elim (cases_Bool (is_of f c word)) [
    | inl here ↦
        let this : m ≡ number = ap number_in
        (sym (ap (λ b. if b then Some m else noted f c (own_of t run)) here) ∙ is) in
        found (world n limit run) (own_of t run) (knows_run n limit run t options legal stood some_thread) same
        (subst (WordShows (world n limit run) (Of f c)) this
        (subst (λ w. WordShows (world n limit run) w m) (word_is f c word here) shown))
    | inr other ↦ before stood (sym (ap (λ b. if b then Some m else noted f c (own_of t run)) other) ∙ is, same)
  ]

  noted_item : (run : Run) (x : LogItem) → IsLegal n limit ((t, x) ∷ run)
      → stands (world n limit ((t, x) ∷ run)) t ≡ true
      → NotedSo (x ∷ own_of t run)
      → (stands (world n limit run) t ≡ true → NotedSo (own_of t run) → P (world n limit run))
      → P (world n limit ((t, x) ∷ run))
  noted_item run (Stepped s m moved) legal stood tells before = absurd (nothing_noted number tells.0)
  noted_item run (Loaded word m) legal stood tells before =
      own_note run word m (record { items = legal.items.0; moved = legal.moved.0 }) stood legal.items.1 tells.0
      tells.1 before
  noted_item run (Lost word m) legal stood tells before =
      own_note run word m (record { items = legal.items.0; moved = legal.moved.0 }) stood legal.items.1 tells.0
      tells.1 before

-- what lasts, and was so as the note was made
pub since : (n limit : ℕ) (h : Heap) (t : ℕ) (log : List LogItem) (f : Field) (c number : ℕ) (P : Heap → Type 0) → 0 < t
    → Known n limit h t log → noted f c log ≡ Some number → Lasts t P
    → ((old : Heap) (before : List LogItem) → Known n limit old t before → part_seen n before ≡ part_seen n log
    → WordShows old (Of f c) number → P old) → P h
since n limit h t log f c number P some_thread known is lasts found =
    told_so n limit t P (λ now. (noted f c now ≡ Some number) × (part_seen n now ≡ part_seen n log)) lasts known.options
    some_thread (λ bad. nothing_noted number bad.0) (λ m moved bad. nothing_noted number bad.0)
    (noted_item n limit t log P known.options some_thread f c number found) h log known (is, refl)

-- ---- since a step of the thread's own

no_step : (s : Step) → None ≡ Some s → ⊥
no_step s bad = absurd (cc)

step_same : (r s : Step) → Some r ≡ Some s → r ≡ s
step_same r s e = cc

module _ (n limit t : ℕ) (now : List LogItem) (P : Heap → Type 0) (options : AreOptions n limit) (some_thread : 0 < t)
    (s : Step)
    (done : (h : Heap) (later : List LogItem) → May h t s → Known n limit (moved_on h t s) t later
    → part_seen n later ≡ part_seen n now → P (moved_on h t s)) where
  abbrev SteppedSo : List LogItem → Type 0
  SteppedSo log = (newest_step log ≡ Some s) × (part_seen n log ≡ part_seen n now)

  own_step : (run : Run) (m : ℕ) (moved : Moved) → IsLegal n limit ((t, Stepped s m moved) ∷ run)
      → stands (world n limit ((t, Stepped s m moved) ∷ run)) t ≡ true
      → part_seen n (Stepped s m moved ∷ own_of t run) ≡ part_seen n now
      → P (world n limit ((t, Stepped s m moved) ∷ run))
  own_step run m moved legal stood same =
      let h : Heap = world n limit run in
      let x : LogItem = Stepped s m moved in
      let off : (t == 0) ≡ false = ne_eqb t 0 (λ zero. omega (arith, zero, some_thread)) in
      let may : May h t s = may_parts h t s
      (subst (λ b. (if b then root_may h s else thread_may h t s) ≡ true) off legal.items.1.0) in
      let is : world n limit ((t, x) ∷ run) ≡ moved_on h t s = thread_after h t s some_thread in
      let log : own_of t ((t, x) ∷ run) ≡ x ∷ own_of t run = own_more t x run (no_start h t s m moved may t) in
      subst P (sym is) (done h (own_of t ((t, x) ∷ run)) may
      (subst (λ z. Known n limit z t (own_of t ((t, x) ∷ run))) is
      (knows_run n limit ((t, x) ∷ run) t options legal stood some_thread)) (ap (part_seen n) log ∙ same))

  stepped_item : (run : Run) (x : LogItem) → IsLegal n limit ((t, x) ∷ run)
      → stands (world n limit ((t, x) ∷ run)) t ≡ true → SteppedSo (x ∷ own_of t run)
      → (stands (world n limit run) t ≡ true → SteppedSo (own_of t run) → P (world n limit run))
      → P (world n limit ((t, x) ∷ run))
  stepped_item run (Stepped other m moved) legal stood tells before =
      let is : Some other ≡ Some s = tells.0 in
      let same : s ≡ other = cc in
      subst (λ z. IsLegal n limit ((t, Stepped z m moved) ∷ run)
      → stands (world n limit ((t, Stepped z m moved) ∷ run)) t ≡ true
      → part_seen n (Stepped z m moved ∷ own_of t run) ≡ part_seen n now
      → P (world n limit ((t, Stepped z m moved) ∷ run)))
      same (own_step run m moved) legal stood tells.1
  stepped_item run (Loaded word m) legal stood tells before = before stood tells
  stepped_item run (Lost word m) legal stood tells before = before stood tells

-- what lasts, and was so after the thread's newest step, which isn't the root's
pub since_step : (n limit : ℕ) (h : Heap) (t : ℕ) (log : List LogItem) (s : Step) (P : Heap → Type 0) → 0 < t
    → Known n limit h t log → newest_step log ≡ Some s → s ≢ Register t → Lasts t P
    → ((old : Heap) (later : List LogItem) → May old t s → Known n limit (moved_on old t s) t later
    → part_seen n later ≡ part_seen n log → P (moved_on old t s)) → P h
since_step n limit h t log s P some_thread known is own lasts done =
    told_so n limit t P (λ now. (newest_step now ≡ Some s) × (part_seen n now ≡ part_seen n log)) lasts known.options
    some_thread (λ bad. no_step s bad.0) (λ m moved bad. own (sym (step_same (Register t) s bad.0)))
    (stepped_item n limit t log P known.options some_thread s done) h log known (is, refl)

-- ---- since such a step, by the count that the log told before it

module _ (n limit t : ℕ) (now : List LogItem) (P : Heap → Type 0) (options : AreOptions n limit) (some_thread : 0 < t)
    (s : Step) (c count : ℕ)
    (done : (h : Heap) (before later : List LogItem) → May h t s → Known n limit h t before
    → counts_seen n before c ≡ count → Known n limit (moved_on h t s) t later → part_seen n later ≡ part_seen n now
    → P (moved_on h t s)) where
  -- The newest step is this one, and before it the log told this count, where the cell is mortal.
  abbrev CountedSo : List LogItem → Type 0
  CountedSo log = (newest_step log ≡ Some s) × (counted_before n c log ≡ count) × (part_seen n log ≡ part_seen n now)

  counting_step : (run : Run) (m : ℕ) (moved : Moved) → IsLegal n limit ((t, Stepped s m moved) ∷ run)
      → stands (world n limit ((t, Stepped s m moved) ∷ run)) t ≡ true
      → counts_seen n (own_of t run) c ≡ count → part_seen n (Stepped s m moved ∷ own_of t run) ≡ part_seen n now
      → P (world n limit ((t, Stepped s m moved) ∷ run))
  counting_step run m moved legal stood says same =
      let h : Heap = world n limit run in
      let x : LogItem = Stepped s m moved in
      let earlier : IsLegal n limit run = record { items = legal.items.0; moved = legal.moved.0 } in
      let off : (t == 0) ≡ false = ne_eqb t 0 (λ zero. omega (arith, zero, some_thread)) in
      let may : May h t s = may_parts h t s
      (subst (λ b. (if b then root_may h s else thread_may h t s) ≡ true) off legal.items.1.0) in
      let is : world n limit ((t, x) ∷ run) ≡ moved_on h t s = thread_after h t s some_thread in
      let log : own_of t ((t, x) ∷ run) ≡ x ∷ own_of t run = own_more t x run (no_start h t s m moved may t) in
      let stood_then : stands h t ≡ true =
      sym (same_stands h (moved_on h t s) t (same_threads h t s (target_at h t s)))
      ∙ subst (λ z. stands z t ≡ true) is stood in
      subst P (sym is) (done h (own_of t run) (own_of t ((t, x) ∷ run)) may
      (knows_run n limit run t options earlier stood_then some_thread) says
      (subst (λ z. Known n limit z t (own_of t ((t, x) ∷ run))) is
      (knows_run n limit ((t, x) ∷ run) t options legal stood some_thread)) (ap (part_seen n) log ∙ same))

  counted_item : (run : Run) (x : LogItem) → IsLegal n limit ((t, x) ∷ run)
      → stands (world n limit ((t, x) ∷ run)) t ≡ true → CountedSo (x ∷ own_of t run)
      → (stands (world n limit run) t ≡ true → CountedSo (own_of t run) → P (world n limit run))
      → P (world n limit ((t, x) ∷ run))
  counted_item run (Stepped other m moved) legal stood tells before =
      let is : Some other ≡ Some s = tells.0 in
      let same : s ≡ other = cc in
      subst (λ z. IsLegal n limit ((t, Stepped z m moved) ∷ run)
      → stands (world n limit ((t, Stepped z m moved) ∷ run)) t ≡ true
      → counts_seen n (own_of t run) c ≡ count
      → part_seen n (Stepped z m moved ∷ own_of t run) ≡ part_seen n now
      → P (world n limit ((t, Stepped z m moved) ∷ run)))
      same (counting_step run m moved) legal stood tells.1 tells.2
  counted_item run (Loaded word m) legal stood tells before = before stood tells
  counted_item run (Lost word m) legal stood tells before = before stood tells

-- what lasts, and was so after the thread's newest step, before which its log told this count of the cell
pub since_count : (n limit : ℕ) (h : Heap) (t : ℕ) (log : List LogItem) (s : Step) (c count : ℕ) (P : Heap → Type 0)
    → 0 < t → Known n limit h t log → newest_step log ≡ Some s → counted_before n c log ≡ count → s ≢ Register t
    → Lasts t P
    → ((old : Heap) (before later : List LogItem) → May old t s → Known n limit old t before
    → counts_seen n before c ≡ count → Known n limit (moved_on old t s) t later
    → part_seen n later ≡ part_seen n log → P (moved_on old t s)) → P h
since_count n limit h t log s c count P some_thread known is says own lasts done =
    told_so n limit t P
    (λ now. (newest_step now ≡ Some s) × (counted_before n c now ≡ count) × (part_seen n now ≡ part_seen n log)) lasts
    known.options
    some_thread (λ bad. no_step s bad.0) (λ m moved bad. own (sym (step_same (Register t) s bad.0)))
    (counted_item n limit t log P known.options some_thread s c count done) h log known (is, says, refl)
