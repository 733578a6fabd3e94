-- Each item stands in one log.
use Rattle.std.proofs.Common.{◌≡◌, ◌≢◌, ℕ, ◌<◌, ◌==◌, Bool, true, false, if◌then◌else◌, List, [], ◌∷◌, ◌++◌, Option}
use Rattle.std.proofs.Common.{Some, None, refl, sym, ◌∙◌, ap, subst, inl, inr, arith}
use Rattle.std.proofs.lemmas.Bool.{cases_eq, cases_Bool, eq-eqb, ne_eqb}
use mathlib.Core.Option.{some}
use lib.ListN.{get_elem?}
use Rattle.atomic_table.specs.Table.{State}
use Rattle.law.specs.declared.world.event.Step.{Step}
use Rattle.law.specs.declared.world.event.Step.TheVariants.{Register}
use Rattle.law.specs.known.Start.{start_of}
use Rattle.law.specs.world.Heap.{Heap, AreOptions}
use Rattle.law.specs.world.Steps.{enabled, root_may, thread_may}
use Rattle.law.specs.world.Runs.{IsReached}
use Rattle.law.specs.world.Sound.{IsSound}
use Rattle.law.proofs.world.Asking.{may_parts}
use Rattle.law.proofs.world.Reached.{reached_sound}
use Rattle.law.proofs.world.Reusing.{fresh, reused, registers}
use Rattle.law.proofs.known.Starting.{run_reached}
use Rattle.law.specs.known.Items as items
use Rattle.law.specs.known.Items.{AreItems, MayCome, is_start, is_used, events_of}
use Rattle.law.proofs.known.Items_Runs.{events_run}
use Rattle.law.proofs.known.Items_Tells.{no_start}
use Rattle.law.specs.declared.rule.contents.Contents.{Contents}
use Rattle.law.specs.declared.rule.told.LogItem.{LogItem}
use Rattle.law.specs.declared.rule.told.LogItem.TheVariants.{Stepped, Loaded, Lost}
use Rattle.law.specs.declared.rule.view.View.{View}
use Rattle.law.specs.rule.Logs.{item_of, entries_found, Run, items_of, own_of, gathered_by, lives_on, lives_of, all_of}
use Rattle.law.specs.rule.Logs.{ended_in, world, begins, own_steps}
use Rattle.law.specs.rule.Rule.{stands, StandsOnce, Kept}
use Rattle.law.proofs.rule.Own_Logs.{own_more, own_same}

-- what stands in the logs of a thread
abbrev logged : Bool → ℕ → List LogItem → List (ℕ × List LogItem) → List LogItem
logged stood t log lives = (if stood then own_steps t log else []) ++ ended_in t lives

-- a step or a note of a thread that stands
pub once_calm : (h new : Heap) (run : Run) (u t : ℕ) (x : LogItem) → is_start t (item_of x) ≡ false
    → gathered_by x ≡ None
    → stands h u ≡ true → stands new t ≡ stands h t
    → StandsOnce h run t → StandsOnce new ((u, x) ∷ run) t
once_calm h new run u t x older none stood same once =
    let lives : lives_of ((u, x) ∷ run) ≡ lives_of run = ap (λ o. lives_on o run (lives_of run)) none in
    elim (cases_eq u t) [
      | inl mine ↦
          let stood_here : stands h t ≡ true = ap (stands h) (sym mine) ∙ stood in
          let log : own_of t ((u, x) ∷ run) ≡ x ∷ own_of t run = ap (λ q. own_of t ((q, x) ∷ run)) mine
          ∙ own_more t x run older in
          ap (λ b. if b then x ∷ all_of t run else all_of t run) (eq-eqb u t mine)
          ∙ ap (λ l. x ∷ l) once
          ∙ ap (λ b. x ∷ logged b t (own_of t run) (lives_of run)) stood_here
          ∙ sym (ap (λ b. (if b then own_steps t (own_of t run) else x ∷ own_steps t (own_of t run))
          ++ ended_in t (lives_of run)) older)
          ∙ sym (ap (λ b. logged b t (own_of t ((u, x) ∷ run)) (lives_of ((u, x) ∷ run))) (same ∙ stood_here)
          ∙ ap (λ l. logged true t l (lives_of ((u, x) ∷ run))) log
          ∙ ap (λ l. logged true t (x ∷ own_of t run) l) lives)
      | inr other ↦
          ap (λ b. if b then x ∷ all_of t run else all_of t run) (ne_eqb u t other)
          ∙ once
          ∙ sym (ap (λ b. logged b t (own_of t ((u, x) ∷ run)) (lives_of ((u, x) ∷ run))) same
          ∙ ap (λ l. logged (stands h t) t l (lives_of ((u, x) ∷ run))) (own_same u t x run older other)
          ∙ ap (λ l. logged (stands h t) t (own_of t run) l) lives)
    ]

-- a thread is registered that didn't stand: its log begins
pub once_started : (h new : Heap) (run : Run) (t : ℕ) (x : LogItem) → 0 < t → is_start t (item_of x) ≡ true
    → gathered_by x ≡ None → stands h t ≡ false → StandsOnce h run t → StandsOnce new ((0, x) ∷ run) t
once_started h new run t x positive starts none off once =
    let used : Bool = is_used t (items_of run) in
    let log : own_of t ((0, x) ∷ run) ≡ begins used x =
    ap (λ b. if b then begins used x else (if 0 == t then x ∷ own_of t run else own_of t run)) starts in
    let lives : lives_of ((0, x) ∷ run) ≡ lives_of run = ap (λ o. lives_on o run (lives_of run)) none in
    ap (λ b. if b then x ∷ all_of t run else all_of t run) (ne_eqb 0 t (λ e. omega (arith, e, positive)))
    ∙ once ∙ ap (λ b. logged b t (own_of t run) (lives_of run)) off
    ∙ sym (ap (λ l. logged (stands new t) t l (lives_of ((0, x) ∷ run))) log
    ∙ ap (λ l. (if stands new t then own_steps t (begins used x) else []) ++ ended_in t l) lives
    ∙ ap (λ l. l ++ ended_in t (lives_of run)) (both (stands new t) used))
  where
    none_own : (used : Bool) → own_steps t (begins used x) ≡ []
    none_own true = ap (λ b. if b then [] else x ∷ []) starts
    none_own false = refl

    both : (b used : Bool) → (if b then own_steps t (begins used x) else []) ≡ []
    both true used = none_own used
    both false used = refl

-- a thread that stood is gathered: its log is one of those that have ended
pub once_gathered : (h new : Heap) (run : Run) (t : ℕ) (x : LogItem) → 0 < t → gathered_by x ≡ Some t
    → stands h t ≡ true
    → stands new t ≡ false → StandsOnce h run t → StandsOnce new ((0, x) ∷ run) t
once_gathered h new run t x positive gathers stood off once =
    ap (λ b. if b then x ∷ all_of t run else all_of t run) (ne_eqb 0 t (λ e. omega (arith, e, positive)))
    ∙ once ∙ ap (λ b. logged b t (own_of t run) (lives_of run)) stood
    ∙ sym (ap (λ b. logged b t (own_of t ((0, x) ∷ run)) (lives_of ((0, x) ∷ run))) off
    ∙ ap (λ o. ended_in t (lives_on o run (lives_of run))) gathers
    ∙ ap (λ b. if b then own_steps t (own_of t run) ++ ended_in t (lives_of run) else ended_in t (lives_of run))
    (eq-eqb t t refl))

-- the root's step that is about another thread
pub once_else : (h new : Heap) (run : Run) (t u : ℕ) (x : LogItem) → 0 < t → is_start t (item_of x) ≡ false
    → gathered_by x ≡ Some u → u ≢ t → stands new t ≡ stands h t → StandsOnce h run t → StandsOnce new ((0, x) ∷ run) t
once_else h new run t u x positive older gathers other same once =
    ap (λ b. if b then x ∷ all_of t run else all_of t run) (ne_eqb 0 t (λ e. omega (arith, e, positive)))
    ∙ once
    ∙ sym (ap (λ b. logged b t (own_of t ((0, x) ∷ run)) (lives_of ((0, x) ∷ run))) same
    ∙ ap (λ l. logged (stands h t) t l (lives_of ((0, x) ∷ run)))
    (own_same 0 t x run older (λ e. omega (arith, e, positive)))
    ∙ ap (λ o. logged (stands h t) t (own_of t run) (lives_on o run (lives_of run))) gathers
    ∙ ap (λ b. (if stands h t then own_steps t (own_of t run) else [])
    ++ (if b then own_steps t (own_of u run) ++ ended_in t (lives_of run) else ended_in t (lives_of run)))
    (ne_eqb u t other))

-- ---- the root

-- no thread is registered by number 0
some_number : (h : Heap) (v : ℕ) → IsSound h → root_may h (Register v) ≡ true → v ≢ 0
some_number h v sound may = elim (registers h v sound may) [
  | fresh next most few is ↦ λ e. omega (arith, e, next, sound.shaped.root)
  | reused vacated few is ↦ λ e. omega (arith, e, vacated.thread)
]

-- nobody registers number 0
never_root : (h : Heap) (u : ℕ) (s : Step) (number : ℕ) (entries : List ℕ) → IsReached h
    → enabled h (record { thread = u; step = s }) ≡ true → is_start 0 (items.Stepped s number entries) ≡ false
never_root h u (Register v) number entries reached ok = elim (cases_Bool (u == 0)) [
  | inl root ↦
      let may : root_may h (Register v) ≡ true =
      subst (λ b. (if b then root_may h (Register v) else thread_may h u (Register v)) ≡ true) root ok in
      ne_eqb v 0 (some_number h v (reached_sound h reached) may)
  | inr thread ↦ (no_start h u (Register v) 0 number entries
      (may_parts h u (Register v)
      (subst (λ b. (if b then root_may h (Register v) else thread_may h u (Register v)) ≡ true) thread ok))).0
]
never_root h u _ number entries reached ok = refl

never_again : (n limit : ℕ) (u : ℕ) (x : LogItem) (run : Run) → AreOptions n limit
    → AreItems (start_of n limit) (items_of run) → MayCome (world n limit run) u (item_of x)
    → is_start 0 (item_of x) ≡ false
never_again n limit u (Stepped s number moved) run options are comes =
    never_root (world n limit run) u s number (entries_found moved)
    (run_reached n limit (events_of (items_of run)) options (events_run (start_of n limit) (items_of run) are)) comes.0
never_again n limit u (Loaded word number) run options are comes = refl
never_again n limit u (Lost word number) run options are comes = refl

-- so all items of its number are its seat's
pub root_once : (n limit : ℕ) (run : Run) → AreOptions n limit → AreItems (start_of n limit) (items_of run)
    → all_of 0 run ≡ own_of 0 run
root_once n limit [] options are = refl
root_once n limit (x ∷ run) options are =
    ap (λ log. if x.0 == 0 then x.1 ∷ log else log) (root_once n limit run options are.0)
    ∙ sym (ap (λ b. if b then begins (is_used 0 (items_of run)) x.1 else (if x.0 == 0 then x.1 ∷ own_of 0 run else own_of 0 run))
    (never_again n limit x.0 x.1 run options are.0 are.1))

-- ---- of every table that keeps the rule

module _ {B : Type 0} (shows : B → ℕ × Contents) (n limit : ℕ) where
  pub rule_logs : (s : State (Option B) View) (r : Kept shows n limit s) (j : ℕ) (v : View)
      → get_elem? s.views j ≡ some v → v.active ≡ true → own_of v.thread r.run ≡ v.log
  rule_logs s r j v there active = (r.each_seat j v there active).log

  pub rule_ended : (s : State (Option B) View) (r : Kept shows n limit s) (j : ℕ) (v : View)
      → get_elem? s.views j ≡ some v → v.active ≡ true → v.thread ≡ 0 → v.gathered ≡ lives_of r.run
  rule_ended s r j v there active root = (r.each_seat j v there active).lives root

  pub rule_root : (s : State (Option B) View) (r : Kept shows n limit s) → all_of 0 r.run ≡ own_of 0 r.run
  rule_root s r = root_once n limit r.run r.options r.legal.items

  pub rule_once : (s : State (Option B) View) (r : Kept shows n limit s) (t : ℕ) → 0 < t
      → StandsOnce (world n limit r.run) r.run t
  rule_once s r = r.each_once
