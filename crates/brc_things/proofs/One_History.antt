-- The calls on one object are one history.
use Rattle.std.proofs.Common.{◌≡◌, ◌≢◌, ℕ, zero, suc, ◌<◌, ◌==◌, Bool, true, false, if◌then◌else◌, List}
use Rattle.std.proofs.Common.{[], ◌∷◌, ◌++◌, Option, Some, None, refl, sym, ◌∙◌, ap, subst, append_assoc, inl}
use Rattle.std.proofs.Common.{inr, arith}
use Rattle.std.proofs.lemmas.Bool.{cases_eq, cases_Bool, eq-eqb, ne_eqb, eqb-true, true≢false}
use Rattle.brc_count.specs.law.declared.world.event.Change.{Change}
use Rattle.brc_count.specs.law.declared.world.event.Step.{Step}
use Rattle.brc_count.specs.law.declared.world.event.Step.TheVariants.{Birth, Unlock, Lock, Register}
use Rattle.brc_count.specs.law.world.Heap.{Heap, AreOptions}
use Rattle.brc_count.specs.law.world.Steps.{enabled}
use Rattle.brc_count.specs.law.known.Items.{is_start, is_used}
use Rattle.brc_count.specs.law.declared.rule.contents.Contents.{Contents}
use Rattle.brc_count.specs.law.declared.rule.told.Moved.TheVariants as moves
use Rattle.brc_count.specs.law.declared.rule.told.LogItem.{LogItem}
use Rattle.brc_count.specs.law.declared.rule.told.LogItem.TheVariants.{Stepped, Loaded, Lost}
use Rattle.brc_count.specs.law.rule.Logs.{Run, item_of, items_of, own_of, all_of, begins, world, contents_at, puts}
use Rattle.brc_count.specs.law.rule.Logs.{IsMoved, IsLegal}
use Rattle.brc_count.specs.law.rule.Seen.{contents_on, contents_locked}
use Rattle.brc_count.proofs.law.rule.Locked_Contents.{locked_contents}
use Rattle.brc_count.proofs.law.rule.Own_Logs.{own_more, own_same}
use Rattle.brc_things.specs.History.{ContainerCall, Bears, Changes, IsSequential, Extends, left_by, with_step}
use Rattle.brc_things.specs.History.{with_call}
use Rattle.brc_things.specs.History.{history_of, own_history, calls_of}

none_some : {X : Type 0} (x : X) → None ≡ Some x → ⊥
none_some x bad = absurd (cc)

-- the run without its newest item is legal
older_legal : (n limit : ℕ) (x : ℕ × LogItem) (run : Run) → IsLegal n limit (x ∷ run) → IsLegal n limit run
older_legal n limit x run legal = record { items = legal.items.0; moved = legal.moved.0 }

pub earlier_legal : (n limit : ℕ) (later run : Run) → IsLegal n limit (later ++ run) → IsLegal n limit run
earlier_legal n limit [] run legal = legal
earlier_legal n limit (x ∷ later) run legal = earlier_legal n limit later run
    (older_legal n limit x (later ++ run) legal)

-- ---- what stands there is what the last call put home

step_leaves : (h : Heap) (c t d : ℕ) (s : Step) (found : Option Contents) (put : Contents) (older : List ContainerCall)
    → puts h t s ≡ Some d
    → put ≡ left_by c (with_step t s found put older)
step_leaves h c t d (Birth e kind k) found put older is = refl
step_leaves h c t d (Unlock change) found put older is = refl
step_leaves h c t d _ found put older is = absurd (none_some d is)

call_leaves : (h : Heap) (run : Run) (c t : ℕ) (x : LogItem) (found : Option Contents) (older : List ContainerCall)
    → IsMoved h run t x
    → contents_at run c ≡ left_by c older → contents_at ((t, x) ∷ run) c ≡ left_by c (with_call c t x found older)
call_leaves h run c t (Stepped s number moves.Nothing) found older goes before = before
call_leaves h run c t (Stepped s number (moves.Found d contents)) found older goes before = before
call_leaves h run c t (Stepped s number (moves.Put d put)) found older goes before = by_test (d == c)
  where
    by_test : (here : Bool) → (if here then put else contents_at run c) ≡ left_by c
        (if here then with_step t s found put older else older)
    by_test true = step_leaves h c t d s found put older goes.cell
    by_test false = before
call_leaves h run c t (Loaded word number) found older goes before = before
call_leaves h run c t (Lost word number) found older goes before = before

pub last_stands : (n limit : ℕ) (run : Run) (c : ℕ) → IsLegal n limit run
    → contents_at run c ≡ left_by c (history_of c run)
last_stands n limit [] c legal = refl
last_stands n limit (x ∷ run) c legal =
    call_leaves (world n limit run) run c x.0 x.1 (contents_locked (own_of x.0 run)) (history_of c run) legal.moved.1
    (last_stands n limit run c (older_legal n limit x run legal))

-- ---- each call goes on from there

-- the root unlocks nothing
unlocker : (h : Heap) (t : ℕ) (change : Change) → enabled h (record { thread = t; step = Unlock change }) ≡ true → 0 < t
unlocker h zero change on = absurd (true≢false (sym on))
unlocker h (suc t) change on = omega arith

module _ (n limit : ℕ) where
  step_follows : (run : Run) (c t d : ℕ) (s : Step) (number : ℕ) (put : Contents) → AreOptions n limit
      → IsLegal n limit ((t, Stepped s number (moves.Put d put)) ∷ run)
      → d ≡ c → IsSequential c (history_of c run)
      → IsSequential c (with_step t s (contents_locked (own_of t run)) put (history_of c run))
  step_follows run c t d (Birth e kind k) number put options legal here before = (before, tt)
  step_follows run c t d (Unlock change) number put options legal here before =
      let older : IsLegal n limit run = older_legal n limit (t, Stepped (Unlock change) number (moves.Put d put))
      run legal in
      let stands : contents_at run d ≡ left_by c (history_of c run) = ap (contents_at run) here
      ∙ last_stands n limit run c older in (
        before,
        (
          locked_contents n limit run t d options older (unlocker (world n limit run) t change legal.items.1.0)
              legal.moved.1.cell ∙ ap Some stands,
          λ keep. legal.moved.1.kept keep ∙ stands,
        ),
      )
  step_follows run c t d _ number put options legal here before = before

  call_follows : (run : Run) (c t : ℕ) (x : LogItem) → AreOptions n limit → IsLegal n limit ((t, x) ∷ run)
      → IsSequential c (history_of c run)
      → IsSequential c (with_call c t x (contents_locked (own_of t run)) (history_of c run))
  call_follows run c t (Stepped s number moves.Nothing) options legal before = before
  call_follows run c t (Stepped s number (moves.Found d contents)) options legal before = before
  call_follows run c t (Stepped s number (moves.Put d put)) options legal before = by_test (d == c) (eqb-true d c)
    where
      by_test : (here : Bool) → (here ≡ true → d ≡ c)
          → IsSequential c (if here then with_step t s (contents_locked (own_of t run)) put
          (history_of c run) else history_of c run)
      by_test true is = step_follows run c t d s number put options legal (is refl) before
      by_test false is = before
  call_follows run c t (Loaded word number) options legal before = before
  call_follows run c t (Lost word number) options legal before = before

  pub is_sequential : (run : Run) (c : ℕ) → AreOptions n limit → IsLegal n limit run → IsSequential c (history_of c run)
  is_sequential [] c options legal = tt
  is_sequential (x ∷ run) c options legal = call_follows run c x.0 x.1 options legal
      (is_sequential run c options (older_legal n limit x run legal))

-- ---- what comes later stands after it

step_adds : (t : ℕ) (s : Step) (found : Option Contents) (put : Contents) (older : List ContainerCall)
    → Extends older (with_step t s found put older)
step_adds t (Birth c kind k) found put older = (Bears t put ∷ [], refl)
step_adds t (Unlock change) found put older = (Changes t change found put ∷ [], refl)
step_adds t _ found put older = ([], refl)

call_adds : (c t : ℕ) (x : LogItem) (found : Option Contents) (older : List ContainerCall)
    → Extends older (with_call c t x found older)
call_adds c t (Stepped s number moves.Nothing) found older = ([], refl)
call_adds c t (Stepped s number (moves.Found d contents)) found older = ([], refl)
call_adds c t (Stepped s number (moves.Put d put)) found older = by_test (d == c)
  where
    by_test : (here : Bool) → Extends older (if here then with_step t s found put older else older)
    by_test true = step_adds t s found put older
    by_test false = ([], refl)
call_adds c t (Loaded word number) found older = ([], refl)
call_adds c t (Lost word number) found older = ([], refl)

extends_on : (old mid new : List ContainerCall) → Extends old mid → Extends mid new → Extends old new
extends_on old mid new first second =
    (second.0 ++ first.0, second.1 ∙ ap (λ calls. second.0 ++ calls) first.1 ∙ sym (append_assoc second.0 first.0 old))

pub later_extends : (later run : Run) (c : ℕ) → Extends (history_of c run) (history_of c (later ++ run))
later_extends [] run c = ([], refl)
later_extends (x ∷ later) run c =
    extends_on (history_of c run) (history_of c (later ++ run)) (history_of c (x ∷ (later ++ run)))
    (later_extends later run c)
    (call_adds c x.0 x.1 (contents_locked (own_of x.0 (later ++ run))) (history_of c (later ++ run)))

front_sequential : (c : ℕ) (more older : List ContainerCall) → IsSequential c (more ++ older) → IsSequential c older
front_sequential c [] older is = is
front_sequential c (call ∷ more) older is = front_sequential c more older is.0

pub fronts_sequential : (c : ℕ) (older newer : List ContainerCall) → Extends older newer → IsSequential c newer
    → IsSequential c older
fronts_sequential c older newer extends is = front_sequential c extends.0 older (subst (IsSequential c) extends.1 is)

-- ---- a thread's own calls

-- its own call joins its calls
mine_joins : (c t : ℕ) (x : LogItem) (found : Option Contents) (older : List ContainerCall)
    → calls_of t (with_call c t x found older) ≡ with_call c t x found (calls_of t older)
mine_joins c t (Stepped s number moves.Nothing) found older = refl
mine_joins c t (Stepped s number (moves.Found d contents)) found older = refl
mine_joins c t (Stepped s number (moves.Put d put)) found older = by_test (d == c)
  where
    by_step : (s : Step) → calls_of t (with_step t s found put older) ≡ with_step t s found put (calls_of t older)
    by_step (Birth e kind k) = ap (λ b. if b then Bears t put ∷ calls_of t older else calls_of t older)
        (eq-eqb t t refl)
    by_step (Unlock change) = ap (λ b. if b then Changes t change found put ∷ calls_of t older else calls_of t older)
        (eq-eqb t t refl)
    by_step _ = refl

    by_test : (here : Bool) → calls_of t (if here then with_step t s found put older else older)
        ≡ (if here then with_step t s found put (calls_of t older) else calls_of t older)
    by_test true = by_step s
    by_test false = refl
mine_joins c t (Loaded word number) found older = refl
mine_joins c t (Lost word number) found older = refl

-- another's doesn't
other_passes : (c t u : ℕ) (x : LogItem) (found : Option Contents) (older : List ContainerCall) → u ≢ t
    → calls_of t (with_call c u x found older) ≡ calls_of t older
other_passes c t u (Stepped s number moves.Nothing) found older apart = refl
other_passes c t u (Stepped s number (moves.Found d contents)) found older apart = refl
other_passes c t u (Stepped s number (moves.Put d put)) found older apart = by_test (d == c)
  where
    by_step : (s : Step) → calls_of t (with_step u s found put older) ≡ calls_of t older
    by_step (Birth e kind k) = ap (λ b. if b then Bears u put ∷ calls_of t older else calls_of t older)
        (ne_eqb u t apart)
    by_step (Unlock change) = ap (λ b. if b then Changes u change found put ∷ calls_of t older else calls_of t older)
        (ne_eqb u t apart)
    by_step _ = refl

    by_test : (here : Bool) → calls_of t (if here then with_step u s found put older else older) ≡ calls_of t older
    by_test true = by_step s
    by_test false = refl
other_passes c t u (Loaded word number) found older apart = refl
other_passes c t u (Lost word number) found older apart = refl

-- ---- what a registration's log says of a lock, the log of all says too

on_front : (x : LogItem) (a b : Option Contents) → ((p : Contents) → a ≡ Some p → b ≡ Some p) → (p : Contents)
    → contents_on x a ≡ Some p → contents_on x b ≡ Some p
on_front (Stepped (Lock k) number (moves.Found c contents)) a b more p is = is
on_front (Stepped (Unlock change) number moved) a b more p is = absurd (none_some p is)
on_front _ a b more p is = more p is

none_begun : (t : ℕ) (x : LogItem) (used : Bool) → is_start t (item_of x) ≡ true
    → contents_locked (begins used x) ≡ None
none_begun t (Stepped (Register v) number moved) true starts = refl
none_begun t (Stepped (Register v) number moved) false starts = refl
none_begun t (Loaded word number) used starts = absurd (true≢false (sym starts))
none_begun t (Lost word number) used starts = absurd (true≢false (sym starts))
none_begun t (Stepped _ number moved) used starts = absurd (true≢false (sym starts))

locked_front : (t : ℕ) (run : Run) (p : Contents) → contents_locked (own_of t run) ≡ Some p
    → contents_locked (all_of t run) ≡ Some p
locked_front t [] p is = absurd (none_some p is)
locked_front t (x ∷ run) p is = elim (cases_Bool (is_start t (item_of x.1))) [
  | inl starts ↦
      let used : Bool = is_used t (items_of run) in
      absurd (none_some p (sym (none_begun t x.1 used starts)
      ∙ sym (ap (λ b. contents_locked (if b then begins used x.1 else (if x.0 == t then x.1 ∷ own_of t run else own_of t
      run))) starts) ∙ is))
  | inr goes_on ↦ elim (cases_eq x.0 t) [
    | inl mine ↦
        let log : own_of t (x ∷ run) ≡ x.1 ∷ own_of t run = ap (λ q. own_of t ((q, x.1) ∷ run)) mine
        ∙ own_more t x.1 run goes_on in
        ap (λ b. contents_locked (if b then x.1 ∷ all_of t run else all_of t run)) (eq-eqb x.0 t mine)
        ∙ on_front x.1 (contents_locked (own_of t run)) (contents_locked (all_of t run)) (locked_front t run) p
        (sym (ap contents_locked log) ∙ is)
    | inr other ↦
        ap (λ b. contents_locked (if b then x.1 ∷ all_of t run else all_of t run)) (ne_eqb x.0 t other)
        ∙ locked_front t run p (sym (ap contents_locked (own_same x.0 t x.1 run goes_on other)) ∙ is)
  ]
]

module _ (n limit : ℕ) where
  -- an unlocking found the same by both
  step_alike : (run : Run) (t d : ℕ) (s : Step) (number : ℕ) (put : Contents) (older : List ContainerCall)
      → AreOptions n limit
      → IsLegal n limit ((t, Stepped s number (moves.Put d put)) ∷ run)
      → with_step t s (contents_locked (own_of t run)) put older
      ≡ with_step t s (contents_locked (all_of t run)) put older
  step_alike run t d (Unlock change) number put older options legal =
      let was : contents_locked (own_of t run) ≡ Some (contents_at run d) =
      locked_contents n limit run t d options
      (older_legal n limit (t, Stepped (Unlock change) number (moves.Put d put)) run
      legal) (unlocker (world n limit run) t change legal.items.1.0) legal.moved.1.cell in
      ap (λ found. Changes t change found put ∷ older) (was ∙ sym (locked_front t run (contents_at run d) was))
  step_alike run t d (Birth e kind k) number put older options legal = refl
  step_alike run t d _ number put older options legal = refl

  call_alike : (run : Run) (c t : ℕ) (x : LogItem) (older : List ContainerCall) → AreOptions n limit
      → IsLegal n limit ((t, x) ∷ run)
      → with_call c t x (contents_locked (own_of t run)) older ≡ with_call c t x (contents_locked (all_of t run)) older
  call_alike run c t (Stepped s number moves.Nothing) older options legal = refl
  call_alike run c t (Stepped s number (moves.Found d contents)) older options legal = refl
  call_alike run c t (Stepped s number (moves.Put d put)) older options legal = by_test (d == c)
    where
      by_test : (here : Bool) → (if here then with_step t s (contents_locked (own_of t run)) put older else older)
          ≡ (if here then with_step t s (contents_locked (all_of t run)) put older else older)
      by_test true = step_alike run t d s number put older options legal
      by_test false = refl
  call_alike run c t (Loaded word number) older options legal = refl
  call_alike run c t (Lost word number) older options legal = refl

  -- ---- the calls of one number, of all its registrations

  pub own_calls : (run : Run) (c t : ℕ) → AreOptions n limit → IsLegal n limit run
      → calls_of t (history_of c run) ≡ own_history c t (all_of t run)
  own_calls [] c t options legal = refl
  own_calls (x ∷ run) c t options legal =
      let before : calls_of t (history_of c run) ≡ own_history c t (all_of t run) =
      own_calls run c t options (older_legal n limit x run legal) in
      elim (cases_eq x.0 t) [
        | inl mine ↦
            let alike : with_call c t x.1 (contents_locked (own_of t run)) (history_of c run)
            ≡ with_call c t x.1 (contents_locked (all_of t run)) (history_of c run) =
            call_alike run c t x.1 (history_of c run) options
            (subst (λ u. IsLegal n limit ((u, x.1) ∷ run)) mine legal) in
            ap (λ u. calls_of t (with_call c u x.1 (contents_locked (own_of u run)) (history_of c run))) mine
            ∙ ap (calls_of t) alike
            ∙ mine_joins c t x.1 (contents_locked (all_of t run)) (history_of c run)
            ∙ ap (with_call c t x.1 (contents_locked (all_of t run))) before
            ∙ sym (ap (λ b. own_history c t (if b then x.1 ∷ all_of t run else all_of t run)) (eq-eqb x.0 t mine))
        | inr other ↦
            other_passes c t x.0 x.1 (contents_locked (own_of x.0 run)) (history_of c run) other ∙ before
            ∙ sym (ap (λ b. own_history c t (if b then x.1 ∷ all_of t run else all_of t run)) (ne_eqb x.0 t other))
      ]
