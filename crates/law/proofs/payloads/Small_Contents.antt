-- What the heap was opened with lies in the cells below the globals for good: they are unlocked by keep alone.
use Rattle.std.proofs.Common.{◌≡◌, ℕ, ◌<◌, ◌==◌, true, if◌then◌else◌, [], ◌∷◌, Some, None, refl, sym, ◌∙◌, ap, subst}
use Rattle.std.proofs.Common.{inl, inr, arith}
use Rattle.std.proofs.lemmas.Bool.{cases_eq, cases_Bool, eq-eqb, ne_eqb, true≢false}
use Rattle.brc_words.specs.declared.limits.TheConstants.{GLOBALS}
use Rattle.law.specs.declared.world.event.Change.{Change}
use Rattle.law.specs.declared.world.event.Change.TheVariants as changes
use Rattle.law.specs.declared.world.event.Step.{Step}
use Rattle.law.specs.declared.world.event.Step.TheVariants.{Birth, Unlock, Register, Gather}
use Rattle.law.specs.declared.world.row.Hand.TheVariants as hands
use Rattle.law.specs.declared.world.row.Phase.TheVariants as phases
use Rattle.law.specs.world.Heap.{Heap, row_at, AreOptions}
use Rattle.law.specs.world.Sound.{IsSound}
use Rattle.law.specs.world.Steps.{enabled, root_may, thread_may, is_keep}
use Rattle.law.proofs.world.Asking.{may_parts}
use Rattle.law.proofs.world.Naming.{busy_hand}
use Rattle.law.proofs.lasting.Lasting.{bearing}
use Rattle.law.specs.known.Items.{MayCome}
use Rattle.law.specs.declared.rule.told.Moved.{Moved}
use Rattle.law.specs.declared.rule.told.Moved.TheVariants as moves
use Rattle.law.specs.declared.rule.told.LogItem.{LogItem}
use Rattle.law.specs.declared.rule.told.LogItem.TheVariants.{Stepped, Loaded, Lost}
use Rattle.law.specs.rule.Logs.{item_of, Run, world, put_in, put_by, contents_at, opening_contents, puts, keeps}
use Rattle.law.specs.rule.Logs.{MovesWith, IsMoved, IsLegal}
use Rattle.law.proofs.private.Small_Immortals.{keeps_small}
use Rattle.law.proofs.payloads.Own_Puts.{legal_sound, legal_before}

keeping : (change : Change) → is_keep change ≡ true → keeps (Unlock change) ≡ true
keeping changes.Keep is = refl
keeping (changes.Put j) is = absurd (true≢false (sym is))
keeping (changes.Take i j) is = absurd (true≢false (sym is))
keeping (changes.Swap i j) is = absurd (true≢false (sym is))

-- the root puts nothing home
by_thread : (h : Heap) (u : ℕ) (s : Step) (c : ℕ) → enabled h (record { thread = u; step = s }) ≡ true
    → puts h u s ≡ Some c → thread_may h u s ≡ true
by_thread h u s c ok is = elim (cases_Bool (u == 0)) [
  | inr thread ↦ subst (λ b. (if b then root_may h s else thread_may h u s) ≡ true) thread ok
  | inl root ↦ absurd (never s is (subst (λ b. (if b then root_may h s else thread_may h u s) ≡ true) root ok))
]
  where
    never : (s : Step) → puts h u s ≡ Some c → root_may h s ≡ true → ⊥
    never (Register v) is ok = let bad : None ≡ Some c = is in cc
    never (Gather v) is ok = let bad : None ≡ Some c = is in cc
    never s is ok = true≢false (sym ok)

-- only an unlocking that keeps puts such a block home
small_keeps : (h : Heap) (u : ℕ) (s : Step) (c : ℕ) → IsSound h → thread_may h u s ≡ true → puts h u s ≡ Some c
    → c < GLOBALS → keeps s ≡ true
small_keeps h u (Birth e kind k) c sound may is low =
    let same : e ≡ c = cc in
    let busy : (row_at h u).hand ≡ hands.Busy phases.Ready e = busy_hand phases.Ready e _
    (may_parts h u (Birth e kind k) may).hand in
    absurd (omega (arith, (bearing phases.Ready (inr (inr refl)) h u e sound busy).0, same, low))
small_keeps h u (Unlock change) c sound may is low = keeping change (keeps_small h u change c sound may is low)
small_keeps h u s c sound may is low = absurd (let bad : None ≡ Some c = is in cc)

did_keeps : (h : Heap) (run : Run) (u : ℕ) (s : Step) (moved : Moved) (c : ℕ) → IsSound h
    → enabled h (record { thread = u; step = s }) ≡ true → MovesWith h run u s moved → c < GLOBALS
    → put_by moved c (contents_at run c) ≡ contents_at run c
did_keeps h run u s moves.Nothing c sound ok goes low = refl
did_keeps h run u s (moves.Found d contents) c sound ok goes low = refl
did_keeps h run u s (moves.Put d contents) c sound ok goes low = elim (cases_eq d c) [
  | inr off ↦ ap (λ b. if b then contents else contents_at run c) (ne_eqb d c off)
  | inl same ↦
      let there : puts h u s ≡ Some c = goes.cell ∙ ap Some same in
      ap (λ b. if b then contents else contents_at run c) (eq-eqb d c same)
      ∙ goes.kept (small_keeps h u s c sound (by_thread h u s c ok there) there low) ∙ ap (contents_at run) same
]

item_keeps : (h : Heap) (run : Run) (u : ℕ) (x : LogItem) (c : ℕ) → IsSound h → MayCome h u (item_of x)
    → IsMoved h run u x
    → c < GLOBALS → put_in x c (contents_at run c) ≡ contents_at run c
item_keeps h run u (Stepped s number moved) c sound comes goes low = did_keeps h run u s moved c sound comes.0 goes low
item_keeps h run u (Loaded word number) c sound comes goes low = refl
item_keeps h run u (Lost word number) c sound comes goes low = refl

module _ (n limit : ℕ) (options : AreOptions n limit) where
  pub small_is_there : (run : Run) (c : ℕ) → IsLegal n limit run → c < GLOBALS → contents_at run c ≡ opening_contents c
  small_is_there [] c legal low = refl
  small_is_there (x ∷ run) c legal low =
      let older : IsLegal n limit run = legal_before n limit options x run legal in
      item_keeps (world n limit run) run x.0 x.1 c (legal_sound n limit options run older) legal.items.1 legal.moved.1
      low ∙ small_is_there run c older low
