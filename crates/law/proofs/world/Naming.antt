-- Who names a cell: what the sums say of one place, one hand, one worklist.
use Rattle.std.proofs.Common.{◌≡◌, ◌≢◌, ℕ, ◌+◌, ◌≤◌, ◌==◌, ◌%◌, ◌&&◌, ◌||◌, Bool, true, false, Option, Some, None}
use Rattle.std.proofs.Common.{is_some, ℤ, pos, negsuc, List, [], length, get_or, set, sum_by, refl, sym, ◌∙◌, ap, inl}
use Rattle.std.proofs.Common.{inr, arith, if◌then◌else◌, ◌⊎◌, subst, not}
use Rattle.std.proofs.lemmas.List.{get_or-set_other, get_or_past}
use Rattle.std.proofs.lemmas.List.Sums.{sum_by-set, get_or-le-sum_by}
use Rattle.std.proofs.lemmas.Bool.{cases_lt, eq-eqb, eqb-true, and_parts, true≢false, cases_eq, ne_eqb}
use Rattle.std.proofs.lemmas.Int.{ints}
use Rattle.std.proofs.lemmas.Nat.Bits.{bit_at-zero}
use Rattle.brc_words.specs.declared.limits.TheConstants.{FIRST_MORTAL}
use Rattle.brc_words.specs.declared.owner.Owner.{Owner}
use Rattle.brc_words.specs.declared.owner.Owner.TheVariants as owners
use Rattle.brc_words.specs.declared.state.State.{State}
use Rattle.brc_words.specs.declared.state.State.TheVariants as states
use Rattle.law.specs.declared.world.row.Role.{Role}
use Rattle.law.specs.declared.world.row.Role.TheVariants as roles
use Rattle.law.specs.world.Phases.{role_of, merges, refers, is_gripping, has_reference, is_offering, offers}
use Rattle.law.specs.declared.world.cell.Cell.{Cell}
use Rattle.law.specs.declared.world.edition.Edition.{Edition}
use Rattle.law.specs.declared.world.edition.Edition.TheVariants as editions
use Rattle.law.specs.declared.world.row.Row.{Row}
use Rattle.law.specs.declared.world.row.Hand.{Hand}
use Rattle.law.specs.declared.world.row.Hand.TheVariants as hands
use Rattle.law.specs.declared.world.row.Phase.{Phase}
use Rattle.law.specs.declared.world.row.Phase.TheVariants as phases
use Rattle.law.specs.declared.world.row.Stage.{Stage}
use Rattle.law.specs.declared.world.row.Stage.TheVariants as stages
use Rattle.law.specs.world.Lists.{one, times, bit_of, is_marked, number_in}
use Rattle.law.specs.world.Heap.{Heap, cell_at, row_at, frame_at, popped_at, worklist_at, queue_at, no_row}
use Rattle.law.specs.world.Steps.{is_free_hand, is_at, phase_number, is_free, is_owned_by, is_nobody, is_active}
use Rattle.law.specs.world.Steps.{is_zero, is_default, is_merged}
use Rattle.law.specs.world.Holding.{lives, total_of, carries}
use Rattle.law.specs.world.Sound.{IsSound, counted_in, grips_by_owner, grips, gripped, held, asks, in_entries}
use Rattle.law.specs.world.Sound.{PhaseFits, ShutFits, Offered, Yielding, offering, rests}

-- ---- sums

-- one term is within the sum, also past the end
pub sum_one : {A : Type 0} (f : A → ℕ) (xs : List A) (i : ℕ) (d : A) → f d ≡ 0 → f (get_or xs i d) ≤ sum_by f xs
sum_one {A} f xs i d none =
    elim (cases_lt i (length xs)) [
      | inl inside ↦ get_or-le-sum_by f xs i d inside
      | inr past ↦ let e : f (get_or xs i d) ≡ 0 = ap f (get_or_past xs i d past) ∙ none in omega arith
    ]

-- two terms are within the sum together
pub sum_two : {A : Type 0} (f : A → ℕ) (xs : List A) (i j : ℕ) (d : A) → f d ≡ 0 → j ≢ i
    → f (get_or xs i d) + f (get_or xs j d) ≤ sum_by f xs
sum_two {A} f xs i j d none ne =
    elim (cases_lt i (length xs)) [
      | inl inside ↦
          let taken = sum_by-set f xs i d d inside in
          let other : f (get_or (set xs i d) j d) ≤ sum_by f (set xs i d) = sum_one f (set xs i d) j d none in
          let e : f (get_or (set xs i d) j d) ≡ f (get_or xs j d) = ap f (get_or-set_other xs i j d d ne) in
          omega (arith, taken, other, e, none)
      | inr past ↦
          let e : f (get_or xs i d) ≡ 0 = ap f (get_or_past xs i d past) ∙ none in
          let other : f (get_or xs j d) ≤ sum_by f xs = sum_one f xs j d none in
          omega arith
    ]

pub one-le : (b : Bool) → one b ≤ 1
one-le true = omega arith
one-le false = omega arith

pub one-true : (b : Bool) → b ≡ true → one b ≡ 1
one-true b h = ap one h

pub one-false : (b : Bool) → one b ≡ 0 → b ≡ false
one-false true h = absurd (omega arith)
one-false false h = refl

pub no_mark : (b : Bool) → one b ≡ 0 → b ≡ true → ⊥
no_mark b none h = omega (arith, ap one h)

-- what is left of a test by several
pub second : (a b : Bool) → a ≡ false → (a || b) ≡ true → b ≡ true
second true b off ok = absurd (true≢false off)
second false b off ok = ok

pub fourth : (a b c d : Bool) → a ≡ false → b ≡ false → c ≡ false → (a || b || c || d) ≡ true → d ≡ true
fourth true b c d off apart more ok = absurd (true≢false off)
fourth false true c d off apart more ok = absurd (true≢false apart)
fourth false false true d off apart more ok = absurd (true≢false more)
fourth false false false d off apart more ok = ok

pub third : (a b c : Bool) → a ≡ false → b ≡ false → (a || b || c) ≡ true → c ≡ true
third true b c off apart ok = absurd (true≢false off)
third false true c off apart ok = absurd (true≢false apart)
third false false c off apart ok = ok

-- the number in an option that has one
pub some_there : (x : Option ℕ) → is_some x ≡ true → x ≡ Some (number_in x)
some_there None is = absurd (true≢false (sym is))
some_there (Some c) is = refl

-- ---- phases and hands

phase_of : ℕ → Phase
phase_of n = if n == 0 then phases.Claimed
    else (if n == 1 then phases.Counted
    else (if n == 2 then phases.Ready
    else (if n == 3 then phases.Zero
    else (if n == 4 then phases.Over
    else (if n == 5 then phases.Untied
    else (if n == 6 then phases.Asked
    else (if n == 7 then phases.Shut
    else (if n == 8 then phases.Taking
    else (if n == 9 then phases.Held
    else (if n == 10 then phases.Popping
    else (if n == 11 then phases.Offered else phases.Yielding)))))))))))

phase_of_number : (p : Phase) → phase_of (phase_number p) ≡ p
unfolding phase_of
phase_of_number phases.Claimed = refl
phase_of_number _ = refl

pub free_hand : (hand : Hand) → is_free_hand hand ≡ true → hand ≡ hands.Free
free_hand hands.Free h = refl
free_hand (hands.Busy p c) h = absurd (true≢false (sym h))

pub busy_hand : (p : Phase) (c : ℕ) (hand : Hand) → is_at p c hand ≡ true → hand ≡ hands.Busy p c
busy_hand p c hands.Free h = absurd (true≢false (sym h))
busy_hand p c (hands.Busy q d) h =
    let parts = and_parts (phase_number q == phase_number p) (d == c) h in
    let same : q ≡ p = sym (phase_of_number q) ∙ ap phase_of (eqb-true _ _ parts.0) ∙ phase_of_number p in
    ap (λ (x : Phase). hands.Busy x d) same ∙ ap (hands.Busy p) (eqb-true _ _ parts.1)

-- what a hand that was shut out says hangs on the owner alone, or on the bearer's stage
pub same_shut : (e : Edition) (x y : Cell) (g : Stage) (c : ℕ) → (x.owner ≡ owners.Nobody → y.owner ≡ owners.Nobody)
    → ShutFits e x g c → ShutFits e y g c
same_shut editions.One x y g c nobody fits = fits
same_shut editions.Two x y g c nobody fits = nobody fits

-- a phase looks at the owner, the local count, the state and the bearer of its cell
pub same_phase : (e : Edition) (s : ℕ) (row : Row) (popped : List ℕ) (x y : Cell) (g : Stage) (c : ℕ) (p : Phase)
    → x.owner ≡ y.owner → x.local ≡ y.local → x.state ≡ y.state → x.bearer ≡ y.bearer
    → PhaseFits e s row popped x g c p → PhaseFits e s row popped y g c p
same_phase e s row popped x y g c phases.Claimed owner local state bearer fits =
    record { claimed = sym owner ∙ fits.claimed; more = fits.more }
same_phase e s row popped x y g c phases.Counted owner local state bearer fits =
    (record { claimed = sym owner ∙ fits.0.claimed; more = fits.0.more }, sym local ∙ fits.1)
same_phase e s row popped x y g c phases.Ready owner local state bearer fits =
    (record { claimed = sym owner ∙ fits.0.claimed; more = fits.0.more }, sym local ∙ fits.1, sym state ∙ fits.2)
same_phase e s row popped x y g c phases.Zero owner local state bearer fits = sym owner ∙ fits
same_phase e s row popped x y g c phases.Over owner local state bearer fits = sym owner ∙ fits
same_phase e s row popped x y g c phases.Untied owner local state bearer fits = record {
  owner = sym owner ∙ fits.owner;
  local = sym local ∙ fits.local;
  not_merged = ap is_merged (sym state) ∙ fits.not_merged;
  bearer = sym bearer ∙ fits.bearer;
}
same_phase e s row popped x y g c phases.Shut owner local state bearer fits = same_shut e x y g c (λ is. sym owner
    ∙ is) fits
same_phase e s row popped x y g c phases.Offered owner local state bearer fits = record {
  owner = sym owner ∙ fits.owner;
  local = subst (λ n. 1 ≤ n) local fits.local;
  state = sym state ∙ fits.state;
}
same_phase e s row popped x y g c phases.Yielding owner local state bearer fits = record {
  owner = sym owner ∙ fits.owner;
  state = sym state ∙ fits.state;
  bearer = sym bearer ∙ fits.bearer;
}
same_phase e s row popped x y g c phases.Taking owner local state bearer fits = sym owner ∙ fits
same_phase e s row popped x y g c phases.Held owner local state bearer fits = sym state ∙ fits
same_phase e s row popped x y g c phases.Popping owner local state bearer fits = (sym owner ∙ fits.0, fits.1)
same_phase e s row popped x y g c _ owner local state bearer fits = fits

-- whoever grips a cell has claimed it, owns it, or has let it go
pub gripping_owner : (e : Edition) (s : ℕ) (row : Row) (popped : List ℕ) (x : Cell) (g : Stage) (c : ℕ) (p : Phase)
    → PhaseFits e s row popped x g c p → is_gripping p ≡ true
    → (x.owner ≡ owners.Claimed s) ⊎ ((x.owner ≡ owners.Thread s) ⊎ (x.owner ≡ owners.Nobody))
gripping_owner e s row popped x g c phases.Claimed fits grip = inl fits.claimed
gripping_owner e s row popped x g c phases.Counted fits grip = inl fits.0.claimed
gripping_owner e s row popped x g c phases.Ready fits grip = inl fits.0.claimed
gripping_owner e s row popped x g c phases.Zero fits grip = inr (inl fits)
gripping_owner e s row popped x g c phases.Over fits grip = inr (inl fits)
gripping_owner e s row popped x g c phases.Untied fits grip = inr (inr fits.owner)
gripping_owner e s row popped x g c phases.Taking fits grip = inr (inr fits)
gripping_owner e s row popped x g c phases.Popping fits grip = inr (inr fits.0)
gripping_owner e s row popped x g c phases.Yielding fits grip = inr (inr fits.owner)
gripping_owner e s row popped x g c _ fits grip = absurd (true≢false (sym grip))

-- a hand that names a cell grips it, has a reference to it, or is about to hand it over
pub hand_names : (p : Phase) (c : ℕ) → 1 ≤ one (grips c (hands.Busy p c)) + one (carries c (hands.Busy p c)) + one
    (offering c (hands.Busy p c))
hand_names p c = by_role (role_of p)
  where
    here : one (c == c) ≡ 1
    here = ap one (eq-eqb c c refl)

    by_role : (r : Role) → 1 ≤ one (merges r && (c == c)) + one (refers r && (c == c)) + one (offers r && (c == c))
    by_role roles.Owns = omega (arith, here)
    by_role _ = omega (arith, here)

-- a hand with a reference counts it
pub busy_carrier : (p : Phase) (c : ℕ) (hand : Hand) → has_reference p ≡ true → hand ≡ hands.Busy p c
    → one (carries c hand) ≡ 1
busy_carrier p c hand has e = ap (λ z. one (carries c z)) e ∙ ap (λ b. one (b && (c == c))) has
    ∙ ap one (eq-eqb c c refl)

pub grips_free : (c : ℕ) (hand : Hand) → hand ≡ hands.Free → one (grips c hand) ≡ 0
grips_free c hand e = ap (λ x. one (grips c x)) e

pub carries_free : (c : ℕ) (hand : Hand) → hand ≡ hands.Free → one (carries c hand) ≡ 0
carries_free c hand e = ap (λ x. one (carries c x)) e

pub offers_free : (c : ℕ) (hand : Hand) → hand ≡ hands.Free → one (offering c hand) ≡ 0
offers_free c hand e = ap (λ x. one (offering c x)) e

-- a hand in another phase hands nothing over
pub offers_none : (p : Phase) (c q : ℕ) (hand : Hand) → is_offering p ≡ false → hand ≡ hands.Busy p c
    → one (offering q hand) ≡ 0
offers_none p c q hand off e = ap (λ x. one (offering q x)) e ∙ ap (λ b. one (b && (c == q))) off

-- nor does a hand that has another cell
pub offers_else : (c q : ℕ) (hand : Hand) → ((p : Phase) (d : ℕ) → hand ≡ hands.Busy p d → d ≡ c) → q ≢ c
    → one (offering q hand) ≡ 0
offers_else c q hands.Free at_c ne = refl
offers_else c q (hands.Busy p d) at_c ne = other (is_offering p)
  where
    other : (b : Bool) → one (b && (d == q)) ≡ 0
    other true = ap one (ne_eqb d q (λ e. ne (sym e ∙ at_c p d refl)))
    other false = refl

-- a hand that neither grips, nor has a reference, nor hands over doesn't name the cell
pub unnamed : (p : Phase) (c : ℕ) (hand : Hand) → one (grips c hand) ≡ 0 → one (carries c hand) ≡ 0
    → one (offering c hand) ≡ 0 → hand ≡ hands.Busy p c → ⊥
unnamed p c hand no_grip no_reference no_offer e =
    omega (
      arith,
      hand_names p c,
      ap (λ x. one (grips c x)) e,
      ap (λ x. one (carries c x)) e,
      ap (λ x. one (offering c x)) e,
      no_grip,
      no_reference,
      no_offer,
    )

-- a cell that isn't as an offered one must be is offered by no hand
pub unoffered : (h : Heap) (s c : ℕ) (hand : Hand) → IsSound h → (row_at h s).hand ≡ hand
    → (Offered s (cell_at h c) → ⊥) → one (offering c hand) ≡ 0
unoffered h s c hands.Free sound e isnt = refl
unoffered h s c (hands.Busy p d) sound e isnt =
    elim (cases_eq d c) [
      | inr other ↦ apart (is_offering p) (ne_eqb d c other)
      | inl same ↦ ap (λ b. one (b && (d == c))) (by_phase p (sound.hands s c p (e ∙ ap (hands.Busy p) same)).fits)
    ]
  where
    apart : (b : Bool) → (d == c) ≡ false → one (b && (d == c)) ≡ 0
    apart true off = ap one off
    apart false off = refl

    by_phase : (p : Phase) → PhaseFits h.edition s (row_at h s) (popped_at h s) (cell_at h c)
        (row_at h (cell_at h c).bearer).stage c p → is_offering p ≡ false
    by_phase phases.Offered fits = absurd (isnt fits)
    by_phase _ fits = refl

-- what somebody grips is offered by nobody
pub gripped_unoffered : (h : Heap) (s c : ℕ) → IsSound h → FIRST_MORTAL ≤ c → 1 ≤ gripped h c
    → Offered s (cell_at h c) → ⊥
gripped_unoffered h s c sound mortal some offer =
    let x : Cell = cell_at h c in
    omega (
      arith,
      some,
      sound.gripped c mortal,
      ap (λ o. grips_by_owner o x.state x.local x.count) offer.owner,
      ap one (ne_eqb x.local 0 (λ e. omega (arith, e, offer.local))),
    )

-- ---- cells

pub grips_of-le : (owner : Owner) (state : State) (local : ℕ) (count : ℤ) → grips_by_owner owner state local count ≤ 1
grips_of-le owners.Nobody states.Default local count = omega arith
grips_of-le owners.Nobody states.Queued local count = omega arith
grips_of-le owners.Nobody states.Merged local count = one-le (is_zero count)
grips_of-le (owners.Thread t) state local count = one-le (local == 0)
grips_of-le (owners.Claimed t) state local count = omega arith
grips_of-le owners.Free state local count = omega arith

pub free_owner : (owner : Owner) → is_free owner ≡ true → owner ≡ owners.Free
free_owner owners.Nobody h = absurd (true≢false (sym h))
free_owner (owners.Thread t) h = absurd (true≢false (sym h))
free_owner (owners.Claimed t) h = absurd (true≢false (sym h))
free_owner owners.Free h = refl

pub thread_owner : (t : ℕ) (owner : Owner) → is_owned_by t owner ≡ true → owner ≡ owners.Thread t
thread_owner t owners.Nobody h = absurd (true≢false (sym h))
thread_owner t (owners.Thread s) h = ap owners.Thread (eqb-true s t h)
thread_owner t (owners.Claimed s) h = absurd (true≢false (sym h))
thread_owner t owners.Free h = absurd (true≢false (sym h))

pub active_stage : (stage : Stage) → is_active stage ≡ true → stage ≡ stages.Active
active_stage stages.Active h = refl
active_stage (stages.Closing n) h = absurd (true≢false (sym h))
active_stage stages.Left h = absurd (true≢false (sym h))
active_stage (stages.Opening n) h = absurd (true≢false (sym h))

pub active_works : (e : Edition) (stage : Stage) → stage ≡ stages.Active → rests e stage ≡ false
active_works editions.One stage is = refl
active_works editions.Two stage is = ap (λ s. not (is_active s)) is

pub zero_count : (n : ℤ) → is_zero n ≡ true → n ≡ pos 0
zero_count (pos n) h = ap pos (eqb-true n 0 h)
zero_count (negsuc n) h = absurd (true≢false (sym h))

pub merged_state : (state : State) → is_merged state ≡ true → state ≡ states.Merged
merged_state states.Default h = absurd (true≢false (sym h))
merged_state states.Queued h = absurd (true≢false (sym h))
merged_state states.Merged h = refl

pub nobody_owner : (owner : Owner) → is_nobody owner ≡ true → owner ≡ owners.Nobody
nobody_owner owners.Nobody h = refl
nobody_owner (owners.Thread t) h = absurd (true≢false (sym h))
nobody_owner (owners.Claimed t) h = absurd (true≢false (sym h))
nobody_owner owners.Free h = absurd (true≢false (sym h))

pub default_state : (state : State) → is_default state ≡ true → state ≡ states.Default
default_state states.Default h = refl
default_state states.Queued h = absurd (true≢false (sym h))
default_state states.Merged h = absurd (true≢false (sym h))

-- the words of a cell without an object count nothing
pub dead_counts : (x : Cell) → lives x.owner ≡ false → counted_in x ≡ pos 0
dead_counts x dead = ap (λ b. if b then total_of x else pos 0) dead

pub live_counts : (x : Cell) → lives x.owner ≡ true → counted_in x ≡ total_of x
live_counts x live = ap (λ b. if b then total_of x else pos 0) live

-- ---- what a world's sums say of one thread

-- words that aren't there have no bit
pub no_bit : (c : ℕ) → bit_of [] c ≡ 0
no_bit c = bit_at-zero (c % 32)

-- nothing holds the cell
pub record Unheld (h : Heap) (c : ℕ) : Type 0 where
  pub sum : held h c ≡ 0
  pub frames : (s : ℕ) → times c (frame_at h s) ≡ 0
  pub hands : (s : ℕ) → one (carries c (row_at h s).hand) ≡ 0
  pub bits : (s : ℕ) → bit_of (queue_at h s) c + bit_of (popped_at h s) c ≡ 0
  pub entries : in_entries h c ≡ 0
  pub asks : asks h c ≡ 0

pub unheld : (h : Heap) (c : ℕ) → held h c ≡ 0 → Unheld h c
unheld h c none = record {
  sum = none;
  frames = λ s. omega (arith, none, sum_one (times c) h.frames s [] refl);
  hands = λ s. omega (arith, none, sum_one (λ (row : Row). one (carries c row.hand)) h.rows s no_row refl);
  bits = λ s. omega (
    arith,
    none,
    sum_one (λ (words : List ℕ). bit_of words c) h.queues s [] (no_bit c),
    sum_one (λ (words : List ℕ). bit_of words c) h.popped s [] (no_bit c),
  );
  entries = omega (arith, none);
  asks = omega (arith, none);
}

-- a cell without an object is held nowhere
pub dead_unheld : (h : Heap) (c : ℕ) → IsSound h → FIRST_MORTAL ≤ c → lives (cell_at h c).owner ≡ false → Unheld h c
dead_unheld h c sound mortal dead =
    unheld h c (omega (arith, ints, sound.counted c mortal, dead_counts (cell_at h c) dead))

-- nothing grips the cell
pub record Ungripped (h : Heap) (c s : ℕ) : Type 0 where
  pub mark : one (is_marked (worklist_at h s) c) ≡ 0
  pub hand : one (grips c (row_at h s).hand) ≡ 0

pub ungripped : (h : Heap) (c : ℕ) → gripped h c ≡ 0 → (s : ℕ) → Ungripped h c s
ungripped h c none s = record {
  mark = omega (arith, none, sum_one (λ (marks : List Bool). one (is_marked marks c)) h.worklists s [] refl);
  hand = omega (arith, none, sum_one (λ (row : Row). one (grips c row.hand)) h.rows s no_row refl);
}

-- a thread that grips the cell is the only one, and does so once
pub sole_grip : (h : Heap) (c t : ℕ) → IsSound h → FIRST_MORTAL ≤ c → 1 ≤ one (is_marked (worklist_at h t) c) + one
    (grips c (row_at h t).hand)
    → (s : ℕ) → s ≢ t → Ungripped h c s
sole_grip h c t sound mortal some s ne =
    let marks = sum_two (λ (marks : List Bool). one (is_marked marks c)) h.worklists t s [] refl ne in
    let rows = sum_two (λ (row : Row). one (grips c row.hand)) h.rows t s no_row refl ne in
    let most = grips_of-le (cell_at h c).owner (cell_at h c).state (cell_at h c).local (cell_at h c).count in
    let total = sound.gripped c mortal in
    record {
      mark = omega (arith, marks, rows, most, total, some);
      hand = omega (arith, marks, rows, most, total, some);
    }

pub grips_once : (h : Heap) (c t : ℕ) → IsSound h → FIRST_MORTAL ≤ c
    → one (is_marked (worklist_at h t) c) + one (grips c (row_at h t).hand) ≤ 1
grips_once h c t sound mortal =
    omega (
      arith,
      sum_one (λ (marks : List Bool). one (is_marked marks c)) h.worklists t [] refl,
      sum_one (λ (row : Row). one (grips c row.hand)) h.rows t no_row refl,
      grips_of-le (cell_at h c).owner (cell_at h c).state (cell_at h c).local (cell_at h c).count,
      sound.gripped c mortal,
    )
