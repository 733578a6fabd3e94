-- The owner's counting: LocalUp and LocalDown, with the number that the thread keeps and no look. The count stands in no
-- word of the table, so any word is loaded.
use Rattle.std.proofs.Common.{◌≡◌, ℕ, ◌+◌, ◌-◌, ◌<◌, ◌≤◌, ◌||◌, true, false, if◌then◌else◌, List, length, Option, Some}
use Rattle.std.proofs.Common.{refl, sym, ◌∙◌, ap, subst, arith}
use Rattle.std.proofs.lemmas.Bool.{lt-ltb, le-ltb}
use Rattle.std.specs.Cmp.Derive.{both_true}
use Rattle.atomic_table.specs.Table.{State, Allows}
use Rattle.brc_words.specs.declared.limits.TheConstants.{FIRST_MORTAL, IMMORTAL_LOCAL}
use Rattle.brc_words.specs.declared.owner.Owner.TheVariants as owners
use Rattle.law.specs.declared.world.cell.Cell.{Cell}
use Rattle.law.specs.declared.world.event.Source.{Source}
use Rattle.law.specs.declared.world.event.Dropped.{Dropped}
use Rattle.law.specs.declared.world.event.Step.{Step}
use Rattle.law.specs.declared.world.event.Step.TheVariants.{LocalUp, LocalDown}
use Rattle.law.specs.world.Heap.{Heap, cell_at, row_at, no_cell, is_immortal}
use Rattle.law.specs.world.Steps.{target_at, target_ok, cell_ok, cell_after, is_mine, counts_up_locally, stepped}
use Rattle.law.proofs.world.Asking.{mine}
use Rattle.law.proofs.world.Changes.{read_here}
use Rattle.law.proofs.world.Reached.{reached_sound}
use Rattle.law.proofs.lasting.Progress.{inside}
use Rattle.law.specs.declared.known.word.Field.TheVariants.{Local}
use Rattle.law.specs.declared.known.word.Word.{Word}
use Rattle.law.specs.declared.known.word.Word.TheVariants.{Of}
use Rattle.law.specs.known.Counts.{own_count}
use Rattle.law.proofs.known.Counts_Law.{counted}
use Rattle.law.specs.declared.rule.contents.Contents.{Contents}
use Rattle.law.specs.declared.rule.told.Moved.TheVariants as moves
use Rattle.law.specs.declared.rule.told.LogItem.{LogItem}
use Rattle.law.specs.declared.rule.told.LogItem.TheVariants.{Stepped}
use Rattle.law.specs.declared.rule.view.View.{View}
use Rattle.law.specs.rule.Layout.{spot}
use Rattle.law.specs.rule.Rule.{with_told, Kept}
use Rattle.law.specs.rule.Seen.{counts_seen}
use Rattle.law.specs.steps.Owing.{MayRaise, MayRaiseImmortal, MayLower, MayLowerImmortal}
use Rattle.law.proofs.rule.Knowing.{Known, is_enabled, meant_there}
use Rattle.law.proofs.steps.Plain_Steps.{IsPlain, plain_on, same_owner, stays_on, quiet_step}

-- an object that the log counts
pub record Counted (n limit : ℕ) (h : Heap) (t : ℕ) (log : List LogItem) (c count : ℕ) : Type 0 where
  pub his : is_mine t (row_at h t).stage (cell_at h c) ≡ true
  pub count_is : (cell_at h c).local ≡ count
  pub low : c < length h.cells

pub counted_there : (n limit : ℕ) (h : Heap) (t : ℕ) (log : List LogItem) (c count : ℕ) → Known n limit h t log
    → FIRST_MORTAL ≤ c → counts_seen n log c ≡ count → 0 < count
    → Counted n limit h t log c count
counted_there n limit h t log c count known mortal says some_count =
    let is : own_count t (row_at h t).stage (cell_at h c) ≡ count = known.counts c mortal ∙ says in
    let both = counted t (row_at h t).stage (cell_at h c) (omega (arith, is, some_count)) in
    record {
      his = both.0;
      count_is = both.1 ∙ is;
      low = inside h c (λ free. not_free (sym (mine t (row_at h t).stage (cell_at h c) both.0).owner ∙ free));
    }
  where
    not_free : owners.Thread t ≡ owners.Free → ⊥
    not_free bad = absurd (cc)

-- a mortal cell's number
pub mortal_cell : (c : ℕ) → FIRST_MORTAL ≤ c → is_immortal c ≡ false
mortal_cell c mortal = le-ltb _ _ mortal

-- ---- the steps in the world

-- the cell that is meant, as an enabled step wants it
pub fits_cell : (n limit : ℕ) (h : Heap) (t : ℕ) (log : List LogItem) (s : Step) (c : ℕ) → Known n limit h t log
    → target_at h t s ≡ Some c → c < length h.cells
    → cell_ok limit t (row_at h t) s c (cell_at h c) ≡ true → target_ok h t (row_at h t) s (target_at h t s) ≡ true
fits_cell n limit h t log s c known named low ok =
    subst (λ o. target_ok h t (row_at h t) s o ≡ true) (sym named)
    (both_true (lt-ltb _ _ low) (subst (λ m. cell_ok m t (row_at h t) s c (cell_at h c) ≡ true)
    (sym known.limit_is) ok))

-- what stands in a word of the cell after a step on it
pub read_cell : (h : Heap) (t : ℕ) (s : Step) (c : ℕ) → c < length h.cells
    → cell_at (stepped h t s c) c ≡ cell_after t s c (cell_at h c)
read_cell h t s c low = read_here h.cells c (cell_after t s c (cell_at h c)) no_cell low

module _ {B : Type 0} (shows : B → ℕ × Contents) (n limit : ℕ) where
  abbrev Rule : State (Option B) View → Type 0
  Rule = Kept shows n limit

  raised : (h : Heap) (t : ℕ) (log : List LogItem) (source : Source) (k c count : ℕ) → 0 < t → Known n limit h t log
      → MayRaise n limit log source k c count
      → IsPlain n h t (LocalUp source k) (Of Local c) (count + 1) (count + 1)
  raised h t log source k c count some_thread known raises =
      let s : Step = LocalUp source k in
      let x : Cell = cell_at h c in
      let is : Counted n limit h t log c count = counted_there n limit h t log c count known raises.mortal
      raises.counted raises.some_count in
      let named : target_at h t s ≡ Some c = meant_there n limit h t log s (Some c) known raises.cell in
      let after_is : (cell_after t s c x).local ≡ count + 1 =
      ap (λ b. (if b then x else record x { local = x.local + 1 }).local) (mortal_cell c raises.mortal)
      ∙ ap (λ m. m + 1) is.count_is in
      let same : (cell_after t s c x).owner ≡ x.owner =
      ap (λ b. (if b then x else record x { local = x.local + 1 }).owner) (mortal_cell c raises.mortal) in
      let unlocked : (cell_after t s c x).mutex ≡ x.mutex =
      ap (λ b. (if b then x else record x { local = x.local + 1 }).mutex) (mortal_cell c raises.mortal) in
      let ok : counts_up_locally limit t (row_at h t).stage x ≡ true =
      both_true is.his (lt-ltb _ _ (omega (arith, is.count_is, raises.below))) in
      plain_on n h t s c (Of Local c) (count + 1) (count + 1) (record {
        may = is_enabled n limit h t log s some_thread known raises.own refl refl
            (fits_cell n limit h t log s c known named is.low
            (ap (λ b. b || counts_up_locally limit t (row_at h t).stage x) (mortal_cell c raises.mortal) ∙ ok));
        target = named;
        word = refl;
        shown = sym (ap (λ (y : Cell). y.local) (read_cell h t s c is.low) ∙ after_is);
        told = sym after_is;
        finds_none = refl;
        puts_none = refl;
        takes_none = refl;
        stays = stays_on h t s c is.low refl refl (same_owner x (cell_after t s c x) same unlocked);
      })

  -- the owner counts up
  pub counts_up : (id : ℕ) (v : View) (slots : List (ℕ × Option B)) (u : Word) (source : Source) (k c count : ℕ)
      → v.active ≡ true → 0 < v.thread → MayRaise n limit v.log source k c count
      → Allows Rule n id (v, slots) (spot n u) (λ there. there)
      (λ there me. me ≡ (with_told (Stepped (LocalUp source k) (count + 1) moves.Nothing) v, slots))
  counts_up id v slots u source k c count active some_thread raises =
      quiet_step shows n limit id v slots (LocalUp source k) (Of Local c) u (count + 1) (count + 1) active some_thread
      (λ none. none) (λ h known. raised h v.thread v.log source k c count some_thread known raises)

  lowered : (h : Heap) (t : ℕ) (log : List LogItem) (drop : Dropped) (c count : ℕ) → 0 < t → Known n limit h t log
      → MayLower n log drop c count
      → IsPlain n h t (LocalDown drop) (Of Local c) (count - 1) (count - 1)
  lowered h t log drop c count some_thread known lowers =
      let s : Step = LocalDown drop in
      let x : Cell = cell_at h c in
      let is : Counted n limit h t log c count = counted_there n limit h t log c count known lowers.mortal
      lowers.counted lowers.some_count in
      let named : target_at h t s ≡ Some c = meant_there n limit h t log s (Some c) known lowers.cell in
      let after_is : (cell_after t s c x).local ≡ count - 1 =
      ap (λ b. (if b then x else record x { local = x.local - 1 }).local) (mortal_cell c lowers.mortal)
      ∙ ap (λ m. m - 1) is.count_is in
      let same : (cell_after t s c x).owner ≡ x.owner =
      ap (λ b. (if b then x else record x { local = x.local - 1 }).owner) (mortal_cell c lowers.mortal) in
      let unlocked : (cell_after t s c x).mutex ≡ x.mutex =
      ap (λ b. (if b then x else record x { local = x.local - 1 }).mutex) (mortal_cell c lowers.mortal) in
      plain_on n h t s c (Of Local c) (count - 1) (count - 1) (record {
        may = is_enabled n limit h t log s some_thread known lowers.own refl refl
            (fits_cell n limit h t log s c known named is.low
            (ap (λ b. b || is_mine t (row_at h t).stage x) (mortal_cell c lowers.mortal) ∙ is.his));
        target = named;
        word = refl;
        shown = sym (ap (λ (y : Cell). y.local) (read_cell h t s c is.low) ∙ after_is);
        told = sym after_is;
        finds_none = refl;
        puts_none = refl;
        takes_none = refl;
        stays = stays_on h t s c is.low refl refl (same_owner x (cell_after t s c x) same unlocked);
      })

  -- the owner counts down
  pub counts_down : (id : ℕ) (v : View) (slots : List (ℕ × Option B)) (u : Word) (drop : Dropped) (c count : ℕ)
      → v.active ≡ true → 0 < v.thread → MayLower n v.log drop c count
      → Allows Rule n id (v, slots) (spot n u) (λ there. there)
      (λ there me. me ≡ (with_told (Stepped (LocalDown drop) (count - 1) moves.Nothing) v, slots))
  counts_down id v slots u drop c count active some_thread lowers =
      quiet_step shows n limit id v slots (LocalDown drop) (Of Local c) u (count - 1) (count - 1) active some_thread
      (λ none. none) (λ h known. lowered h v.thread v.log drop c count some_thread known lowers)

  -- ---- an immortal's count stays as the heap is opened

  -- an immortal is a cell of every heap
  immortal_low : (h : Heap) (t : ℕ) (log : List LogItem) (c : ℕ) → Known n limit h t log → c < FIRST_MORTAL
      → c < length h.cells
  immortal_low h t log c known low = omega (arith, known.options.enough, known.cells, low)

  fixed_count : (h : Heap) (t : ℕ) (log : List LogItem) (c : ℕ) → Known n limit h t log → c < FIRST_MORTAL
      → (cell_at h c).local ≡ IMMORTAL_LOCAL
  fixed_count h t log c known low = ((reached_sound h known.reached).immortals c low).local

  up_immortal : (h : Heap) (t : ℕ) (log : List LogItem) (source : Source) (k c : ℕ) → 0 < t
      → Known n limit h t log
      → MayRaiseImmortal n log source k c
      → IsPlain n h t (LocalUp source k) (Of Local c) IMMORTAL_LOCAL IMMORTAL_LOCAL
  up_immortal h t log source k c some_thread known raises =
      let s : Step = LocalUp source k in
      let x : Cell = cell_at h c in
      let low : c < length h.cells = immortal_low h t log c known raises.immortal in
      let fixed : is_immortal c ≡ true = lt-ltb _ _ raises.immortal in
      let count : x.local ≡ IMMORTAL_LOCAL = fixed_count h t log c known raises.immortal in
      let named : target_at h t s ≡ Some c = meant_there n limit h t log s (Some c) known raises.cell in
      let same : cell_after t s c x ≡ x = ap (λ b. if b then x else record x { local = x.local + 1 }) fixed in
      plain_on n h t s c (Of Local c) IMMORTAL_LOCAL IMMORTAL_LOCAL (record {
        may = is_enabled n limit h t log s some_thread known raises.own refl refl
            (fits_cell n limit h t log s c known named low
            (ap (λ b. b || counts_up_locally limit t (row_at h t).stage x) fixed));
        target = named;
        word = refl;
        shown = sym (ap (λ (y : Cell). y.local) (read_cell h t s c low ∙ same) ∙ count);
        told = sym (ap (λ (y : Cell). y.local) same ∙ count);
        finds_none = refl;
        puts_none = refl;
        takes_none = refl;
        stays = stays_on h t s c low refl refl (same_owner x (cell_after t s c x) (ap (λ (y : Cell). y.owner) same)
            (ap (λ (y : Cell). y.mutex) same));
      })

  pub counts_immortal_up : (id : ℕ) (v : View) (slots : List (ℕ × Option B)) (u : Word) (source : Source) (k c : ℕ)
      → v.active ≡ true → 0 < v.thread → MayRaiseImmortal n v.log source k c
      → Allows Rule n id (v, slots) (spot n u) (λ there. there)
      (λ there me. me ≡ (with_told (Stepped (LocalUp source k) IMMORTAL_LOCAL moves.Nothing) v, slots))
  counts_immortal_up id v slots u source k c active some_thread raises =
      quiet_step shows n limit id v slots (LocalUp source k) (Of Local c) u IMMORTAL_LOCAL IMMORTAL_LOCAL active
      some_thread (λ none. none) (λ h known. up_immortal h v.thread v.log source k c some_thread known raises)

  down_immortal : (h : Heap) (t : ℕ) (log : List LogItem) (drop : Dropped) (c : ℕ) → 0 < t → Known n limit h t log
      → MayLowerImmortal n log drop c
      → IsPlain n h t (LocalDown drop) (Of Local c) IMMORTAL_LOCAL IMMORTAL_LOCAL
  down_immortal h t log drop c some_thread known lowers =
      let s : Step = LocalDown drop in
      let x : Cell = cell_at h c in
      let low : c < length h.cells = immortal_low h t log c known lowers.immortal in
      let fixed : is_immortal c ≡ true = lt-ltb _ _ lowers.immortal in
      let count : x.local ≡ IMMORTAL_LOCAL = fixed_count h t log c known lowers.immortal in
      let named : target_at h t s ≡ Some c = meant_there n limit h t log s (Some c) known lowers.cell in
      let same : cell_after t s c x ≡ x = ap (λ b. if b then x else record x { local = x.local - 1 }) fixed in
      plain_on n h t s c (Of Local c) IMMORTAL_LOCAL IMMORTAL_LOCAL (record {
        may = is_enabled n limit h t log s some_thread known lowers.own refl refl
            (fits_cell n limit h t log s c known named low
            (ap (λ b. b || is_mine t (row_at h t).stage x) fixed));
        target = named;
        word = refl;
        shown = sym (ap (λ (y : Cell). y.local) (read_cell h t s c low ∙ same) ∙ count);
        told = sym (ap (λ (y : Cell). y.local) same ∙ count);
        finds_none = refl;
        puts_none = refl;
        takes_none = refl;
        stays = stays_on h t s c low refl refl (same_owner x (cell_after t s c x) (ap (λ (y : Cell). y.owner) same)
            (ap (λ (y : Cell). y.mutex) same));
      })

  pub counts_immortal_down : (id : ℕ) (v : View) (slots : List (ℕ × Option B)) (u : Word) (drop : Dropped) (c : ℕ)
      → v.active ≡ true → 0 < v.thread → MayLowerImmortal n v.log drop c
      → Allows Rule n id (v, slots) (spot n u) (λ there. there)
      (λ there me. me ≡ (with_told (Stepped (LocalDown drop) IMMORTAL_LOCAL moves.Nothing) v, slots))
  counts_immortal_down id v slots u drop c active some_thread lowers =
      quiet_step shows n limit id v slots (LocalDown drop) (Of Local c) u IMMORTAL_LOCAL IMMORTAL_LOCAL active
      some_thread (λ none. none) (λ h known. down_immortal h v.thread v.log drop c some_thread known lowers)
