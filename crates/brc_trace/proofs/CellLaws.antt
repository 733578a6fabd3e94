-- A reason in the cell is so, and one is told exactly where the cell isn't as the step needs it.
use Rattle.std.proofs.Common.{◌≡◌, ◌∙◌, ℕ, ◌==◌, ◌&&◌, ◌||◌, not, Bool, true, false, Option, None}
use Rattle.std.proofs.Common.{is_none, refl, ap}
use Rattle.std.specs.Prelude.{IfSome, nat_lt, nat_le}
use Rattle.std.proofs.lemmas.Bool.{ltb-false, leb-false, lt-ltb, eqb-false}
use Rattle.brc_words.specs.declared.limits.TheConstants.{FIRST_MORTAL}
use Rattle.brc_words.specs.Kinds.{is_container}
use Rattle.law.specs.declared.world.cell.Cell.{Cell}
use Rattle.law.specs.declared.world.event.Step.{Step}
use Rattle.law.specs.declared.world.event.Step.TheVariants.{Claim, LocalUp, LocalDown, Untie, SharedUp, SharedDown, Ask}
use Rattle.law.specs.declared.world.event.Step.TheVariants.{LastDown, Lock, Unlock, Offer}
use Rattle.law.specs.declared.world.event.LastDropped.{LastDropped}
use Rattle.law.specs.declared.world.event.LastDropped.TheVariants as lasts
use Rattle.law.specs.declared.world.row.Row.{Row}
use Rattle.law.specs.declared.world.row.Hand.{Hand}
use Rattle.law.specs.declared.world.row.Hand.TheVariants as hands
use Rattle.law.specs.declared.world.row.Phase.TheVariants as phases
use Rattle.law.specs.world.Heap.{is_immortal}
use Rattle.law.specs.world.Steps.{is_owned_by, is_nobody, is_free, is_default, is_queued, is_merged, is_positive, is_mine}
use Rattle.law.specs.world.Steps.{counts_up_locally, is_active, is_free_hand, is_keep, untied_ok, ends_ok, last_ok, cell_ok}
use Rattle.brc_trace.specs.OwnReasons.{unless}
use Rattle.brc_trace.specs.CellReasons.{IsCellSo, owner_reason, untie_reason, others_reason, ends_reason, last_reason}
use Rattle.brc_trace.specs.CellReasons.{cell_reason}
use Rattle.brc_trace.specs.declared.cell_reasons.CellReason.{CellReason}
use Rattle.brc_trace.specs.declared.cell_reasons.CellReason.TheVariants as cells
use Rattle.brc_trace.proofs.ReasonLaws.{and_assoc, and_true, not_false, is_none-unless, is_none-otherwise}
use Rattle.brc_trace.proofs.ReasonLaws.{unless_so, otherwise_so}

-- ---- where one is told

untie_none : (t : ℕ) (hand : Hand) (x : Cell) → is_none (untie_reason t hand x) ≡ untied_ok t hand x
untie_none t hands.Free x = simp (is_none-unless, and_true)
untie_none t (hands.Busy phases.Shut c) x = simp (is_none-unless, and_true)
untie_none t (hands.Busy phase c) x = refl

ends_none : (hand : Hand) (x : Cell) → is_none (ends_reason hand x) ≡ ends_ok hand x
ends_none hands.Free x = refl
ends_none (hands.Busy phases.Held c) x = refl
ends_none (hands.Busy phase c) x = simp (is_none-unless, and_true)

last_none : (t : ℕ) (row : Row) (last : LastDropped) (c : ℕ) (x : Cell)
    → is_none (last_reason t row last c x) ≡ last_ok t row last c x
last_none t row (lasts.Dropped drop) c x = simp (is_none-unless, and_true)
last_none t row (lasts.Popped d) c x = simp (is_none-unless, and_true)
last_none t row lasts.Hand c x = ends_none row.hand x

pub cell_none : (limit t : ℕ) (row : Row) (s : Step) (c : ℕ) (x : Cell)
    → is_none (cell_reason limit t row s c x) ≡ cell_ok limit t row s c x
cell_none limit t row (Claim d) c x = simp (is_none-unless, and_true)
cell_none limit t row (LocalUp source k) c x = simp (is_none-otherwise, is_none-unless, and_true, and_assoc)
cell_none limit t row (LocalDown drop) c x = simp (is_none-otherwise, is_none-unless, and_true)
cell_none limit t row (Untie d) c x = untie_none t row.hand x
cell_none limit t row (SharedUp source k) c x = simp (is_none-unless, and_true)
cell_none limit t row (SharedDown drop) c x = simp (is_none-unless, and_true, and_assoc)
cell_none limit t row (Ask drop) c x = simp (is_none-unless, and_true)
cell_none limit t row (LastDown last) c x =
    is_none-unless (not (is_default x.state)) cells.InDefault (last_reason t row last c x)
    ∙ ap (λ (b : Bool). not (is_default x.state) && b) (last_none t row last c x)
cell_none limit t row (Lock k) c x = simp (is_none-unless, and_true)
cell_none limit t row (Unlock change) c x = simp (is_none-unless, and_true)
cell_none limit t row (Offer d) c x = simp (is_none-unless, and_true)
cell_none limit t row _ c x = refl

-- ---- what is told

abbrev Told : ℕ → ℕ → Row → ℕ → Cell → CellReason → Type 0
Told limit t row c x = IsCellSo limit t row c x

below_mortals : (c : ℕ) → nat_le FIRST_MORTAL c ≡ false → is_immortal c ≡ true
below_mortals c is = lt-ltb c FIRST_MORTAL (leb-false FIRST_MORTAL c is)

owner_so : (limit t : ℕ) (row : Row) (c : ℕ) (x : Cell) (next : Option CellReason) → IfSome next (Told limit t row c x)
    → IfSome (owner_reason t row.stage x next) (Told limit t row c x)
owner_so limit t row c x next rest =
    unless_so (Told limit t row c x) (is_owned_by t x.owner) cells.NotItsOwn
    (unless (is_active row.stage) cells.OwnerInactive next) (λ is. is)
    (unless_so (Told limit t row c x) (is_active row.stage) cells.OwnerInactive next (λ is. is) rest)

others_so : (limit t : ℕ) (row : Row) (c : ℕ) (x : Cell) (next : Option CellReason) → IfSome next (Told limit t row c x)
    → IfSome (others_reason t row.stage c x next) (Told limit t row c x)
others_so limit t row c x next rest =
    unless_so (Told limit t row c x) (not (is_immortal c)) cells.Immortal
    (unless (not (is_mine t row.stage x)) cells.ItsOwn next) (not_false (is_immortal c))
    (unless_so (Told limit t row c x) (not (is_mine t row.stage x)) cells.ItsOwn next (not_false (is_mine t row.stage x))
    rest)

claim_so : (limit t : ℕ) (row : Row) (d c : ℕ) (x : Cell)
    → IfSome (cell_reason limit t row (Claim d) c x) (Told limit t row c x)
claim_so limit t row d c x =
    unless_so (Told limit t row c x) (nat_le FIRST_MORTAL c) cells.Immortal (unless (is_free x.owner) cells.NotFree None)
    (below_mortals c) (unless_so (Told limit t row c x) (is_free x.owner) cells.NotFree None (λ is. is) tt)

untie_so : (limit t : ℕ) (row : Row) (c : ℕ) (x : Cell) (hand : Hand)
    → IfSome (untie_reason t hand x) (Told limit t row c x)
untie_so limit t row c x hands.Free =
    unless_so (Told limit t row c x) (is_owned_by t x.owner) cells.NotItsOwn
    (unless (is_queued x.state) cells.NotQueued None) (λ is. is)
    (unless_so (Told limit t row c x) (is_queued x.state) cells.NotQueued None (λ is. is) tt)
untie_so limit t row c x (hands.Busy phases.Shut d) =
    unless_so (Told limit t row c x) (not (is_nobody x.owner)) cells.NoOwner None (not_false (is_nobody x.owner)) tt
untie_so limit t row c x (hands.Busy phase d) = tt

has_owner_so : (limit t : ℕ) (row : Row) (c : ℕ) (x : Cell)
    → IfSome (unless (is_nobody x.owner) cells.HasOwner None) (Told limit t row c x)
has_owner_so limit t row c x =
    unless_so (Told limit t row c x) (is_nobody x.owner) cells.HasOwner None (λ is. is) tt

ends_so : (limit t : ℕ) (row : Row) (c : ℕ) (x : Cell) (hand : Hand) → row.hand ≡ hand
    → IfSome (ends_reason hand x) (Told limit t row c x)
ends_so limit t row c x hands.Free is = ap is_free_hand is
ends_so limit t row c x (hands.Busy phases.Held d) is = tt
ends_so limit t row c x (hands.Busy phase d) is = has_owner_so limit t row c x

last_so : (limit t : ℕ) (row : Row) (last : LastDropped) (c : ℕ) (x : Cell)
    → IfSome (last_reason t row last c x) (Told limit t row c x)
last_so limit t row (lasts.Dropped drop) c x = others_so limit t row c x None tt
last_so limit t row (lasts.Popped d) c x =
    unless_so (Told limit t row c x) (is_merged x.state) cells.NotMerged None (λ is. is) tt
last_so limit t row lasts.Hand c x = ends_so limit t row c x row.hand refl

shdown_so : (limit t : ℕ) (row : Row) (c : ℕ) (x : Cell)
    → IfSome (unless (is_default x.state) cells.NotDefault (unless (is_positive x.count) cells.NotAboveZero None))
    (Told limit t row c x)
shdown_so limit t row c x =
    unless_so (Told limit t row c x) (is_default x.state) cells.NotDefault
    (unless (is_positive x.count) cells.NotAboveZero None) (λ is. is)
    (unless_so (Told limit t row c x) (is_positive x.count) cells.NotAboveZero None (λ is. is) tt)

at_limit_so : (limit t : ℕ) (row : Row) (c : ℕ) (x : Cell)
    → IfSome (unless (nat_lt x.local limit) cells.AtLimit None) (Told limit t row c x)
at_limit_so limit t row c x =
    unless_so (Told limit t row c x) (nat_lt x.local limit) cells.AtLimit None (λ is. ltb-false x.local limit is) tt

pub cell_so : (limit t : ℕ) (row : Row) (s : Step) (c : ℕ) (x : Cell)
    → IfSome (cell_reason limit t row s c x) (IsCellSo limit t row c x)
cell_so limit t row (Claim d) c x = claim_so limit t row d c x
cell_so limit t row (LocalUp source k) c x =
    otherwise_so (Told limit t row c x) (is_immortal c)
    (owner_reason t row.stage x (unless (nat_lt x.local limit) cells.AtLimit None))
    (owner_so limit t row c x (unless (nat_lt x.local limit) cells.AtLimit None) (at_limit_so limit t row c x))
cell_so limit t row (LocalDown drop) c x =
    otherwise_so (Told limit t row c x) (is_immortal c) (owner_reason t row.stage x None)
    (owner_so limit t row c x None tt)
cell_so limit t row (Untie d) c x = untie_so limit t row c x row.hand
cell_so limit t row (SharedUp source k) c x =
    unless_so (Told limit t row c x) (not (is_immortal c)) cells.Immortal
    (unless (not (counts_up_locally limit t row.stage x)) cells.BelowLimit None) (not_false (is_immortal c))
    (unless_so (Told limit t row c x) (not (counts_up_locally limit t row.stage x)) cells.BelowLimit None
    (not_false (counts_up_locally limit t row.stage x)) tt)
cell_so limit t row (SharedDown drop) c x =
    others_so limit t row c x
    (unless (is_default x.state) cells.NotDefault (unless (is_positive x.count) cells.NotAboveZero None))
    (shdown_so limit t row c x)
cell_so limit t row (Ask drop) c x = others_so limit t row c x None tt
cell_so limit t row (LastDown last) c x =
    unless_so (Told limit t row c x) (not (is_default x.state)) cells.InDefault (last_reason t row last c x)
    (not_false (is_default x.state)) (last_so limit t row last c x)
cell_so limit t row (Lock k) c x =
    unless_so (Told limit t row c x) (x.mutex == 0) (cells.LockedBy x.mutex) None
    (λ is. (refl, eqb-false x.mutex 0 is)) tt
cell_so limit t row (Unlock change) c x =
    unless_so (Told limit t row c x) (is_keep change || is_container x.kind) cells.NoContainer None
    (λ is. neither (is_keep change) (is_container x.kind) is) tt
  where
    neither : (a b : Bool) → (a || b) ≡ false → b ≡ false
    neither true b is = absurd cc
    neither false b is = is
cell_so limit t row (Offer d) c x =
    unless_so (Told limit t row c x) (is_owned_by t x.owner) cells.NotItsOwn None (λ is. is) tt
cell_so limit t row _ c x = tt
