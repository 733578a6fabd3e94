-- The cells below the globals are unlocked by keep alone: none is a container.
use Rattle.std.proofs.Common.{◌≡◌, ℕ, ◌<◌, ◌==◌, ◌||◌, Bool, true, false, if◌then◌else◌, Some, refl, sym, ◌∙◌, ap}
use Rattle.std.proofs.Common.{subst, arith}
use Rattle.std.proofs.lemmas.Bool.{eqb-true, true≢false}
use Rattle.brc_words.specs.declared.kind.Kind.TheVariants as kinds
use Rattle.brc_words.specs.Kinds.{is_container}
use Rattle.brc_words.specs.declared.limits.TheConstants.{GLOBALS}
use Rattle.law.specs.declared.world.event.Change.{Change}
use Rattle.law.specs.declared.world.event.Step.TheVariants.{Unlock}
use Rattle.law.specs.world.Heap.{Heap, cell_at, row_at}
use Rattle.law.specs.world.Steps.{target_at, target_ok, thread_may, is_keep}
use Rattle.law.specs.world.Sound.{IsSound}
use Rattle.law.proofs.world.Asking.{may_parts, OnCell, on_cell}

small_kind : (c : ℕ) → c < GLOBALS → (b : Bool) → (b ≡ (c == GLOBALS)) → b ≡ false
small_kind c low true is = absurd (omega (arith, low, eqb-true c GLOBALS (sym is)))
small_kind c low false is = refl

plain_kinds : (a b z g : Bool) → g ≡ false
    → is_container (if a then kinds.Nothing
    else (if b then kinds.False else (if z then kinds.True else (if g then kinds.Dict else kinds.Int)))) ≡ false
plain_kinds true b z g none = refl
plain_kinds false true z g none = refl
plain_kinds false false true g none = refl
plain_kinds false false false true none = absurd (true≢false none)
plain_kinds false false false false none = refl

either_keeps : (a b : Bool) → (a || b) ≡ true → b ≡ false → a ≡ true
either_keeps true b is none = refl
either_keeps false true is none = absurd (true≢false none)
either_keeps false false is none = is

-- the cells below the globals are unlocked by keep alone
pub keeps_small : (h : Heap) (t : ℕ) (change : Change) (c : ℕ) → IsSound h → thread_may h t (Unlock change) ≡ true
    → target_at h t (Unlock change) ≡ Some c → c < GLOBALS → is_keep change ≡ true
keeps_small h t change c sound may named low =
    let at_cell : OnCell h t (Unlock change) c = on_cell h t (Unlock change) c
    (subst (λ o. target_ok h t (row_at h t) (Unlock change) o ≡ true) named
    (may_parts h t (Unlock change) may).on_target) in
    either_keeps (is_keep change) (is_container (cell_at h c).kind) at_cell.fits
    (ap is_container (sound.immortals c (omega (arith, low))).kind
    ∙ plain_kinds (c == 0) (c == 1) (c == 2) (c == GLOBALS) (small_kind c low (c == GLOBALS) refl))
