use Rattle.std.proofs.Common.{◌≡◌, ◌<◌, ◌≤◌, ℕ, Some}
use Rattle.std.specs.Prelude.{slice_get}
use Rattle.brc_c.specs.declared.values.CValue.{CValue}
use Rattle.brc_c.proofs.born.are_values.Given as goal

-- each so far is a scalar or a reference
abbrev pub invariant-loop-value : goal.invariant-loop-value
invariant-loop-value l =
    (at : ℕ) (value : CValue) → at < l.value-index → slice_get l.values at ≡ Some value → value.holds ≤ 2
