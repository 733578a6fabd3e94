use Rattle.std.proofs.Common.{◌≡◌, ◌+◌, ◌∙◌, drop, sum_by, subst, arith}
use Rattle.brc_words.specs.declared.limits.TheConstants.{FIRST_MORTAL}
use Rattle.law.proofs.world.Reached.{reached_headline}
use Rattle.brc_core.proofs.Bounds.{live_fits, live-count_by}
use Rattle.law.specs.world.Heap.{Heap}
use Rattle.law.specs.world.Holding.{live_count}
use Rattle.brc_core.proofs.world.World.live.Goals as goal

pub overflow_cast-result : goal.overflow_cast-result
overflow_cast-result g c = let counted = rw c.cells.ensures at c.live.ensures in
    omega (arith, live_fits _ c.self.invariant)

pub returns-clause-live : goal.returns-clause-live
returns-clause-live g c =
    let P : Heap → Type 0 = λ h. c.live.result ≡ live_count h in
    let counted = rw c.cells.ensures at c.live.ensures in
    subst P c.self.view_is (counted ∙ live-count_by (drop FIRST_MORTAL c.self.inside.tables.cells))

pub returns-clause-ledger : goal.returns-clause-ledger
returns-clause-ledger g c =
    let P : Heap → Type 0 = λ h. sum_by (λ row. row.allocs) h.rows + h.past_allocs ≡ sum_by (λ row. row.frees) h.rows
    + h.past_frees + c.live.result in
    let counted = rw c.cells.ensures at c.live.ensures in
    subst P c.self.view_is (rw (counted, live-count_by (drop FIRST_MORTAL c.self.inside.tables.cells))
    ((reached_headline _ c.self.invariant).ledger))
