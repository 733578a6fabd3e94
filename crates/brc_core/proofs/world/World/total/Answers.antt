use Rattle.std.proofs.Common.{◌≡◌, true, sym, subst, ap, ◌∙◌, arith, pos, length}
use Rattle.std.proofs.lemmas.Int.{to_z-of_z, ints}
use Rattle.law.proofs.world.Sizes.{reached_count_range}
use Rattle.brc_core.proofs.Bounds.{references}
use Rattle.law.specs.world.Heap.{Heap}
use Rattle.law.specs.world.Holding.{holders_of, lives_at, total_of}
use mir.Val.{SFits}
use mir.Syntax.{w64}
use Rattle.brc_core.proofs.world.World.total.Goals as goal

pub total_of-requires : goal.total_of-requires
total_of-requires g c = rw c.cell.ensures (reached_count_range _ c.self.invariant _)

pub returns-clause-references : goal.returns-clause-references
returns-clause-references g c =
    let fits : SFits w64 c.total_of.result = search (arith, ints, c.total_of.type_inv) in
    let P : Heap → Type 0 = λ h. c.total_of.result ≡ pos (length (holders_of h c.args.cell)) in
    let Q : Heap → Type 0 = λ h. lives_at h c.args.cell ≡ true in
    let lives = subst Q (sym c.self.view_is) (sym c.is_live.ensures ∙ c.if-not-is_live.false) in
    to_z-of_z w64 c.total_of.result fits
    ∙ subst P c.self.view_is (c.total_of.ensures ∙ ap (λ x. total_of x) c.cell.ensures
    ∙ references _ c.self.invariant _ lives)
