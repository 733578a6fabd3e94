use Rattle.std.proofs.Common.{◌≡◌, true, subst, sym, ◌∙◌}
use Rattle.law.specs.declared.world.event.Event.{Event}
use Rattle.law.specs.world.Heap.{Heap}
use Rattle.law.specs.world.Steps.{enabled, after}
use Rattle.law.specs.world.Runs.{IsReached}
use Rattle.law.specs.moves.Moves.{MakesMoves, map_of, moves_by}
use Rattle.law.proofs.moves.Allowing.{reached_moves}
use Rattle.law.proofs.world.Reached.{reached_allocs, reached_frees}
use Rattle.law.proofs.world.Sizes.{reached_count_range}
use Rattle.brc_core.proofs.Bounds.{cells_fit, registers_few, past_allocs_fit, past_frees_fit}
use Rattle.brc_core.proofs.Closing.{reached_closers}
use Rattle.brc_core.proofs.Reaching.{reached_after}
use Rattle.brc_core.proofs.world.World.make.Goals as goal
use Rattle.brc_core.proofs.world.World.make.Goals.{in-Ok, in-Err}

-- the moves of an event, where the worlds before and after it go by other names
made_moves : (inside old new : Heap) (e : Event) → inside ≡ old → new ≡ after inside e → IsReached inside
    → enabled inside e ≡ true → MakesMoves {A = Unit {0}} (map_of old) (moves_by old e) (map_of new)
made_moves inside old new e is_old is_after reached may =
    let P : Heap → Type 0 = λ h. MakesMoves {A = Unit {0}} (map_of h) (moves_by h e) (map_of new) in
    let Q : Heap → Type 0 = λ h. MakesMoves {A = Unit {0}} (map_of inside) (moves_by inside e) (map_of h) in
    subst P is_old (subst Q (sym is_after) (reached_moves (Unit {0}) inside e reached may))

pub enabled-requires-clause-closers : goal.enabled-requires-clause-closers
enabled-requires-clause-closers g c = reached_closers c.self.inside.tables c.self.invariant

pub apply-requires-clause-allocs : goal.apply-requires-clause-allocs
apply-requires-clause-allocs g c = reached_allocs c.self.inside.tables c.self.invariant c.args.event.now.thread

pub apply-requires-clause-frees : goal.apply-requires-clause-frees
apply-requires-clause-frees g c = reached_frees c.self.inside.tables c.self.invariant c.args.event.now.thread

pub apply-requires-clause-counts : goal.apply-requires-clause-counts
apply-requires-clause-counts g c = reached_count_range c.self.inside.tables c.self.invariant

pub apply-requires-clause-cells : goal.apply-requires-clause-cells
apply-requires-clause-cells g c = cells_fit c.self.inside.tables c.self.invariant

pub apply-requires-clause-few : goal.apply-requires-clause-few
apply-requires-clause-few g c = registers_few c.self.inside.tables c.args.event.now c.self.invariant
    (sym c.enabled.ensures ∙ c.if-not-enabled.false)

pub apply-requires-clause-past_allocs : goal.apply-requires-clause-past_allocs
apply-requires-clause-past_allocs g c = past_allocs_fit c.self.inside.tables c.self.invariant

pub apply-requires-clause-past_frees : goal.apply-requires-clause-past_frees
apply-requires-clause-past_frees g c = past_frees_fit c.self.inside.tables c.self.invariant

pub invariant_of-self : goal.invariant_of-self
invariant_of-self g c =
    elim c.match-apply.branch [
      | in-Ok w ↦ subst IsReached (sym w.in-Ok.ensures.ok)
          (reached_after _ c.args.event.now c.self.invariant (sym c.enabled.ensures ∙ c.if-not-enabled.false))
      | in-Err w ↦ subst IsReached (sym w.in-Err.ensures.err) c.self.invariant
    ]

pub returns-clause-moves : goal.returns-clause-moves
returns-clause-moves g c =
    elim c.match-apply.branch [
      | in-Ok w ↦ rw w.result-is (made_moves c.self.inside.tables c.args.self.now c.apply.new.self c.args.event.now
          c.self.view_is w.in-Ok.ensures.ok c.self.invariant (sym c.enabled.ensures ∙ c.if-not-enabled.false))
      | in-Err w ↦ rw w.result-is tt
    ]
