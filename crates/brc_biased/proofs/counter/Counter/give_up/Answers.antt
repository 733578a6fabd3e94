use Rattle.std.proofs.Common.{rules, refl, false, []}
use Rattle.brc_table.specs.Knowing.{entries_of}
use Rattle.brc_table.specs.Moving.{is_there}
use Rattle.brc_biased.specs.Released.{ReleaseImmortal, ReleaseOwn, ReleaseShared}
use Rattle.brc_biased.proofs.Bounds.{bounded}
use Rattle.brc_biased.proofs.Marking.{dead_released, dead_stays}
use Rattle.brc_biased.proofs.counter.Counter.give_up.Goals as goal

pub returns-then-cell-lt-FIRST_MORTAL-clause-told : goal.returns-then-cell-lt-FIRST_MORTAL-clause-told
returns-then-cell-lt-FIRST_MORTAL-clause-told g c = ReleaseImmortal c.immortal_down-found.result (search rules) refl
    (search rules)

pub returns-then-count-eq0-clause-told : goal.returns-then-count-eq0-clause-told
returns-then-count-eq0-clause-told g c =
    rw (← c.self.view_is) (ReleaseShared (search rules) (search rules) (search rules) c.release_shared.ensures.told)

pub returns-clause-told : goal.returns-clause-told
returns-clause-told g c =
    let told = rw c.table-table.ensures at c.release_own.ensures.told in
    rw (← c.self.view_is) (ReleaseOwn (search rules) (search rules) told)

pub returns-then-cell-lt-FIRST_MORTAL-clause-bounded : goal.returns-then-cell-lt-FIRST_MORTAL-clause-bounded
returns-then-cell-lt-FIRST_MORTAL-clause-bounded g c = bounded (returns-then-cell-lt-FIRST_MORTAL-clause-told g c)

pub returns-then-count-eq0-clause-bounded : goal.returns-then-count-eq0-clause-bounded
returns-then-count-eq0-clause-bounded g c = bounded (returns-then-count-eq0-clause-told g c)

pub returns-clause-bounded : goal.returns-clause-bounded
returns-clause-bounded g c = bounded (returns-clause-told g c)

pub returns-then-has_risen-clause-dead : goal.returns-then-has_risen-clause-dead
returns-then-has_risen-clause-dead g c =
    let known = rw c.table-table.ensures at c.release_risen.ensures.knows.part in
    rw (← c.self.view_is) (dead_released _ c.self.inside.seat.log c.release_risen.new.seat.log c.args.cell c.args.drop
    c.release_risen.result known (search rules))

pub returns-then-count-eq0-clause-dead : goal.returns-then-count-eq0-clause-dead
returns-then-count-eq0-clause-dead g c =
    let known = rw c.table-table.ensures at c.release_shared.ensures.knows.part in
    rw (← c.self.view_is) (dead_released _ c.self.inside.seat.log c.release_shared.new.seat.log c.args.cell c.args.drop
    c.release_shared.result known (search rules))

pub returns-clause-dead : goal.returns-clause-dead
returns-clause-dead g c =
    let known = rw c.table-table.ensures at c.release_own.ensures.knows.part in
    rw (← c.self.view_is) (dead_released _ c.self.inside.seat.log c.release_own.new.seat.log c.args.cell c.args.drop
    c.release_own.result known (search rules))

pub returns-then-cell-lt-FIRST_MORTAL-clause-others : goal.returns-then-cell-lt-FIRST_MORTAL-clause-others
returns-then-cell-lt-FIRST_MORTAL-clause-others g c =
    let known = rw c.table-table.ensures at c.immortal_down-found.ensures.knows.part in
    rw (← c.self.view_is) (dead_stays _ c.self.inside.seat.log c.immortal_down-found.new.seat.log c.args.cell
    c.args.drop false [] known)

pub returns-then-has_risen-clause-others : goal.returns-then-has_risen-clause-others
returns-then-has_risen-clause-others g c =
    let known = rw c.table-table.ensures at c.release_risen.ensures.knows.part in
    rw (← c.self.view_is) (dead_stays _ c.self.inside.seat.log c.release_risen.new.seat.log c.args.cell c.args.drop
    (is_there c.release_risen.result) (entries_of c.release_risen.result) known)

pub returns-then-count-eq0-clause-others : goal.returns-then-count-eq0-clause-others
returns-then-count-eq0-clause-others g c =
    let known = rw c.table-table.ensures at c.release_shared.ensures.knows.part in
    rw (← c.self.view_is) (dead_stays _ c.self.inside.seat.log c.release_shared.new.seat.log c.args.cell c.args.drop
    (is_there c.release_shared.result) (entries_of c.release_shared.result) known)

pub returns-clause-others : goal.returns-clause-others
returns-clause-others g c =
    let known = rw c.table-table.ensures at c.release_own.ensures.knows.part in
    rw (← c.self.view_is) (dead_stays _ c.self.inside.seat.log c.release_own.new.seat.log c.args.cell c.args.drop
    (is_there c.release_own.result) (entries_of c.release_own.result) known)
