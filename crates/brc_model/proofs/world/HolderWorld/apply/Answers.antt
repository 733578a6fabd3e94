use Rattle.std.proofs.Common.{sym, ◌∙◌, refl}
use Rattle.std.proofs.lemmas.Bool.{both_ways}
use Rattle.brc_model.specs.Tests.{test_born, test_add, test_remove, test_change, test_dies}
use Rattle.brc_model.specs.Edits.{test_hand_all}
use Rattle.brc_model.proofs.Steps.{Same-begun, Same-held_more, Same-ended}
use Rattle.brc_model.proofs.Allowing.{MayBeBorn-from_test, test-from_MayBeBorn, MayBeAdded-from_test}
use Rattle.brc_model.proofs.Allowing.{test-from_MayBeAdded, MayBeRemoved-from_test, test-from_MayBeRemoved}
use Rattle.brc_model.proofs.Allowing.{MayBeChanged-from_test, test-from_MayBeChanged, entry_from_test_change}
use Rattle.brc_model.proofs.Allowing.{MayDie-from_test, test-from_MayDie}
use Rattle.brc_model.proofs.Handing.{MayAllBeHanded-from_test, test-from_MayAllBeHanded, Same-hand_all}
use Rattle.brc_model.proofs.world.HolderWorld.apply.Goals as goal
use Rattle.brc_model.proofs.world.HolderWorld.apply.Goals.{in-Ok, in-Err, in-Ok-add, in-Err-add, in-Ok-change_it}
use Rattle.brc_model.proofs.world.HolderWorld.apply.Goals.{in-Err-change_it}

pub returns-then-not-may_be_born-clause-reason : goal.returns-then-not-may_be_born-clause-reason
returns-then-not-may_be_born-clause-reason g c =
    let told = rw c.deref.ensures.value at (sym c.may_be_born.ensures ∙ c.if-not-may_be_born.true) in
    rw (← c.self.view_is, c.in-Born.is)
    (λ may. both_ways (test_born c.self.inside.facts.items c.in-Born.object c.in-Born.kind c.in-Born.holder) told
    (test-from_MayBeBorn c.self.inside.facts.items c.in-Born.object c.in-Born.kind c.in-Born.holder may))

pub returns-then-not-may_be_added-clause-reason : goal.returns-then-not-may_be_added-clause-reason
returns-then-not-may_be_added-clause-reason g c =
    let told = rw c.deref-in-Add.ensures.value at (sym c.may_be_added.ensures ∙ c.if-not-may_be_added.true) in
    rw (← c.self.view_is, c.in-Add.is)
    (λ may. both_ways (test_add c.self.inside.facts.items c.in-Add.object c.in-Add.holder) told
    (test-from_MayBeAdded c.self.inside.facts.items c.in-Add.object c.in-Add.holder may))

pub returns-then-not-may_be_removed-clause-reason : goal.returns-then-not-may_be_removed-clause-reason
returns-then-not-may_be_removed-clause-reason g c =
    let told = rw c.deref-in-Remove.ensures.value at (sym c.may_be_removed.ensures ∙ c.if-not-may_be_removed.true) in
    rw (← c.self.view_is, c.in-Remove.is)
    (λ may. both_ways (test_remove c.self.inside.facts.items c.in-Remove.object c.in-Remove.holder) told
    (test-from_MayBeRemoved c.self.inside.facts.items c.in-Remove.object c.in-Remove.holder may))

pub returns-then-not-may_be_changed-clause-reason : goal.returns-then-not-may_be_changed-clause-reason
returns-then-not-may_be_changed-clause-reason g c =
    let told = rw c.deref-in-Change.ensures.value at (sym c.may_be_changed.ensures ∙ c.if-not-may_be_changed.true) in
    rw (← c.self.view_is, c.in-Change.is)
    (λ may. both_ways (test_change c.self.inside.facts.items c.in-Change.cell c.in-Change.place c.in-Change.change) told
    (test-from_MayBeChanged c.self.inside.facts.items c.in-Change.cell c.in-Change.place c.in-Change.change may))

pub returns-then-not-may_die-clause-reason : goal.returns-then-not-may_die-clause-reason
returns-then-not-may_die-clause-reason g c =
    let told = rw c.deref-in-Dies.ensures.value at (sym c.may_die.ensures ∙ c.if-not-may_die.true) in
    rw (← c.self.view_is, c.in-Dies.is) (λ may. both_ways (test_dies c.self.inside.facts.items c.in-Dies.object) told
    (test-from_MayDie c.self.inside.facts.items c.in-Dies.object may))

pub returns-else-not-may_be_removed-clause-allowed : goal.returns-else-not-may_be_removed-clause-allowed
returns-else-not-may_be_removed-clause-allowed g c =
    let told = rw c.deref-in-Remove.ensures.value at (sym c.may_be_removed.ensures ∙ c.if-not-may_be_removed.false) in
    rw (← c.self.view_is, c.in-Remove.is)
    (MayBeRemoved-from_test c.self.inside.facts.items c.in-Remove.object c.in-Remove.holder told)

pub returns-else-not-may_die-clause-allowed : goal.returns-else-not-may_die-clause-allowed
returns-else-not-may_die-clause-allowed g c =
    let told = rw c.deref-in-Dies.ensures.value at (sym c.may_die.ensures ∙ c.if-not-may_die.false) in
    rw (← c.self.view_is, c.in-Dies.is) (MayDie-from_test c.self.inside.facts.items c.in-Dies.object told)

pub returns-else-not-may_die-clause-moved : goal.returns-else-not-may_die-clause-moved
returns-else-not-may_die-clause-moved g c =
    rw (c.end.ensures, ← c.self.view_is, c.in-Dies.is) (Same-ended c.self.inside.facts.items c.in-Dies.object)

pub returns-then-not-pass_on-clause-reason : goal.returns-then-not-pass_on-clause-reason
returns-then-not-pass_on-clause-reason g c =
    let told = rw c.as_slice.ensures at (sym c.pass_on.ensures.tested ∙ c.if-not-pass_on.true) in
    rw (← c.self.view_is, c.in-Pass.is) (λ may. both_ways (test_hand_all c.self.inside.facts.items c.in-Pass.list) told
    (test-from_MayAllBeHanded c.self.inside.facts.items c.in-Pass.list may))

pub returns-else-not-pass_on-clause-allowed : goal.returns-else-not-pass_on-clause-allowed
returns-else-not-pass_on-clause-allowed g c =
    let told = rw c.as_slice.ensures at (sym c.pass_on.ensures.tested ∙ c.if-not-pass_on.false) in
    rw (← c.self.view_is, c.in-Pass.is) (MayAllBeHanded-from_test c.self.inside.facts.items c.in-Pass.list told)

pub returns-else-not-pass_on-clause-moved : goal.returns-else-not-pass_on-clause-moved
returns-else-not-pass_on-clause-moved g c =
    let told = rw c.as_slice.ensures at (sym c.pass_on.ensures.tested ∙ c.if-not-pass_on.false) in
    rw (c.if-not-pass_on.ensures.handed, c.as_slice.ensures, ← c.self.view_is, c.in-Pass.is)
    (Same-hand_all c.self.inside.facts.items c.in-Pass.list told)

pub change_it-requires : goal.change_it-requires
change_it-requires g c =
    let told = rw c.deref-in-Change.ensures.value at (sym c.may_be_changed.ensures ∙ c.if-not-may_be_changed.false) in
    entry_from_test_change c.self.inside.facts.items c.in-Change.cell c.in-Change.place c.in-Change.change told

pub returns-after-begin-clause-allowed : goal.returns-after-begin-clause-allowed
returns-after-begin-clause-allowed g c =
    let told = rw c.deref.ensures.value at (sym c.may_be_born.ensures ∙ c.if-not-may_be_born.false) in
    elim c.match-begin.branch [
      | in-Ok w ↦ rw (w.result-is, ← c.self.view_is, c.in-Born.is)
          (MayBeBorn-from_test c.self.inside.facts.items c.in-Born.object c.in-Born.kind c.in-Born.holder told)
      | in-Err w ↦ rw w.result-is tt
    ]

pub returns-after-begin-clause-reason : goal.returns-after-begin-clause-reason
returns-after-begin-clause-reason g c =
    let told = rw c.deref.ensures.value at (sym c.may_be_born.ensures ∙ c.if-not-may_be_born.false) in
    elim c.match-begin.branch [
      | in-Ok w ↦ rw w.result-is tt
      | in-Err w ↦ rw (w.result-is, ← c.self.view_is, c.in-Born.is)
          (MayBeBorn-from_test c.self.inside.facts.items c.in-Born.object c.in-Born.kind c.in-Born.holder told, refl)
    ]

pub returns-after-add-clause-allowed : goal.returns-after-add-clause-allowed
returns-after-add-clause-allowed g c =
    let told = rw c.deref-in-Add.ensures.value at (sym c.may_be_added.ensures ∙ c.if-not-may_be_added.false) in
    elim c.match-add.branch [
      | in-Ok-add w ↦ rw (w.result-is, ← c.self.view_is, c.in-Add.is)
          (MayBeAdded-from_test c.self.inside.facts.items c.in-Add.object c.in-Add.holder told)
      | in-Err-add w ↦ rw w.result-is tt
    ]

pub returns-after-add-clause-reason : goal.returns-after-add-clause-reason
returns-after-add-clause-reason g c =
    let told = rw c.deref-in-Add.ensures.value at (sym c.may_be_added.ensures ∙ c.if-not-may_be_added.false) in
    elim c.match-add.branch [
      | in-Ok-add w ↦ rw w.result-is tt
      | in-Err-add w ↦ rw (w.result-is, ← c.self.view_is, c.in-Add.is)
          (MayBeAdded-from_test c.self.inside.facts.items c.in-Add.object c.in-Add.holder told, refl)
    ]

pub returns-after-change_it-clause-allowed : goal.returns-after-change_it-clause-allowed
returns-after-change_it-clause-allowed g c =
    let told = rw c.deref-in-Change.ensures.value at (sym c.may_be_changed.ensures ∙ c.if-not-may_be_changed.false) in
    elim c.match-change_it.branch [
      | in-Ok-change_it w ↦ rw (w.result-is, ← c.self.view_is, c.in-Change.is)
          (MayBeChanged-from_test c.self.inside.facts.items c.in-Change.cell c.in-Change.place c.in-Change.change told)
      | in-Err-change_it w ↦ rw w.result-is tt
    ]

pub returns-after-change_it-clause-reason : goal.returns-after-change_it-clause-reason
returns-after-change_it-clause-reason g c =
    let told = rw c.deref-in-Change.ensures.value at (sym c.may_be_changed.ensures ∙ c.if-not-may_be_changed.false) in
    elim c.match-change_it.branch [
      | in-Ok-change_it w ↦ rw w.result-is tt
      | in-Err-change_it w ↦ rw (w.result-is, ← c.self.view_is, c.in-Change.is) (
        MayBeChanged-from_test c.self.inside.facts.items c.in-Change.cell c.in-Change.place c.in-Change.change told,
        w.in-Err-change_it.ensures.memory,
      )
    ]

pub returns-after-begin-clause-moved : goal.returns-after-begin-clause-moved
returns-after-begin-clause-moved g c =
    elim c.match-begin.branch [
      | in-Ok w ↦ rw (w.result-is, w.in-Ok.ensures.begun, ← c.self.view_is, c.in-Born.is)
          (Same-begun c.self.inside.facts.items c.in-Born.object c.in-Born.kind c.in-Born.holder)
      | in-Err w ↦ rw w.result-is tt
    ]

pub returns-after-add-clause-moved : goal.returns-after-add-clause-moved
returns-after-add-clause-moved g c =
    elim c.match-add.branch [
      | in-Ok-add w ↦ rw (w.result-is, w.in-Ok-add.ensures.added, ← c.self.view_is, c.in-Add.is)
          (Same-held_more c.self.inside.facts.items c.in-Add.object c.in-Add.holder)
      | in-Err-add w ↦ rw w.result-is tt
    ]
