use Rattle.std.proofs.Common.{rules, refl}
use Rattle.brc_biased.specs.Released.{SharedRisen, SharedCounted, SharedNoCount, SharedMoved}
use Rattle.brc_biased.proofs.Keeping.{look_keeps, keeps_on}
use Rattle.brc_biased.proofs.shared.release_shared.Goals as goal

pub returns-then-is_risen_word-clause-told : goal.returns-then-is_risen_word-clause-told
returns-then-is_risen_word-clause-told g c = SharedRisen c.load_shared-word.result (search rules)
    (rw c.load_shared-word.ensures.told at c.release_risen.ensures.told)

pub returns-then-not-has_count-clause-told : goal.returns-then-not-has_count-clause-told
returns-then-not-has_count-clause-told g c =
    SharedNoCount c.load_shared-word.result (search rules) (search rules)
    (rw c.load_shared-word.ensures.told at c.release_asking.ensures.told)

pub returns-then-not-has_count-clause-keeps : goal.returns-then-not-has_count-clause-keeps
returns-then-not-has_count-clause-keeps g c =
    keeps_on (look_keeps c.load_shared-word.ensures.knows c.load_shared-word.ensures.keeps)
    c.release_asking.ensures.keeps

pub returns-in-Ok-clause-told : goal.returns-in-Ok-clause-told
returns-in-Ok-clause-told g c = SharedCounted c.load_shared-word.result (search rules) refl (search rules)

pub returns-in-Err-clause-told : goal.returns-in-Err-clause-told
returns-in-Err-clause-told g c =
    let moved = rw c.in-Err.ensures.lost at c.release_asking-in-Err.ensures.told in
    SharedMoved c.load_shared-word.result c.in-Err.field-0 (search rules) (search rules) c.in-Err.ensures.moved
    (rw c.load_shared-word.ensures.told at moved)

pub returns-in-Err-clause-keeps : goal.returns-in-Err-clause-keeps
returns-in-Err-clause-keeps g c =
    keeps_on (look_keeps c.load_shared-word.ensures.knows c.load_shared-word.ensures.keeps)
    (keeps_on (look_keeps c.in-Err.ensures.lost_knows c.in-Err.ensures.keeps) c.release_asking-in-Err.ensures.keeps)
