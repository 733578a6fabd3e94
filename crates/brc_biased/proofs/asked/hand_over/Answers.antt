use Rattle.std.proofs.Common.{◌≡◌, ◌∙◌, sym, Bool, true, false, if◌then◌else◌, rules, refl}
use Rattle.brc_table.specs.declared.merging.Enqueued.TheVariants.{Accepted, Closed}
use Rattle.brc_biased.specs.Released.{AskedQueued, AskedShut}
use Rattle.brc_biased.proofs.asked.hand_over.Goals as goal

-- the answer is by the number that the word had
shut_if : (shut : Bool) → Closed ≡ (if shut then Closed else Accepted) → shut ≡ true
shut_if true same = refl
shut_if false same = absurd (let f : ⊥ = cc in f)

open_if : (shut : Bool) → Accepted ≡ (if shut then Closed else Accepted) → shut ≡ false
open_if true same = absurd (let f : ⊥ = cc in f)
open_if false same = refl

pub returns-in-Closed-clause-told : goal.returns-in-Closed-clause-told
returns-in-Closed-clause-told g c =
    let entry = c.enqueue.ensures.told in
    AskedShut c.load_owner-owner.result entry.found (search rules) (shut_if _ (sym c.in-Closed.is ∙ entry.answered))
    (search (rules, entry.told))

pub returns-clause-told : goal.returns-clause-told
returns-clause-told g c =
    let entry = c.enqueue.ensures.told in
    AskedQueued c.load_owner-owner.result entry.found c.nudge-told.result (search rules)
    (open_if _ (sym c.in_default.is ∙ entry.answered)) refl (search (rules, entry.told))
