use Rattle.law.proofs.world.Asking.{may_parts}
use Rattle.law.proofs.known.Words_Law.{others_shown}
use Rattle.law.proofs.known.laws.a_step_changes_one_word.Goals as goal

pub returns : goal.returns
returns c = λ h t s w number reached may is other shows. others_shown h t s w number reached (may_parts h t s may) is
    other shows
