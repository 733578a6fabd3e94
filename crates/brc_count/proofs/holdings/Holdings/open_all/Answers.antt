use Rattle.std.proofs.Common.{refl}
use Rattle.brc_count.specs.Closing.{NoneOpened}
use Rattle.brc_count.proofs.holdings.Holdings.open_all.Goals as goal

pub loop-word-init : goal.loop-word-init
loop-word-init g c = (NoneOpened, refl, (refl, refl, refl), c.requires.stage, c.requires.unlocked)
