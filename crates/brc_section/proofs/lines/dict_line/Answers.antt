use Rattle.brc_section.proofs.Instructions_Led.{led}
use Rattle.brc_section.proofs.lines.dict_line.Goals as goal

pub returns : goal.returns
returns g c =
    let did = c.act in
    record {
      led = led did.ensures.stands did.ensures.heap did.ensures.waits did.ensures.later did.ensures.why
          (λ differ. did.ensures.follows);
    }
