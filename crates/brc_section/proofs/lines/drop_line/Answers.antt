use Rattle.brc_instructions.proofs.Causes_Of.{uncaused_in}
use Rattle.brc_section.proofs.Instructions_Led.{led}
use Rattle.brc_section.proofs.lines.drop_line.Goals as goal

pub returns : goal.returns
returns g c =
    let did = c.act in
    record {
      led = led did.ensures.stands did.ensures.heap did.ensures.waits did.ensures.later
          (uncaused_in c.args.frame.now did.new.frame did.result did.ensures.why)
          (λ differ. did.ensures.follows);
    }
