use Rattle.std.proofs.Common.{refl}
use Rattle.brc_section.proofs.Instructions_Led.{led}
use Rattle.brc_section.proofs.Tries.{letters_cause}
use Rattle.brc_section.proofs.lines.receive_line.Goals as goal

pub returns : goal.returns
returns g c =
    let did = c.act in
    record {
      led = led did.ensures.stands did.ensures.heap did.ensures.waits did.ensures.later
          (letters_cause c.args.frame.now did.new.frame c.args.mailbox did.result did.ensures.why)
          (λ differ. did.ensures.follows c.args.mailbox refl);
    }
