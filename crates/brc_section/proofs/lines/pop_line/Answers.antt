use Rattle.brc_section.proofs.Instructions_Led.{led, led_stirred}
use Rattle.brc_section.proofs.lines.pop_line.Goals as goal

pub returns : goal.returns
returns g c =
    let did = c.act-done in
    record {
      led = led_stirred c.stirs.ensures (led did.ensures.stands did.ensures.heap did.ensures.waits did.ensures.later
          did.ensures.why
          (λ differ. did.ensures.follows));
    }
