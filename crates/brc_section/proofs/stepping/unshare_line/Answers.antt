use Rattle.std.proofs.Common.{refl}
use Rattle.brc_section.proofs.Instructions_Led.{led_shared, led_stirred}
use Rattle.brc_section.proofs.stepping.unshare_line.Goals as goal

pub returns : goal.returns
returns g c =
    let did = c.under_name-done in
    record {
      led = led_stirred c.stirs.ensures
          (led_shared did.ensures.stands did.ensures.heap did.ensures.waits did.ensures.later refl);
    }
