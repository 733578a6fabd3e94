use Rattle.std.proofs.Common.{refl}
use Rattle.brc_section.proofs.Instructions_Led.{led_shared}
use Rattle.brc_section.proofs.stepping.fetch_line.Goals as goal

pub returns : goal.returns
returns g c =
    let did = c.under_name in
    record { led = led_shared did.ensures.stands did.ensures.heap did.ensures.waits did.ensures.later refl }
