use Rattle.std.proofs.Common.{refl}
use Rattle.brc_script.specs.declared.instruction.Instruction.TheVariants as instructions
use Rattle.brc_instructions.proofs.Causes_Of.{uncaused_in}
use Rattle.brc_section.proofs.Instructions_Led.{led, led_stirred, two_apart}
use Rattle.brc_section.proofs.lines.put_line.Goals as goal

pub returns : goal.returns
returns g c =
    let did = c.act-done in
    record {
      led = led_stirred c.stirs.ensures (led did.ensures.stands did.ensures.heap did.ensures.waits did.ensures.later
          (uncaused_in c.args.frame.now did.new.frame did.result did.ensures.why)
          (λ differ. did.ensures.follows
          (two_apart (instructions.Put c.args.dict c.args.key.now c.args.value) c.args.dict c.args.value refl differ)));
    }
