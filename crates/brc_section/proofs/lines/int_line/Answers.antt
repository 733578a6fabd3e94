use Rattle.std.proofs.Common.{ℤ, w64, rules, subst}
use Rattle.std.proofs.lemmas.Int.{to_z-of_z}
use Rattle.brc_script.specs.declared.instruction.Instruction.TheVariants as instructions
use Rattle.law_isolation.specs.Asked.{Follows}
use Rattle.brc_section.proofs.Instructions_Led.{led}
use Rattle.brc_section.proofs.lines.int_line.Goals as goal

pub returns : goal.returns
returns g c =
    let did = c.act in
    record {
      led = led did.ensures.stands did.ensures.heap did.ensures.waits did.ensures.later did.ensures.why
          (λ differ. subst (λ (z : ℤ). Follows c.args.frame.now did.new.frame c.args.registers.now did.new.registers
          (instructions.Int c.args.to z) did.result)
          (to_z-of_z w64 c.args.number (search rules)) did.ensures.follows);
    }
