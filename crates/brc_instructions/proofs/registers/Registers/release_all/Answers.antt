use Rattle.std.proofs.Common.{arith, ◌≡◌, List, Option, length, refl, subst}
use Rattle.brc_count.specs.Frames.{HandleSeen}
use Rattle.brc_script.specs.declared.limits.TheConstants.{REGISTERS}
use Rattle.brc_instructions.proofs.Few.{filled_within}
use Rattle.brc_instructions.proofs.registers.Registers.release_all.Goals as goal

pub returns-clause-few : goal.returns-clause-few
returns-clause-few g c =
    let many : length c.args.self ≡ REGISTERS
    = subst (λ (handles : List (Option HandleSeen)). length handles ≡ REGISTERS) c.self.view_is c.self.invariant
    in let sixteen : REGISTERS ≡ 16 = refl
    in omega (arith, many, sixteen, filled_within c.args.self)
