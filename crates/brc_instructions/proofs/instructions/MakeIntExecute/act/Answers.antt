use Rattle.std.proofs.Common.{subst, rules, ℤ, w64}
use Rattle.std.proofs.lemmas.Int.{to_z-of_z}
use Rattle.brc_count.specs.law.declared.rule.contents.Contents.TheVariants as contents
use Rattle.brc_things.specs.Makers.{Answered, small_cell}
use Rattle.brc_instructions.proofs.Follows_Of.{later_held, later_answered, makes_int}
use Rattle.std.proofs.lemmas.Result.{err_from_is_err_and}
use Rattle.brc_instructions.proofs.Causes_Of.{caused_to}
use Rattle.brc_instructions.proofs.instructions.MakeIntExecute.act.Goals as goal

pub returns-clause-later : goal.returns-clause-later
returns-clause-later g c =
    later_held c.args.frame.now c.new_int.new.frame c.hold.new.frame
    (later_answered c.args.frame.now c.new_int.new.frame _ _ c.in_ok-made.made c.in_ok-made.ensures.made)
    c.hold.ensures.quiet

pub returns-clause-follows : goal.returns-clause-follows
returns-clause-follows g c base s own means =
    let it = c.args.self.now in
    makes_int base c.args.frame.now c.new_int.new.frame c.hold.new.frame c.args.registers.now c.hold.new.registers s
    it.to c.in_ok-made.made
    means c.new_int.ensures.heap c.hold.ensures.heap c.hold.ensures.quiet own c.hold.ensures.means it.number
    (subst (λ (z : ℤ). Answered c.args.frame.now c.new_int.new.frame (small_cell z) (contents.Int z) c.in_ok-made.made)
    (to_z-of_z w64 it.number (search rules)) c.in_ok-made.ensures.made)

pub returns-in_err-made-clause-why : goal.returns-in_err-made-clause-why
returns-in_err-made-clause-why g c =
    let answer = err_from_is_err_and c.from_residual.result c.from_residual.ensures.1 in
    rw (answer.1, answer.2) (caused_to c.args.frame.now c.new_int.new.frame _ _ c.in_err-made.ensures.refused)
