use Rattle.std.proofs.Common.{arith, ◌≡◌, ◌≤◌, List, [], sym, subst, ap}
use Rattle.brc_script.specs.declared.script.Piece.{Piece}
use Rattle.brc_count.specs.Frames.{ledger_seen}
use Rattle.brc_meaning.specs.Sections.{written_out}
use Rattle.brc_meaning.specs.States.{start}
use Rattle.law_isolation.specs.Goes.{is_machines}
use Rattle.brc_section.specs.Running.{AreOwn, RunsOn}
use Rattle.brc_section.proofs.Plainly.{begins_at, ended_of, ended_first, ended_without}
use Rattle.brc_section.proofs.Wants_Of.{left_of, left_memory}
use Rattle.brc_section.proofs.section.run_over.Goals as goal

pub returns-in_default-clause-ended : goal.returns-in_default-clause-ended
returns-in_default-clause-ended g c = λ none own. ended_without c.args.frame.now c.args.lines.now.items
    (written_out c.args.section.now.pieces) none
    (subst (λ (pieces : List (Piece g.row.A.Denot)). written_out pieces ≡ []) c.as_slice-pieces.ensures
    c.in_default.ensures.none)

pub returns-in-Err-clause-ended : goal.returns-in-Err-clause-ended
returns-in-Err-clause-ended g c = λ none own. ended_first (ledger_seen c.args.frame.now).allocs c.args.frame.now
    c.args.lines.now.items
    (written_out c.args.section.now.pieces) (record { fault = c.in-Err.fault; line = c.in-Some.first }) none
    (ap is_machines c.in-Err.ensures.refused)

pub returns-clause-ended : goal.returns-clause-ended
returns-clause-ended g c = λ none own.
    let runs : RunsOn c.args.frame.now c.in-Ok.registers c.args.lines.now.items c.run_pieces-ran.new.frame
    c.run_pieces-ran.new.registers c.run_pieces-ran.new.lines.items
    (written_out c.args.section.now.pieces) c.run_pieces-ran.result
    = subst (λ (pieces : List (Piece g.row.A.Denot)). RunsOn c.args.frame.now c.in-Ok.registers c.args.lines.now.items
    c.run_pieces-ran.new.frame
    c.run_pieces-ran.new.registers c.run_pieces-ran.new.lines.items (written_out pieces) c.run_pieces-ran.result)
    c.as_slice-pieces.ensures c.run_pieces-ran.ensures.runs
    in ended_of (ledger_seen c.args.frame.now).allocs c.run_pieces-ran.new.frame c.release_all.new.frame
    c.run_pieces-ran.new.registers
    c.run_pieces-ran.new.lines.items (written_out c.args.section.now.pieces) c.run_pieces-ran.result c.halt_of.result
    c.halt_of.ensures
    c.release_all.ensures.heap c.release_all.ensures.quiet
    (runs (ledger_seen c.args.frame.now).allocs start own
    (begins_at c.args.frame.now c.in-Ok.registers c.args.lines.now.items c.in-Ok.ensures.bare c.in-Ok.ensures.size none))

pub returns-in-Err-clause-wanted : goal.returns-in-Err-clause-wanted
returns-in-Err-clause-wanted g c own = left_memory c.args.frame.now c.args.frame.now c.in-Err.fault
    c.in-Err.ensures.refused

pub returns-clause-wanted : goal.returns-clause-wanted
returns-clause-wanted g c own =
    let pieces : AreOwn (written_out c.as_slice-pieces.result.now)
    = subst (λ (pieces : List (Piece g.row.A.Denot)). AreOwn (written_out pieces)) (sym c.as_slice-pieces.ensures) own
    in let few : c.run_pieces-ran.new.frame.len ≤ 16
    = omega (arith, c.run_pieces-ran.ensures.stands.holds.count, c.release_all.ensures.few)
    in left_of c.args.frame.now c.run_pieces-ran.new.frame c.release_all.new.frame c.run_pieces-ran.result
    c.halt_of.result c.halt_of.ensures few c.release_all.ensures.heap c.release_all.ensures.quiet
    (c.run_pieces-ran.ensures.wants pieces)
