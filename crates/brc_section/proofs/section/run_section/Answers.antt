use Rattle.brc_section.specs.Ends.{IsLineOf}
use Rattle.brc_section.proofs.Plainly.{plainly, line_told, busy_told}
use Rattle.brc_section.proofs.Wants_Of.{heap_full, no_frame_full, ledger_full}
use Rattle.brc_section.proofs.section.run_section.Goals as goal

pub returns-clause-line : goal.returns-clause-line
returns-clause-line g c = line_told (λ line. IsLineOf line c.args.section.now.pieces) c.run_over-halt.result
    c.fault_of.result c.fault_of.ensures c.run_over-halt.ensures.line

pub returns-clause-busy : goal.returns-clause-busy
returns-clause-busy g c = λ line is. busy_told (g.G.Gate.may_refuse c.args.gate.now c.args.number)
    c.run_over-halt.result
    c.fault_of.result line c.fault_of.ensures is c.run_over-halt.ensures.busy

pub returns-clause-prints : goal.returns-clause-prints
returns-clause-prints g c = λ private.
    (plainly c.args.section.now c.args.mutator.now c.frame.result.now c.run_over-halt.new.frame c.settle.new.self
    c.new-lines.result.items c.run_over-halt.new.lines.items c.run_over-halt.result c.fault_of.result
    c.frame.ensures.frame c.new-lines.ensures.items c.run_over-halt.ensures.ended c.settle.ensures.own
    c.settle.ensures.handles.heap c.settle.ensures.quiet c.fault_of.ensures private).prints

pub returns-clause-births : goal.returns-clause-births
returns-clause-births g c = λ private.
    (plainly c.args.section.now c.args.mutator.now c.frame.result.now c.run_over-halt.new.frame c.settle.new.self
    c.new-lines.result.items c.run_over-halt.new.lines.items c.run_over-halt.result c.fault_of.result
    c.frame.ensures.frame c.new-lines.ensures.items c.run_over-halt.ensures.ended c.settle.ensures.own
    c.settle.ensures.handles.heap c.settle.ensures.quiet c.fault_of.ensures private).births

pub returns-clause-heap_full : goal.returns-clause-heap_full
returns-clause-heap_full g c = λ private line is.
    heap_full c.args.section.now c.args.mutator.now c.frame.result.now c.run_over-halt.new.frame c.settle.new.self
    c.run_over-halt.result c.fault_of.result c.frame.ensures.frame c.run_over-halt.ensures.wanted
    c.settle.ensures.handles.heap c.settle.ensures.quiet c.fault_of.ensures private line is

pub returns-clause-no_frame_full : goal.returns-clause-no_frame_full
returns-clause-no_frame_full g c = λ private line is.
    no_frame_full c.args.section.now c.args.mutator.now c.frame.result.now c.run_over-halt.new.frame c.settle.new.self
    c.run_over-halt.result c.fault_of.result c.frame.ensures.frame c.run_over-halt.ensures.wanted
    c.settle.ensures.handles.heap c.settle.ensures.quiet c.fault_of.ensures private line is

pub returns-clause-ledger_full : goal.returns-clause-ledger_full
returns-clause-ledger_full g c = λ private line is.
    ledger_full c.args.section.now c.args.mutator.now c.frame.result.now c.run_over-halt.new.frame c.settle.new.self
    c.run_over-halt.result c.fault_of.result c.frame.ensures.frame c.run_over-halt.ensures.wanted
    c.settle.ensures.handles.heap c.settle.ensures.quiet c.fault_of.ensures private line is
