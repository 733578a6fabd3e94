use Rattle.brc_trace.proofs.ExplainingLaws.{agrees_with}
use Rattle.brc_trace.proofs.explaining.why_refused.Goals as goal

pub returns-in-Ok-clause-agrees : goal.returns-in-Ok-clause-agrees
returns-in-Ok-clause-agrees g c =
    agrees_with c.args.bytes.now c.args.fault c.in-BadTrace.line c.in-BadTrace.reason c.in-Ok.why c.in-BadTrace.is
    c.in-Ok.ensures.told
