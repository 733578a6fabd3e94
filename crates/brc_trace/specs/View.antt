use Rattle.brc_trace.specs.declared.trace.Trace.{Trace}
use Rattle.brc_trace.specs.Traces.{Listing}

-- a trace without where it lies in memory
abbrev pub listing : {A : Type 0} → Trace A → Listing
listing trace = record {
  edition = trace.edition;
  cells = trace.cells;
  local_limit = trace.local_limit;
  events = trace.events.items;
}
