-- The calls of a queue, which has its first entry first: what each answers, and the queue after it.
use Rattle.std.specs.Prelude.{List, drop, Result}
use Rattle.brc_words.specs.declared.fault.Fault.{Fault}
use Rattle.brc_plain.specs.Outcomes.{leaving}
use Rattle.brc_plain.specs.Lists as lists

module _ {E : Type 0} where
  -- one more entry, at the end, as in a list
  abbrev pub send : List E → E → Result (Unit {0} × List E) Fault
  send queue value = lists.push queue value

  -- the first entry, which goes
  abbrev pub receive : List E → Result (E × List E) Fault
  receive queue = leaving (drop 1 queue) (lists.get queue 0)
