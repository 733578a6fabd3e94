use Rattle.std.proofs.Common.{◌<◌, length, arith}
use Rattle.std.proofs.lemmas.List.{length-take}
use Rattle.brc_text.proofs.Input_Read.{whole_input, front_of_input, nothing_read}
use Rattle.brc_text.proofs.whole_input.read_input.Goals as goal

pub returns-in-Ok-eq0-clause-bytes : goal.returns-in-Ok-eq0-clause-bytes
returns-in-Ok-eq0-clause-bytes g c =
    let given = length-take c.min-room.result c.loop-chunk.chunk in
    let room : 0 < length c.read.new.buf = omega (
      arith,
      given,
      c.read.auto.buf,
      c.min-room.ensures,
      c.loop-chunk-test.true,
      c.loop-chunk.invariant.room,
      c.len-in-loop-chunk.ensures,
      c.len.ensures,
    ) in
    whole_input _ (g.R.Read.remaining c.read.new.self) c.loop-chunk.bytes.items
    (nothing_read _ _ _ c.loop-chunk.bytes.items c.read.new.buf c.in-Ok-eq0.field-0 c.loop-chunk.invariant.read
    c.in-Ok-eq0.ensures.bytes.0 c.in-Ok-eq0.field-0-test)
    (c.in-Ok-eq0.ensures.bytes.1 c.in-Ok-eq0.field-0-test room) c.loop-chunk.invariant.bound

pub returns-clause-bytes : goal.returns-clause-bytes
returns-clause-bytes g c =
    front_of_input _ _ c.loop-chunk.bytes.items c.loop-chunk.invariant.read
    (omega (arith, c.loop-chunk.invariant.bound, c.loop-chunk-test.false))
