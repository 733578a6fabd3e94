use Rattle.std.proofs.Common.{take, drop, sym, subst, take-append-drop}
use Rattle.std.proofs.lemmas.List.{take_rest}
use Rattle.brc_text.specs.Puts.{PutsUpTo}
use Rattle.brc_text.proofs.PutLaws.{goes_on}
use Rattle.brc_text.proofs.putting.put_bytes.Goals as goal

pub loop-rest-preserved : goal.loop-rest-preserved
loop-rest-preserved g c =
    let contents = g.W.Write.contents in
    let rest = c.loop-rest.rest.now in
    let count = c.in-Ok.count in
    subst (PutsUpTo (contents c.args.writer.now) (contents c.write.new.self) c.args.bytes.now)
    (sym (take_rest rest count))
    (goes_on (contents c.write.new.self) (take count rest) (drop count rest) c.loop-rest.invariant
    (sym (take-append-drop count rest)) c.in-Ok.ensures.bytes)
