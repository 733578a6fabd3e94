use Rattle.brc_count.specs.Locking.{contents_found}
use Rattle.brc_things.specs.Changing.{RefusedPlace}
use Rattle.brc_things.specs.Plain_Lists.{plain_pop}
use Rattle.brc_things.specs.Values.{TakesOutValue}
use Rattle.brc_things.proofs.Rows_Law.{pop_before}
use Rattle.brc_things.proofs.Since_Law.{err_by, hands_out, locked_late, ok_by}
use Rattle.brc_things.proofs.valued_late.list_pop_value.Goals as goal

pub returns-clause-takes : goal.returns-clause-takes
returns-clause-takes g c =
    let late = c.begin_late-block.ensures in
    let locked = c.begin_late-block.new.frame in
    let same = pop_before (contents_found c.begin_late-block.new.frame) c.begin_late-block.result.1 c.last_place-last.result
    late.began.found
    (rw c.payload.ensures at c.last_place-last.ensures) in
    let up = c.take_out_value.ensures in (
      late.mid,
      late.waits,
      hands_out late.mid locked c.take_out_value.new.frame c.args.list.now.place c.begin_late-block.result
          (λ before k came. TakesOutValue before c.take_out_value.new.frame k plain_pop came)
          (λ before k fault. RefusedPlace before c.take_out_value.new.frame k plain_pop fault)
          c.take_out_value.result (locked_late c.args.frame.now locked c.args.list.now.place c.begin_late-block.result late)
          up.thread (ok_by c.take_out_value.result up.taken (λ came by. by plain_pop same)) up.places (err_by c.take_out_value.result up.refused (λ fault by. by plain_pop same)),
    )
