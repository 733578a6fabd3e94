use Rattle.std.proofs.Common.{Some, None, Ok, Err, sym, subst}
use Rattle.brc_words.specs.Notes.{bare}
use Rattle.brc_count.specs.block.Lent_Keys.{key_lent}
use Rattle.brc_things.specs.Called.{Late}
use Rattle.brc_things.specs.Dict_Calls.{DictPut}
use Rattle.brc_count.specs.Frames.{HandleSeen}
use Rattle.brc_things.specs.Plain_Lists.{plain_push, plain_set, plain_send}
use Rattle.brc_meaning.specs.declared.call.Call.TheVariants as calls
use Rattle.brc_meaning.specs.declared.call.KeyedCall.TheVariants as keyed
use Rattle.brc_meaning.specs.Objects.{object_call, keyed_call}
use Rattle.law_isolation.proofs.Asked_Of.{takes_asked, swaps_asked, puts_asked}
use Rattle.law_isolation.proofs.Calls_Mean.{push_means, set_means, send_means, put_means}
use Rattle.brc_instructions.proofs.Follows_Of.{late_puts, late_swaps, late_pair_put}
use Rattle.brc_instructions.proofs.Stands_For.{put_as}
use Rattle.brc_instructions.proofs.putting_in.put_in.Goals as goal

pub returns-in-Ok-clause-later : goal.returns-in-Ok-clause-later
returns-in-Ok-clause-later g c =
    late_puts c.args.frame.now c.list_push.new.frame c.in-Some.object.now.place c.args.given
    (λ entry. plain_push (bare entry))
    c.list_push.result c.requires.besides.owned c.list_push.ensures.pushed

pub returns-in-Ok-clause-asked : goal.returns-in-Ok-clause-asked
returns-in-Ok-clause-asked g c base s reference own means =
    put_as {V = HandleSeen} c.args.container base c.list_push.new.frame c.args.registers.now s
    c.args.given reference (Ok None) c.in-Push.is
    (takes_asked (object_call (calls.Push reference)) c.args.container base c.list_push.new.frame c.args.registers.now s
    {V = HandleSeen} c.args.given reference (Ok tt)
    (push_means base c.args.frame.now c.list_push.new.frame c.args.registers.now s own c.args.container
    c.in-Some.object.now (sym c.in-Some.ensures)
    c.args.given reference means c.requires.besides.apart (Ok tt) c.in-Ok.ensures.pushed
    c.in-Ok.ensures.waited))

pub returns-in-Err-clause-later : goal.returns-in-Err-clause-later
returns-in-Err-clause-later g c =
    late_puts c.args.frame.now c.list_push.new.frame c.in-Some.object.now.place c.args.given
    (λ entry. plain_push (bare entry))
    c.list_push.result c.requires.besides.owned c.list_push.ensures.pushed

pub returns-in-Err-clause-asked : goal.returns-in-Err-clause-asked
returns-in-Err-clause-asked g c base s reference own means =
    put_as {V = HandleSeen} c.args.container base c.list_push.new.frame c.args.registers.now s
    c.args.given reference (Err c.in-Err.handed) c.in-Push.is
    (takes_asked (object_call (calls.Push reference)) c.args.container base c.list_push.new.frame c.args.registers.now s
    {V = HandleSeen} c.args.given reference (Err c.in-Err.handed)
    (push_means base c.args.frame.now c.list_push.new.frame c.args.registers.now s own c.args.container
    c.in-Some.object.now (sym c.in-Some.ensures)
    c.args.given reference means c.requires.besides.apart (Err c.in-Err.handed) c.in-Err.ensures.pushed
    c.in-Err.ensures.waited))

pub returns-in-Ok-list_set-clause-later : goal.returns-in-Ok-list_set-clause-later
returns-in-Ok-list_set-clause-later g c =
    late_swaps c.args.frame.now c.list_set.new.frame c.in-Some.object.now.place c.args.given
    (λ entry. plain_set c.in-Set.index (bare entry))
    c.list_set.result c.requires.besides.owned c.list_set.ensures.set

pub returns-in-Ok-list_set-clause-asked : goal.returns-in-Ok-list_set-clause-asked
returns-in-Ok-list_set-clause-asked g c base s reference own means =
    put_as {V = HandleSeen} c.args.container base c.list_set.new.frame c.args.registers.now s
    c.args.given reference (Ok (Some c.in-Ok-list_set.old)) c.in-Set.is
    (swaps_asked (object_call (calls.Set c.in-Set.index reference)) c.args.container base c.list_set.new.frame
    c.args.registers.now s
    {V = HandleSeen} c.args.given reference (Ok c.in-Ok-list_set.old)
    (set_means base c.args.frame.now c.list_set.new.frame c.args.registers.now s own c.args.container
    c.in-Some.object.now (sym c.in-Some.ensures)
    c.args.given reference means c.requires.besides.apart c.in-Set.index (Ok c.in-Ok-list_set.old)
    c.in-Ok-list_set.ensures.set
    c.in-Ok-list_set.ensures.same c.in-Ok-list_set.ensures.waited))

pub returns-in-Err-list_set-clause-later : goal.returns-in-Err-list_set-clause-later
returns-in-Err-list_set-clause-later g c =
    late_swaps c.args.frame.now c.list_set.new.frame c.in-Some.object.now.place c.args.given
    (λ entry. plain_set c.in-Set.index (bare entry))
    c.list_set.result c.requires.besides.owned c.list_set.ensures.set

pub returns-in-Err-list_set-clause-asked : goal.returns-in-Err-list_set-clause-asked
returns-in-Err-list_set-clause-asked g c base s reference own means =
    put_as {V = HandleSeen} c.args.container base c.list_set.new.frame c.args.registers.now s
    c.args.given reference (Err c.in-Err-list_set.handed) c.in-Set.is
    (swaps_asked (object_call (calls.Set c.in-Set.index reference)) c.args.container base c.list_set.new.frame
    c.args.registers.now s
    {V = HandleSeen} c.args.given reference (Err c.in-Err-list_set.handed)
    (set_means base c.args.frame.now c.list_set.new.frame c.args.registers.now s own c.args.container
    c.in-Some.object.now (sym c.in-Some.ensures)
    c.args.given reference means c.requires.besides.apart c.in-Set.index (Err c.in-Err-list_set.handed)
    c.in-Err-list_set.ensures.set
    c.in-Err-list_set.ensures.same c.in-Err-list_set.ensures.waited))

pub returns-in-Ok-send-clause-later : goal.returns-in-Ok-send-clause-later
returns-in-Ok-send-clause-later g c =
    late_puts c.args.frame.now c.send.new.frame c.in-Some.object.now.place c.args.given
    (λ entry. plain_send (bare entry))
    c.send.result c.requires.besides.owned c.send.ensures.sent

pub returns-in-Ok-send-clause-asked : goal.returns-in-Ok-send-clause-asked
returns-in-Ok-send-clause-asked g c base s reference own means =
    put_as {V = HandleSeen} c.args.container base c.send.new.frame c.args.registers.now s
    c.args.given reference (Ok None) c.in-Send.is
    (takes_asked (object_call (calls.Send reference)) c.args.container base c.send.new.frame c.args.registers.now s
    {V = HandleSeen} c.args.given reference (Ok tt)
    (send_means base c.args.frame.now c.send.new.frame c.args.registers.now s own c.args.container
    c.in-Some.object.now (sym c.in-Some.ensures)
    c.args.given reference means c.requires.besides.apart (Ok tt) c.in-Ok-send.ensures.sent
    c.in-Ok-send.ensures.waited))

pub returns-in-Err-send-clause-later : goal.returns-in-Err-send-clause-later
returns-in-Err-send-clause-later g c =
    late_puts c.args.frame.now c.send.new.frame c.in-Some.object.now.place c.args.given
    (λ entry. plain_send (bare entry))
    c.send.result c.requires.besides.owned c.send.ensures.sent

pub returns-in-Err-send-clause-asked : goal.returns-in-Err-send-clause-asked
returns-in-Err-send-clause-asked g c base s reference own means =
    put_as {V = HandleSeen} c.args.container base c.send.new.frame c.args.registers.now s
    c.args.given reference (Err c.in-Err-send.handed) c.in-Send.is
    (takes_asked (object_call (calls.Send reference)) c.args.container base c.send.new.frame c.args.registers.now s
    {V = HandleSeen} c.args.given reference (Err c.in-Err-send.handed)
    (send_means base c.args.frame.now c.send.new.frame c.args.registers.now s own c.args.container
    c.in-Some.object.now (sym c.in-Some.ensures)
    c.args.given reference means c.requires.besides.apart (Err c.in-Err-send.handed) c.in-Err-send.ensures.sent
    c.in-Err-send.ensures.waited))

pub returns-in-Ok-dict_set-clause-later : goal.returns-in-Ok-dict_set-clause-later
returns-in-Ok-dict_set-clause-later g c =
    late_pair_put c.args.frame.now c.dict_set.new.frame c.in-Some.object.now.place (key_lent c.of.result) c.args.given
    c.dict_set.result c.requires.besides.owned c.dict_set.ensures.put

pub returns-in-Ok-dict_set-clause-asked : goal.returns-in-Ok-dict_set-clause-asked
returns-in-Ok-dict_set-clause-asked g c base s reference own means =
    let new = c.dict_set.new.frame in
    let place = c.in-Some.object.now.place in
    let result = Ok c.in-Ok-dict_set.old in
    put_as {V = HandleSeen} c.args.container base new c.args.registers.now s
    c.args.given reference result c.in-Put.is
    (puts_asked (keyed_call c.in-Put.key.now (keyed.Put reference)) c.args.container base new c.args.registers.now s
    c.args.given reference result
    (put_means base c.args.frame.now new c.args.registers.now s own c.args.container c.in-Some.object.now
    (sym c.in-Some.ensures)
    c.args.given reference means c.requires.besides.apart HandleSeen c.in-Put.key.now result
    (subst (λ key. Late c.args.frame.now place (λ mid. DictPut {V = HandleSeen} mid new place key c.args.given result))
    c.of.ensures c.in-Ok-dict_set.ensures.put)
    c.in-Ok-dict_set.ensures.waited))

pub returns-in-Err-dict_set-clause-later : goal.returns-in-Err-dict_set-clause-later
returns-in-Err-dict_set-clause-later g c =
    late_pair_put c.args.frame.now c.dict_set.new.frame c.in-Some.object.now.place (key_lent c.of.result) c.args.given
    c.dict_set.result c.requires.besides.owned c.dict_set.ensures.put

pub returns-in-Err-dict_set-clause-asked : goal.returns-in-Err-dict_set-clause-asked
returns-in-Err-dict_set-clause-asked g c base s reference own means =
    let new = c.dict_set.new.frame in
    let place = c.in-Some.object.now.place in
    let result = Err c.in-Err-dict_set.handed in
    put_as {V = HandleSeen} c.args.container base new c.args.registers.now s
    c.args.given reference result c.in-Put.is
    (puts_asked (keyed_call c.in-Put.key.now (keyed.Put reference)) c.args.container base new c.args.registers.now s
    c.args.given reference result
    (put_means base c.args.frame.now new c.args.registers.now s own c.args.container c.in-Some.object.now
    (sym c.in-Some.ensures)
    c.args.given reference means c.requires.besides.apart HandleSeen c.in-Put.key.now result
    (subst (λ key. Late c.args.frame.now place (λ mid. DictPut {V = HandleSeen} mid new place key c.args.given result))
    c.of.ensures c.in-Err-dict_set.ensures.put)
    c.in-Err-dict_set.ensures.waited))
