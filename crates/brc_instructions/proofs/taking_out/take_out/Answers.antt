use Rattle.brc_things.specs.Plain_Lists.{plain_pop, plain_get, plain_receive}
use Rattle.brc_things.specs.Plain_Dicts.{plain_find, plain_del}
use Rattle.law_isolation.proofs.Calls_Mean.{pop_means, get_means, receive_means, find_means, delete_means}
use Rattle.brc_instructions.proofs.Follows_Of.{late_takes, late_shares}
use Rattle.brc_instructions.proofs.Causes_Of.{takes_caused, shares_caused}
use Rattle.brc_instructions.proofs.Plain_Refusals.{pop_needs, get_needs, receive_needs, find_needs, delete_needs}
use Rattle.brc_instructions.proofs.Stands_For.{asked_as}
use Rattle.brc_instructions.proofs.taking_out.take_out.Goals as goal

pub returns-in-Pop-clause-later : goal.returns-in-Pop-clause-later
returns-in-Pop-clause-later g c =
    late_takes c.args.frame.now c.list_pop.new.frame c.args.object.now.place plain_pop c.list_pop.result
    c.list_pop.ensures.popped

pub returns-in-Pop-clause-caused : goal.returns-in-Pop-clause-caused
returns-in-Pop-clause-caused g c =
    takes_caused c.args.frame.now c.list_pop.new.frame c.args.object.now.place plain_pop c.list_pop.result
    pop_needs c.list_pop.ensures.popped

pub returns-in-Pop-clause-means : goal.returns-in-Pop-clause-means
returns-in-Pop-clause-means g c base r registers s own is means =
    asked_as r base c.list_pop.new.frame registers s c.list_pop.result c.in-Pop.is (
    pop_means base c.args.frame.now c.list_pop.new.frame registers s own r c.args.object.now is means
    c.list_pop.result c.list_pop.ensures.popped c.list_pop.ensures.waited)

pub returns-in-Get-clause-later : goal.returns-in-Get-clause-later
returns-in-Get-clause-later g c =
    late_shares c.args.frame.now c.list_get.new.frame c.args.object.now.place (plain_get c.in-Get.index)
    c.list_get.result c.list_get.ensures.shared

pub returns-in-Get-clause-caused : goal.returns-in-Get-clause-caused
returns-in-Get-clause-caused g c =
    shares_caused c.args.frame.now c.list_get.new.frame c.args.object.now.place (plain_get c.in-Get.index)
    c.list_get.result (get_needs c.in-Get.index) c.list_get.ensures.shared

pub returns-in-Get-clause-means : goal.returns-in-Get-clause-means
returns-in-Get-clause-means g c base r registers s own is means =
    asked_as r base c.list_get.new.frame registers s c.list_get.result c.in-Get.is (
    get_means base c.args.frame.now c.list_get.new.frame registers s own r c.args.object.now is means c.in-Get.index
    c.list_get.result c.list_get.ensures.shared c.list_get.ensures.waited)

pub returns-in-Receive-clause-later : goal.returns-in-Receive-clause-later
returns-in-Receive-clause-later g c =
    late_takes c.args.frame.now c.recv.new.frame c.args.object.now.place plain_receive c.recv.result
    c.recv.ensures.received

pub returns-in-Receive-clause-caused : goal.returns-in-Receive-clause-caused
returns-in-Receive-clause-caused g c =
    takes_caused c.args.frame.now c.recv.new.frame c.args.object.now.place plain_receive c.recv.result
    receive_needs c.recv.ensures.received

pub returns-in-Receive-clause-means : goal.returns-in-Receive-clause-means
returns-in-Receive-clause-means g c base r registers s own is means =
    asked_as r base c.recv.new.frame registers s c.recv.result c.in-Receive.is (
    receive_means base c.args.frame.now c.recv.new.frame registers s own r c.args.object.now is means
    c.recv.result c.recv.ensures.received c.recv.ensures.waited)

pub returns-in-Find-clause-later : goal.returns-in-Find-clause-later
returns-in-Find-clause-later g c =
    late_shares c.args.frame.now c.dict_find.new.frame c.args.object.now.place (plain_find c.in-Find.key.now)
    c.dict_find.result c.dict_find.ensures.shares

pub returns-in-Find-clause-caused : goal.returns-in-Find-clause-caused
returns-in-Find-clause-caused g c =
    shares_caused c.args.frame.now c.dict_find.new.frame c.args.object.now.place (plain_find c.in-Find.key.now)
    c.dict_find.result (find_needs c.in-Find.key.now) c.dict_find.ensures.shares

pub returns-in-Find-clause-means : goal.returns-in-Find-clause-means
returns-in-Find-clause-means g c base r registers s own is means =
    asked_as r base c.dict_find.new.frame registers s c.dict_find.result c.in-Find.is (
    find_means base c.args.frame.now c.dict_find.new.frame registers s own r c.args.object.now is means
    c.in-Find.key.now c.dict_find.result c.dict_find.ensures.shares c.dict_find.ensures.waited)

pub returns-in-Delete-clause-later : goal.returns-in-Delete-clause-later
returns-in-Delete-clause-later g c =
    late_takes c.args.frame.now c.dict_del.new.frame c.args.object.now.place (plain_del c.in-Delete.key.now)
    c.dict_del.result c.dict_del.ensures.takes

pub returns-in-Delete-clause-caused : goal.returns-in-Delete-clause-caused
returns-in-Delete-clause-caused g c =
    takes_caused c.args.frame.now c.dict_del.new.frame c.args.object.now.place (plain_del c.in-Delete.key.now)
    c.dict_del.result (delete_needs c.in-Delete.key.now) c.dict_del.ensures.takes

pub returns-in-Delete-clause-means : goal.returns-in-Delete-clause-means
returns-in-Delete-clause-means g c base r registers s own is means =
    asked_as r base c.dict_del.new.frame registers s c.dict_del.result c.in-Delete.is (
    delete_means base c.args.frame.now c.dict_del.new.frame registers s own r c.args.object.now is means
    c.in-Delete.key.now c.dict_del.result c.dict_del.ensures.takes c.dict_del.ensures.waited)
