use Rattle.std.proofs.lemmas.Result.{err_from_is_err_and}
use Rattle.std.proofs.Common.{arith}
use Rattle.brc_client.specs.Born.{MayGoIn, ListLacks, Stops}
use Rattle.brc_client.proofs.Born_Lists.{none_first, list_awaits, spends_from}
use Rattle.brc_client.proofs.client.Client.new_list_of.Goals as goal

pub returns-in_err-list-clause-refused : goal.returns-in_err-list-clause-refused
returns-in_err-list-clause-refused g c =
    let kept = none_first c.args.self.now c.are_given.new.self c.keep_none.new.self c.in_ok-are_given.ensures.same
    c.in_ok-keep_none.ensures.made c.in_ok-keep_none.ensures.handles c.in_ok-keep_none.ensures.numbers in
    let p = err_from_is_err_and c.from_residual-in_err-list.result c.from_residual-in_err-list.ensures.1 in
    let may : MayGoIn c.args.self.now (g.S.ValueRow.items c.args.values.now)
    = record { few = omega (arith, c.if-len.false, c.len.ensures); given = c.in_ok-are_given.ensures.given } in
    rw (p.1, p.2) (ListLacks may c.keep_none.new.self kept c.in_err-list.ensures.refused c.in_err-list.ensures.unchanged)

pub push_each-requires-clause-ready : goal.push_each-requires-clause-ready
push_each-requires-clause-ready g c =
    let kept = none_first c.args.self.now c.are_given.new.self c.keep_none.new.self c.in_ok-are_given.ensures.same
    c.in_ok-keep_none.ensures.made c.in_ok-keep_none.ensures.handles c.in_ok-keep_none.ensures.numbers in
    list_awaits c.args.self.now c.keep_none.new.self c.begin_list.new.self c.in_ok-list.list
    (g.S.ValueRow.items c.args.values.now) c.in_ok-are_given.ensures.given kept c.in_ok-list.ensures.made
    c.in_ok-list.ensures.names c.in_ok-list.ensures.keeps c.in_ok-list.ensures.none

pub returns-in-Ok-clause-spent : goal.returns-in-Ok-clause-spent
returns-in-Ok-clause-spent g c =
    let kept = none_first c.args.self.now c.are_given.new.self c.keep_none.new.self c.in_ok-are_given.ensures.same
    c.in_ok-keep_none.ensures.made c.in_ok-keep_none.ensures.handles c.in_ok-keep_none.ensures.numbers in
    spends_from c.args.self.now c.keep_none.new.self c.begin_list.new.self c.push_each.new.self
    (g.S.ValueRow.items c.args.values.now) kept c.in_ok-list.ensures.keeps c.in-Ok.ensures.spent

pub returns-in-Err-clause-refused : goal.returns-in-Err-clause-refused
returns-in-Err-clause-refused g c =
    let kept = none_first c.args.self.now c.are_given.new.self c.keep_none.new.self c.in_ok-are_given.ensures.same
    c.in_ok-keep_none.ensures.made c.in_ok-keep_none.ensures.handles c.in_ok-keep_none.ensures.numbers in
    Stops (record {
      may = record { few = omega (arith, c.if-len.false, c.len.ensures); given = c.in_ok-are_given.ensures.given };
      list = c.in_ok-list.list;
      made = c.begin_list.new.self;
      begins = record { ready = c.keep_none.new.self; none = kept; adds = c.in_ok-list.ensures.made };
      last = c.push_each.new.self;
      stops = c.in-Err.ensures.stopped;
      releases = c.drop_list.ensures.released;
    })
