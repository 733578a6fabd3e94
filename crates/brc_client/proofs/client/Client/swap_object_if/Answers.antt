use Rattle.std.proofs.Common.{refl, sym, ap, ◌∙◌, ◌≡◌, Some, false, subst, List, Option, slice_set}
use Rattle.std.proofs.lemmas.Result.{err_from_is_err_and}
use Rattle.brc_count.specs.Frames.{FrameSeen, HandleSeen}
use Rattle.brc_handles.specs.Handles.{slot}
use Rattle.brc_client.specs.Swap_If.{AsPut, SwapsIfAt}
use Rattle.brc_client.specs.declared.data.Datum.TheVariants.{Object}
use Rattle.brc_client.specs.Numbers.{place_in}
use Rattle.std.specs.declared.alloc.Global.{Global}
use Rattle.brc_things.specs.declared.value.Value.TheVariants as values
use Rattle.brc_things.specs.Values.{OwnsPutValue}
use Rattle.brc_client.specs.Clients.{ClientSeen}
use Rattle.brc_client.specs.Valued.{ComesBack, NoneMade, ObjectNameless, OneNumber}
use Rattle.brc_client.proofs.Placed.{slot_else}
use Rattle.brc_client.proofs.Named.{names_this}
use Rattle.brc_client.proofs.Beside.{swap_under, goes_out, object_loose, object_put, home_again}
use Rattle.brc_client.proofs.Putting.{one_number, none_wanting, heap_refused, object_puts, object_spends, back_home}
use Rattle.brc_client.proofs.client.Client.swap_object_if.Goals as goal

pub returns-in_err-from-clause-refused : goal.returns-in_err-from-clause-refused
returns-in_err-from-clause-refused g c =
    let p = err_from_is_err_and c.from_residual-in_err-from.result c.from_residual-in_err-from.ensures.1 in
    rw (p.1, p.2) (ObjectNameless c.args.value c.args.note refl c.in_ok-into.ensures.named c.in_err-from.ensures.refused
    refl)

pub returns-then-into-from-clause-refused : goal.returns-then-into-from-clause-refused
returns-then-into-from-clause-refused g c =
    let one = one_number c.args.self.now c.args.container c.args.value c.in_ok-into.into c.in_ok-from.from
    c.in_ok-into.ensures.place c.in_ok-from.ensures.place c.if-into-from.true c.in_ok-into.ensures.named
    c.in_ok-from.ensures.named in
    OneNumber c.args.note (ap (λ n. Object n c.args.note) one) c.in_ok-into.ensures.named refl refl

pub returns-in_err-ready_none-clause-refused : goal.returns-in_err-ready_none-clause-refused
returns-in_err-ready_none-clause-refused g c =
    let p = err_from_is_err_and c.from_residual-in_err-ready_none.result c.from_residual-in_err-ready_none.ensures.1 in
    rw (p.1, p.2) (none_wanting (AsPut (SwapsIfAt (g.B.Conditional.call c.args.by)) c.args.entry false) _ _ c.args.container _ _ c.in_err-ready_none.ensures.refused)

pub number_value-came-requires-clause-loose : goal.number_value-came-requires-clause-loose
number_value-came-requires-clause-loose g c =
    let client = rw c.in-Some-none.is at c.self.invariant in
    let has = goes_out _ c.self.inside.handles c.take.new.self c.in-Some-none.none c.in-Some.given c.in_ok-from.from client
    (sym c.in-Some.ensures.taken) c.take.ensures.set c.in-Some.ensures.comes in
    let did = rw c.frame.ensures.frame at c.in-Ok.ensures.did in
    object_loose _ c.take.new.self c.in-Some-none.none c.try_parted.new.none c.in-Some.given c.args.note (Some c.in-Ok.came)
    has (swap_under (g.B.Conditional.call c.args.by) c.args.entry c.in-Ok.swapped _ _ _ _ _ _ c.in-Ok.came did)

pub invariant_of-self : goal.invariant_of-self
invariant_of-self g c =
    let client = rw c.in-Some-none.is at c.self.invariant in
    let has = goes_out _ c.self.inside.handles c.take.new.self c.in-Some-none.none c.in-Some.given c.in_ok-from.from client
    (sym c.in-Some.ensures.taken) c.take.ensures.set c.in-Some.ensures.comes in
    let did = rw c.frame.ensures.frame at c.in-Ok.ensures.did in
    let owns = subst (λ (f : FrameSeen Global). OwnsPutValue f c.try_parted.new.frame c.try_parted.new.none
    (values.Object c.in-Some.given c.args.note) (Some c.in-Ok.came)) c.frame.ensures.frame c.in-Ok.ensures.owns in
    object_put _ _ c.take.new.self c.number_value-came.new.handles c.spend.new.self c.in-Some-none.none
    c.try_parted.new.none c.in-Some.given c.args.note (Some c.in-Ok.came) (Some c.number_value-came.result) has
    (swap_under (g.B.Conditional.call c.args.by) c.args.entry c.in-Ok.swapped _ _ _ _ _ _ c.in-Ok.came did) owns c.in-Ok.ensures.unlocked c.number_value-came.ensures.back
    c.number_value-came.ensures.lies

pub invariant_of-self-in-Err-Object : goal.invariant_of-self-in-Err-Object
invariant_of-self-in-Err-Object g c =
    let client = rw c.in-Some-none.is at c.self.invariant in
    let has = goes_out _ c.self.inside.handles c.take.new.self c.in-Some-none.none c.in-Some.given c.in_ok-from.from client
    (sym c.in-Some.ensures.taken) c.take.ensures.set c.in-Some.ensures.comes in
    let keeps = rw c.frame.ensures.frame at c.in-Err-Object.ensures.keeps in
    let was = c.in-Err-Object.ensures.back in
    let is = c.in-Err-Object.field-0-is in
    let back : c.in-Err-Object.back ≡ c.in-Some.given = cc in
    back_home _ _ c.take.new.self c.lay.new.handles c.in-Some-none.none c.try_parted.new.none c.in-Some.given
    c.in-Err-Object.back has back c.in-Err-Object.ensures.same keeps c.in-Err-Object.ensures.unlocked c.lay.ensures.set
    c.lay.ensures.comes

pub returns-in-Ok-clause-took : goal.returns-in-Ok-clause-took
returns-in-Ok-clause-took g c =
    let made = subst (λ (s : ClientSeen). NoneMade c.args.self.now s) (sym c.self.view_is)
    c.in_ok-ready_none.ensures.made in
    let handles = ap (λ (s : ClientSeen). s.handles) c.self.view_is ∙ c.ready_none.ensures.handles in
    let numbers = ap (λ (s : ClientSeen). s.numbers) c.self.view_is ∙ c.ready_none.ensures.numbers in
    let did = rw c.frame.ensures.frame at c.in-Ok.ensures.did in
    let here = c.in-Some-at.ensures ∙ ap (λ (l : List (Option HandleSeen)). slot l c.in_ok-into.into) c.take.ensures.set
    ∙ slot_else c.self.inside.handles c.in_ok-from.from c.in_ok-into.into _ c.if-into-from.false
    ∙ ap (λ (l : List (Option HandleSeen)). slot l c.in_ok-into.into) handles in
    let there = c.in-Some.ensures.taken ∙ ap (λ (l : List (Option HandleSeen)). slot l c.in_ok-from.from) handles in
    let object = names_this c.args.self.now c.args.container c.in_ok-into.into c.in-Some-at.object.now
    c.in_ok-into.ensures.place c.in_ok-into.ensures.named here in
    let given = names_this c.args.self.now c.args.value c.in_ok-from.from c.in-Some.given c.in_ok-from.ensures.place
    c.in_ok-from.ensures.named there in
    let apart = λ (one : c.args.container ≡ c.args.value). c.if-into-from.false
    (c.in_ok-into.ensures.place ∙ ap place_in one ∙ sym c.in_ok-from.ensures.place) in
    object_puts (AsPut (SwapsIfAt (g.B.Conditional.call c.args.by)) c.args.entry c.in-Ok.swapped) c.args.self.now _ _ c.args.container c.args.value c.in_ok-from.from
    c.in-Some-at.object.now c.in-Some.given c.in-Some-none.none c.try_parted.new.none c.args.note (Some c.in-Ok.came)
    (Some c.number_value-came.result) made c.in-Some-none.is handles numbers object given apart c.in_ok-from.ensures.place refl
    (record { uses = c.spend.ensures.uses; stamp = c.spend.ensures.stamp; of = c.spend.ensures.of }) did
    (subst (λ (l : List (Option HandleSeen)). ComesBack l c.number_value-came.new.handles c.spend.new.self
    (Some c.in-Ok.came) (Some c.number_value-came.result)) c.take.ensures.set c.number_value-came.ensures.back)

pub returns-in-Ok-clause-spent : goal.returns-in-Ok-clause-spent
returns-in-Ok-clause-spent g c =
    let handles = ap (λ (s : ClientSeen). s.handles) c.self.view_is ∙ c.ready_none.ensures.handles in
    let numbers = ap (λ (s : ClientSeen). s.numbers) c.self.view_is ∙ c.ready_none.ensures.numbers in
    let did = rw c.frame.ensures.frame at c.in-Ok.ensures.did in
    let home = c.self.invariant.lies c.in_ok-from.from c.in-Some.given (sym c.in-Some.ensures.taken) in
    object_spends c.args.self.now _ c.self.inside.handles c.self.inside.numbers c.args.value c.in_ok-from.from c.in-Some-none.none c.try_parted.new.none
    c.in-Some.given c.args.note (Some c.in-Ok.came) (Some c.number_value-came.result) c.in_ok-from.ensures.place c.in_ok-from.ensures.named home
    (swap_under (g.B.Conditional.call c.args.by) c.args.entry c.in-Ok.swapped _ _ _ _ _ _ c.in-Ok.came did) (subst (λ (l : List (Option HandleSeen)). ComesBack l c.number_value-came.new.handles c.spend.new.self
    (Some c.in-Ok.came) (Some c.number_value-came.result)) c.take.ensures.set c.number_value-came.ensures.back) handles numbers
    c.spend.ensures.spent c.spend.ensures.others

pub returns-in-Err-Object-clause-refused : goal.returns-in-Err-Object-clause-refused
returns-in-Err-Object-clause-refused g c =
    let made = subst (λ (s : ClientSeen). NoneMade c.args.self.now s) (sym c.self.view_is)
    c.in_ok-ready_none.ensures.made in
    let handles = ap (λ (s : ClientSeen). s.handles) c.self.view_is ∙ c.ready_none.ensures.handles in
    let did = rw c.frame.ensures.frame at c.in-Err-Object.ensures.refused in
    let here = c.in-Some-at.ensures ∙ ap (λ (l : List (Option HandleSeen)). slot l c.in_ok-into.into) c.take.ensures.set
    ∙ slot_else c.self.inside.handles c.in_ok-from.from c.in_ok-into.into _ c.if-into-from.false
    ∙ ap (λ (l : List (Option HandleSeen)). slot l c.in_ok-into.into) handles in
    let there = c.in-Some.ensures.taken ∙ ap (λ (l : List (Option HandleSeen)). slot l c.in_ok-from.from) handles in
    let object = names_this c.args.self.now c.args.container c.in_ok-into.into c.in-Some-at.object.now
    c.in_ok-into.ensures.place c.in_ok-into.ensures.named here in
    let given = names_this c.args.self.now c.args.value c.in_ok-from.from c.in-Some.given c.in_ok-from.ensures.place
    c.in_ok-from.ensures.named there in
    let apart = λ (one : c.args.container ≡ c.args.value). c.if-into-from.false
    (c.in_ok-into.ensures.place ∙ ap place_in one ∙ sym c.in_ok-from.ensures.place) in
    heap_refused (AsPut (SwapsIfAt (g.B.Conditional.call c.args.by)) c.args.entry false) c.args.self.now _ _ c.args.container _ c.in-Some-at.object.now c.in-Some-none.none
    c.try_parted.new.none _ c.in-Err-Object.field-0 made c.in-Some-none.is object refl c.in-Err-Object.ensures.same
    (c.in-Some.given, given, apart, refl) c.in-Err-Object.ensures.back did

pub returns-in-Err-Object-clause-handles : goal.returns-in-Err-Object-clause-handles
returns-in-Err-Object-clause-handles g c =
    let handles = ap (λ (s : ClientSeen). s.handles) c.self.view_is ∙ c.ready_none.ensures.handles in
    let was = c.in-Err-Object.ensures.back in
    let is = c.in-Err-Object.field-0-is in
    let back : c.in-Err-Object.back ≡ c.in-Some.given = cc in
    let home = c.self.invariant.lies c.in_ok-from.from c.in-Some.given (sym c.in-Some.ensures.taken) in
    rw back at c.lay.ensures.set ∙ ap (λ (l : List (Option HandleSeen)).
    slice_set l c.in-Some.given.place (Some c.in-Some.given)) c.take.ensures.set
    ∙ home_again c.self.inside.handles c.in_ok-from.from c.in-Some.given (sym c.in-Some.ensures.taken) home ∙ handles
