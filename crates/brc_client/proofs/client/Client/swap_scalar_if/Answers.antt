use Rattle.std.proofs.Common.{refl, sym, ap, ◌∙◌, subst, Some, false}
use Rattle.std.proofs.lemmas.Result.{err_from_is_err_and}
use Rattle.brc_count.specs.Frames.{FrameSeen}
use Rattle.brc_client.specs.Swap_If.{AsPut, SwapsIfAt}
use Rattle.std.specs.declared.alloc.Global.{Global}
use Rattle.brc_things.specs.declared.value.Value.TheVariants as values
use Rattle.brc_things.specs.Values.{OwnsPutValue}
use Rattle.brc_client.specs.Clients.{ClientSeen}
use Rattle.brc_client.specs.Valued.{NoneMade}
use Rattle.brc_client.proofs.Beside.{swap_under, scalar_loose, scalar_put}
use Rattle.brc_client.proofs.Putting.{none_wanting, none_found, heap_refused, scalar_puts, scalar_keeps}
use Rattle.brc_client.proofs.client.Client.swap_scalar_if.Goals as goal

pub returns-in_err-ready_none-clause-refused : goal.returns-in_err-ready_none-clause-refused
returns-in_err-ready_none-clause-refused g c =
    let p = err_from_is_err_and c.from_residual.result c.from_residual.ensures.1 in
    rw (p.1, p.2) (none_wanting (AsPut (SwapsIfAt (g.B.Conditional.call c.args.by)) c.args.entry false) _ _ c.args.container _ _ c.in_err-ready_none.ensures.refused)

pub returns-in_err-object-clause-refused : goal.returns-in_err-object-clause-refused
returns-in_err-object-clause-refused g c =
    let p = err_from_is_err_and c.from_residual-in_err-object.result c.from_residual-in_err-object.ensures.1 in
    let handles = ap (λ (s : ClientSeen). s.handles) c.self.view_is ∙ c.ready_none.ensures.handles in
    let numbers = ap (λ (s : ClientSeen). s.numbers) c.self.view_is ∙ c.ready_none.ensures.numbers in
    rw (p.1, p.2) (none_found (AsPut (SwapsIfAt (g.B.Conditional.call c.args.by)) c.args.entry false) c.args.self.now c.ready_none.new.self c.self.inside.handles
    c.self.inside.numbers c.args.container _ _ c.in_ok-ready_none.ensures.named handles numbers
    c.in_err-object.ensures.refused)

pub number_value-came-requires-clause-loose : goal.number_value-came-requires-clause-loose
number_value-came-requires-clause-loose g c =
    let did = rw c.frame.ensures.frame at c.in-Ok.ensures.did in
    let client = rw c.in-Some.is at c.self.invariant in
    scalar_loose _ c.self.inside.handles c.in-Some.none c.try_parted.new.none c.args.note (Some c.in-Ok.came) client
    (swap_under (g.B.Conditional.call c.args.by) c.args.entry c.in-Ok.swapped _ _ _ _ _ _ c.in-Ok.came did)

pub invariant_of-self : goal.invariant_of-self
invariant_of-self g c =
    let did = rw c.frame.ensures.frame at c.in-Ok.ensures.did in
    let owns = subst (λ (f : FrameSeen Global). OwnsPutValue f c.try_parted.new.frame c.try_parted.new.none
    (values.Scalar c.args.note) (Some c.in-Ok.came)) c.frame.ensures.frame c.in-Ok.ensures.owns in
    let client = rw c.in-Some.is at c.self.invariant in
    scalar_put _ _ c.self.inside.handles c.number_value-came.new.handles c.self.inside.numbers c.in-Some.none
    c.try_parted.new.none c.args.note (Some c.in-Ok.came) (Some c.number_value-came.result) client
    (swap_under (g.B.Conditional.call c.args.by) c.args.entry c.in-Ok.swapped _ _ _ _ _ _ c.in-Ok.came did) owns c.in-Ok.ensures.unlocked c.number_value-came.ensures.back
    c.number_value-came.ensures.lies

pub returns-in-Ok-clause-took : goal.returns-in-Ok-clause-took
returns-in-Ok-clause-took g c =
    let made = subst (λ (s : ClientSeen). NoneMade c.args.self.now s) (sym c.self.view_is)
    c.in_ok-ready_none.ensures.made in
    let handles = ap (λ (s : ClientSeen). s.handles) c.self.view_is ∙ c.ready_none.ensures.handles in
    let numbers = ap (λ (s : ClientSeen). s.numbers) c.self.view_is ∙ c.ready_none.ensures.numbers in
    let did = rw c.frame.ensures.frame at c.in-Ok.ensures.did in
    scalar_puts (AsPut (SwapsIfAt (g.B.Conditional.call c.args.by)) c.args.entry c.in-Ok.swapped) c.args.self.now _ _ c.args.container c.in_ok-object.object.now c.in-Some.none
    c.try_parted.new.none c.args.note (Some c.in-Ok.came) (Some c.number_value-came.result) made c.in-Some.is handles numbers
    c.in_ok-object.ensures.named refl refl did c.number_value-came.ensures.back

pub returns-in-Ok-clause-spent : goal.returns-in-Ok-clause-spent
returns-in-Ok-clause-spent g c =
    let handles = ap (λ (s : ClientSeen). s.handles) c.self.view_is ∙ c.ready_none.ensures.handles in
    let numbers = ap (λ (s : ClientSeen). s.numbers) c.self.view_is ∙ c.ready_none.ensures.numbers in
    let did = rw c.frame.ensures.frame at c.in-Ok.ensures.did in
    let client = rw c.in-Some.is at c.self.invariant in
    scalar_keeps _ c.args.self.now c.self.inside.handles c.number_value-came.new.handles c.self.inside.numbers
    c.self.inside.numbers c.in-Some.none c.try_parted.new.none c.args.note (Some c.in-Ok.came)
    (Some c.number_value-came.result) client (swap_under (g.B.Conditional.call c.args.by) c.args.entry c.in-Ok.swapped _ _ _ _ _ _ c.in-Ok.came did) c.number_value-came.ensures.back handles
    numbers refl

pub returns-in-Err-Scalar-clause-refused : goal.returns-in-Err-Scalar-clause-refused
returns-in-Err-Scalar-clause-refused g c =
    let made = subst (λ (s : ClientSeen). NoneMade c.args.self.now s) (sym c.self.view_is)
    c.in_ok-ready_none.ensures.made in
    let handles = ap (λ (s : ClientSeen). s.handles) c.self.view_is ∙ c.ready_none.ensures.handles in
    let numbers = ap (λ (s : ClientSeen). s.numbers) c.self.view_is ∙ c.ready_none.ensures.numbers in
    let names = rw (handles, numbers) at c.in_ok-object.ensures.named in
    let did = rw c.frame.ensures.frame at c.in-Err-Scalar.ensures.refused in
    heap_refused (AsPut (SwapsIfAt (g.B.Conditional.call c.args.by)) c.args.entry false) c.args.self.now _ _ c.args.container _ c.in_ok-object.object.now c.in-Some.none
    c.try_parted.new.none _ c.in-Err-Scalar.field-0 made c.in-Some.is names refl c.in-Err-Scalar.ensures.same refl
    c.in-Err-Scalar.ensures.back did
