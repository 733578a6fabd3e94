use Rattle.std.proofs.Common.{◌≡◌, false, subst}
use Rattle.std.specs.Result.{IfErr, OnOk}
use Rattle.brc_words.specs.declared.entry.Entry.{Entry}
use Rattle.brc_client.specs.declared.data.Datum.TheVariants.{Scalar, Object}
use Rattle.brc_client.specs.declared.status.Status.{Status}
use Rattle.brc_client.specs.Clients.{ClientSeen, KeepsNames}
use Rattle.brc_client.specs.Swap_If.{AsPut, SwapsIfAt, IsExpectedAs, ExpectsNone}
use Rattle.brc_client.specs.Valued.{PutsNoDatum}
use Rattle.brc_client.proofs.Putting.{after_expected}
use Rattle.brc_client.proofs.client.Client.swap_if.Goals as goal

pub returns-in-Scalar-clause-refused : goal.returns-in-Scalar-clause-refused
returns-in-Scalar-clause-refused g c =
    rw c.in-Scalar.is (after_expected c.swap_scalar_if.result
    (λ (status : Status). ExpectsNone c.args.self.now c.args.expected status × (c.swap_scalar_if.new.self ≡ c.args.self.now))
    (IsExpectedAs c.args.self.now c.args.expected)
    (λ (entry : Entry) (status : Status). PutsNoDatum (AsPut (SwapsIfAt (g.B.Conditional.call c.args.by)) entry false)
    c.args.self.now c.swap_scalar_if.new.self c.args.container (Scalar c.in-Scalar.note) status)
    c.in_ok-entry.entry c.in_ok-entry.ensures.expected
    (subst (λ (s : ClientSeen). IfErr c.swap_scalar_if.result (PutsNoDatum
    (AsPut (SwapsIfAt (g.B.Conditional.call c.args.by)) c.in_ok-entry.entry false) s c.swap_scalar_if.new.self c.args.container
    (Scalar c.in-Scalar.note))) c.expected_as.ensures.same c.swap_scalar_if.ensures.refused))

pub returns-in-Scalar-clause-spent : goal.returns-in-Scalar-clause-spent
returns-in-Scalar-clause-spent g c =
    rw c.in-Scalar.is (subst (λ (s : ClientSeen). OnOk c.swap_scalar_if.result (KeepsNames s c.swap_scalar_if.new.self))
    c.expected_as.ensures.same c.swap_scalar_if.ensures.spent)

pub returns-in-Object-clause-refused : goal.returns-in-Object-clause-refused
returns-in-Object-clause-refused g c =
    rw c.in-Object.is (after_expected c.swap_object_if.result
    (λ (status : Status). ExpectsNone c.args.self.now c.args.expected status × (c.swap_object_if.new.self ≡ c.args.self.now))
    (IsExpectedAs c.args.self.now c.args.expected)
    (λ (entry : Entry) (status : Status). PutsNoDatum (AsPut (SwapsIfAt (g.B.Conditional.call c.args.by)) entry false)
    c.args.self.now c.swap_object_if.new.self c.args.container (Object c.in-Object.value c.in-Object.note) status)
    c.in_ok-entry.entry c.in_ok-entry.ensures.expected
    (subst (λ (s : ClientSeen). IfErr c.swap_object_if.result (PutsNoDatum
    (AsPut (SwapsIfAt (g.B.Conditional.call c.args.by)) c.in_ok-entry.entry false) s c.swap_object_if.new.self c.args.container
    (Object c.in-Object.value c.in-Object.note))) c.expected_as.ensures.same c.swap_object_if.ensures.refused))
