use Rattle.std.proofs.Common.{◌≡◌, ◌≢◌, ℕ, sym, subst}
use Rattle.law.specs.rule.Layout.{spot}
use Rattle.law.specs.rule.Rule.{with_told, Kept}
use Rattle.brc_table.specs.Machine.{MayTell}
use Rattle.brc_table.specs.Shown.{shows}
use Rattle.brc_table.proofs.Finding.{found_allowed}
use Rattle.brc_table.proofs.Placing.{step_allowed}
use Rattle.brc_table.proofs.machine.find_as.Goals as goal

pub load-found-requires : goal.load-found-requires
load-found-requires g c =
    let me = c.args.seat.now.me in
    let n : ℕ = c.args.table.now.cells in
    let limit : ℕ = c.args.table.now.local_limit in
    step_allowed shows me (λ there. there)
    (λ there after. (there ≡ g.M.Stored.number → after ≡ (with_told g.M.Stored.item me.0, me.1))
    × (there ≢ g.M.Stored.number → after ≡ me)) c.args.word
    c.table.invariant c.table.view_is c.spot_of-at.ensures c.requires.same c.requires.inside
    (found_allowed (Kept shows n limit) n c.args.seat.now.id me (spot n c.args.word) g.M.Stored.number
    (λ there after. after ≡ (with_told g.M.Stored.item me.0, me.1))
    (subst (λ m. MayTell shows n limit c.args.seat.now.id me c.args.word (λ _. m) (λ _. g.M.Stored.item))
    (sym c.requires.number) c.requires.allowed))
