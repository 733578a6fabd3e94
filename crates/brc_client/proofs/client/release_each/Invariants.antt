use Rattle.std.proofs.Common.{◌≡◌, ◌<◌, ℕ, None}
use Rattle.brc_handles.specs.Handles.{slot}
use Rattle.brc_client.specs.Clients.{IsClient}
use Rattle.brc_client.proofs.Spending.{SpendsTo}
use Rattle.brc_client.proofs.client.release_each.Given as goal

-- the places before this one are empty, and were vacated
abbrev pub invariant-loop-at : goal.invariant-loop-at
invariant-loop-at l = IsClient l.frame l.handles l.initial.none × ((k : ℕ) → k < l.at → slot l.handles k ≡ None)
    × (l.frame.heap ≡ l.initial.frame.heap)
    × SpendsTo l.at l.initial.handles l.handles l.initial.numbers l.numbers
