-- An export's call on the client that a thread has, or on a thread that has left.
use Rattle.std.proofs.Common.{◌≡◌, Some, None, sym, ap, ◌∙◌}
use Rattle.brc_client.specs.Clients.{ClientSeen}
use Rattle.brc_client.specs.declared.thread.Stage.{Stage}
use Rattle.brc_client.specs.declared.thread.Stage.TheVariants as stages
use Rattle.brc_client.specs.Ends.{client_of}
use Rattle.brc_c.specs.declared.held.Held.{Held}

-- a thread with this client works
pub works_of : (stage : Stage) (client : ClientSeen) → Some client ≡ client_of stage → stage ≡ stages.Works client
works_of (stages.Works was) client is =
    let same : was ≡ client = cc in ap (λ (c : ClientSeen). stages.Works c) same
works_of (stages.Leaves left) client is = absurd (let f : ⊥ = cc in f)
works_of (stages.Ends done) client is = absurd (let f : ⊥ = cc in f)
works_of (stages.Gathered seen) client is = absurd (let f : ⊥ = cc in f)
works_of stages.Gone client is = absurd (let f : ⊥ = cc in f)

-- the same where the room of the thread is lent
pub works_at : (room old : Held) (client : ClientSeen) → Some client ≡ client_of room.thread → room ≡ old
    → old.thread ≡ stages.Works client
works_at room old client is same = works_of old.thread client (is ∙ ap (λ (h : Held). client_of h.thread) same)

-- and of a thread that has left
pub left_at : (room old : Held) → None ≡ client_of room.thread → room ≡ old → client_of old.thread ≡ None
left_at room old none same = sym (none ∙ ap (λ (h : Held). client_of h.thread) same)

pub same_at : (room old : Held) → room ≡ old → room.thread ≡ old.thread
same_at room old same = ap (λ (h : Held). h.thread) same
