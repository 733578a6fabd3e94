use Rattle.std.proofs.Common.{◌≡◌, ◌≤◌, vec_capacity}
use Rattle.brc_words.specs.declared.limits.TheConstants.{MOST_PLACES}
use Rattle.brc_count.proofs.Place_Lists.{Growing}
use Rattle.brc_count.proofs.frame_places.Places.grow.Given as goal

abbrev pub invariant-loop-at : goal.invariant-loop-at
invariant-loop-at g l =
    Growing l.initial.self-inside.slots.items l.self-inside.slots.items l.self-inside.next l.self-inside.len l.at
    × (l.self-inside.next ≡ l.initial.self-inside.next) × (l.self-inside.len ≡ l.initial.self-inside.len)
    × (l.room ≤ MOST_PLACES) × (l.room ≤ vec_capacity l.self-inside.slots)
