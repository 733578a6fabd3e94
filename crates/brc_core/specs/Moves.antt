-- What an event is to the holder map of the world.
use Rattle.law.specs.declared.world.event.Event.{Event}
use Rattle.law.specs.world.Heap.{Heap}
use Rattle.law.specs.moves.Moves.{MakesMoves, map_of, moves_by}

-- the event's moves lead from the one world's map to the other's, each allowed where it is made
abbrev pub MovesOn : Heap → Event → Heap → Type 0
MovesOn old e new = MakesMoves {A = Unit {0}} (map_of old) (moves_by old e) (map_of new)
