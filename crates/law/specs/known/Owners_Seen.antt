-- The threads that a thread has found in owner words: they are registered, so it can tell them something.
use Rattle.std.specs.Prelude.{ℕ, ◌==◌, ◌&&◌, ◌||◌, Bool, true, false, List, [], ◌∷◌}
use Rattle.law.specs.known.Items.{Item, Stepped, Loaded, Lost, Word, Of, Owner}

abbrev pub is_owner_word : Word → Bool
is_owner_word (Of Owner c) = true
is_owner_word _ = false

-- a look at an owner word found this number
abbrev pub tells_owner : ℕ → Item → Bool
tells_owner q (Stepped s number entries) = false
tells_owner q (Loaded word number) = is_owner_word word && (number == q)
tells_owner q (Lost word number) = is_owner_word word && (number == q)

abbrev pub has_seen_owner : List Item → ℕ → Bool
has_seen_owner [] q = false
has_seen_owner (x ∷ items) q = tells_owner q x || has_seen_owner items q
