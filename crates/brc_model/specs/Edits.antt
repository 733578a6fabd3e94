-- What the program does to its list of facts.
use Rattle.std.specs.Prelude.{ℕ, ◌==◌, ◌&&◌, not, nat_lt, if◌then◌else◌, Bool, true, cond, List, [], ◌∷◌, ◌++◌, map}
use Rattle.std.specs.List.{filter}
use Rattle.brc_words.specs.declared.kind.Kind.{Kind}
use Rattle.brc_model.specs.declared.holder.Holder.{Holder}
use Rattle.brc_model.specs.declared.moves.Handover.{Handover}
use Rattle.brc_model.specs.declared.fact.Fact.{Fact}
use Rattle.brc_model.specs.declared.fact.Fact.TheVariants.{Lives, Holds, Contains}
use Rattle.brc_model.specs.Holders.{has}
use Rattle.brc_words.specs.declared.limits.TheConstants.{FIRST_MORTAL}
use Rattle.brc_model.specs.Facts.{says_lives, says_held, map_of}
use Rattle.brc_model.specs.Tests.{is_no_entry, test_may_hold}

-- the fact speaks of the object, its holders or its entries
abbrev pub is_about : ℕ → Fact → Bool
is_about c (Lives object kind) = c == object
is_about c (Holds object holder) = c == object
is_about c (Contains cell object) = c == cell

-- an object begins with one holder, whatever was said of its cell before
abbrev pub begun : List Fact → ℕ → Kind → Holder → List Fact
begun facts c kind holder = filter (λ f. not (is_about c f)) facts ++ Lives c kind ∷ Holds c holder ∷ []

abbrev pub ended : List Fact → ℕ → List Fact
ended facts c = filter (λ f. not (says_lives c f)) facts

abbrev pub without_hold : List Fact → ℕ → Holder → List Fact
without_hold facts c holder = filter (λ f. not (says_held c holder f)) facts

-- the fact with the one holder exchanged for the other
abbrev pub replaced : ℕ → Holder → Holder → Fact → Fact
replaced c from_holder to_holder f = cond (says_held c from_holder f) (Holds c to_holder) f

abbrev pub handed_fact : Handover → Fact → Fact
handed_fact x = replaced x.object x.«from» x.to

abbrev pub test_hand : List Fact → Handover → Bool
test_hand facts x =
    is_no_entry x.«from»
    && has (map_of facts) x.object x.«from»
    && not (has (map_of facts) x.object x.to)
    && test_may_hold facts x.object x.to

-- each handover is allowed after those before it
abbrev pub test_hand_all : List Fact → List Handover → Bool
test_hand_all facts [] = true
test_hand_all facts (x ∷ xs) = test_hand facts x && test_hand_all (map (handed_fact x) facts) xs

abbrev pub hand_all : List Fact → List Handover → List Fact
hand_all facts [] = facts
hand_all facts (x ∷ xs) = hand_all (map (handed_fact x) facts) xs

-- the place of a frame no longer holds the cell, which it never did if that is immortal
abbrev pub left : List Fact → ℕ → Holder → List Fact
left facts cell frame = if nat_lt cell FIRST_MORTAL then facts else without_hold facts cell frame

-- the place of a frame holds the cell, which an immortal has no need of
abbrev pub come : List Fact → ℕ → Holder → List Fact
come facts cell frame = if nat_lt cell FIRST_MORTAL then facts else facts ++ Holds cell frame ∷ []
