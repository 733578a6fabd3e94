-- Many handles in one: which of them are there, and that a frame holds them.
use Rattle.std.specs.Prelude.{◌≡◌, ◌≢◌, ◌+◌, ℕ, List, [], ◌∷◌, ◌++◌, Option, Some, None, IfSome, ◌⊎◌}
use Rattle.std.proofs.Common.{get_or}
use Rattle.brc_count.specs.law.declared.world.event.Source.TheVariants as sources
use Rattle.brc_count.specs.Frames.{FrameSeen, HandleSeen, Owns, GivenHandle, place_seen}

-- the handle in a place of the list, if one is there
abbrev pub slot : List (Option HandleSeen) → ℕ → Option HandleSeen
slot handles k = get_or handles k None

-- how many are there
abbrev pub filled : List (Option HandleSeen) → ℕ
filled [] = 0
filled (None ∷ handles) = filled handles
filled (Some h ∷ handles) = filled handles + 1

-- the handle is of another place of the frame than each that is there
abbrev pub IsApart : HandleSeen → List (Option HandleSeen) → Type 0
IsApart handle handles = (k : ℕ) → IfSome (slot handles k) (λ h. handle.place ≢ h.place)

-- no two that are there are of one place of the frame
abbrev pub AreApart : List (Option HandleSeen) → Type 0
AreApart handles = (j k : ℕ) (g h : HandleSeen) → j ≢ k → slot handles j ≡ Some g → slot handles k ≡ Some h
    → g.place ≢ h.place

-- A handle came in: there is one more, and each place has what it had, or this one.
pub record ComesIn (old new : List (Option HandleSeen)) (handle : HandleSeen) : Type 0 where
  pub count : filled new ≡ filled old + 1
  pub places : (k : ℕ) → (slot new k ≡ slot old k) ⊎ (slot new k ≡ Some handle)

-- A handle came out of a place: there is one fewer, each place has what it had, or none, and this one is apart from
-- those that are there still.
pub record ComesOut (old new : List (Option HandleSeen)) (i : ℕ) (handle : HandleSeen) : Type 0 where
  pub count : filled new + 1 ≡ filled old
  pub was : slot old i ≡ Some handle
  pub places : (k : ℕ) → (slot new k ≡ slot old k) ⊎ (slot new k ≡ None)
  pub apart : IsApart handle new

-- A handle came in and another out of its place: there are as many, each place has what it had, or the one that came,
-- and the one that went is apart from those that are there.
pub record Exchanges (old new : List (Option HandleSeen)) (i : ℕ) (handle gone : HandleSeen) : Type 0 where
  pub count : filled new ≡ filled old
  pub was : slot old i ≡ Some gone
  pub places : (k : ℕ) → (slot new k ≡ slot old k) ⊎ (slot new k ≡ Some handle)
  pub apart : IsApart gone new

-- Two places have what the other had: there are as many handles, and every other place has what it had.
pub record Swapped (old new : List (Option HandleSeen)) (i j : ℕ) : Type 0 where
  pub count : filled new ≡ filled old
  pub first : slot new i ≡ slot old j
  pub second : slot new j ≡ slot old i
  pub rest : (k : ℕ) → k ≢ i → k ≢ j → slot new k ≡ slot old k

-- no handle is there
pub record IsBare (handles : List (Option HandleSeen)) : Type 0 where
  pub count : filled handles ≡ 0
  pub places : (k : ℕ) → slot handles k ≡ None

module _ {A : Type 0} where
  -- the frame owns each that is there
  abbrev pub OwnsEach : FrameSeen A → List (Option HandleSeen) → Type 0
  OwnsEach frame handles = (k : ℕ) → IfSome (slot handles k) (Owns frame)

  -- the frame owns each that is there, and so many others
  pub record Holds (others : ℕ) (frame : FrameSeen A) (handles : List (Option HandleSeen)) : Type 0 where
    pub owned : OwnsEach frame handles
    pub count : frame.len ≡ others + filled handles

  -- One more reference to the object of a place, in a new handle after all others.
  pub record Retains (old new : FrameSeen A) (before after : List (Option HandleSeen)) (i : ℕ) : Type 0 where
    pub given : HandleSeen
    pub pushed : after ≡ before ++ Some given ∷ []
    pub counted : (h : HandleSeen) (c : ℕ) → slot before i ≡ Some h
        → place_seen old.heap.cells old.seat.log h.place ≡ Some c
        → GivenHandle old new (sources.Frame h.place) c given
