-- Where a handle goes that a call gives, and what a call by place comes to.
use Rattle.std.specs.Prelude.{◌≡◌, ◌≢◌, ◌<◌, ◌≤◌, ◌⊎◌, ⊤, ℕ, List, [], ◌∷◌, ◌++◌, Option, Some, None, Result, Ok, Err, length}
use Rattle.std.specs.Prelude.{MatchOption, IsSomeAnd, slice_set}
use Rattle.brc_words.specs.declared.fault.Fault.{Fault}
use Rattle.brc_words.specs.declared.fault.Fault.TheVariants as faults
use Rattle.brc_count.specs.declared.handed.HandedBack.{HandedBack}
use Rattle.brc_count.specs.Frames.{FrameSeen, HandleSeen}
use Rattle.brc_count.specs.Owned.{Loses}
use Rattle.brc_handles.specs.Handles.{slot}
use Rattle.brc_places.specs.declared.placing.To.{To}
use Rattle.brc_places.specs.declared.placing.To.TheVariants as tos

-- the place that is to be filled is there; a new one always can be asked for
abbrev pub IsThere : To → List (Option HandleSeen) → Type 0
IsThere tos.Last handles = ⊤
IsThere (tos.Place i) handles = i < length handles

-- ---- a place, before the call that fills it

-- a new place after all others, which is empty; or the one that was there, and no place more
abbrev pub OpenedAt : To → List (Option HandleSeen) → List (Option HandleSeen) → ℕ → Type 0
OpenedAt tos.Last before after index = (after ≡ before ++ None ∷ []) × (index ≡ length before)
OpenedAt (tos.Place i) before after index = (after ≡ before) × (index ≡ i)

-- The place that is to be filled is there, and this is its number. Each place has what it had.
pub record Opened (to : To) (before after : List (Option HandleSeen)) (index : ℕ) : Type 0 where
  pub at : OpenedAt to before after index
  pub inside : index < length after
  pub same : (k : ℕ) → slot after k ≡ slot before k

-- why it isn't: there is no memory for a new one, or no such place
abbrev pub NotOpened : To → List (Option HandleSeen) → Fault → Type 0
NotOpened tos.Last before fault = fault ≡ faults.OutOfMemory
NotOpened (tos.Place i) before fault = (fault ≡ faults.NoSuchPlace) × (length before ≤ i)

-- where a new place was opened, the last one is empty
abbrev pub IsOpen : To → List (Option HandleSeen) → Type 0
IsOpen tos.Last handles = (before : List (Option HandleSeen)) × (handles ≡ before ++ None ∷ [])
IsOpen (tos.Place i) handles = ⊤

-- that one went, and no other
abbrev pub TakenOff : To → List (Option HandleSeen) → List (Option HandleSeen) → Type 0
TakenOff tos.Last before after = before ≡ after ++ None ∷ []
TakenOff (tos.Place i) before after = after ≡ before

module _ {A : Type 0} where
  -- The handle is where it was to go: in a new place after all others, or in one that was there. What was in that one is
  -- released.
  abbrev pub Placed : To → FrameSeen A → FrameSeen A → List (Option HandleSeen) → List (Option HandleSeen) → HandleSeen
      → Type 0
  Placed tos.Last old new before after given = (after ≡ before ++ Some given ∷ []) × (new ≡ old)
  Placed (tos.Place i) old new before after given =
      (after ≡ slice_set before i (Some given)) × MatchOption (slot before i) (new ≡ old) (Loses old new)

  -- ---- a call that gives a handle

  -- The call gave a handle, which is where it was to go. Between the two the frame was so.
  pub record Comes (to : To) (call : FrameSeen A → Result HandleSeen Fault → Type 0) (new : FrameSeen A)
      (before after : List (Option HandleSeen)) : Type 0 where
    pub given : HandleSeen
    pub between : FrameSeen A
    pub did : call between (Ok given)
    pub placed : Placed to between new before after given

  -- Why no handle came. The place that it was to fill isn't there, or a new one wasn't to be had: nothing was done. Or
  -- the call was refused so, and nothing else was done.
  pub data Lacks (to : To) (call : FrameSeen A → Result HandleSeen Fault → Type 0) (old new : FrameSeen A)
      (before : List (Option HandleSeen)) (fault : Fault) : Type 0 where
    NoPlace : NotOpened to before fault → new ≡ old → Lacks to call old new before fault
    CallRefused : IsThere to before → call new (Err fault) → Lacks to call old new before fault

  -- the same of a call on the object of the handle in place i, which is there
  abbrev pub GivesTo : To → (FrameSeen A → ℕ → Result HandleSeen Fault → Type 0) → FrameSeen A
      → List (Option HandleSeen) → List (Option HandleSeen) → ℕ → Type 0
  GivesTo to call new before after i =
      IsSomeAnd (slot before i) (λ object. Comes to (λ mid. call mid object.place) new before after)

  -- no handle is there, and nothing was done; or it is, and nothing came
  abbrev pub GivesNot : To → (FrameSeen A → ℕ → Result HandleSeen Fault → Type 0) → FrameSeen A → FrameSeen A
      → List (Option HandleSeen) → ℕ → Fault → Type 0
  GivesNot to call old new before i fault =
      MatchOption (slot before i) ((fault ≡ faults.NoSuchPlace) × (new ≡ old))
      (λ object. Lacks to (λ mid. call mid object.place) old new before fault)

  -- ---- a call that takes a handle

  -- The handle of one place went by the call into the object of another's. Its place has what came out for it, or is
  -- empty.
  pub record TakesFrom (call : FrameSeen A → ℕ → HandleSeen → Result (Option HandleSeen) (HandedBack HandleSeen)
      → Type 0)
      (new : FrameSeen A) (before after : List (Option HandleSeen)) (container value : ℕ) : Type 0 where
    pub object : HandleSeen
    pub there : slot before container ≡ Some object
    pub given : HandleSeen
    pub value_there : slot before value ≡ Some given
    pub others : container ≢ value
    pub answer : Option HandleSeen
    pub did : call new object.place given (Ok answer)
    pub left : after ≡ slice_set before value answer

  -- Why it didn't. One of the two places has no handle, or they are one place: nothing was done. Or the call was
  -- refused so, and handed the value back.
  pub data TakesNot (call : FrameSeen A → ℕ → HandleSeen → Result (Option HandleSeen) (HandedBack HandleSeen) → Type 0)
      (old new : FrameSeen A) (before : List (Option HandleSeen)) (container value : ℕ) (fault : Fault) : Type 0 where
    NoHandle : fault ≡ faults.NoSuchPlace
        → (slot before value ≡ None) ⊎ (slot before container ≡ None) ⊎ (container ≡ value) → new ≡ old
        → TakesNot call old new before container value fault
    ValueRefused : (object given : HandleSeen) (handed : HandedBack HandleSeen) → slot before container ≡ Some object
        → slot before value ≡ Some given → container ≢ value → handed.fault ≡ fault → handed.value ≡ given
        → call new object.place given (Err handed) → TakesNot call old new before container value fault
