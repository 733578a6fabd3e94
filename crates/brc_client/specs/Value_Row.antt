-- The numbers of the objects among values in a row: that each names something, and none stands twice.
use Rattle.std.specs.Prelude.{◌≡◌, ◌≢◌, ◌<◌, ◌⊎◌, ℕ, List, Option, Some, get_or, length, slice_get}
use Rattle.brc_words.specs.declared.note.Note.{Note}
use Rattle.brc_count.specs.Frames.{HandleSeen}
use Rattle.brc_client.specs.declared.data.Datum.{Datum}
use Rattle.brc_client.specs.declared.data.Datum.TheVariants.{Object}
use Rattle.brc_client.specs.declared.status.Status.{Status}
use Rattle.brc_client.specs.Numbers.{NumbersSeen, number_at, place_in, uses_in}
use Rattle.brc_client.specs.Clients.{NamesOneIn, NamesNoneIn}

-- the value at the index is an object, by this number
abbrev pub HasNumber : List Datum → ℕ → ℕ → Type 0
HasNumber items at number = (note : Note) × (slice_get items at ≡ Some (Object number note))

-- each names something
abbrev pub AllNamed : List (Option HandleSeen) → NumbersSeen → List Datum → Type 0
AllNamed handles numbers items = (at number : ℕ) → HasNumber items at number → NamesOneIn handles numbers number

-- this is the first that names none, and why it names none
pub record FirstNameless (handles : List (Option HandleSeen)) (numbers : NumbersSeen) (items : List Datum) (status : Status)
    : Type 0 where
  pub at : ℕ
  pub number : ℕ
  pub has : HasNumber items at number
  pub none : NamesNoneIn handles numbers number status
  pub before : (i other : ℕ) → i < at → HasNumber items i other → NamesOneIn handles numbers other

-- none stands twice; or one does
abbrev pub NoneTwice : List Datum → Type 0
NoneTwice items = (i k number : ℕ) → i < k → HasNumber items i number → HasNumber items k number → ⊥

pub record StandsTwice (items : List Datum) : Type 0 where
  pub first : ℕ
  pub second : ℕ
  pub number : ℕ
  pub order : first < second
  pub stands : HasNumber items first number
  pub again : HasNumber items second number

-- ---- how that is found

-- each number is spelled as its place is
abbrev pub AreSpelled : NumbersSeen → List Datum → Type 0
AreSpelled numbers items = (at number : ℕ) → HasNumber items at number → number ≡ number_at numbers (place_in number)

-- a number below the index has this place
pub record IsPlace (items : List Datum) (below place : ℕ) : Type 0 where
  pub at : ℕ
  pub number : ℕ
  pub inside : at < below
  pub has : HasNumber items at number
  pub is : place_in number ≡ place

-- Below the index no number stands twice. The place of each is vacated otherwise than it was, and it was so as the number
-- says. All other places are as they were.
pub record AreMarked (items : List Datum) (below : ℕ) (was is : NumbersSeen) : Type 0 where
  pub stamp : is.stamp ≡ was.stamp
  pub of : is.of ≡ was.of
  pub len : length is.uses ≡ length was.uses
  pub uses : (place : ℕ) → ((get_or is.uses place 0 ≡ get_or was.uses place 0) × (IsPlace items below place → ⊥))
      ⊎ ((get_or is.uses place 0 ≢ get_or was.uses place 0) × IsPlace items below place)
  pub said : (at number : ℕ) → at < below → HasNumber items at number → uses_in number ≡ get_or was.uses (place_in number) 0
  pub apart : (i k number : ℕ) → i < k → k < below → HasNumber items i number → HasNumber items k number → ⊥

-- A place that is of numbers below the index is vacated as often as one of them says. All other places are as they were.
pub record Restores (items : List Datum) (below : ℕ) (was is : NumbersSeen) : Type 0 where
  pub stamp : is.stamp ≡ was.stamp
  pub of : is.of ≡ was.of
  pub len : length is.uses ≡ length was.uses
  pub uses : (place : ℕ) → ((get_or is.uses place 0 ≡ get_or was.uses place 0) × (IsPlace items below place → ⊥))
      ⊎ ((found : IsPlace items below place) × (get_or is.uses place 0 ≡ uses_in found.number))
