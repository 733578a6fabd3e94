-- Numbers for the places of a frame: what a number says, and how it is spelled.
use Rattle.std.specs.Prelude.{◌≡◌, ◌≢◌, ◌+◌, ◌*◌, ◌/◌, ◌%◌, ℕ, List, get_or}
use Rattle.brc_words.specs.Faults.{number_of}
use Rattle.brc_thread.specs.Counting.{registrations}
use Rattle.brc_heap.specs.Desk.{SightSeen}
use Rattle.brc_client.specs.declared.status.Status.{Status}
use Rattle.brc_client.specs.declared.status.Status.TheVariants as statuses

-- a status by its number, as a program in C sees it
abbrev pub status_number : Status → ℕ
status_number (statuses.Fault fault) = number_of fault
status_number statuses.Stale = 64
status_number statuses.Foreign = 65
status_number statuses.Same = 66
status_number statuses.Gone = 67
status_number statuses.NotText = 68
status_number statuses.NotValue = 69

-- a registration: what the stamps of its heap begin with, and the heap's root as it was found and left
pub record StampSeen : Type 0 where
  pub first : ℕ
  pub registration : SightSeen

-- the stamp of a registration, and which registration it is; and how often each place of its frame was vacated
pub record NumbersSeen : Type 0 where
  pub stamp : ℕ
  pub of : StampSeen
  pub uses : List ℕ

-- the stamp of a registration, before which so many were at its heap: 1 to 65,535, from the heap's first on
abbrev pub stamp_of : ℕ → ℕ → ℕ
stamp_of first before = (first + before) % 65535 + 1

-- it is that of the registration: so many were before it as the heap's root had registered when it was found
abbrev pub IsStamped : ℕ → StampSeen → Type 0
IsStamped stamp of = stamp ≡ stamp_of of.first (registrations of.registration.found.view)

-- A number is of 64 bits: the stamp has 16, how often the place was vacated 32, and the place 16.
abbrev pub number_at : NumbersSeen → ℕ → ℕ
number_at numbers place = numbers.stamp * 281474976710656 + get_or numbers.uses place 0 * 65536 + place

abbrev pub place_in : ℕ → ℕ
place_in number = number % 65536

abbrev pub stamp_in : ℕ → ℕ
stamp_in number = number / 281474976710656

abbrev pub uses_in : ℕ → ℕ
uses_in number = number / 65536 % 4294967296

-- vacated once more: after 2^32 times it begins again at 0
abbrev pub once_more : ℕ → ℕ
once_more uses = (uses + 1) % 4294967296

-- why a number is the one of no place now
abbrev pub MisSpelt : NumbersSeen → ℕ → Status → Type 0
MisSpelt numbers number statuses.Foreign = stamp_in number ≢ numbers.stamp
MisSpelt numbers number statuses.Stale =
    (stamp_in number ≡ numbers.stamp) × (number ≢ number_at numbers (place_in number))
MisSpelt numbers number _ = ⊥
