-- A reason in the thread's own part is so, and one is told exactly where the own part isn't as the step needs it.
use Rattle.std.proofs.Common.{◌≡◌, ℕ, ◌==◌, ◌&&◌, ◌||◌, not, Bool, true, false, if◌then◌else◌, Option, Some, None}
use Rattle.std.proofs.Common.{List, length, is_none, is_some, refl, ap}
use Rattle.std.specs.Prelude.{IfSome, nat_lt}
use Rattle.std.proofs.lemmas.Bool.{ltb-false, eqb-true}
use Rattle.brc_words.specs.declared.limits.TheConstants.{MOST_ENTRIES, MOST_BIRTHS, MOST_PLACES}
use Rattle.brc_words.specs.Kinds.{is_mortal}
use Rattle.law.specs.declared.world.event.Step.{Step}
use Rattle.law.specs.declared.world.event.Step.TheVariants.{Claim, Birth, LocalUp, Free, Untie, SharedUp, LastDown}
use Rattle.law.specs.declared.world.event.Step.TheVariants.{Drain, Close, Unlock, Offer, Reopen}
use Rattle.law.specs.declared.world.event.LastDropped.TheVariants as lasts
use Rattle.law.specs.declared.world.event.Change.{Change}
use Rattle.law.specs.declared.world.event.Change.TheVariants as changes
use Rattle.law.specs.declared.world.row.Hand.{Hand}
use Rattle.law.specs.declared.world.row.Hand.TheVariants as hands
use Rattle.law.specs.world.Lists.{place_at, is_marked, bit_of, is_bare, is_blank, is_unmarked}
use Rattle.law.specs.world.Heap.{Heap, entries_at, row_at, frame_at, popped_at, worklist_at, words_for}
use Rattle.law.specs.world.Steps.{is_empty, is_closed, closes_next, opens_next, untie_ok, is_unlocked, may_begin_closing}
use Rattle.law.specs.world.Steps.{change_ok, own_ok_at}
use Rattle.brc_state.specs.OwnPart.{locked_entries_at}
use Rattle.brc_trace.specs.Lowest.{lowest_at}
use Rattle.brc_trace.specs.OwnReasons.{unless, IsOwnSo, vacancy, place_reason, given_reason, change_reason, free_reason}
use Rattle.brc_trace.specs.OwnReasons.{word_reason, unclosed, unopened, close_reason, reopen_reason, own_reason}
use Rattle.brc_trace.specs.OwnReasons.{gather_reason}
use Rattle.brc_trace.specs.declared.lowest.SoughtThread.TheVariants as sought
use Rattle.brc_trace.specs.declared.own_reasons.OwnReason.{OwnReason}
use Rattle.brc_trace.specs.declared.own_reasons.OwnReason.TheVariants as owns
use Rattle.brc_trace.proofs.LowestLaws.{found_is_sought}
use Rattle.brc_trace.proofs.ReasonLaws.{and_assoc, and_true, not_false, is_none-unless, unless_so, lowest_so}

-- ---- where one is told

change_none : (h : Heap) (t : ℕ) (change : Change)
    → is_none (change_reason h t change) ≡ change_ok (row_at h t).locked (frame_at h t) (locked_entries_at h t) change
change_none h t changes.Keep = refl
change_none h t (changes.Put k) = simp (is_none-unless, and_true, and_assoc)
change_none h t (changes.Take i k) = simp (is_none-unless, and_true, and_assoc)
change_none h t (changes.Swap i k) = simp (is_none-unless, and_true, and_assoc)

pub own_none : (h : Heap) (t : ℕ) (s : Step) → is_none (own_reason h t s) ≡ own_ok_at h t s
own_none h t (Claim c) = simp (is_none-unless, and_true)
own_none h t (Birth c kind k) = simp (is_none-unless, and_true)
own_none h t (LocalUp source k) = simp (is_none-unless, and_true)
own_none h t (Free c) = simp (is_none-unless, and_true)
own_none h t (Untie c) = simp (is_none-unless, and_true)
own_none h t (SharedUp source k) = simp (is_none-unless, and_true)
own_none h t (LastDown (lasts.Popped c)) = simp (is_none-unless, and_true)
own_none h t (Drain k) = simp (is_none-unless, and_true)
own_none h t (Close k) = simp (is_none-unless, and_true, and_assoc)
own_none h t (Unlock change) = change_none h t change
own_none h t (Offer c) = simp (is_none-unless, and_true)
own_none h t (Reopen k) = simp (is_none-unless, and_true)
own_none h t _ = refl

pub gather_none : (h : Heap) (u : ℕ)
    → is_none (gather_reason h u) ≡ (is_blank (popped_at h u) && is_unmarked (worklist_at h u))
gather_none h u = simp (is_none-unless, and_true)

-- ---- what is told of places

some_there : (x : Option ℕ) → is_none x ≡ false → is_some x ≡ true
some_there None is = absurd cc
some_there (Some c) is = refl

vacancy_so : (h : Heap) (t k : ℕ) (next : Option OwnReason) → IfSome next (IsOwnSo h t)
    → IfSome (vacancy h t k next) (IsOwnSo h t)
vacancy_so h t k next rest =
    unless_so (IsOwnSo h t) (nat_lt k MOST_PLACES) (owns.PlaceTooHigh k)
    (unless (is_none (place_at (frame_at h t) k)) (owns.PlaceFilled k) next)
    (λ is. ltb-false k MOST_PLACES is)
    (unless_so (IsOwnSo h t) (is_none (place_at (frame_at h t) k)) (owns.PlaceFilled k) next
    (λ is. some_there (place_at (frame_at h t) k) is) rest)

locked_there : (locked : Option ℕ) (k : ℕ) → is_unlocked locked k ≡ false → locked ≡ Some k
locked_there None k is = absurd cc
locked_there (Some j) k is = ap (λ (n : ℕ). Some n) (eqb-true j k (not_false (j == k) is))

place_so : (h : Heap) (t k : ℕ) → IfSome (place_reason h t k) (IsOwnSo h t)
place_so h t k =
    unless_so (IsOwnSo h t) (is_unlocked (row_at h t).locked k) (owns.PlaceLocked k) None
    (λ is. locked_there (row_at h t).locked k is) tt

given_so : (h : Heap) (t k : ℕ) → IfSome (given_reason h t k) (IsOwnSo h t)
given_so h t k =
    unless_so (IsOwnSo h t) (is_some (place_at (frame_at h t) k)) (owns.PlaceVacant k) (place_reason h t k)
    (λ is. is) (place_so h t k)

entry_so : (h : Heap) (t i : ℕ) (next : Option OwnReason) → IfSome next (IsOwnSo h t)
    → IfSome (unless (nat_lt i (length (locked_entries_at h t))) (owns.NoEntry i) next) (IsOwnSo h t)
entry_so h t i next rest =
    unless_so (IsOwnSo h t) (nat_lt i (length (locked_entries_at h t))) (owns.NoEntry i) next
    (λ is. ltb-false i (length (locked_entries_at h t)) is) rest

change_so : (h : Heap) (t : ℕ) (change : Change) → IfSome (change_reason h t change) (IsOwnSo h t)
change_so h t changes.Keep = tt
change_so h t (changes.Put k) =
    unless_so (IsOwnSo h t) (nat_lt (length (locked_entries_at h t)) MOST_ENTRIES) owns.ManyEntries (given_reason h t k)
    (λ is. ltb-false (length (locked_entries_at h t)) MOST_ENTRIES is) (given_so h t k)
change_so h t (changes.Take i k) =
    entry_so h t i (vacancy h t k (place_reason h t k)) (vacancy_so h t k (place_reason h t k) (place_so h t k))
change_so h t (changes.Swap i k) = entry_so h t i (given_reason h t k) (given_so h t k)

-- ---- of piles and queue words

free_so : (h : Heap) (t c : ℕ) → IfSome (free_reason h t c) (IsOwnSo h t)
free_so h t c =
    unless_so (IsOwnSo h t) (is_marked (worklist_at h t) c) (owns.NotOnWorklist c)
    (unless (is_empty (entries_at h c)) (owns.HasEntries c) None) (λ is. is)
    (unless_so (IsOwnSo h t) (is_empty (entries_at h c)) (owns.HasEntries c) None (λ is. is) tt)

unpopped : (hand : Hand) (popped : List ℕ) (c : ℕ) → untie_ok hand popped c ≡ false → (bit_of popped c == 1) ≡ false
unpopped hands.Free popped c is = is
unpopped (hands.Busy phase d) popped c is = absurd cc

word_so : (h : Heap) (t k : ℕ) (next : Option OwnReason) → IfSome next (IsOwnSo h t)
    → IfSome (word_reason h k next) (IsOwnSo h t)
word_so h t k next rest =
    unless_so (IsOwnSo h t) (nat_lt k (words_for (length h.cells))) (owns.NoWord k) next
    (λ is. ltb-false k (words_for (length h.cells)) is) rest

-- one of two reasons, by a test
either_so : (P : OwnReason → Type 0) (b : Bool) (one other : OwnReason) → (b ≡ true → P one) → (b ≡ false → P other)
    → P (if b then one else other)
either_so P true one other first second = first refl
either_so P false one other first second = second refl

unclosed_so : (h : Heap) (t k : ℕ) → closes_next (row_at h t).stage k ≡ false
    → IsOwnSo h t (unclosed (row_at h t).stage k)
unclosed_so h t k is =
    either_so (IsOwnSo h t) (is_closed (row_at h t).stage k) (owns.WordClosed k) (owns.NotNextToClose k) (λ closed. closed)
    (λ open_there. is)

unopened_so : (h : Heap) (t k : ℕ) → opens_next (row_at h t).stage k ≡ false
    → IsOwnSo h t (unopened (row_at h t).stage k)
unopened_so h t k is =
    either_so (IsOwnSo h t) (is_closed (row_at h t).stage k) (owns.NotNextToOpen k) (owns.WordOpen k) (λ closed. is)
    (λ open_there. open_there)

filled_so : (h : Heap) (t : ℕ) → is_bare (frame_at h t) ≡ false
    → IsOwnSo h t (owns.StillFilled (lowest_at h t sought.Filled))
filled_so h t is =
    lowest_so (λ n. is_some (place_at (frame_at h t) n) ≡ true) (is_bare (frame_at h t) ≡ false)
    (lowest_at h t sought.Filled) (found_is_sought h t sought.Filled (length (frame_at h t))) is

popped_so : (h : Heap) (t : ℕ) → is_blank (popped_at h t) ≡ false
    → IsOwnSo h t (owns.StillPopped (lowest_at h t sought.Popped))
popped_so h t is =
    lowest_so (λ n. (bit_of (popped_at h t) n == 1) ≡ true) (is_blank (popped_at h t) ≡ false)
    (lowest_at h t sought.Popped) (found_is_sought h t sought.Popped (length h.cells)) is

work_so : (h : Heap) (t : ℕ) → is_unmarked (worklist_at h t) ≡ false
    → IsOwnSo h t (owns.StillWork (lowest_at h t sought.Work))
work_so h t is =
    lowest_so (λ n. is_marked (worklist_at h t) n ≡ true) (is_unmarked (worklist_at h t) ≡ false)
    (lowest_at h t sought.Work) (found_is_sought h t sought.Work (length h.cells)) is

not_blank : (k : ℕ) (blank : Bool) → (nat_lt 0 k || blank) ≡ false → blank ≡ false
not_blank k blank is = by_first (nat_lt 0 k) is
  where
    by_first : (b : Bool) → (b || blank) ≡ false → blank ≡ false
    by_first true fails = absurd cc
    by_first false fails = fails

close_so : (h : Heap) (t k : ℕ) → IfSome (close_reason h t k) (IsOwnSo h t)
close_so h t k =
    let last = unless (may_begin_closing (popped_at h t) k) (owns.StillPopped (lowest_at h t sought.Popped)) None in
    let third = unless (is_bare (frame_at h t)) (owns.StillFilled (lowest_at h t sought.Filled)) last in
    word_so h t k (unless (closes_next (row_at h t).stage k) (unclosed (row_at h t).stage k) third)
    (unless_so (IsOwnSo h t) (closes_next (row_at h t).stage k) (unclosed (row_at h t).stage k) third (unclosed_so h t k)
    (unless_so (IsOwnSo h t) (is_bare (frame_at h t)) (owns.StillFilled (lowest_at h t sought.Filled)) last
    (filled_so h t)
    (unless_so (IsOwnSo h t) (may_begin_closing (popped_at h t) k) (owns.StillPopped (lowest_at h t sought.Popped)) None
    (λ is. popped_so h t (not_blank k (is_blank (popped_at h t)) is)) tt)))

reopen_so : (h : Heap) (t k : ℕ) → IfSome (reopen_reason h t k) (IsOwnSo h t)
reopen_so h t k =
    word_so h t k (unless (opens_next (row_at h t).stage k) (unopened (row_at h t).stage k) None)
    (unless_so (IsOwnSo h t) (opens_next (row_at h t).stage k) (unopened (row_at h t).stage k) None (unopened_so h t k)
    tt)

-- ---- of any step

pub own_so : (h : Heap) (t : ℕ) (s : Step) → IfSome (own_reason h t s) (IsOwnSo h t)
own_so h t (Claim c) =
    unless_so (IsOwnSo h t) (nat_lt (row_at h t).allocs MOST_BIRTHS) owns.ManyBirths None
    (λ is. ltb-false (row_at h t).allocs MOST_BIRTHS is) tt
own_so h t (Birth c kind k) =
    unless_so (IsOwnSo h t) (is_mortal kind) (owns.ImmortalKind kind) (vacancy h t k None) (λ is. is)
    (vacancy_so h t k None tt)
own_so h t (LocalUp source k) = vacancy_so h t k None tt
own_so h t (Free c) = free_so h t c
own_so h t (Untie c) =
    unless_so (IsOwnSo h t) (untie_ok (row_at h t).hand (popped_at h t) c) (owns.NotPopped c) None
    (λ is. unpopped (row_at h t).hand (popped_at h t) c is) tt
own_so h t (SharedUp source k) = vacancy_so h t k None tt
own_so h t (LastDown (lasts.Popped c)) =
    unless_so (IsOwnSo h t) (bit_of (popped_at h t) c == 1) (owns.NotPopped c) None (λ is. is) tt
own_so h t (Drain k) = word_so h t k None tt
own_so h t (Close k) = close_so h t k
own_so h t (Unlock change) = change_so h t change
own_so h t (Offer c) =
    unless_so (IsOwnSo h t) (not (is_marked (worklist_at h t) c)) (owns.OnWorklist c) None
    (λ is. not_false (is_marked (worklist_at h t) c) is) tt
own_so h t (Reopen k) = reopen_so h t k
own_so h t _ = tt

pub gather_so : (h : Heap) (u : ℕ) → IfSome (gather_reason h u) (IsOwnSo h u)
gather_so h u =
    let last = unless (is_unmarked (worklist_at h u)) (owns.StillWork (lowest_at h u sought.Work)) None in
    unless_so (IsOwnSo h u) (is_blank (popped_at h u)) (owns.StillPopped (lowest_at h u sought.Popped)) last
    (popped_so h u)
    (unless_so (IsOwnSo h u) (is_unmarked (worklist_at h u)) (owns.StillWork (lowest_at h u sought.Work)) None
    (work_so h u) tt)
