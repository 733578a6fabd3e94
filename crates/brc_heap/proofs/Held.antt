-- Where every thread is gathered, each live object is held by the globals or by a live object, and blocks show what was
-- put home.
use Rattle.std.proofs.Common.{◌≡◌, ◌≢◌, ℕ, suc, ◌<◌, ◌≤◌, ◌==◌, ◌||◌, ◌⊎◌, not, Bool, true, false, if◌then◌else◌, pos}
use Rattle.std.proofs.Common.{List, [], ◌∷◌, length, get_or, Option, None, refl, sym, ◌∙◌, ap, inl, inr, arith}
use Rattle.std.specs.Prelude.{sum_by}
use Rattle.std.proofs.lemmas.Bool.{cases_eq, cases_lt, cases_Bool, le-ltb, ltb-false, and_parts, true≢false}
use Rattle.std.specs.Cmp.Derive.{both_true}
use Rattle.std.proofs.lemmas.List.Sums.{sum_by-cons}
use Rattle.brc_words.specs.declared.limits.TheConstants.{FIRST_MORTAL, GLOBALS}
use Rattle.brc_count.specs.law.declared.world.row.Hand.{Hand}
use Rattle.brc_count.specs.law.declared.world.row.Row.{Row}
use Rattle.brc_count.specs.law.world.Lists.{one, times, names, entry_times, bit_of, place_at}
use Rattle.brc_count.specs.law.world.Heap.{Heap, cell_at, entries_at, frame_at, is_immortal, no_row}
use Rattle.brc_count.specs.law.world.Holding.{Headline, lives, lives_at, holders_of, buries, carries, total_of}
use Rattle.brc_count.specs.law.world.Sound.{IsSound, held, in_entries}
use Rattle.brc_count.specs.law.world.Runs.{IsReached}
use Rattle.brc_count.proofs.law.world.Reached.{reached_sound}
use Rattle.brc_report.specs.Holding.{has}
use Rattle.brc_thread.specs.Emptied.{AllGathered}
use Rattle.brc_thread.proofs.At_Home.{IsIdle, no_bits, none_in}

-- nobody buries anything, so each live object has a holder
not_buried : (h : Heap) (c t : ℕ) → IsIdle h t → buries h c t ≡ false
not_buried h c t idle = rw (idle.hand) rw (idle.worklist c) refl

some_holder : (h : Heap) (c : ℕ) → Headline h → ((t : ℕ) → IsIdle h t) → lives_at h c ≡ true → holders_of h c ≢ []
some_holder h c headline idle live = λ none.
    let hand = headline.in_hand c live none in
    true≢false (sym hand.1 ∙ not_buried h c hand.0 (idle hand.0))

not_empty : {X : Type 0} (xs : List X) → xs ≢ [] → 0 < length xs
not_empty [] some = absurd (some refl)
not_empty (x ∷ xs) some = omega arith

-- no place, no popped bit, no hand and no queue has it, so entries do
no_times : (frame : List (Option ℕ)) (q : ℕ) → ((k : ℕ) → place_at frame k ≡ None) → times q frame ≡ 0
no_times [] q none = refl
no_times (x ∷ frame) q none =
    let first : one (names q x) ≡ 0 = ap (λ o. one (names q o)) (none 0) in
    omega (arith, sum_by-cons (λ (y : Option ℕ). one (names q y)) x frame, first, no_times frame q (λ k. none (suc k)))

pos_same : {m n : ℕ} → pos m ≡ pos n → m ≡ n
pos_same same = cc

in_some_entries : (h : Heap) (q : ℕ) → IsReached h → Headline h → AllGathered h → ((t : ℕ) → IsIdle h t)
    → lives_at h q ≡ true → 0 < in_entries h q
in_some_entries h q reached headline all idle live =
    let sound : IsSound h = reached_sound h reached in
    let parts = and_parts _ _ live in
    let mortal : FIRST_MORTAL ≤ q = ltb-false q FIRST_MORTAL (not_not (is_immortal q) parts.0) in
    let total : pos (length (holders_of h q)) ≡ pos (held h q) =
    sym (headline.counted q live) ∙ sym (ap (λ b. if b then total_of (cell_at h q) else pos 0) parts.1)
    ∙ sound.counted q mortal in
    omega (
      arith,
      pos_same total,
      not_empty (holders_of h q) (some_holder h q headline idle live),
      none_in (times q) [] h.frames (λ t. no_times (frame_at h t) q (idle t).frame),
      none_in (λ (words : List ℕ). bit_of words q) [] h.popped (λ t. (no_bits h t q reached all mortal parts.1).popped),
      none_in (λ (words : List ℕ). bit_of words q) [] h.queues (λ t. (no_bits h t q reached all mortal parts.1).queue),
      none_in (λ (row : Row). one (carries q row.hand)) no_row h.rows
          (λ t. ap (λ (hand : Hand). one (carries q hand)) (idle t).hand),
    )
  where
    not_not : (b : Bool) → not b ≡ true → b ≡ false
    not_not true is = absurd (true≢false (sym is))
    not_not false is = refl

-- an entry that is counted is among the entries of some cell
some_among : (entries : List ℕ) (q : ℕ) → 0 < entry_times q entries → has entries q ≡ true
some_among [] q some = absurd (omega (arith, some))
some_among (x ∷ entries) q some = elim (cases_Bool (x == q)) [
  | inl here ↦ ap (λ b. b || has entries q) here
  | inr other ↦ ap (λ b. b || has entries q) other
      ∙ some_among entries q (omega (arith, some, ap one other, sum_by-cons (λ (y : ℕ). one (y == q)) x entries))
]

pub record HeldBy (lists : List (List ℕ)) (q : ℕ) : Type 0 where
  pub cell : ℕ
  pub inside : cell < length lists
  pub among : has (get_or lists cell []) q ≡ true

some_list : (lists : List (List ℕ)) (q : ℕ) → 0 < sum_by (entry_times q) lists → HeldBy lists q
some_list [] q some = absurd (omega (arith, some))
some_list (entries ∷ lists) q some = elim (cases_lt 0 (entry_times q entries)) [
  | inl here ↦ record { cell = 0; inside = omega arith; among = some_among entries q here }
  | inr none ↦
      let later = some_list lists q (omega (arith, some, none, sum_by-cons (entry_times q) entries lists)) in
      record { cell = suc later.cell; inside = omega (arith, later.inside); among = later.among }
]

pub held_by_entry : (h : Heap) (q : ℕ) → IsReached h → Headline h → AllGathered h → ((t : ℕ) → IsIdle h t)
    → lives_at h q ≡ true → HeldBy h.entries q
held_by_entry h q reached headline all idle live =
    some_list h.entries q (in_some_entries h q reached headline all idle live)

-- who holds something is the globals or lives
pub holder_used : (h : Heap) (d q : ℕ) → IsReached h → has (entries_at h d) q ≡ true
    → (d ≡ GLOBALS) ⊎ (lives_at h d ≡ true)
holder_used h d q reached among = elim (cases_lt d FIRST_MORTAL) [
  | inl low ↦ elim (cases_eq d GLOBALS) [
    | inl globals ↦ inl globals
    | inr other ↦ absurd (bare (((reached_sound h reached).immortals d low).empty other))
  ]
  | inr high ↦ elim (cases_Bool (lives (cell_at h d).owner)) [
    | inl live ↦ inr (both_true (ap not (le-ltb d FIRST_MORTAL high)) live)
    | inr dead ↦ absurd (bare (((reached_sound h reached).cells d high).dead_empty dead))
  ]
]
  where
    bare : entries_at h d ≡ [] → ⊥
    bare none = true≢false (sym among ∙ ap (λ (w : List ℕ). has w q) none)
