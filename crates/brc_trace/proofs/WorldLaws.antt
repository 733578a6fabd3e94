-- Writing the texts of numbers one after the other: one turn of such a loop.
use Rattle.std.proofs.Common.{◌≡◌, ◌∙◌, ℕ, zero, suc, ◌+◌, ◌-◌, ◌<◌, ◌≤◌, ◌==◌, Bool, true, false, if◌then◌else◌, List}
use Rattle.std.proofs.Common.{[], ◌∷◌, ◌++◌, length, Option, Result, Ok, Err, refl, sym, ap, append-nil, arith}
use Rattle.std.specs.Io.KnownBytes.{Appends}
use Rattle.brc_text.specs.Puts.{PutsText, PutsUpTo}
use Rattle.brc_words.specs.declared.fault.Fault.{Fault}
use Rattle.brc_text.proofs.PutLaws.{starts, goes_on, fails, ends}
use Rattle.law.specs.world.Heap.{Heap, popped_at, worklist_at, queue_at}
use Rattle.law.proofs.world.Bitwise.{blank_bits}
use Rattle.law.proofs.world.Queueing.{no_marks}
use Rattle.brc_text.specs.declared.token.Token.TheVariants as tokens
use Rattle.brc_text.specs.Lines.{line}
use Rattle.brc_trace.specs.declared.world_thread.Pile.{Pile}
use Rattle.brc_trace.specs.declared.world_thread.Pile.TheVariants as piles
use Rattle.brc_trace.specs.Worlds.{over, pile_word, lies_on, lying_text, is_empty_pile, pile_text}

-- the text of this number, and of those behind it
over_turn : (text : ℕ → List ℕ) (first count turns : ℕ) → turns < count
    → over text first (count - turns) ≡ text first ++ over text (first + 1) (count - (turns + 1))
unfolding over
over_turn text first count turns within =
    let step : count - turns ≡ suc (count - (turns + 1)) = omega (arith, within) in
    rw step refl

over_none : (text : ℕ → List ℕ) (first count turns : ℕ) → count ≤ turns → over text first (count - turns) ≡ []
unfolding over
over_none text first count turns past =
    let step : count - turns ≡ 0 = omega (arith, past) in
    rw step refl

-- numbers without texts
over_blank : (text : ℕ → List ℕ) (first count : ℕ) → ((n : ℕ) → text n ≡ []) → over text first count ≡ []
unfolding over
over_blank text first zero blank = refl
over_blank text first (suc count) blank = cc (blank first, over_blank text (first + 1) count blank)

-- an empty pile has no line
pub empty_pile : (h : Heap) (t : ℕ) (pile : Pile) → is_empty_pile h t pile ≡ true → pile_text h t pile ≡ []
empty_pile h t pile empty = over_blank (lying_text h t pile) 0 (length h.cells)
    (λ c. unlying h t pile c (lies_nowhere h t pile empty c))
  where
    lies_nowhere : (h : Heap) (t : ℕ) (pile : Pile) → is_empty_pile h t pile ≡ true → (c : ℕ)
        → lies_on h t pile c ≡ false
    lies_nowhere h t piles.Queued empty c = ap (λ n. n == 1) (blank_bits (queue_at h t) empty c)
    lies_nowhere h t piles.Popped empty c = ap (λ n. n == 1) (blank_bits (popped_at h t) empty c)
    lies_nowhere h t piles.Work empty c = no_marks (worklist_at h t) empty c

    unlying : (h : Heap) (t : ℕ) (pile : Pile) (c : ℕ) → lies_on h t pile c ≡ false → lying_text h t pile c ≡ []
    unlying h t pile c nowhere =
        ap (λ (b : Bool). if b then line (tokens.Word (pile_word pile) ∷ tokens.Number t ∷ tokens.Number c ∷ [])
        else []) nowhere

-- a text without bytes is put by nothing
pub nothing_puts : (old : Option (List ℕ)) {text : List ℕ} → text ≡ [] → Appends old old text
nothing_puts old {text = text} none = ends (starts old text) none

-- of so many numbers the texts of these many are put, and those from the first on are left
pub record PutsOver (old new : Option (List ℕ)) (whole : List ℕ) (text : ℕ → List ℕ)
    (first count turns : ℕ) : Type 0 where
  pub so_far : PutsUpTo old new whole (over text first (count - turns))

pub turns_begin : (old : Option (List ℕ)) (text : ℕ → List ℕ) (first count : ℕ)
    → PutsOver old old (over text first count) text first count 0
turns_begin old text first count =
    let all : count - 0 ≡ count = omega arith in
    record { so_far = rw all (starts old (over text first count)) }

pub turn_puts : {old new : Option (List ℕ)} {whole : List ℕ} {text : ℕ → List ℕ} {first count turns : ℕ}
    (after : Option (List ℕ)) (piece : List ℕ)
    → PutsOver old new whole text first count turns → turns < count → text first ≡ piece → Appends new after piece
    → PutsOver old after whole text (first + 1) count (turns + 1)
turn_puts {text = text} {first = first} {count = count} {turns = turns} after piece before within is put = record {
  so_far = goes_on after piece (over text (first + 1) (count - (turns + 1))) before.so_far
      (over_turn text first count turns within
      ∙ ap (λ (l : List ℕ). l ++ over text (first + 1) (count - (turns + 1))) is) put;
}

pub turn_fails : {old new after : Option (List ℕ)} {whole left : List ℕ} {text : ℕ → List ℕ} {first count turns : ℕ}
    (piece : List ℕ)
    → PutsOver old new whole text first count turns → turns < count → text first ≡ piece → PutsUpTo new after piece left
    → (rest : List ℕ) × PutsUpTo old after whole rest
turn_fails {left = left} {text = text} {first = first} {count = count} {turns = turns} piece before within is part =
    let behind = over text (first + 1) (count - (turns + 1)) in (
      left ++ behind,
      fails piece behind before.so_far (over_turn text first count turns within
          ∙ ap (λ (l : List ℕ). l ++ behind) is) part,
    )

pub turns_end : {old new : Option (List ℕ)} {whole : List ℕ} {text : ℕ → List ℕ} {first count turns : ℕ}
    → PutsOver old new whole text first count turns → count ≤ turns → Appends old new whole
turns_end {text = text} {first = first} {count = count} {turns = turns} before past =
    ends before.so_far (over_none text first count turns past)

-- the last piece, put or not, ends the text
pub last_puts : {old mid : Option (List ℕ)} {whole rest : List ℕ} (new : Option (List ℕ))
    (result : Result (Unit {0}) Fault) (piece : List ℕ) → PutsUpTo old mid whole rest
    → rest ≡ piece → PutsText mid new result piece → PutsText old new result whole
last_puts new (Ok done) piece so_far is put = ends (goes_on new piece [] so_far (is ∙ sym (append-nil piece)) put) refl
last_puts new (Err fault) piece so_far is failed =
    (failed.0, failed.1 ++ [], fails piece [] so_far (is ∙ sym (append-nil piece)) failed.2)
