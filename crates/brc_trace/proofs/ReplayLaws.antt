-- The text that was read in place of the whole input, and what the whole replay does.
use Rattle.std.proofs.Common.{◌≡◌, ◌∙◌, ℕ, ◌+◌, ◌≤◌, true, List, [], ◌++◌, length, take, Some, refl, sym, ap, subst}
use Rattle.std.proofs.Common.{arith, ltb, leb, Bool, false, Option, None, append-nil}
use Rattle.std.specs.Prelude.{IfSome}
use Rattle.std.proofs.lemmas.Bool.{and_parts, leb-true, ltb-true, ltb-false}
use Rattle.std.proofs.Math.Seq.{take-append_seam}
use Rattle.std.proofs.lemmas.List.{take_all, length-take-le}
use Rattle.std.specs.Prelude.{Result, Ok, Err, ◌⊎◌}
use Rattle.std.proofs.Common.{inl, inr}
use Rattle.std.specs.Io.KnownBytes.{Consumes, IsAtEnd}
use Rattle.std.proofs.KnownBytes.{Consumes-whole, Consumes-trans, Appends-nil, Keeps-refl}
use Rattle.brc_words.specs.declared.fault.Fault.{Fault}
use Rattle.brc_words.specs.declared.fault.Fault.TheVariants as faults
use Rattle.brc_words.specs.declared.fault.Reason.{Reason}
use Rattle.brc_words.specs.declared.fault.Reason.TheVariants as reasons
use Rattle.brc_words.specs.declared.limits.TheConstants.{FEWEST_CELLS, MOST_CELLS, MOST_LOCAL, MOST_INPUT}
use Rattle.law.specs.world.Heap.{Heap}
use Rattle.brc_text.specs.Puts.{PutsUpTo}
use Rattle.brc_trace.specs.Worlds.{world_text}
use Rattle.brc_trace.specs.Replaying.{IsReplayed, IsBad, LeadsNowhere, IsHalfWritten, Replays}
use Rattle.law.specs.world.Heap.{AreOptions}
use Rattle.brc_text.specs.Lines.{line}
use Rattle.brc_trace.specs.Traces.{trace_at, is_size, is_limit}

pub are_options : (cells limit : ℕ) → is_size cells ≡ true → is_limit limit ≡ true → AreOptions cells limit
are_options cells limit size limited =
    let sizes = and_parts (leb FEWEST_CELLS cells) (leb cells MOST_CELLS) size in
    let limits = and_parts (leb 1 limit) (leb limit MOST_LOCAL) limited in
    record {
      enough = leb-true FEWEST_CELLS cells sizes.0;
      few_enough = leb-true cells MOST_CELLS sizes.1;
      counts = leb-true 1 limit limits.0;
      below_immortal = leb-true limit MOST_LOCAL limits.1;
    }

front_or_whole : (input : List ℕ) (long : Bool) → ltb MOST_INPUT (length input) ≡ long
    → trace_at (take (MOST_INPUT + 1) input) ≡ trace_at input
unfolding trace_at
front_or_whole input true long =
    let over = ltb-true MOST_INPUT (length input) long in
    let kept : length (take (MOST_INPUT + 1) input) ≡ (MOST_INPUT + 1) = length-take-le (MOST_INPUT + 1) input
    (omega (arith, over)) in
    rw (kept, long) refl
front_or_whole input false long =
    ap trace_at (take_all (MOST_INPUT + 1) input (omega (arith, ltb-false MOST_INPUT (length input) long)))

-- what is behind the limit doesn't matter
pub trace_of_front : (input : List ℕ) → trace_at (take (MOST_INPUT + 1) input) ≡ trace_at input
trace_of_front input = front_or_whole input (ltb MOST_INPUT (length input)) refl

-- ---- what the whole replay does

-- what was read spells what the whole input does
same_trace : (bytes input : List ℕ) → bytes ≡ take (MOST_INPUT + 1) input → trace_at input ≡ trace_at bytes
same_trace bytes input is = sym (trace_of_front input) ∙ ap trace_at (sym is)

pub carried : (input : Option (List ℕ)) (bytes : List ℕ) (world : Heap)
    → IfSome input (λ all. bytes ≡ take (MOST_INPUT + 1) all) → IsReplayed bytes world
    → IfSome input (λ all. IsReplayed all world)
carried None bytes world is h = tt
carried (Some all) bytes world is h = record {
  trace = h.trace;
  spelled = same_trace bytes all is
      ∙ h.spelled;
  run = h.run;
  leads = h.leads;
}

bad : (input : Option (List ℕ)) (bytes : List ℕ) (line : ℕ) (reason : Reason)
    → IfSome input (λ all. bytes ≡ take (MOST_INPUT + 1) all) → IsBad reason line bytes
    → IfSome input (IsBad reason line)
bad None bytes line reason is h = tt
bad (Some all) bytes line reasons.NotALine is h = same_trace bytes all is ∙ h
bad (Some all) bytes line reasons.NotEnabled is h =
    record {
      trace = h.trace;
      spelled = same_trace bytes all is ∙ h.spelled;
      at = h.at;
      first = h.first;
      counted = h.counted;
    }

pub stopped : (input old : Option (List ℕ)) (bytes : List ℕ) (fault : Fault)
    → IfSome input (λ all. bytes ≡ take (MOST_INPUT + 1) all) → LeadsNowhere fault bytes
    → Replays input old old (Err fault)
stopped input old bytes faults.OutOfMemory is h = Keeps-refl old
stopped input old bytes (faults.BadTrace line reason) is h = (Keeps-refl old, bad input bytes line reason is h)
stopped input old bytes _ is h = absurd h

pub not_read : (input old : Option (List ℕ)) (fault : Fault) → (fault ≡ faults.Io) ⊎ (fault ≡ faults.OutOfMemory)
    → Replays input old old (Err fault)
not_read input old fault (inl io) =
    let P : Fault → Type 0 = λ f. Replays input old old (Err f) in
    subst P (sym io) ([], Appends-nil old, inl refl)
not_read input old fault (inr memory) =
    let P : Fault → Type 0 = λ f. Replays input old old (Err f) in
    subst P (sym memory) (Keeps-refl old)

pub not_written : (input old new : Option (List ℕ)) (bytes left : List ℕ) (world : Heap) (fault : Fault)
    → IfSome input (λ all. bytes ≡ take (MOST_INPUT + 1) all)
    → IsReplayed bytes world → fault ≡ faults.Io → PutsUpTo old new (world_text world) left
    → Replays input old new (Err fault)
not_written input old new bytes left world fault is h io put =
    let P : Fault → Type 0 = λ f. Replays input old new (Err f) in
    let half : IsHalfWritten input put.front = record {
      world = world;
      replayed = carried input bytes world is h;
      left = left;
      text = put.is;
    } in
    subst P (sym io) (put.front, put.put, inr half)

-- ---- a replay of what was read

half_of_front : (input : Option (List ℕ)) (bytes front : List ℕ)
    → IfSome input (λ all. bytes ≡ take (MOST_INPUT + 1) all)
    → (front ≡ []) ⊎ IsHalfWritten (Some bytes) front → (front ≡ []) ⊎ IsHalfWritten input front
half_of_front input bytes front is (inl none) = inl none
half_of_front input bytes front is (inr half) =
    inr (record {
      world = half.world;
      replayed = carried input bytes half.world is half.replayed;
      left = half.left;
      text = half.text;
    })

-- what a replay of the bytes does is what one of the input does, of which they are all or as many as a trace may have
-- and one
pub of_front : (input : Option (List ℕ)) (bytes : List ℕ) (old new : Option (List ℕ)) (answer : Result Bool Fault)
    → IfSome input (λ all. bytes ≡ take (MOST_INPUT + 1) all) → Replays (Some bytes) old new answer
    → Replays input old new answer
of_front input bytes old new (Ok live) is h =
    record {
      world = h.world;
      replayed = carried input bytes h.world is h.replayed;
      written = h.written;
      lives = h.lives;
    }
of_front input bytes old new (Err (faults.BadTrace line reason)) is h = (h.0, bad input bytes line reason is h.1)
of_front input bytes old new (Err faults.OutOfMemory) is h = h
of_front input bytes old new (Err faults.Io) is h = (h.0, h.1, half_of_front input bytes h.0 is h.2)
of_front input bytes old new (Err _) is h = absurd h
