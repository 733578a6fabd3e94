-- The text that was read in place of the whole input.
use Rattle.std.proofs.Common.{◌≡◌, ◌∙◌, ℕ, ◌+◌, Bool, true, false, List, [], length, take, Option, Some, None, Ok, Err}
use Rattle.std.proofs.Common.{refl, sym, ap, subst, arith, ltb, inl, inr}
use Rattle.std.specs.Prelude.{IfSome, ◌⊎◌}
use Rattle.std.specs.declared.alloc.Global.{Global}
use Rattle.std.proofs.KnownBytes.{Keeps-refl, Appends-nil}
use Rattle.std.proofs.lemmas.Bool.{ltb-true, ltb-false}
use Rattle.std.proofs.lemmas.List.{take_all, length-take-le}
use Rattle.brc_words.specs.declared.fault.Fault.{Fault}
use Rattle.brc_words.specs.declared.fault.Fault.TheVariants as faults
use Rattle.brc_words.specs.declared.limits.TheConstants.{MOST_INPUT}
use Rattle.brc_text.specs.Puts.{PutsUpTo}
use Rattle.brc_graph.specs.declared.drawn.Drawn.{Drawn}
use Rattle.brc_graph.specs.declared.undrawn.Undrawn.{Undrawn}
use Rattle.brc_graph.specs.declared.undrawn.Undrawn.TheVariants as undrawn
use Rattle.brc_graph.specs.Reading.{graph_at, RefusesGraph}
use Rattle.brc_graph.specs.Pictures.{graph_text}
use Rattle.brc_graph.specs.Draws.{undrawn_of, IsGraphOf, IsHalfDrawn, Draws}

front_or_whole : (input : List ℕ) (long : Bool) → ltb MOST_INPUT (length input) ≡ long
    → graph_at {A = Global} (take (MOST_INPUT + 1) input) ≡ graph_at input
unfolding graph_at
front_or_whole input true long =
    let over = ltb-true MOST_INPUT (length input) long in
    let kept : length (take (MOST_INPUT + 1) input) ≡ (MOST_INPUT + 1) = length-take-le (MOST_INPUT + 1) input
    (omega (arith, over)) in
    rw (kept, long) refl
front_or_whole input false long =
    ap graph_at (take_all (MOST_INPUT + 1) input (omega (arith, ltb-false MOST_INPUT (length input) long)))

-- what is behind the limit doesn't matter
graph_of_front : (input : List ℕ) → graph_at {A = Global} (take (MOST_INPUT + 1) input) ≡ graph_at input
graph_of_front input = front_or_whole input (ltb MOST_INPUT (length input)) refl

same_graph : (bytes input : List ℕ) → bytes ≡ take (MOST_INPUT + 1) input
    → graph_at {A = Global} input ≡ graph_at bytes
same_graph bytes input is = sym (graph_of_front input) ∙ ap graph_at (sym is)

-- what was read has the graph that the whole input has
pub carried : (input : Option (List ℕ)) (bytes : List ℕ) (graph : List (Drawn Global))
    → IfSome input (λ all. bytes ≡ take (MOST_INPUT + 1) all) → graph_at bytes ≡ Ok graph
    → IfSome input (λ all. graph_at all ≡ Ok graph)
carried None bytes graph is h = tt
carried (Some all) bytes graph is h = same_graph bytes all is ∙ h

bad : (input : Option (List ℕ)) (bytes : List ℕ) (line : ℕ) → IfSome input (λ all. bytes ≡ take (MOST_INPUT + 1) all)
    → graph_at {A = Global} bytes ≡ Err line → IfSome input (λ all. graph_at {A = Global} all ≡ Err line)
bad None bytes line is h = tt
bad (Some all) bytes line is h = same_graph bytes all is ∙ h

pub not_read : (input old : Option (List ℕ)) (fault : Fault) → (fault ≡ faults.Io) ⊎ (fault ≡ faults.OutOfMemory)
    → Draws input old old (Err (undrawn_of fault))
not_read input old fault (inl io) =
    let P : Fault → Type 0 = λ f. Draws input old old (Err (undrawn_of f)) in
    subst P (sym io) ([], Appends-nil old, inl refl)
not_read input old fault (inr memory) =
    let P : Fault → Type 0 = λ f. Draws input old old (Err (undrawn_of f)) in
    subst P (sym memory) (Keeps-refl old)

pub no_graph : (input old : Option (List ℕ)) (bytes : List ℕ) (refused : Undrawn)
    → IfSome input (λ all. bytes ≡ take (MOST_INPUT + 1) all) → RefusesGraph refused (graph_at {A = Global} bytes)
    → Draws input old old (Err refused)
no_graph input old bytes undrawn.OutOfMemory is h = Keeps-refl old
no_graph input old bytes (undrawn.BadLine line) is h = (Keeps-refl old, bad input bytes line is h)
no_graph input old bytes undrawn.Io is h = absurd h

pub not_written : (input old new : Option (List ℕ)) (left : List ℕ) (boxed : List (Drawn Global)) (fault : Fault)
    → IsGraphOf input boxed → fault ≡ faults.Io → PutsUpTo old new (graph_text boxed) left
    → Draws input old new (Err (undrawn_of fault))
not_written input old new left boxed fault graph io put =
    let P : Fault → Type 0 = λ f. Draws input old new (Err (undrawn_of f)) in
    let half : IsHalfDrawn input put.front = record {
      boxed = boxed;
      graph = graph;
      left = left;
      text = put.is;
    } in
    subst P (sym io) (put.front, put.put, inr half)
