use Rattle.std.proofs.Common.{◌≡◌, ◌∙◌, ◌+◌, ◌-◌, ◌≤◌, ℕ, true, false, List, Some, suc, drop, length, get_or, refl, ap}
use Rattle.std.proofs.Common.{sym, arith, inl, inr}
use Rattle.std.proofs.lemmas.Bool.{eqb-true}
use Rattle.std.proofs.lemmas.List.{take_rest, get_or_past}
use Rattle.brc_text.specs.declared.token.Token.{Token}
use Rattle.brc_text.specs.Lines.{first_line}
use Rattle.brc_text.proofs.NumberLaws.{above_zero}
use Rattle.brc_text.proofs.LineLaws.{after, IsEnd, first_and_rest, no_token, word_found, last_word, next_word, no_more}
use Rattle.brc_text.proofs.line.Words.read.Goals as goal

-- a space or a line feed may end a word
low_end : (rest : List ℕ) → IsEnd rest → get_or rest 0 0 ≤ 32
low_end rest (inl space) = omega (arith, space)
low_end rest (inr feed) = omega (arith, feed)

pub returns-in_default : goal.returns-in_default
returns-in_default c =
    let turn : 8 - c.loop.counter ≡ suc (8 - (c.loop.counter + 1)) = omega (arith, c.loop-test.true) in
    sym c.loop.invariant.so_far ∙ ap (λ (n : ℕ). after c.loop.self (first_line n c.loop.rest.now)) turn
    ∙ no_token (8 - (c.loop.counter + 1)) c.loop.self c.loop.rest.now
    (λ word rest t whole ends reads. c.in_default.ensures.only word rest t whole (low_end rest ends) reads)

pub returns : goal.returns
returns c =
    let end : 8 - c.loop.counter ≡ 0 = omega (arith, c.loop-test.false) in
    sym c.loop.invariant.so_far ∙ ap (λ (n : ℕ). after c.loop.self (first_line n c.loop.rest.now)) end
    ∙ no_more c.loop.self c.loop.rest.now

-- the end of a word that was found, where no space and no line feed stands behind what was read
no_end : (behind rest : List ℕ) → behind ≡ rest → (get_or behind 0 0 ≡ 32 → ⊥) → (get_or behind 0 0 ≡ 10 → ⊥)
    → IsEnd rest → ⊥
no_end behind rest same other another (inl space) = other (ap (λ (l : List ℕ). get_or l 0 0) same ∙ space)
no_end behind rest same other another (inr feed) = another (ap (λ (l : List ℕ). get_or l 0 0) same ∙ feed)

pub returns-then-is_empty : goal.returns-then-is_empty
returns-then-is_empty c =
    let turn : 8 - c.loop.counter ≡ suc (8 - (c.loop.counter + 1)) = omega (arith, c.loop-test.true) in
    let none : length c.in-Some.behind.now ≡ 0 = eqb-true _ _ (sym c.is_empty.ensures ∙ c.if-is_empty.true) in
    let past : get_or c.in-Some.behind.now 0 0 ≡ 0 = get_or_past c.in-Some.behind.now 0 0 (omega (arith, none)) in
    sym c.loop.invariant.so_far ∙ ap (λ (n : ℕ). after c.loop.self (first_line n c.loop.rest.now)) turn
    ∙ no_token (8 - (c.loop.counter + 1)) c.loop.self c.loop.rest.now (λ word rest t whole ends reads.
    no_end c.in-Some.behind.now rest (c.in-Some.ensures.only word rest t whole (low_end rest ends) reads).1
    (λ e. omega (arith, past, e)) (λ e. omega (arith, past, e)) ends)

pub returns-then-behind-ne32 : goal.returns-then-behind-ne32
returns-then-behind-ne32 c =
    let turn : 8 - c.loop.counter ≡ suc (8 - (c.loop.counter + 1)) = omega (arith, c.loop-test.true) in
    sym c.loop.invariant.so_far ∙ ap (λ (n : ℕ). after c.loop.self (first_line n c.loop.rest.now)) turn
    ∙ no_token (8 - (c.loop.counter + 1)) c.loop.self c.loop.rest.now (λ word rest t whole ends reads.
    no_end c.in-Some.behind.now rest (c.in-Some.ensures.only word rest t whole (low_end rest ends) reads).1
    c.if-behind-ne32.true c.if-behind-eq10.false ends)

pub returns-then-behind-eq10 : goal.returns-then-behind-eq10
returns-then-behind-eq10 c =
    let turn : 8 - c.loop.counter ≡ suc (8 - (c.loop.counter + 1)) = omega (arith, c.loop-test.true) in
    let behind = c.in-Some.behind.now in
    let some = above_zero (length behind) (sym c.is_empty.ensures ∙ c.if-is_empty.false) in
    let found = word_found c.loop.rest.now (drop 1 behind) behind c.in-Some.token true c.in-Some.ensures.found
    (first_and_rest behind 10 some c.if-behind-eq10.true) in
    sym c.loop.invariant.so_far ∙ ap (λ (n : ℕ). after c.loop.self (first_line n c.loop.rest.now)) turn
    ∙ last_word (8 - (c.loop.counter + 1)) c.loop.self c.loop.rest.now found.0 (drop 1 behind) true c.in-Some.token
    found.1 refl found.2
    ∙ ap (λ (ts : List Token). Some (ts, drop 1 behind)) (sym c.push.ensures.items)
    ∙ ap (λ (l : List ℕ). Some (c.push.new.self, l)) (sym (take_rest behind 1))

pub loop-preserved : goal.loop-preserved
loop-preserved c =
    let turn : 8 - c.loop.counter ≡ suc (8 - (c.loop.counter + 1)) = omega (arith, c.loop-test.true) in
    let behind = c.in-Some.behind.now in
    let some = above_zero (length behind) (sym c.is_empty.ensures ∙ c.if-is_empty.false) in
    let found = word_found c.loop.rest.now (drop 1 behind) behind c.in-Some.token false c.in-Some.ensures.found
    (first_and_rest behind 32 some c.if-behind-ne32.false) in
    record {
      so_far = ap (λ (l : List ℕ). after c.push.new.self (first_line (8 - (c.loop.counter + 1)) l)) (take_rest behind 1)
          ∙ ap (λ (ts : List Token). after ts (first_line (8 - (c.loop.counter + 1)) (drop 1 behind)))
          c.push.ensures.items
          ∙ sym (next_word (8 - (c.loop.counter + 1)) c.loop.self c.loop.rest.now found.0
          (drop 1 behind) false c.in-Some.token found.1 refl found.2)
          ∙ ap (λ (n : ℕ). after c.loop.self (first_line n c.loop.rest.now)) (sym turn) ∙ c.loop.invariant.so_far;
      room = omega (arith, c.push.ensures.len, c.loop.invariant.room);
    }
