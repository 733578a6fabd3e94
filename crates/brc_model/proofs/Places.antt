-- Two holders that pass for one are one.
use Rattle.std.proofs.Common.{◌≡◌, ℕ, ◌∙◌, true, cond, refl, ap, sym}
use Rattle.std.specs.Prelude.{◌==◌, ◌&&◌}
use Rattle.std.proofs.lemmas.Bool.{eqb-true, eq-eqb, and_parts, and_from}
use Rattle.brc_model.specs.declared.holder.Holder.{Holder}
use Rattle.brc_model.specs.declared.holder.Holder.TheVariants.{Frame, Entry, Queue, Popped, Hand}
use Rattle.brc_model.specs.Holders.{holder_code, same_code, same_holder}

-- the holder that a code stands for
abbrev holder_from : ℕ × ℕ × ℕ → Holder
holder_from c =
    cond (c.0 == 0) (Frame c.1 c.2)
    (cond (c.0 == 1) (Entry c.1 c.2)
    (cond (c.0 == 2) (Queue c.1 c.2) (cond (c.0 == 3) (Popped c.1 c.2) (Hand c.1 c.2))))

holder_from-code : (h : Holder) → holder_from (holder_code h) ≡ h
holder_from-code (Frame thread place) = refl
holder_from-code (Entry cell index) = refl
holder_from-code (Queue thread cell) = refl
holder_from-code (Popped thread cell) = refl
holder_from-code (Hand thread cell) = refl

same_code-true : (x y : ℕ × ℕ × ℕ) → same_code x y ≡ true → x ≡ y
same_code-true (a, b, c) (d, e, f) h =
    let p = and_parts (a == d && b == e) (c == f) h in
    let q = and_parts (a == d) (b == e) p.0 in
    let i : a ≡ d = eqb-true a d q.0 in
    let j : b ≡ e = eqb-true b e q.1 in
    let k : c ≡ f = eqb-true c f p.1 in
    cc

pub same_holder-true : (g h : Holder) → same_holder g h ≡ true → g ≡ h
same_holder-true g h e =
    sym (holder_from-code g) ∙ ap holder_from (same_code-true (holder_code g) (holder_code h) e) ∙ holder_from-code h

pub same_holder-refl : (h : Holder) → same_holder h h ≡ true
same_holder-refl h =
    let c = holder_code h in
    and_from (c.0 == c.0 && c.1 == c.1) (c.2 == c.2) (and_from (c.0 == c.0) (c.1 == c.1) (eq-eqb c.0 c.0 refl)
    (eq-eqb c.1 c.1 refl)) (eq-eqb c.2 c.2 refl)
