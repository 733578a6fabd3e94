-- The lowest place or cell that is sought: how it is found, and that it is one.
use Rattle.std.proofs.Common.{◌≡◌, ◌∙◌, ℕ, zero, suc, ◌+◌, ◌<◌, ◌&&◌, ◌||◌, not, Bool, true, false, Option, Some, None}
use Rattle.std.proofs.Common.{is_none, refl, sym, ap, add-one, arith, ◌-◌}
use Rattle.std.specs.Prelude.{IfSome}
use Rattle.law.specs.world.Heap.{Heap, cell_at, worklist_at}
use Rattle.law.specs.world.Lists.{is_marked}
use Rattle.law.specs.world.Steps.{is_owned_by, owned_are_marked}
use Rattle.brc_trace.specs.declared.lowest.SoughtThread.{SoughtThread}
use Rattle.brc_trace.specs.declared.lowest.SoughtThread.TheVariants as sought
use Rattle.brc_trace.specs.Lowest.{is_sought, or_here, lowest}

-- ---- as numbers are looked at, from 0 on

pub search_begins : (h : Heap) (t : ℕ) (what : SoughtThread) → lowest h t what 0 ≡ None
unfolding lowest
search_begins h t what = refl

one_more : (h : Heap) (t : ℕ) (what : SoughtThread) (n : ℕ)
    → lowest h t what (suc n) ≡ or_here (lowest h t what n) (is_sought h t what n) n
unfolding lowest
one_more h t what n = refl

or_here_alike : (found other : Option ℕ) (here there : Bool) (n : ℕ) → found ≡ other → here ≡ there
    → or_here found here n ≡ or_here other there n
or_here_alike found other here there n same alike = cc

pub search_goes_on : (h : Heap) (t : ℕ) (what : SoughtThread) (n : ℕ) → lowest h t what n ≡ None
    → is_sought h t what n ≡ false → lowest h t what (n + 1) ≡ None
search_goes_on h t what n none other =
    ap (lowest h t what) (add-one n) ∙ one_more h t what n
    ∙ or_here_alike (lowest h t what n) None (is_sought h t what n) false n none other

-- what was found stays so with more numbers behind
found_stays : (h : Heap) (t : ℕ) (what : SoughtThread) (n more : ℕ) → lowest h t what (suc n) ≡ Some n
    → lowest h t what (more + suc n) ≡ Some n
found_stays h t what n zero found = ap (lowest h t what) (omega arith) ∙ found
found_stays h t what n (suc more) found =
    let next : suc more + suc n ≡ suc (more + suc n) = omega arith in
    ap (lowest h t what) next ∙ one_more h t what (more + suc n)
    ∙ or_here_alike (lowest h t what (more + suc n)) (Some n) (is_sought h t what (more + suc n))
    (is_sought h t what (more + suc n)) (more + suc n) (found_stays h t what n more found) refl

found_here : (h : Heap) (t : ℕ) (what : SoughtThread) (n : ℕ) → lowest h t what n ≡ None → is_sought h t what n ≡ true
    → lowest h t what (suc n) ≡ Some n
found_here h t what n none here =
    one_more h t what n ∙ or_here_alike (lowest h t what n) None (is_sought h t what n) true n none here

pub search_finds : (h : Heap) (t : ℕ) (what : SoughtThread) (n end : ℕ) → lowest h t what n ≡ None → n < end
    → is_sought h t what n ≡ true → Some n ≡ lowest h t what end
search_finds h t what n end none within here =
    let parts : end ≡ (end - suc n) + suc n = omega arith in
    sym (ap (lowest h t what) parts ∙ found_stays h t what n (end - suc n) (found_here h t what n none here))

-- ---- what is found is sought

one_of_two : (P : ℕ → Type 0) (found : Option ℕ) (here : Bool) (n : ℕ) → IfSome found P → (here ≡ true → P n)
    → IfSome (or_here found here n) P
one_of_two P (Some k) here n so is = so
one_of_two P None true n so is = is refl
one_of_two P None false n so is = tt

pub found_is_sought : (h : Heap) (t : ℕ) (what : SoughtThread) (n : ℕ)
    → IfSome (lowest h t what n) (λ k. is_sought h t what k ≡ true)
unfolding lowest
found_is_sought h t what zero = tt
found_is_sought h t what (suc n) =
    one_of_two (λ k. is_sought h t what k ≡ true) (lowest h t what n) (is_sought h t what n) n
    (found_is_sought h t what n) (λ is. is)

-- ---- a thread that owns nothing but dead cells

none_of_two : (found : Option ℕ) (owned marked : Bool) (n : ℕ)
    → is_none (or_here found (owned && not marked) n) ≡ (is_none found && (not owned || marked))
none_of_two (Some k) owned marked n = refl
none_of_two None true true n = refl
none_of_two None true false n = refl
none_of_two None false marked n = refl

pub none_owned : (h : Heap) (t n : ℕ)
    → is_none (lowest h t sought.Owned n) ≡ owned_are_marked t h.cells (worklist_at h t) n
unfolding lowest
none_owned h t zero = refl
none_owned h t (suc n) =
    none_of_two (lowest h t sought.Owned n) (is_owned_by t (cell_at h n).owner) (is_marked (worklist_at h t) n) n
    ∙ ap (λ (b : Bool). b && (not (is_owned_by t (cell_at h n).owner) || is_marked (worklist_at h t) n))
    (none_owned h t n)
