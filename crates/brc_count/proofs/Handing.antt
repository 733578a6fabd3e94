-- How far a leaving thread has handed its objects over.
use Rattle.std.proofs.Common.{◌≡◌, ℕ, zero, suc, ◌+◌, ◌-◌, ◌<◌, ◌≤◌, ◌==◌}
use Rattle.std.proofs.Common.{if◌then◌else◌, refl, sym, ◌∙◌, ap, subst, inl, inr, arith}
use Rattle.std.proofs.lemmas.Bool.{cases_eq, eq-eqb, ne_eqb}
use Rattle.brc_words.specs.declared.limits.TheConstants.{FIRST_MORTAL}
use Rattle.brc_table.specs.law.rule.Seen.{counts_seen}
use Rattle.brc_table.specs.Seated.{TableSeen}
use Rattle.brc_count.specs.Frames.{FrameSeen, IsActive, IsUnlocked, popped_seen}
use Rattle.brc_count.specs.Closing.{HandsOne, HandsEach, NoneYet, NotOwned, Handed}

module _ {A : Type 0} where
  abbrev pub counted_of : FrameSeen A → ℕ → ℕ
  counted_of frame c = counts_seen frame.heap.cells frame.seat.log c

  -- all below a cell are handed over, and the rest is as it was
  pub record HandsUpTo (old : FrameSeen A) (from : ℕ) (new : FrameSeen A) : Type 0 where
    pub mortal : FIRST_MORTAL ≤ from
    pub inside : from ≤ old.heap.cells
    pub hands : HandsEach old from new
    pub none : (c : ℕ) → FIRST_MORTAL ≤ c → c < from → counted_of new c ≡ 0
    pub heap : new.heap ≡ old.heap
    pub thread : new.seat.thread ≡ old.seat.thread
    pub active : IsActive new
    pub unlocked : IsUnlocked new
    pub len : new.len ≡ old.len
    pub popped : popped_seen new ≡ popped_seen old

  -- cells without a count are passed over
  skips : (old new : FrameSeen A) (from more : ℕ) → HandsEach old from new → ((c : ℕ) → from ≤ c
      → c < from + more → counted_of new c ≡ 0) → HandsEach old (from + more) new
  skips old new from zero hands none = subst (λ m. HandsEach old m new) (omega arith) hands
  skips old new from (suc more) hands none =
      subst (λ m. HandsEach old m new) (omega arith)
      (NotOwned (from + more) new (skips old new from more hands (λ c past low. none c past (omega
      (arith, low)))) (none (from + more) (omega arith) (omega arith)))

  skips_to : (old new : FrameSeen A) (from cell : ℕ) → from ≤ cell → HandsEach old from new → ((c : ℕ)
      → from ≤ c → c < cell → counted_of new c ≡ 0) → HandsEach old cell new
  skips_to old new from cell past hands none =
      let is : from + (cell - from) ≡ cell = omega (arith, past) in
      subst (λ m. HandsEach old m new) is (skips old new from (cell - from) hands (λ c high low. none c high
      (omega (arith, low, past))))

  pub begun : (old : FrameSeen A) → FIRST_MORTAL ≤ old.heap.cells → IsActive old → IsUnlocked old
      → HandsUpTo old FIRST_MORTAL old
  begun old enough active unlocked = record {
    mortal = omega arith;
    inside = enough;
    hands = NoneYet;
    none = λ c mortal low. absurd (omega (arith, mortal, low));
    heap = refl;
    thread = refl;
    active = active;
    unlocked = unlocked;
    len = refl;
    popped = refl;
  }

  -- nothing more is counted
  pub ended : (old new : FrameSeen A) (from : ℕ) → HandsUpTo old from new → ((c : ℕ) → from ≤ c
      → FIRST_MORTAL ≤ c → c < new.heap.cells → counted_of new c ≡ 0) → HandsUpTo old old.heap.cells new
  ended old new from up none =
      let inside : (c : ℕ) → c < old.heap.cells → c < new.heap.cells = λ c low. subst (λ
      (h : TableSeen). c < h.cells) (sym up.heap) low in
      record {
        mortal = omega (arith, up.mortal, up.inside);
        inside = omega arith;
        hands = skips_to old new from old.heap.cells up.inside up.hands (λ c past low. none c past (omega
            (arith, past, up.mortal)) (inside c low));
        none = λ c mortal low. elim (Rattle.std.proofs.lemmas.Bool.cases_lt c from) [
          | inl below ↦ up.none c mortal below
          | inr past ↦ none c past mortal (inside c low)
        ];
        heap = up.heap;
        thread = up.thread;
        active = up.active;
        unlocked = up.unlocked;
        len = up.len;
        popped = up.popped;
      }

  -- what one more handing over leaves
  pub record HandsNext (mid new : FrameSeen A) (cell : ℕ) : Type 0 where
    pub heap : new.heap ≡ mid.heap
    pub thread : new.seat.thread ≡ mid.seat.thread
    pub hands : HandsOne mid new cell
    pub counts : (c : ℕ) → counts_seen mid.heap.cells new.seat.log c ≡ (if c == cell then 0 else counted_of mid c)
    pub active : IsActive new
    pub unlocked : IsUnlocked new
    pub len : new.len ≡ mid.len
    pub popped : popped_seen new ≡ popped_seen mid

  pub goes_on : (old mid new : FrameSeen A) (from cell : ℕ) → HandsUpTo old from mid → from ≤ cell
      → cell < mid.heap.cells → 0 < counted_of mid cell
      → ((c : ℕ) → from ≤ c → c < cell → FIRST_MORTAL ≤ c → c < mid.heap.cells → counted_of mid c ≡ 0)
      → HandsNext mid new cell → HandsUpTo old (cell + 1) new
  goes_on old mid new from cell up past low some first next =
      let same : (c : ℕ) → counted_of new c ≡ (if c == cell then 0 else counted_of mid c) = λ c. ap (λ
      (h : TableSeen). counts_seen h.cells new.seat.log c) next.heap ∙ next.counts c in
      record {
        mortal = omega (arith, up.mortal, past);
        inside = omega (arith, subst (λ (h : TableSeen). cell < h.cells) up.heap low);
        hands = Handed cell mid new (skips_to old mid from cell past up.hands
            (λ c high below. first c high below (omega (arith, high, up.mortal)) (omega
            (arith, below, low)))) some next.hands;
        none = λ c mortal below. same c ∙ elim (cases_eq c cell) [
          | inl here ↦ ap (λ b. if b then 0 else counted_of mid c) (eq-eqb c cell here)
          | inr other ↦ ap (λ b. if b then 0 else counted_of mid c) (ne_eqb c cell other) ∙ elim
              (Rattle.std.proofs.lemmas.Bool.cases_lt c from) [
                | inl lower ↦ up.none c mortal lower
                | inr higher ↦ first c higher (omega (arith, below, other)) mortal (omega (arith, below, other, low))
              ]
        ];
        heap = next.heap ∙ up.heap;
        thread = next.thread ∙ up.thread;
        active = next.active;
        unlocked = next.unlocked;
        len = next.len ∙ up.len;
        popped = next.popped ∙ up.popped;
      }
