-- What a search for a free cell keeps from word to word, and in a word from cell to cell.
use Rattle.std.proofs.Common.{◌≡◌, ◌≢◌, ◌≤◌, ◌<◌, ◌+◌, ◌*◌, ◌/◌, ◌%◌, ◌||◌, min, max, ℕ, Bool, true, false, List, []}
use Rattle.std.proofs.Common.{◌∷◌, ◌++◌, Option, Some, None, IfSome, IfNone, refl, sym, ◌∙◌, ap, subst, inl, inr, arith}
use Rattle.std.specs.Cmp.Derive.{both_true}
use Rattle.std.specs.Int.{bit_at}
use Rattle.std.proofs.lemmas.Bool.{cases_lt, cases_eq, and_parts, eq-eqb, true≢false}
use Rattle.std.proofs.lemmas.List.{append_assoc}
use Rattle.std.proofs.lemmas.Nat.Bits.{bit_at-lt, bit_at-zero}
use Rattle.brc_words.specs.declared.limits.TheConstants.{FIRST_MORTAL}
use Rattle.brc_table.specs.law.world.Lists.{names}
use Rattle.brc_table.specs.law.declared.known.word.Word.TheVariants.{FreeWord}
use Rattle.brc_table.specs.law.known.Items.{Part}
use Rattle.brc_table.specs.law.known.Going_On.{Known}
use Rattle.brc_table.specs.law.known.Risen.{drop_in}
use Rattle.brc_table.proofs.law.known.Risen_Law.{risen_named}
use Rattle.brc_table.specs.law.declared.rule.told.LogItem.{LogItem}
use Rattle.brc_table.specs.law.declared.rule.told.LogItem.TheVariants.{Loaded, Lost}
use Rattle.brc_table.specs.law.rule.Logs.{log_items}
use Rattle.brc_table.specs.law.rule.Seen.{part_seen}
use Rattle.brc_table.specs.Knowing.{known_seen, KeepsNotes}
use Rattle.brc_table.specs.Seated.{Continues}
use Rattle.brc_biased.specs.Counter.{CounterSeen}
use Rattle.brc_biased.specs.Seeking.{lacks_cell, tells_taken, are_free_looks, have_told_taken, PassesFrom, ClaimsFrom}
use Rattle.brc_biased.specs.Seeking.{ClaimsFirst, ClaimsAround, ClaimsCell, Misses}
use Rattle.brc_biased.specs.Up.{KnowsPart}

-- ---- notes

all_looks : (more looks : List LogItem) → are_free_looks more ≡ true → are_free_looks looks ≡ true
    → are_free_looks (more ++ looks) ≡ true
all_looks [] looks first second = second
all_looks (x ∷ more) looks first second = let parts = and_parts _ _ first in
    both_true parts.0 (all_looks more looks parts.1 second)

one_true : (a b : Bool) → a ≡ true → (a || b) ≡ true
one_true true b is = refl
one_true false b is = absurd (true≢false (sym is))

other_true : (a b : Bool) → b ≡ true → (a || b) ≡ true
other_true true b is = refl
other_true false b is = is

told_before : (d : ℕ) (more looks : List LogItem) → have_told_taken d looks ≡ true
    → have_told_taken d (more ++ looks) ≡ true
told_before d [] looks told = told
told_before d (x ∷ more) looks told = other_true (tells_taken d x) _ (told_before d more looks told)

one_more : (a b b' : Bool) → (b ≡ true → b' ≡ true) → (a || b) ≡ true → (a || b') ≡ true
one_more true b b' more told = refl
one_more false b b' more told = more told

told_since : (d : ℕ) (more looks : List LogItem) → have_told_taken d more ≡ true
    → have_told_taken d (more ++ looks) ≡ true
told_since d [] looks told = absurd (true≢false (sym told))
told_since d (x ∷ more) looks told = one_more (tells_taken d x) _ _ (told_since d more looks) told

-- the cell's free word, found without its bit
lacks : (d word number : ℕ) → d / 64 ≡ word → bit_at number (d % 64) ≡ 0 → lacks_cell d (FreeWord word) number ≡ true
lacks d word number there none = both_true (eq-eqb word (d / 64) (sym there)) (eq-eqb (bit_at number (d % 64)) 0 none)

-- what two searches passed over, the second beginning where the first had come to
passes_on : {first c from to : ℕ} {before mid log : List LogItem} → ((d : ℕ) → d < to → c ≤ d → from ≤ d)
    → PassesFrom first before c mid → PassesFrom from mid to log → PassesFrom first before to log
passes_on {first} {c} {from} {to} {before} {mid} {log} meets old new = record {
  looks = new.looks ++ old.looks;
  above = new.above ∙ ap (λ l. new.looks ++ l) old.above ∙ sym (append_assoc new.looks old.looks before);
  only = all_looks new.looks old.looks new.only old.only;
  taken = λ d mortal low high. elim (cases_lt d c) [
    | inl below ↦ told_before d new.looks old.looks (old.taken d mortal low below)
    | inr past ↦ told_since d new.looks old.looks (new.taken d mortal (meets d high past) high)
  ];
}

-- ---- what is kept

-- the search that began with cell `first` has come to this cell
pub record IsSeeking {A : Type 0} (start : CounterSeen A) (first cell : ℕ) (now : CounterSeen A) : Type 0 where
  pub heap : now.heap ≡ start.heap
  pub seat : Continues start.seat now.seat
  pub passed : PassesFrom first start.seat.log cell now.seat.log
  pub slots : now.seat.slots ≡ start.seat.slots
  pub knows : KnowsPart start.heap.cells now.seat.log (known_seen start.heap.cells start.seat.log)
  pub keeps : KeepsNotes start.heap.cells start.seat.log now.seat.log

keeps_same : (n : ℕ) (log : List LogItem) → KeepsNotes n log log
keeps_same n log = record {
  risen = λ drop c seen. seen ∙ sym (risen_named n (log_items log) drop c seen);
  owners = λ q seen. seen;
}

-- what was seen risen in a place that still has the cell is seen so by both logs
pub keeps_through : {n : ℕ} {before log later : List LogItem} → part_seen n log ≡ part_seen n before
    → KeepsNotes n before log
    → KeepsNotes n log later → KeepsNotes n before later
keeps_through {n} {before} {log} {later} same first second = record {
  risen = λ drop c seen. second.risen drop c (first.risen drop c seen ∙ ap (λ (p : Part). names c (drop_in p drop)) same
      ∙ risen_named n (log_items before) drop c seen);
  owners = λ q seen. second.owners q (first.owners q seen);
}

known_through : {n : ℕ} {log later : List LogItem} {old : Known} → KnowsPart n log old
    → KnowsPart n later (known_seen n log)
    → KnowsPart n later old
known_through {n} {log} {later} {old} first second = record {
  part = second.part ∙ first.part;
  blocks = second.blocks
      ∙ first.blocks;
  lock = second.lock ∙ first.lock;
}

-- ---- words

-- a search has come to its first cell
pub begins : {A : Type 0} (start : CounterSeen A) (first cells : ℕ) → IsSeeking start first (min first cells) start
begins start first cells = record {
  heap = refl;
  seat = (refl, refl);
  passed = record {
    looks = [];
    above = refl;
    only = refl;
    taken = λ d mortal low high. absurd
        (omega (arith, low, high));
  };
  slots = refl;
  knows = record { part = refl; blocks = refl; lock = refl };
  keeps = keeps_same start.heap.cells start.seat.log;
}

-- one more step of a search
abbrev goes_on : {A : Type 0} {start now new : CounterSeen A} {first cell next : ℕ} → IsSeeking start first cell now
    → new.heap ≡ now.heap → Continues now.seat new.seat → PassesFrom first start.seat.log next new.seat.log
    → new.seat.slots ≡ now.seat.slots
    → KnowsPart start.heap.cells new.seat.log (known_seen start.heap.cells now.seat.log)
    → KeepsNotes start.heap.cells now.seat.log new.seat.log
    → IsSeeking start first next new
goes_on seeks heap seat passed slots knows keeps = record {
  heap = heap ∙ seeks.heap;
  seat = (seat.0 ∙ seeks.seat.0, seat.1 ∙ seeks.seat.1);
  passed = passed;
  slots = slots ∙ seeks.slots;
  knows = known_through seeks.knows knows;
  keeps = keeps_through seeks.knows.part seeks.keeps keeps;
}

-- one more word is passed over
pub next_word : {A : Type 0} {start now new : CounterSeen A} {first : ℕ} (cells word : ℕ)
    → IsSeeking start first (min (word * 64) cells) now → new.heap ≡ now.heap → Continues now.seat new.seat
    → PassesFrom (word * 64) now.seat.log (min (word * 64 + 64) cells) new.seat.log
    → new.seat.slots ≡ now.seat.slots
    → KnowsPart start.heap.cells new.seat.log (known_seen start.heap.cells now.seat.log)
    → KeepsNotes start.heap.cells now.seat.log new.seat.log
    → IsSeeking start first (min ((word + 1) * 64) cells) new
next_word {A} {start} {now} {new} {first} cells word seeks heap seat passed slots knows keeps =
    let next : min (word * 64 + 64) cells ≡ min ((word + 1) * 64) cells = omega arith in
    goes_on seeks heap seat
    (subst (λ c. PassesFrom first start.seat.log c new.seat.log) next
    (passes_on (λ d low past. omega (arith, low, past)) seeks.passed passed)) slots knows keeps

-- a cell of the next word is claimed
pub claims_later : {A : Type 0} {start now : CounterSeen A} {log : List LogItem} {first : ℕ} (cells word cell : ℕ)
    → IsSeeking start first (min (word * 64) cells) now → cell < cells → ClaimsFrom (word * 64) cell now.seat.log log
    → ClaimsFrom first cell start.seat.log log
claims_later cells word cell seeks inside claims = record {
  mid = claims.mid;
  number = claims.number;
  passed = passes_on (λ d low past. omega (arith, low, past, inside)) seeks.passed claims.passed;
  told = claims.told;
  was_free = claims.was_free;
}

-- who passed over some cells passed over fewer
pub passes_fewer : {first c fewer : ℕ} {before log : List LogItem} → fewer ≤ c → PassesFrom first before c log
    → PassesFrom first before fewer log
passes_fewer few passed = record {
  looks = passed.looks;
  above = passed.above;
  only = passed.only;
  taken = λ d mortal low high. passed.taken d mortal low (omega (arith, few, high));
}

-- ---- words from one on, to the last and then from the first

-- a cell from the first word on is claimed
pub claims_ahead : {n start c : ℕ} {before log : List LogItem} → start * 64 ≤ c → ClaimsFrom (start * 64) c before log
    → ClaimsAround n start c before log
claims_ahead {n} {start} {c} ahead claims = record {
  mid = claims.mid;
  number = claims.number;
  passed = record {
    looks = claims.passed.looks;
    above = claims.passed.above;
    only = claims.passed.only;
    taken = λ d mortal between. elim between [
      | inl first ↦ claims.passed.taken d mortal first.0 first.1
      | inr past ↦ absurd (omega (arith, ahead, past.0))
    ];
  };
  told = claims.told;
  was_free = claims.was_free;
}

-- all from the first word on were passed over
pub passes_end : {first n : ℕ} {before log : List LogItem} (words : ℕ) → n ≤ words * 64
    → PassesFrom first before (min (words * 64) n) log → PassesFrom first before n log
passes_end words enough passed = passes_fewer (omega (arith, enough)) passed

-- and then a cell from the lowest on is claimed
pub claims_behind : {n first : ℕ} {before mid : List LogItem} (start : ℕ) (log : List LogItem) (o : Option ℕ)
    → first ≤ FIRST_MORTAL → PassesFrom (start * 64) before n mid → IfSome o (λ c. c < n)
    → IfSome o (λ c. ClaimsFrom first c mid log)
    → IfSome o (λ c. ClaimsAround n start c before log)
claims_behind start log None low passed inside claims = tt
claims_behind start log (Some c) low passed inside claims = record {
  mid = claims.mid;
  number = claims.number;
  passed = record {
    looks = claims.passed.looks ++ passed.looks;
    above = claims.passed.above ∙ ap (λ l. claims.passed.looks ++ l) passed.above
        ∙ sym (append_assoc claims.passed.looks passed.looks _);
    only = all_looks claims.passed.looks passed.looks claims.passed.only passed.only;
    taken = λ d mortal between. elim between [
      | inl ahead ↦ told_before d claims.passed.looks passed.looks
          (passed.taken d mortal ahead.0 (omega (arith, ahead.1, inside)))
      | inr past ↦ elim past.1 [
        | inl ahead ↦ told_before d claims.passed.looks passed.looks (passed.taken d mortal ahead.0 ahead.1)
        | inr below ↦ told_since d claims.passed.looks passed.looks
            (claims.passed.taken d mortal (omega (arith, low, mortal)) below)
      ]
    ];
  };
  told = claims.told;
  was_free = claims.was_free;
}

-- or all below the first word were passed over too
pub passes_behind : {n first to : ℕ} {before mid : List LogItem} (start : ℕ) (log : List LogItem) (o : Option ℕ)
    → first ≤ FIRST_MORTAL → ((d : ℕ) → d < n → d < start * 64 → d < to) → PassesFrom (start * 64) before n mid
    → IfNone o (PassesFrom first mid to log) → IfNone o (PassesFrom FIRST_MORTAL before n log)
passes_behind start log (Some c) low meets old new = tt
passes_behind start log None low meets old new = record {
  looks = new.looks ++ old.looks;
  above = new.above ∙ ap (λ l. new.looks ++ l) old.above ∙ sym (append_assoc new.looks old.looks _);
  only = all_looks new.looks old.looks new.only old.only;
  taken = λ d mortal same high. elim (cases_lt d (start * 64)) [
    | inl below ↦ told_since d new.looks old.looks
        (new.taken d mortal (omega (arith, low, mortal)) (meets d high below))
    | inr past ↦ told_before d new.looks old.looks (old.taken d mortal past high)
  ];
}

-- from the first free word on that is the first cell to be had
pub claims_first : {n c : ℕ} {before log : List LogItem} → ClaimsAround n (FIRST_MORTAL / 64) c before log
    → ClaimsFirst c before log
claims_first claims = record {
  mid = claims.mid;
  number = claims.number;
  passed = record {
    looks = claims.passed.looks;
    above = claims.passed.above;
    only = claims.passed.only;
    taken = λ d mortal low high. claims.passed.taken d mortal (inl (omega (arith, mortal), high));
  };
  told = claims.told;
  was_free = claims.was_free;
}

-- ---- the cells of a word

-- the word was found so, and the search has come to this cell of it
pub record IsInWord {A : Type 0} (start : CounterSeen A) (word found cell : ℕ) (now : CounterSeen A) : Type 0 where
  pub seeks : IsSeeking start (word * 64) cell now
  pub seen : (d : ℕ) → d / 64 ≡ word → bit_at found (d % 64) ≡ 0 → have_told_taken d seeks.passed.looks ≡ true

-- the cells below the lowest bit that was found
pub begins_word : {A : Type 0} {start now : CounterSeen A} (word found zeros first : ℕ) → now.heap ≡ start.heap
    → Continues start.seat now.seat → now.seat.log ≡ Loaded (FreeWord word) found ∷ start.seat.log
    → now.seat.slots ≡ start.seat.slots
    → KnowsPart start.heap.cells now.seat.log (known_seen start.heap.cells start.seat.log)
    → KeepsNotes start.heap.cells start.seat.log now.seat.log
    → zeros ≤ 64 → ((i : ℕ) → i < zeros → bit_at found i ≡ 0) → first ≤ max (word * 64 + zeros) FIRST_MORTAL
    → IsInWord start word found first now
begins_word {A} {start} {now} word found zeros first heap seat told slots knows keeps few none lowest = record {
  seeks = record {
    heap = heap;
    seat = seat;
    passed = record {
      looks = Loaded (FreeWord word) found ∷ [];
      above = told;
      only = refl;
      taken = λ d mortal low high. one_true (lacks_cell d (FreeWord word) found) false
          (lacks d word found (omega (arith, low, high, lowest, few, mortal))
          (none (d % 64) (omega (arith, low, high, lowest, few, mortal))));
    };
    slots = slots;
    knows = knows;
    keeps = keeps;
  };
  seen = λ d there no_bit. one_true (lacks_cell d (FreeWord word) found) false (lacks d word found there no_bit);
}

-- a word without a bit is passed over by one look
pub passes_blank : {before log : List LogItem} (word found cells : ℕ) → found ≡ 0
    → log ≡ Loaded (FreeWord word) found ∷ before → PassesFrom (word * 64) before (min (word * 64 + 64) cells) log
passes_blank word found cells blank told = record {
  looks = Loaded (FreeWord word) found ∷ [];
  above = told;
  only = refl;
  taken = λ d mortal low high. one_true (lacks_cell d (FreeWord word) found) false
      (lacks d word found (omega (arith, low, high)) (ap (λ number. bit_at number (d % 64)) blank
      ∙ bit_at-zero (d % 64)));
}

-- the cell's bit wasn't found
pub skips : {A : Type 0} {start now : CounterSeen A} {word found cell : ℕ} → IsInWord start word found cell now
    → cell / 64 ≡ word → bit_at found (cell % 64) ≢ 1 → IsInWord start word found (cell + 1) now
skips {A} {start} {now} {word} {found} {cell} at there missing = record {
  seeks = record {
    heap = at.seeks.heap;
    seat = at.seeks.seat;
    passed = record {
      looks = at.seeks.passed.looks;
      above = at.seeks.passed.above;
      only = at.seeks.passed.only;
      taken = λ d mortal low high. elim (cases_eq d cell) [
        | inl same ↦ subst (λ e. have_told_taken e at.seeks.passed.looks ≡ true) (sym same)
            (at.seen cell there (omega (arith, missing, bit_at-lt found (cell % 64))))
        | inr other ↦ at.seeks.passed.taken d mortal low (omega (arith, high, other))
      ];
    };
    slots = at.seeks.slots;
    knows = at.seeks.knows;
    keeps = at.seeks.keeps;
  };
  seen = at.seen;
}

-- the cell was tried, and another had it
pub misses : {A : Type 0} {start now new : CounterSeen A} {word found cell : ℕ} → IsInWord start word found cell now
    → new.heap ≡ now.heap → Continues now.seat new.seat → Misses cell now.seat.log new.seat.log
    → new.seat.slots ≡ now.seat.slots
    → KnowsPart start.heap.cells new.seat.log (known_seen start.heap.cells now.seat.log)
    → KeepsNotes start.heap.cells now.seat.log new.seat.log
    → IsInWord start word found (cell + 1) new
misses {A} {start} {now} {new} {word} {found} {cell} at heap seat missed slots knows keeps = record {
  seeks = goes_on at.seeks heap seat (record {
    looks = Lost (FreeWord (cell / 64)) missed.number ∷ at.seeks.passed.looks;
    above = missed.told ∙ ap (λ l. Lost (FreeWord (cell / 64)) missed.number ∷ l) at.seeks.passed.above;
    only = at.seeks.passed.only;
    taken = λ d mortal low high. elim (cases_eq d cell) [
      | inl same ↦ one_true (lacks_cell d (FreeWord (cell / 64)) missed.number) _
          (subst (λ e. lacks_cell e (FreeWord (cell / 64)) missed.number ≡ true) (sym same)
          (lacks cell (cell / 64) missed.number refl missed.taken))
      | inr other ↦ other_true (lacks_cell d (FreeWord (cell / 64)) missed.number) _
          (at.seeks.passed.taken d mortal low (omega (arith, high, other)))
    ];
  }) slots knows keeps;
  seen = λ d there no_bit. other_true (lacks_cell d (FreeWord (cell / 64)) missed.number) _ (at.seen d there no_bit);
}

-- or it is claimed
pub claims : {A : Type 0} {start now : CounterSeen A} {log : List LogItem} {word found cell : ℕ}
    → IsInWord start word found cell now → ClaimsCell cell now.seat.log log
    → ClaimsFrom (word * 64) cell start.seat.log log
claims {A} {start} {now} at takes = record {
  mid = now.seat.log;
  number = takes.number;
  passed = at.seeks.passed;
  told = takes.told;
  was_free = takes.was_free;
}
