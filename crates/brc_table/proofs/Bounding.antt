-- A look at a word of the cell in the hand, or at any word: where the log tells a bound, the number found is within it.
use Rattle.std.proofs.Common.{◌≡◌, ℕ, ◌<◌, ◌≤◌, Bool, true, List, Option, sym, ◌∙◌, inl, inr}
use Rattle.std.proofs.lemmas.Bool.{cases_Bool, true≢false}
use Rattle.atomic_table.specs.Table.{Allows}
use Rattle.brc_words.specs.declared.limits.TheConstants.{MOST_THREADS}
use Rattle.law.specs.world.Holding.{carries}
use Rattle.law.specs.declared.known.word.Field.TheVariants.{Owner}
use Rattle.law.specs.declared.known.word.Word.{Word}
use Rattle.law.specs.declared.known.word.Word.TheVariants.{Of, Queue}
use Rattle.law.specs.known.Items.{IsWord}
use Rattle.law.specs.declared.rule.contents.Contents.{Contents}
use Rattle.law.specs.declared.rule.told.LogItem.TheVariants.{Loaded}
use Rattle.law.specs.declared.rule.view.View.{View}
use Rattle.law.specs.rule.Layout.{spot}
use Rattle.law.specs.rule.Rule.{with_told, Kept}
use Rattle.law.specs.rule.Seen.{part_seen}
use Rattle.law.proofs.rule.Looking.{looks}
use Rattle.law.proofs.rule.Small_Looks.{looks_owner}
use Rattle.brc_table.specs.Machine.{MayFind}

-- the cell whose word it is
abbrev pub cell_of : Word → ℕ
cell_of (Of field c) = c
cell_of _ = 0

-- the number of a queue word among its thread's
abbrev pub queue_of : Word → ℕ
queue_of (Queue t k) = k
queue_of _ = 0

module _ {B : Type 0} (shows : B → ℕ × Contents) (n limit : ℕ) where
  -- a look keeps the rule whether or not the log tells a bound
  within : (id : ℕ) (v : View) (slots : List (ℕ × Option B)) (w : Word) (known : Bool) (most : ℕ) → v.active ≡ true
      → IsWord n w
      → (known ≡ true → Allows (Kept shows n limit) n id (v, slots) (spot n w) (λ number. number)
      (λ number me. (me ≡ (with_told (Loaded w number) v, slots)) × (number ≤ most)))
      → MayFind shows n limit id (v, slots) w w known most
  within id v slots w known most active is bound s r deep at small = elim (cases_Bool known) [
    | inl on ↦ let found = bound on s r deep at small in
        (found.0, found.1, found.2, found.3, (found.4.0, λ _. found.4.1))
    | inr off ↦ let found = looks shows n limit id v slots w active is s r deep at small in
        (found.0, found.1, found.2, found.3, (found.4, λ on. absurd (true≢false (sym on ∙ off))))
  ]

  pub finds_owner : (id : ℕ) (v : View) (slots : List (ℕ × Option B)) (c : ℕ) → v.active ≡ true → 0 < v.thread → c < n
      → MayFind shows n limit id (v, slots) (Of Owner c) (Of Owner c) (carries c (part_seen n v.log).row.hand)
      MOST_THREADS
  finds_owner id v slots c active some_thread low =
      within id v slots (Of Owner c) (carries c (part_seen n v.log).row.hand) MOST_THREADS active low
      (λ carried. looks_owner shows n limit id v slots c active some_thread low carried)
