-- What an operation on a word may be.
use Rattle.std.specs.Prelude.{◌≡◌, ℕ, ◌+◌, ◌%◌, ◌==◌, ◌≤◌, Bool, true, if◌then◌else◌, Option}
use prog.Atomic.{either}
use Rattle.atomic_table.specs.Table.{Me, Allows}
use Rattle.law.specs.world.Lists.{WORD_LIMIT}
use Rattle.law.specs.declared.known.word.Word.{Word}
use Rattle.law.specs.declared.rule.contents.Contents.{Contents}
use Rattle.law.specs.declared.rule.told.LogItem.{LogItem}
use Rattle.law.specs.declared.rule.told.LogItem.TheVariants.{Loaded, Lost}
use Rattle.law.specs.declared.rule.view.View.{View}
use Rattle.law.specs.rule.Layout.{spot}
use Rattle.law.specs.rule.Rule.{with_told, Kept}
use Rattle.law.specs.living.Living.{OwnLog}
use Rattle.law.specs.steps.Taking.{AreQueued, CountsSome}

-- the view after a compare-exchange that found this number: the item where it was the one expected, else a note
abbrev pub exchanged : Word → ℕ → LogItem → ℕ → View → View
exchanged w old won there v = if there == old then with_told won v else with_told (Lost w there) v

module _ {B : Type 0} (shows : B → ℕ × Contents) (n limit id : ℕ) (me : Me (Option B) View) (w : Word) where
  -- the rule allows that the word becomes f of what it was, as the item of the number that was there
  abbrev pub MayTell : (ℕ → ℕ) → (ℕ → LogItem) → Type 0
  MayTell f item = Allows (Kept shows n limit) n id me (spot n w) f
      (λ there after. after ≡ (with_told (item there) me.0, me.1))

  -- the rule allows that the word becomes the new number where it is the old one, as the item; else as a note of the
  -- word
  abbrev pub MayExchange : Word → ℕ → ℕ → LogItem → Type 0
  MayExchange noted old new won = Allows (Kept shows n limit) n id me (spot n w)
      (λ there. either (there == old) new there) (λ there after. after ≡ (exchanged noted old won there me.0, me.1))

  -- The rule allows that a queue word becomes f of what it was, as the item, and each bit found is one of its cells. m
  -- is n, as a ghost value gives it to what is told, and k the queue word's number.
  abbrev pub MayTake : (ℕ → ℕ) → (ℕ → LogItem) → ℕ → ℕ → Type 0
  MayTake f item m k = Allows (Kept shows n limit) n id me (spot n w) f
      (λ there after. (after ≡ (with_told (item there) me.0, me.1)) × AreQueued m k there)

  -- The rule allows that a shared word is raised, as the item, and the sum counts one reference at least. more is by
  -- how much, as a ghost value gives it to what is told.
  abbrev pub MaySum : (ℕ → ℕ) → (ℕ → LogItem) → ℕ → Type 0
  MaySum f item more = Allows (Kept shows n limit) n id me (spot n w) f
      (λ there after. (after ≡ (with_told (item there) me.0, me.1)) × CountsSome ((there + more) % WORD_LIMIT))

  -- The rule allows that a notify word becomes f of what it was, as the item, and the log before is an own log. m is n,
  -- as a ghost value gives it to what is told.
  abbrev pub MayWake : (ℕ → ℕ) → (ℕ → LogItem) → ℕ → Type 0
  MayWake f item m = Allows (Kept shows n limit) n id me (spot n w) f
      (λ there after. (after ≡ (with_told (item there) me.0, me.1)) × OwnLog m me.0.log)

  -- the rule allows a look, as a note of the word, and where the log tells a bound, the number found is within it
  abbrev pub MayFind : Word → Bool → ℕ → Type 0
  MayFind noted known most = Allows (Kept shows n limit) n id me (spot n w) (λ there. there)
      (λ there after. (after ≡ (with_told (Loaded noted there) me.0, me.1)) × (known ≡ true → there ≤ most))
